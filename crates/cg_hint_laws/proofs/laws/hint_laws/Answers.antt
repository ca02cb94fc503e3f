use Rattle.cg_hint_laws.proofs.laws.hint_laws.Goals as goal
use Rattle.cg_hint_laws.proofs.AllSafe.{hints_are_safe}
use Rattle.cg_hint_laws.proofs.Worthy.{turns_worthy}
use Rattle.cg_hint_laws.proofs.ToldSo.{registers_get}
use Rattle.cg_hint_laws.proofs.Exactly.{inserted_exactly}
use Rattle.cg_hint_laws.proofs.Goals.{claims_are_forms, goal_violates, hold_is_said, idle_is_said, never_is_tried}
use Rattle.cg_hint_laws.proofs.HintSafe.{hint_safe}
use Rattle.cg_hint_laws.proofs.Tells.{hold_is_along, net_tells}

pub returns : goal.returns
returns c = record {
  safe = λ m n h good fits free claims ok. hint_safe m h good fits free claims n ok;
  chain = net_tells;
  along = hold_is_along;
  goal = goal_violates;
  never = never_is_tried;
  hold = hold_is_said;
  idle = idle_is_said;
  exactly = inserted_exactly;
  all_safe = hints_are_safe;
  worthy = turns_worthy;
  given = registers_get;
  forms = claims_are_forms;
}
