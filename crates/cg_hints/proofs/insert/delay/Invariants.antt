use Rattle.std.proofs.Common.{◌≡◌, ◌-◌}
use Rattle.cg_machine.specs.Machine.{IsNet}
use Rattle.cg_hint_laws.specs.Effects.{delayed_by}
use Rattle.cg_stage_laws.specs.Appends.{Keeps}
use Rattle.cg_hints.proofs.Adding.{with_net}
use Rattle.cg_hints.proofs.insert.delay.Given as goal

abbrev pub invariant-loop : goal.invariant-loop
invariant-loop l = record {
  left : delayed_by (l.cycles - l.counter) (with_net l.machine l.last) ≡ delayed_by l.cycles (with_net l.fn.machine l.fn.net);
  keeps : Keeps l.fn.machine l.machine;
  is_net : IsNet l.machine l.last;
}
