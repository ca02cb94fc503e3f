use Rattle.std.proofs.Common.{◌≡◌, drop}
use Rattle.cg_machine.specs.Machine.{IsNet}
use Rattle.cg_stage_laws.specs.Joined.{join, join_limit}
use Rattle.cg_stage_laws.specs.Appends.{Keeps}
use Rattle.cg_plan.proofs.Adding.{nets_of}
use Rattle.cg_plan.proofs.insert.join.Given as goal

abbrev pub invariant-loop-literal : goal.invariant-loop-literal
invariant-loop-literal l = record {
  left : join (record { machine = l.machine; net = l.net }) (nets_of (drop l.literal-index l.rest)) ≡ join (record { machine = l.fn.machine; net = l.fn.first }) (nets_of l.rest);
  limit : join_limit (record { machine = l.machine; net = l.net }) (nets_of (drop l.literal-index l.rest)) ≡ join_limit (record { machine = l.fn.machine; net = l.fn.first }) (nets_of l.rest);
  keeps : Keeps l.fn.machine l.machine;
  is_net : IsNet l.machine l.net;
}
