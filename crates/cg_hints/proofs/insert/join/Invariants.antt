use Rattle.std.proofs.Common.{◌≡◌, drop}
use Rattle.cg_machine.specs.Machine.{IsNet}
use Rattle.cg_hint_laws.specs.Effects.{joined_with}
use Rattle.cg_stage_laws.specs.Appends.{Keeps}
use Rattle.cg_hints.proofs.Adding.{with_net}
use Rattle.cg_hints.proofs.insert.join.Given as goal

abbrev pub invariant-loop-more : goal.invariant-loop-more
invariant-loop-more l = record {
  left : joined_with l.kind (with_net l.machine l.net) (drop l.more-index l.rest) ≡ joined_with l.kind (with_net l.fn.machine l.fn.first) l.rest;
  keeps : Keeps l.fn.machine l.machine;
  is_net : IsNet l.machine l.net;
}
