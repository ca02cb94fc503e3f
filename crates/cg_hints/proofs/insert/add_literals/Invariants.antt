use Rattle.std.proofs.Common.{◌≡◌, drop, length}
use Rattle.std.specs.List.{AllByRecursion}
use Rattle.cg_machine.specs.Machine.{IsNet}
use Rattle.cg_hint_laws.specs.Effects.{for_each, literal_answer}
use Rattle.cg_stage_laws.specs.Appends.{Keeps}
use Rattle.cg_hints.proofs.Adding.{behind_nets}
use Rattle.cg_hints.proofs.insert.add_literals.Given as goal

abbrev pub invariant-loop-literal : goal.invariant-loop-literal
invariant-loop-literal l = record {
  left : behind_nets l.nets (for_each literal_answer l.machine (drop l.literal-index l.term)) ≡ for_each literal_answer l.fn.machine l.term;
  keeps : Keeps l.fn.machine l.machine;
  long : length l.nets ≡ l.literal-index;
  are_nets : AllByRecursion (IsNet l.machine) l.nets;
}
