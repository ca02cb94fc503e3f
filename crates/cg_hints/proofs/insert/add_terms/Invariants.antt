use Rattle.std.proofs.Common.{◌≡◌, drop, length}
use Rattle.std.specs.List.{AllByRecursion}
use Rattle.cg_machine.specs.Machine.{IsNet}
use Rattle.cg_hint_laws.specs.Effects.{for_each, term_answer}
use Rattle.cg_stage_laws.specs.Appends.{Keeps}
use Rattle.cg_hints.proofs.Adding.{behind_nets}
use Rattle.cg_hints.proofs.insert.add_terms.Given as goal

abbrev pub invariant-loop-k : goal.invariant-loop-k
invariant-loop-k l = record {
  left : behind_nets l.nets (for_each term_answer l.machine (drop l.k l.terms)) ≡ for_each term_answer l.fn.machine l.terms;
  keeps : Keeps l.fn.machine l.machine;
  long : length l.nets ≡ l.k;
  are_nets : AllByRecursion (IsNet l.machine) l.nets;
}
