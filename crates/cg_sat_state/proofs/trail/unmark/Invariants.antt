use Rattle.std.proofs.Common.{◌≡◌, ℕ, true, false, take, get_or}
use Rattle.cg_formula.specs.declared.formula.Lit.{Lit}
use Rattle.cg_formula.specs.Lits.{is_in}
use Rattle.cg_formula.specs.Lits.{lit_number}
use Rattle.cg_sat_state.specs.Trail.{lits_of}
use Rattle.cg_sat_state.proofs.trail.unmark.Given as goal

abbrev pub invariant-loop-entry : goal.invariant-loop-entry
invariant-loop-entry l = record {
  off : (lit : Lit) → is_in lit (lits_of (take l.entry-index l.entries)) ≡ true → get_or l.trues.items (lit_number lit) false ≡ false;
  fewer : (at : ℕ) → get_or l.fn.trues.items at false ≡ false → get_or l.trues.items at false ≡ false;
}
