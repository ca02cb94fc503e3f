use Rattle.std.proofs.Common.{◌≡◌, true, length}
use Rattle.cg_formula.specs.declared.formula.Lit.{Lit}
use Rattle.cg_formula.specs.Lits.{is_in}
use Rattle.cg_lrat.specs.inner.Assignment.{is_marked}
use Rattle.cg_lrat.proofs.assignment.Assignment.clear.Given as goal

abbrev pub invariant-trail : goal.invariant-trail
invariant-trail l =
    let inside = l.self-inside in
    (lit : Lit) → is_marked inside.near.items inside.far.keys lit ≡ true → is_in lit inside.trail.items ≡ true

abbrev pub decreases-trail : goal.decreases-trail
decreases-trail l = length l.self-inside.trail.items
