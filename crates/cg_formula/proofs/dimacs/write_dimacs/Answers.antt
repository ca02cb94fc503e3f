use Rattle.std.proofs.Common.{◌≡◌, ◌<◌, ◌^◌, ◌∙◌, length, subst, sym, arith, refl}
use Rattle.cg_formula.specs.DimacsText.{DimacsText, dimacs_text}
use Rattle.cg_formula.proofs.DimacsWritten.{dimacs_written}
use Rattle.cg_formula.proofs.dimacs.write_dimacs.Goals as goal

pub returns-clause-written : goal.returns-clause-written
returns-clause-written c =
    c.in_ok-push_clauses.ensures ∙ rw (c.in_ok-push_header.ensures, c.new-text.ensures.items, c.len-count.ensures.count) refl

pub returns-clause-again : goal.returns-clause-again
returns-clause-again c =
    let f = c.args.formula.now in
    let written : c.push_clauses.new.text.items ≡ dimacs_text f = returns-clause-written c in
    let countable : length f.clauses < 2 ^ 64 = omega (arith, c.len-count.ensures.count) in
    subst (λ text. DimacsText text f) (sym written) (dimacs_written f c.requires countable)
