-- Operands of one level, with one more behind them.
use Rattle.std.proofs.Common.{◌≡◌, List, [], ◌∷◌, ◌++◌, length, ◌<◌, refl, ap, ◌∙◌, arith}
use Rattle.cg_cell.specs.Expr.{term_of, terms_of}
use Rattle.cg_cell.specs.Term.{Term, join_all, join_left}
use Rattle.cg_cell.specs.declared.expr.Expr.{Expr}
use Rattle.cg_cell.proofs.Evals.{join_left-more}

pub terms_of-push : (es : List Expr) (e : Expr) → terms_of (es ++ e ∷ []) ≡ terms_of es ++ term_of e ∷ []
terms_of-push [] e = refl
terms_of-push (f ∷ es) e = ap (λ ts. term_of f ∷ ts) (terms_of-push es e)

-- one more operand behind some
pub join_all-push : (operator : Term → Term → Term) (none : Term) (es : List Expr) (f : Expr) → 0 < length es
    → join_all operator none (terms_of (es ++ f ∷ [])) ≡ operator (join_all operator none (terms_of es)) (term_of f)
join_all-push operator none [] f h = absurd (omega (arith, h))
join_all-push operator none (e ∷ es) f h = ap (join_left operator (term_of e)) (terms_of-push es f) ∙ join_left-more operator (term_of e) (terms_of es) (term_of f)

pub ruleset joins = (join_all-push)
