use Rattle.std.proofs.Common.{◌≡◌, List, true, false, ap, sym, ◌∙◌}
use Rattle.cg_cell.specs.Expr.{term_of, term_step, terms_of}
use Rattle.cg_cell.specs.Term.{Term, Bit, Both, Either, Differ, inverse_times, join_all, lone_among, lone_input}
use Rattle.cg_cell.specs.declared.expr.Expr.{Expr}
use Rattle.cg_cell.specs.declared.expr.Expr.TheFolds.{fold-roll-Expr}
use Rattle.cg_cell.specs.declared.expr.Expr.TheVariants as nodes
use Rattle.cg_cell.proofs.LoneInputs.{lone_both, lone_either, lone_differ, lone_inverse}
use Rattle.cg_cell.proofs.lone.+lone.Goals as goal

pub lone_variable-returns-else-signs-eq0 : goal.lone_variable-returns-else-signs-eq0
lone_variable-returns-else-signs-eq0 t c =
    let whole = ap (λ (e : Expr). lone_input (term_of e)) c.in-Not.is in
    let taken : term_of (nodes.Not c.in-Not.signs c.in-Not.operand) ≡ inverse_times c.in-Not.signs (term_of c.in-Not.operand.value) = ap term_of (sym (nodes.rolls-Not c.in-Not.signs c.in-Not.operand)) ∙ fold-roll-Expr Term term_step _ in
    sym (whole ∙ ap lone_input taken ∙ lone_inverse c.in-Not.signs (term_of c.in-Not.operand.value) c.if-signs-eq0.false)

pub lone_variable-returns-in-And : goal.lone_variable-returns-in-And
lone_variable-returns-in-And t c =
    let whole = ap (λ (e : Expr). lone_input (term_of e)) c.in-And.is in
    let operands = ap (λ (es : List Expr). lone_among (terms_of es)) c.deref-in-And.ensures.value in
    let taken : term_of (nodes.And c.in-And.operands) ≡ join_all Both (Bit true) (terms_of c.in-And.operands.items) = ap term_of (sym (nodes.rolls-And c.in-And.operands)) ∙ fold-roll-Expr Term term_step _ in
    c.lone_operand.ensures ∙ operands ∙ sym (whole ∙ ap lone_input taken ∙ lone_both (terms_of c.in-And.operands.items))

pub lone_variable-returns-in-Or : goal.lone_variable-returns-in-Or
lone_variable-returns-in-Or t c =
    let whole = ap (λ (e : Expr). lone_input (term_of e)) c.in-Or.is in
    let operands = ap (λ (es : List Expr). lone_among (terms_of es)) c.deref-in-Or.ensures.value in
    let taken : term_of (nodes.Or c.in-Or.operands) ≡ join_all Either (Bit false) (terms_of c.in-Or.operands.items) = ap term_of (sym (nodes.rolls-Or c.in-Or.operands)) ∙ fold-roll-Expr Term term_step _ in
    c.lone_operand-in-Or.ensures ∙ operands ∙ sym (whole ∙ ap lone_input taken ∙ lone_either (terms_of c.in-Or.operands.items))

pub lone_variable-returns-in-Xor : goal.lone_variable-returns-in-Xor
lone_variable-returns-in-Xor t c =
    let whole = ap (λ (e : Expr). lone_input (term_of e)) c.in-Xor.is in
    let operands = ap (λ (es : List Expr). lone_among (terms_of es)) c.deref-in-Xor.ensures.value in
    let taken : term_of (nodes.Xor c.in-Xor.operands) ≡ join_all Differ (Bit false) (terms_of c.in-Xor.operands.items) = ap term_of (sym (nodes.rolls-Xor c.in-Xor.operands)) ∙ fold-roll-Expr Term term_step _ in
    c.lone_operand-in-Xor.ensures ∙ operands ∙ sym (whole ∙ ap lone_input taken ∙ lone_differ (terms_of c.in-Xor.operands.items))
