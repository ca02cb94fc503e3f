use Rattle.std.proofs.Common.{◌≡◌, ◌<◌, ℕ, List, Some, length, slice_get, slice_index_or, sym, ◌∙◌, ap, subst}
use Rattle.std.specs.List.{All}
use Rattle.std.proofs.lemmas.Option.{slice_get-get_or}
use Rattle.std.proofs.lemmas.Result.{err_from_is_err_and}
use Rattle.cg_cell.specs.Domain.{Seen}
use Rattle.cg_cell.proofs.Evals.{valid_then}
use Rattle.cg_aig.specs.Aig.{aig_ops}
use Rattle.cg_claim.specs.Build.{aig_values}
use Rattle.cg_claim.specs.form.Build.{term_run}
use Rattle.cg_machine.specs.Claims.{Literal}
use Rattle.cg_unroll.specs.Building.{Built, MayFail}
use Rattle.cg_unroll_cycles.specs.inner.Joining.{or_term_run}
use Rattle.cg_unroll_cycles.proofs.Joining.{first_fails, oring_fails, oring_on, term_there}
use Rattle.cg_unroll_cycles.proofs.Reaching.{one_or_more}
use Rattle.cg_unroll_cycles.proofs.condition.condition_literal.Goals as goal

pub term_literal-requires-clause-nets : goal.term_literal-requires-clause-nets
term_literal-requires-clause-nets c =
    let terms : List (List Literal) = c.args.terms.now in
    let n : ℕ = length c.args.nets.now in
    let some : 0 < length terms = one_or_more (length terms) (sym c.is_empty.ensures ∙ c.if-is_empty.false) in
    let at : slice_get terms 0 ≡ Some c.index-terms-0.result = slice_get-get_or terms 0 c.index-terms-0.result some ∙ ap Some (sym c.index-terms-0.is) in
    subst (All (λ (l : Literal). l.0 < n)) (sym c.as_slice.ensures.parts) (term_there n terms 0 c.index-terms-0.result at c.requires.nets)

pub returns-in_err-joined-clause-failed : goal.returns-in_err-joined-clause-failed
returns-in_err-joined-clause-failed c =
    let nets : ℕ → ℕ = λ x. slice_index_or c.args.nets.now x 0 in
    let terms : List (List Literal) = c.args.terms.now in
    let term : List Literal = c.index-terms-0.result in
    let some : 0 < length terms = one_or_more (length terms) (sym c.is_empty.ensures ∙ c.if-is_empty.false) in
    let at : slice_get terms 0 ≡ Some term = slice_get-get_or terms 0 term some ∙ ap Some (sym c.index-terms-0.is) in
    let passed = err_from_is_err_and c.from_residual.result c.from_residual.ensures.1 in
    rw (passed.1, passed.2) (first_fails nets terms c.args.aig.now term at c.in_err-joined.field-0.0
    (subst (λ (ls : List Literal). MayFail (term_run aig_values nets ls c.args.aig.now).domain c.in_err-joined.field-0.0) c.as_slice.ensures.parts c.in_err-joined.ensures.failed))

pub or_term-requires-clause-nets : goal.or_term-requires-clause-nets
or_term-requires-clause-nets c =
    let terms : List (List Literal) = c.args.terms.now in
    let n : ℕ = length c.args.nets.now in
    let term : List Literal = c.index-terms-k.result in
    let at : slice_get terms c.loop-k.k ≡ Some term = slice_get-get_or terms c.loop-k.k term c.loop-k-test.true ∙ ap Some (sym c.index-terms-k.is) in
    subst (All (λ (l : Literal). l.0 < n)) (sym c.as_slice-in-loop-k.ensures.parts) (term_there n terms c.loop-k.k term at c.requires.nets)

pub or_term-requires-clause-valid : goal.or_term-requires-clause-valid
or_term-requires-clause-valid c = valid_then aig_ops c.args.aig.now c.loop-k.aig c.args.nets.now c.loop-k.invariant.keeps c.requires.valid

pub returns-in_err-joined-2-clause-failed : goal.returns-in_err-joined-2-clause-failed
returns-in_err-joined-2-clause-failed c =
    let nets : ℕ → ℕ = λ x. slice_index_or c.args.nets.now x 0 in
    let terms : List (List Literal) = c.args.terms.now in
    let term : List Literal = c.index-terms-k.result in
    let t : Seen = c.loop-k.aig in
    let at : slice_get terms c.loop-k.k ≡ Some term = slice_get-get_or terms c.loop-k.k term c.loop-k-test.true ∙ ap Some (sym c.index-terms-k.is) in
    let passed = err_from_is_err_and c.from_residual-in_err-joined-2.result c.from_residual-in_err-joined-2.ensures.1 in
    rw (passed.1, passed.2) (oring_fails nets terms c.args.aig.now t c.loop-k.joined c.loop-k.k term at c.loop-k.invariant c.in_err-joined-2.field-0.0
    (subst (λ (ls : List Literal). MayFail (or_term_run nets c.loop-k.joined ls t).domain c.in_err-joined-2.field-0.0) c.as_slice-in-loop-k.ensures.parts c.in_err-joined-2.ensures.failed))

pub loop-k-preserved : goal.loop-k-preserved
loop-k-preserved c =
    let nets : ℕ → ℕ = λ x. slice_index_or c.args.nets.now x 0 in
    let terms : List (List Literal) = c.args.terms.now in
    let term : List Literal = c.index-terms-k.result in
    let t : Seen = c.loop-k.aig in
    let u : Seen = c.or_term.new.aig in
    let b : ℕ = c.in_ok-joined-2.joined in
    let at : slice_get terms c.loop-k.k ≡ Some term = slice_get-get_or terms c.loop-k.k term c.loop-k-test.true ∙ ap Some (sym c.index-terms-k.is) in
    oring_on nets terms c.args.aig.now t c.loop-k.joined c.loop-k.k term at c.loop-k.invariant u b
    (subst (λ (ls : List Literal). Built t u b (or_term_run nets c.loop-k.joined ls t)) c.as_slice-in-loop-k.ensures.parts c.in_ok-joined-2.ensures.built)
