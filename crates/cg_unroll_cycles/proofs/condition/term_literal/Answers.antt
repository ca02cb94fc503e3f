use Rattle.std.proofs.Common.{◌≡◌, ℕ, List, Some, slice_get, slice_index_or, sym, ◌∙◌, ap, subst}
use Rattle.std.proofs.lemmas.Option.{slice_get-get_or}
use Rattle.std.proofs.lemmas.Result.{err_from_is_err_and}
use Rattle.cg_cell.specs.Build.{build_and}
use Rattle.cg_cell.specs.Domain.{Seen}
use Rattle.cg_aig.specs.Aig.{aig_ops}
use Rattle.cg_machine.specs.Claims.{Literal}
use Rattle.cg_unroll.specs.Building.{Built, MayFail}
use Rattle.cg_unroll.proofs.Gating.{and_fails}
use Rattle.cg_unroll_cycles.proofs.Joining.{anding_fails, anding_on}
use Rattle.cg_unroll_cycles.proofs.condition.term_literal.Goals as goal

pub returns-in_err-joined-clause-failed : goal.returns-in_err-joined-clause-failed
returns-in_err-joined-clause-failed c =
    let nets : ℕ → ℕ = λ x. slice_index_or c.args.nets.now x 0 in
    let term : List Literal = c.args.term.now in
    let l : Literal = c.index-term-k.result in
    let t : Seen = c.loop-k.aig in
    let at : slice_get term c.loop-k.k ≡ Some l = slice_get-get_or term c.loop-k.k l c.loop-k-test.true ∙ ap Some (sym c.index-term-k.is) in
    let passed = err_from_is_err_and c.from_residual.result c.from_residual.ensures.1 in
    rw (passed.1, passed.2) (anding_fails nets term c.args.aig.now t c.loop-k.joined c.loop-k.k l at c.loop-k.invariant c.in_err-joined.field-0.0
    (subst (λ n. MayFail (build_and aig_ops c.loop-k.joined n t).domain c.in_err-joined.field-0.0) c.net_literal.ensures (and_fails t c.loop-k.joined c.net_literal.result c.in_err-joined.field-0.0 c.in_err-joined.ensures.refused)))

pub loop-k-preserved : goal.loop-k-preserved
loop-k-preserved c =
    let nets : ℕ → ℕ = λ x. slice_index_or c.args.nets.now x 0 in
    let term : List Literal = c.args.term.now in
    let l : Literal = c.index-term-k.result in
    let t : Seen = c.loop-k.aig in
    let u : Seen = c.and.new.self in
    let b : ℕ = c.in_ok-joined.joined in
    let at : slice_get term c.loop-k.k ≡ Some l = slice_get-get_or term c.loop-k.k l c.loop-k-test.true ∙ ap Some (sym c.index-term-k.is) in
    let built : Built t u b (build_and aig_ops c.loop-k.joined c.net_literal.result t) = record {
      builds = record { answered = c.in_ok-joined.ensures.made.answered; left = c.in_ok-joined.ensures.made.left };
      keeps = c.in_ok-joined.ensures.stands.keeps;
      valid = c.in_ok-joined.ensures.stands.valid;
    } in
    anding_on nets term c.args.aig.now t c.loop-k.joined c.loop-k.k l at c.loop-k.invariant u b (subst (λ n. Built t u b (build_and aig_ops c.loop-k.joined n t)) c.net_literal.ensures built)
