use Rattle.std.proofs.Common.{◌≡◌, ℕ, List, Some, slice_get, slice_index_or, sym, ◌∙◌, ap, subst}
use Rattle.std.proofs.lemmas.Option.{slice_get-get_or}
use Rattle.std.proofs.lemmas.Result.{err_from_is_err_and}
use Rattle.cg_cell.specs.Build.{build_or}
use Rattle.cg_cell.specs.Domain.{Seen}
use Rattle.cg_cell.proofs.RunsGrow.{grows_or}
use Rattle.cg_aig.specs.Aig.{aig_ops}
use Rattle.cg_aig.proofs.RunsFit.{aig_growing}
use Rattle.cg_machine.specs.Claims.{Literal}
use Rattle.cg_unroll.specs.Building.{Built, MayFail}
use Rattle.cg_unroll.proofs.Building.{built_of, stops_fails}
use Rattle.cg_unroll.proofs.Joining.{joining_fails, joining_on}
use Rattle.cg_unroll.proofs.goal.enable_literal.Goals as goal

pub returns-in_err-joined-clause-failed : goal.returns-in_err-joined-clause-failed
returns-in_err-joined-clause-failed c =
    let nets : ℕ → ℕ = λ x. slice_index_or c.args.literals.now x 0 in
    let enables : List Literal = c.args.enables.now in
    let l : Literal = c.index-enables-k.result in
    let t : Seen = c.loop-k.aig in
    let at : slice_get enables c.loop-k.k ≡ Some l = slice_get-get_or enables c.loop-k.k l c.loop-k-test.true ∙ ap Some (sym c.index-enables-k.is) in
    let passed = err_from_is_err_and c.from_residual.result c.from_residual.ensures.1 in
    rw (passed.1, passed.2) (joining_fails nets enables c.args.aig.now t c.loop-k.joined c.loop-k.k l at c.loop-k.invariant c.in_err-joined.field-0.0
    (subst (λ n. MayFail (build_or aig_ops c.loop-k.joined n t).domain c.in_err-joined.field-0.0) c.net_literal.ensures
    (stops_fails t c.or.new.self (build_or aig_ops c.loop-k.joined c.net_literal.result t) c.in_err-joined.field-0.0 (grows_or aig_ops aig_growing t c.loop-k.joined c.net_literal.result) c.in_err-joined.ensures.stopped)))

pub loop-k-preserved : goal.loop-k-preserved
loop-k-preserved c =
    let nets : ℕ → ℕ = λ x. slice_index_or c.args.literals.now x 0 in
    let enables : List Literal = c.args.enables.now in
    let l : Literal = c.index-enables-k.result in
    let t : Seen = c.loop-k.aig in
    let at : slice_get enables c.loop-k.k ≡ Some l = slice_get-get_or enables c.loop-k.k l c.loop-k-test.true ∙ ap Some (sym c.index-enables-k.is) in
    joining_on nets enables c.args.aig.now t c.loop-k.joined c.loop-k.k l at c.loop-k.invariant c.or.new.self c.in_ok-joined.joined
    (subst (λ n. Built t c.or.new.self c.in_ok-joined.joined (build_or aig_ops c.loop-k.joined n t)) c.net_literal.ensures
    (built_of t c.or.new.self c.in_ok-joined.joined (build_or aig_ops c.loop-k.joined c.net_literal.result t) _ c.in_ok-joined.ensures.built))
