use Rattle.std.proofs.Common.{ℕ, subst}
use Rattle.std.proofs.lemmas.Result.{err_from_is_err_and}
use Rattle.cg_cell.specs.Build.{Run, build_and, build_xor}
use Rattle.cg_cell.specs.Domain.{Seen}
use Rattle.cg_cell.proofs.RunsGrow.{grows_and, grows_xor}
use Rattle.cg_aig.specs.Aig.{aig_ops, inverse}
use Rattle.cg_aig.proofs.RunsFit.{aig_growing}
use Rattle.cg_unroll.specs.Building.{Built, MayFail}
use Rattle.cg_unroll.proofs.Building.{built_of, built_then, fails_first, fails_then, if_err, if_ok, stops_fails}
use Rattle.cg_unroll.proofs.Gating.{and_built, and_fails}
use Rattle.cg_unroll.proofs.goal.differing_literal.Goals as goal

pub returns-clause-built : goal.returns-clause-built
returns-clause-built c =
    let s : Seen = c.args.aig.now in
    let t : Seen = c.xor.new.self in
    let x : ℕ = c.in_ok-differ.differ in
    let r : Run = build_xor aig_ops c.args.one c.args.other s in
    if_ok _ _ c.and.result (λ v h. built_then s t c.and.new.self r x v (λ z u. build_and aig_ops (inverse c.args.joined) z u) (built_of s t x r _ c.in_ok-differ.ensures.built)
    (subst (λ n. Built t c.and.new.self v (build_and aig_ops n x t)) c.not.ensures.number h))
    (and_built t c.and.new.self c.not.result x c.and.result c.and.ensures.made c.and.ensures.stands)

pub returns-clause-failed : goal.returns-clause-failed
returns-clause-failed c =
    let s : Seen = c.args.aig.now in
    let t : Seen = c.xor.new.self in
    let x : ℕ = c.in_ok-differ.differ in
    let r : Run = build_xor aig_ops c.args.one c.args.other s in
    if_err _ _ c.and.result (λ fault h. fails_then s t r x (λ z u. build_and aig_ops (inverse c.args.joined) z u) fault (built_of s t x r _ c.in_ok-differ.ensures.built)
    (subst (λ n. MayFail (build_and aig_ops n x t).domain fault) c.not.ensures.number (and_fails t c.not.result x fault h))) c.and.ensures.refused

pub returns-in_err-differ-clause-failed : goal.returns-in_err-differ-clause-failed
returns-in_err-differ-clause-failed c =
    let s : Seen = c.args.aig.now in
    let r : Run = build_xor aig_ops c.args.one c.args.other s in
    let passed = err_from_is_err_and c.from_residual.result c.from_residual.ensures.1 in
    rw (passed.1, passed.2) (fails_first r (λ z u. build_and aig_ops (inverse c.args.joined) z u) c.in_err-differ.field-0.0 (grows_and aig_ops aig_growing r.domain (inverse c.args.joined) r.answer)
    (stops_fails s c.xor.new.self r c.in_err-differ.field-0.0 (grows_xor aig_ops aig_growing s c.args.one c.args.other) c.in_err-differ.ensures.stopped))
