use Rattle.std.proofs.Common.{◌≡◌, ℕ, slice_index_or, ◌∙◌, ap, subst}
use Rattle.std.proofs.lemmas.Result.{err_from_is_err_and}
use Rattle.cg_cell.specs.Build.{Run, build_and, build_xor, chain}
use Rattle.cg_cell.specs.Domain.{Seen}
use Rattle.cg_aig.specs.Aig.{aig_ops, inverse}
use Rattle.cg_machine.specs.Machine.{MachineData}
use Rattle.cg_claim.specs.Build.{aig_values, next_run}
use Rattle.cg_unroll.specs.Building.{Built, MayFail}
use Rattle.cg_unroll.proofs.Building.{built_then, fails_first, fails_then, if_err, if_ok}
use Rattle.cg_unroll_cycles.proofs.Wholes.{joined_grows}
use Rattle.cg_unroll_cycles.proofs.goal.changes_literal.Goals as goal

pub returns-in_err-next-clause-failed : goal.returns-in_err-next-clause-failed
returns-in_err-next-clause-failed c =
    let m : MachineData = c.args.machine.now in
    let own : ℕ = slice_index_or c.args.last.now.states c.args.reg 0 in
    let r : Run = next_run aig_values m (λ x. slice_index_or c.args.last.now.nets x 0) (λ k. slice_index_or c.args.last.now.states k 0) c.args.reg c.args.aig.now in
    let passed = err_from_is_err_and c.from_residual.result c.from_residual.ensures.1 in
    rw (passed.1, passed.2) (fails_first r (λ a t. chain (build_xor aig_ops a own t) (λ x u. build_and aig_ops (inverse c.args.condition) x u)) c.in_err-next.field-0.0 (joined_grows c.args.condition r.answer own r.domain) c.in_err-next.ensures.failed)

pub returns-clause-built : goal.returns-clause-built
returns-clause-built c =
    let m : MachineData = c.args.machine.now in
    let own : ℕ = slice_index_or c.args.last.now.states c.args.reg 0 in
    let is : c.get-own.result ≡ own = c.get-own.ensures ∙ ap (λ n. slice_index_or c.args.last.now.states n 0) c.number.ensures.number in
    let s : Seen = c.args.aig.now in
    let t : Seen = c.next_literal.new.aig in
    let u : Seen = c.differing_literal.new.aig in
    let a : ℕ = c.in_ok-next.next in
    let r : Run = next_run aig_values m (λ x. slice_index_or c.args.last.now.nets x 0) (λ k. slice_index_or c.args.last.now.states k 0) c.args.reg s in
    if_ok _ _ c.differing_literal.result (λ v h. built_then s t u r a v (λ b w. chain (build_xor aig_ops b own w) (λ x z. build_and aig_ops (inverse c.args.condition) x z)) c.in_ok-next.ensures.built
    (subst (λ n. Built t u v (chain (build_xor aig_ops a n t) (λ x z. build_and aig_ops (inverse c.args.condition) x z))) is h)) c.differing_literal.ensures.built

pub returns-clause-failed : goal.returns-clause-failed
returns-clause-failed c =
    let m : MachineData = c.args.machine.now in
    let own : ℕ = slice_index_or c.args.last.now.states c.args.reg 0 in
    let is : c.get-own.result ≡ own = c.get-own.ensures ∙ ap (λ n. slice_index_or c.args.last.now.states n 0) c.number.ensures.number in
    let s : Seen = c.args.aig.now in
    let t : Seen = c.next_literal.new.aig in
    let a : ℕ = c.in_ok-next.next in
    let r : Run = next_run aig_values m (λ x. slice_index_or c.args.last.now.nets x 0) (λ k. slice_index_or c.args.last.now.states k 0) c.args.reg s in
    if_err _ _ c.differing_literal.result (λ fault h. fails_then s t r a (λ b w. chain (build_xor aig_ops b own w) (λ x z. build_and aig_ops (inverse c.args.condition) x z)) fault c.in_ok-next.ensures.built
    (subst (λ n. MayFail (chain (build_xor aig_ops a n t) (λ x z. build_and aig_ops (inverse c.args.condition) x z)).domain fault) is h)) c.differing_literal.ensures.failed
