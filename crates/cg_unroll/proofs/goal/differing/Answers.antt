use Rattle.std.proofs.Common.{ℕ, List, slice_index_or, subst}
use Rattle.std.proofs.lemmas.Result.{err_from_is_err_and}
use Rattle.cg_cell.specs.Build.{Run, build_and, build_xor, chain}
use Rattle.cg_cell.specs.Domain.{Seen}
use Rattle.cg_aig.specs.Aig.{aig_ops, inverse}
use Rattle.cg_aig.specs.declared.fault.AigFault.{AigFault}
use Rattle.cg_machine.specs.Claims.{Literal}
use Rattle.cg_machine.specs.Machine.{MachineData}
use Rattle.cg_claim.specs.Build.{aig_values, part_run}
use Rattle.cg_unroll.specs.declared.tables.CopyTables.{CopyTables}
use Rattle.cg_unroll.specs.declared.tables.Tables.{Tables}
use Rattle.cg_claim_reach.specs.Asking.{part_of}
use Rattle.cg_unroll.specs.Building.{Built, MayFail}
use Rattle.cg_unroll.specs.inner.Copying.{shown_run}
use Rattle.cg_unroll.proofs.Building.{built_then, fails_first, fails_then, if_err, if_ok}
use Rattle.cg_unroll.proofs.Sides.{joined_grows, second_grows}
use Rattle.cg_unroll.proofs.goal.differing.Goals as goal

pub returns-clause-built : goal.returns-clause-built
returns-clause-built c =
    let m : MachineData = c.args.sources.now.machine.now in
    let E : List Literal = c.args.sources.now.enables.now in
    let tables : Tables = c.args.sources.now.tables.now in
    let s : Seen = c.args.aig.now in
    let t : Seen = c.part_literal.new.aig in
    let u : Seen = c.part_literal-2.new.aig in
    let e : ℕ = c.args.joined in
    let a : ℕ = c.in_ok-left.left in
    let b : ℕ = c.in_ok-right.right in
    let one : Built s t a (shown_run m E tables c.args.one s) =
    subst (λ (k : CopyTables). Built s t a (part_run aig_values m E (λ x. slice_index_or k.nets x 0) (λ r. slice_index_or k.states r 0) (part_of c.args.one.part) s)) c.copy.ensures c.in_ok-left.ensures.built in
    let two : Built t u b (shown_run m E tables c.args.other t) =
    subst (λ (k : CopyTables). Built t u b (part_run aig_values m E (λ x. slice_index_or k.nets x 0) (λ r. slice_index_or k.states r 0) (part_of c.args.other.part) t)) c.copy-2.ensures c.in_ok-right.ensures.built in
    let last : ℕ → ℕ → Seen → Run = λ x y w. chain (build_xor aig_ops x y w) (λ z v. build_and aig_ops (inverse e) z v) in
    if_ok _ _ c.differing_literal.result (λ v h.
    built_then s t c.differing_literal.new.aig (shown_run m E tables c.args.one s) a v (λ x w. chain (shown_run m E tables c.args.other w) (λ y p. last x y p)) one
    (built_then t u c.differing_literal.new.aig (shown_run m E tables c.args.other t) b v (λ y p. last a y p) two h)) c.differing_literal.ensures.built

pub returns-clause-failed : goal.returns-clause-failed
returns-clause-failed c =
    let m : MachineData = c.args.sources.now.machine.now in
    let E : List Literal = c.args.sources.now.enables.now in
    let tables : Tables = c.args.sources.now.tables.now in
    let s : Seen = c.args.aig.now in
    let t : Seen = c.part_literal.new.aig in
    let u : Seen = c.part_literal-2.new.aig in
    let e : ℕ = c.args.joined in
    let a : ℕ = c.in_ok-left.left in
    let b : ℕ = c.in_ok-right.right in
    let one : Built s t a (shown_run m E tables c.args.one s) =
    subst (λ (k : CopyTables). Built s t a (part_run aig_values m E (λ x. slice_index_or k.nets x 0) (λ r. slice_index_or k.states r 0) (part_of c.args.one.part) s)) c.copy.ensures c.in_ok-left.ensures.built in
    let two : Built t u b (shown_run m E tables c.args.other t) =
    subst (λ (k : CopyTables). Built t u b (part_run aig_values m E (λ x. slice_index_or k.nets x 0) (λ r. slice_index_or k.states r 0) (part_of c.args.other.part) t)) c.copy-2.ensures c.in_ok-right.ensures.built in
    let last : ℕ → ℕ → Seen → Run = λ x y w. chain (build_xor aig_ops x y w) (λ z v. build_and aig_ops (inverse e) z v) in
    if_err _ _ c.differing_literal.result (λ fault h.
    fails_then s t (shown_run m E tables c.args.one s) a (λ x w. chain (shown_run m E tables c.args.other w) (λ y p. last x y p)) fault one
    (fails_then t u (shown_run m E tables c.args.other t) b (λ y p. last a y p) fault two h)) c.differing_literal.ensures.failed

pub returns-in_err-right-clause-failed : goal.returns-in_err-right-clause-failed
returns-in_err-right-clause-failed c =
    let m : MachineData = c.args.sources.now.machine.now in
    let E : List Literal = c.args.sources.now.enables.now in
    let tables : Tables = c.args.sources.now.tables.now in
    let s : Seen = c.args.aig.now in
    let t : Seen = c.part_literal.new.aig in
    let e : ℕ = c.args.joined in
    let a : ℕ = c.in_ok-left.left in
    let fault : AigFault = c.in_err-right.field-0.0 in
    let one : Built s t a (shown_run m E tables c.args.one s) =
    subst (λ (k : CopyTables). Built s t a (part_run aig_values m E (λ x. slice_index_or k.nets x 0) (λ r. slice_index_or k.states r 0) (part_of c.args.one.part) s)) c.copy.ensures c.in_ok-left.ensures.built in
    let two : MayFail (shown_run m E tables c.args.other t).domain fault =
    subst (λ (k : CopyTables). MayFail (part_run aig_values m E (λ x. slice_index_or k.nets x 0) (λ r. slice_index_or k.states r 0) (part_of c.args.other.part) t).domain fault) c.copy-2.ensures c.in_err-right.ensures.failed in
    let last : ℕ → ℕ → Seen → Run = λ x y w. chain (build_xor aig_ops x y w) (λ z v. build_and aig_ops (inverse e) z v) in
    let r : Run = shown_run m E tables c.args.other t in
    let passed = err_from_is_err_and c.from_residual-in_err-right.result c.from_residual-in_err-right.ensures.1 in
    rw (passed.1, passed.2) (fails_then s t (shown_run m E tables c.args.one s) a (λ x w. chain (shown_run m E tables c.args.other w) (λ y p. last x y p)) fault one
    (fails_first r (λ y p. last a y p) fault (joined_grows m E tables e a r.answer r.domain) two))

pub returns-in_err-left-clause-failed : goal.returns-in_err-left-clause-failed
returns-in_err-left-clause-failed c =
    let m : MachineData = c.args.sources.now.machine.now in
    let E : List Literal = c.args.sources.now.enables.now in
    let tables : Tables = c.args.sources.now.tables.now in
    let s : Seen = c.args.aig.now in
    let e : ℕ = c.args.joined in
    let fault : AigFault = c.in_err-left.field-0.0 in
    let one : MayFail (shown_run m E tables c.args.one s).domain fault =
    subst (λ (k : CopyTables). MayFail (part_run aig_values m E (λ x. slice_index_or k.nets x 0) (λ r. slice_index_or k.states r 0) (part_of c.args.one.part) s).domain fault) c.copy.ensures c.in_err-left.ensures.failed in
    let last : ℕ → ℕ → Seen → Run = λ x y w. chain (build_xor aig_ops x y w) (λ z v. build_and aig_ops (inverse e) z v) in
    let r : Run = shown_run m E tables c.args.one s in
    let passed = err_from_is_err_and c.from_residual.result c.from_residual.ensures.1 in
    rw (passed.1, passed.2) (fails_first r (λ x w. chain (shown_run m E tables c.args.other w) (λ y p. last x y p)) fault (second_grows m E tables e r.answer c.args.other r.domain) one)
