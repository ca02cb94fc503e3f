use Rattle.std.proofs.Common.{◌≡◌, ◌<◌, ◌+◌, ℕ, [], List, Some, drop, length, slice_get, sym, ◌∙◌, ap, subst, arith}
use Rattle.std.proofs.lemmas.Option.{slice_get-get_or}
use Rattle.std.proofs.lemmas.Result.{err_from_is_err_and}
use Rattle.cg_netlist.specs.Circuit.{LogicCell}
use Rattle.cg_netlist.specs.Moment.{values_at}
use Rattle.cg_unroll.specs.Building.{IsLaying}
use Rattle.cg_unroll.proofs.Laying.{laying_ends, laying_fails, laying_on, laying_starts}
use Rattle.cg_unroll.proofs.Cells.{left_cons}
use Rattle.cg_netlist.proofs.Values.{element_at}
use Rattle.cg_unroll.proofs.lay.lay_cells.Goals as goal
use Rattle.cg_claim_reach.proofs.Marking.{drop_whole}

pub loop-k-init : goal.loop-k-init
loop-k-init c = laying_starts (values_at c.args.machine.now.circuit.cells c.args.cells.now) c.args.aig.now c.args.literals.now c.requires.valid

pub loop-k-preserved : goal.loop-k-preserved
loop-k-preserved c =
    let cells : List (LogicCell ℕ) = c.args.machine.now.circuit.cells in
    let ids : List ℕ = c.args.cells.now in
    let k = c.loop-k.k in
    let id : ℕ = c.index-cells-k.result in
    let at : slice_get ids k ≡ Some id = slice_get-get_or ids k id c.loop-k-test.true ∙ ap Some (sym c.index-cells-k.is) in
    let low : id < length cells = subst (λ n. n < length cells) (sym c.index-cells-k.is) (c.requires.cells k id c.loop-k-test.true) in
    let p = element_at cells id low in
    laying_on (values_at cells ids) (values_at cells (drop (k + 1) ids)) p.0 c.args.aig.now c.loop-k.aig c.lay_cell.new.aig c.args.literals.now c.loop-k.literals c.lay_cell.new.literals
    (subst (λ l. IsLaying (values_at cells ids) l c.args.aig.now c.loop-k.aig c.args.literals.now c.loop-k.literals) (left_cons cells ids k id p.0 at p.1) c.loop-k.invariant)
    (c.in_ok-lay_cell.ensures.laid p.0 p.1)

pub returns-in_err-lay_cell-clause-failed : goal.returns-in_err-lay_cell-clause-failed
returns-in_err-lay_cell-clause-failed c =
    let cells : List (LogicCell ℕ) = c.args.machine.now.circuit.cells in
    let ids : List ℕ = c.args.cells.now in
    let k = c.loop-k.k in
    let id : ℕ = c.index-cells-k.result in
    let at : slice_get ids k ≡ Some id = slice_get-get_or ids k id c.loop-k-test.true ∙ ap Some (sym c.index-cells-k.is) in
    let low : id < length cells = subst (λ n. n < length cells) (sym c.index-cells-k.is) (c.requires.cells k id c.loop-k-test.true) in
    let p = element_at cells id low in
    let passed = err_from_is_err_and c.from_residual.result c.from_residual.ensures.1 in
    rw (passed.1, passed.2) (laying_fails (values_at cells ids) (values_at cells (drop (k + 1) ids)) p.0 c.args.aig.now c.loop-k.aig c.args.literals.now c.loop-k.literals c.in_err-lay_cell.field-0.0
    (subst (λ l. IsLaying (values_at cells ids) l c.args.aig.now c.loop-k.aig c.args.literals.now c.loop-k.literals) (left_cons cells ids k id p.0 at p.1) c.loop-k.invariant)
    (c.in_err-lay_cell.ensures.failed p.0 p.1))

pub returns-clause-laid : goal.returns-clause-laid
returns-clause-laid c =
    let cells : List (LogicCell ℕ) = c.args.machine.now.circuit.cells in
    let none : drop c.loop-k.k c.args.cells.now ≡ [] = drop_whole c.args.cells.now c.loop-k.k (omega (arith, c.loop-k-test.false)) in
    laying_ends (values_at cells c.args.cells.now) c.args.aig.now c.loop-k.aig c.args.literals.now c.loop-k.literals
    (subst (λ l. IsLaying (values_at cells c.args.cells.now) (values_at cells l) c.args.aig.now c.loop-k.aig c.args.literals.now c.loop-k.literals) none c.loop-k.invariant)
