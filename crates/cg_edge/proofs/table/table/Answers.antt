use Rattle.std.proofs.Common.{◌≡◌, ℕ, length, sym, subst, ◌∙◌, arith}
use Rattle.std.proofs.lemmas.Option.{same_Some}
use Rattle.cg_netlist.specs.Circuit.{LogicCell}
use Rattle.cg_netlist.specs.View.{cell_seen, function_seen}
use Rattle.cg_edge.specs.inner.Flat.{IsTruthTable}
use Rattle.cg_edge.proofs.Rows.{table_is}
use Rattle.cg_edge.proofs.table.table.Goals as goal

pub returns : goal.returns
returns c cell at few =
    let seen = c.cell-cell.result in
    let same : cell_seen seen ≡ cell = same_Some (cell_seen seen) cell (sym c.cell-cell.ensures ∙ at) in
    subst (λ (x : LogicCell ℕ). IsTruthTable x.function (length x.inputs) c.function_word.result) same
    (table_is (function_seen seen.function) (length seen.inputs.now) c.function_word.result (omega (arith, c.if-count-gt-FEW.false)) c.function_word.ensures)
