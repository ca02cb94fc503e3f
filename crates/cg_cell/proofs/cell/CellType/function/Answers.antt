use Rattle.std.proofs.Common.{◌∙◌, ap, subst, IfSome, IsTrue}
use Rattle.std.specs.Option.{option_map}
use Rattle.cg_cell.specs.Cell.{CellData, variables_of}
use Rattle.cg_cell.specs.inner.CellParts.{seen}
use Rattle.cg_cell.specs.Expr.{is_over, term_of}
use Rattle.cg_cell.specs.declared.cell.Parts.{Parts}
use Rattle.cg_cell.proofs.Functions.{function_over}
use Rattle.cg_cell.proofs.cell.CellType.function.Goals as goal

pub returns-clause-over : goal.returns-clause-over
returns-clause-over c =
    let cell : CellData = seen c.self.inside.parts.value in
    subst (λ (cell : CellData). IfSome c.as_ref.result (λ f. IsTrue (is_over (variables_of cell) f.now))) c.self.view_is (
    function_over cell.kind (variables_of cell) cell.function c.as_ref.result c.self.invariant.computes (ap (option_map term_of) c.as_ref.ensures.value ∙ ap (λ (parts : Parts). option_map term_of parts.function) c.deref.ensures))
