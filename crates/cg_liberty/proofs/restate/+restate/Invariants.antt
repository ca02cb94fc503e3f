use Rattle.std.proofs.Common.{◌≡◌, take, map}
use Rattle.cg_cell.specs.Expr.{terms_of}
use Rattle.cg_liberty.specs.Kinds.{restated}
use Rattle.cg_liberty.proofs.restate.+restate.Given as goal

abbrev pub invariant-restate_all-operands : goal.invariant-restate_all-operands
invariant-restate_all-operands l = terms_of l.restated.items ≡ map (restated l.numbering.inputs l.numbering.clock) (terms_of (take l.operand-index l.operands))
