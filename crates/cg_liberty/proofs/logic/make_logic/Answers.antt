use Rattle.cg_cell.specs.Expr.{term_of}
use Rattle.cg_liberty.proofs.LogicCells.{logic_is_cell}
use Rattle.cg_liberty.proofs.logic.make_logic.Goals as goal

pub new-requires : goal.new-requires
new-requires c = rw c.requires.pins (logic_is_cell c.args.name c.args.ports.now (term_of c.args.function) c.requires.named c.requires.ports c.requires.one c.requires.within)
