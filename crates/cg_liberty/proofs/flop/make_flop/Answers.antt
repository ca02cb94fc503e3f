use Rattle.cg_cell.specs.Expr.{term_of}
use Rattle.cg_liberty.proofs.FlopCells.{flop_is_made}
use Rattle.cg_liberty.proofs.flop.make_flop.Goals as goal

pub new-requires : goal.new-requires
new-requires c = flop_is_made c.args.name c.args.read.now.ports.now (term_of c.args.read.now.next.now) (term_of c.args.function) c.args.read.now.numbering.inputs c.args.read.now.numbering.clock c.args.read.now.inverses.now c.args.pins.items c.requires.named c.requires.ports c.requires.pins c.requires.fit c.requires.inputs c.requires.clock c.requires.within c.requires.function
