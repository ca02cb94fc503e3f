use Rattle.cg_liberty.proofs.GaterCells.{gater_is_cell}
use Rattle.cg_liberty.proofs.gater.make_gater.Goals as goal

pub new-requires : goal.new-requires
new-requires c = gater_is_cell c.args.tested c.args.name c.args.ports.now c.args.pins.items c.requires.named c.requires.ports c.requires.found c.requires.fit
