use Rattle.cg_netlist_placed.proofs.PlacedFits.{placed_fits}
use Rattle.cg_netlist_placed.proofs.laws.placed_cell_fits.Goals as goal

pub returns : goal.returns
returns c = placed_fits
