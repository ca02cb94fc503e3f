use Rattle.cg_hint_text.proofs.laws.read_laws.Goals as goal
use Rattle.cg_hint_text.proofs.LinesSaid.{said_are_read}
use Rattle.cg_hint_text.proofs.ReadFits.{of_netlist_fits, read_are_of}

pub returns : goal.returns
returns c = record { said = said_are_read; read = read_are_of; fits = of_netlist_fits }
