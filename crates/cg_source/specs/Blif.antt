-- The netlist that a BLIF text says with the cells of a library and the clock of the words, or why the text is refused.
use Rattle.std.specs.Prelude.{◌≡◌, ℕ, List, ◌++◌, codes, decimal, Option, Result, Err}
use Rattle.cg_cell.specs.Cell.{CellData}
use Rattle.cg_netlist.specs.Circuit.{Circuit}
use Rattle.cg_net.specs.Names.{NetName}
use Rattle.cg_blif_text.specs.ReadAs.{ReadAs}
use Rattle.cg_blif_text.specs.declared.fault.BlifFault.{BlifFault}
use Rattle.cg_blif_text.specs.declared.fault.BlifFault.TheVariants as faults
use Rattle.cg_blif_text.proofs.ReadOnce.{read_as}
use Rattle.cg_run.specs.declared.refusal.Owner.TheVariants as owners
use Rattle.cg_run.specs.declared.refusal.Trouble.{Trouble}
use Rattle.cg_run.specs.declared.refusal.Trouble.TheVariants as troubles
use Rattle.cg_source.specs.NetFault.{net_trouble}
use Rattle.cg_source.specs.Refused.{refused_as, refused_for}

-- What a text is read as. That it is read as one thing, and what the netlist and the fault have to do with the text, is what
-- `ReadAs` says.
abbrev pub reading : (library : List CellData) (clock : Option NetName) (text : List ℕ) → ReadAs library clock text
reading library clock text = read_as library clock text

unfoldable pub blif_said : List CellData → Option NetName → List ℕ → Result Circuit BlifFault
blif_said library clock text = (reading library clock text).result

-- a fault is the one for which a text is refused, or memory is wanting
abbrev pub IsBlifFaultOf : Result Circuit BlifFault → BlifFault → Type 0
IsBlifFaultOf read faults.NoMemory = Unit {0}
IsBlifFaultOf read fault = read ≡ Err fault

-- why a text is refused
abbrev pub blif_trouble : BlifFault → Trouble
blif_trouble (faults.BadLine line) = refused_for owners.Netlist (codes "netlist: bad line " ++ decimal line)
blif_trouble (faults.BadCover line) = refused_for owners.Netlist (codes "netlist: bad cover " ++ decimal line)
blif_trouble (faults.BadLatch line) = refused_for owners.Netlist (codes "netlist: bad latch " ++ decimal line)
blif_trouble (faults.UnknownCell line) = refused_for owners.Netlist (codes "netlist: unknown cell " ++ decimal line)
blif_trouble (faults.UnusableCell line) = refused_for owners.Netlist (codes "netlist: unusable cell " ++ decimal line)
blif_trouble (faults.PinFault line) = refused_for owners.Netlist (codes "netlist: pin fault " ++ decimal line)
blif_trouble (faults.SecondModel line) = refused_for owners.Netlist (codes "netlist: second model " ++ decimal line)
blif_trouble (faults.Net fault) = net_trouble fault
blif_trouble (faults.Limit limit) = troubles.Limit limit
blif_trouble faults.NoMemory = troubles.NoMemory

abbrev pub blif_found : List CellData → Option NetName → List ℕ → Result Circuit Trouble
blif_found library clock text = refused_as blif_trouble (blif_said library clock text)
