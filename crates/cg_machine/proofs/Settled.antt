-- The bits of a machine's nets settle.
use Rattle.std.proofs.Common.{◌≡◌, Bool, false, List, [], length, sym, ap}
use Rattle.cg_netlist.specs.Moment.{Settles}
use Rattle.cg_machine.specs.Machine.{IsInputs, IsMachine, IsState, MachineData, values, walk_of}
use Rattle.cg_netlist.proofs.NetsOf.{nets_settle}

-- the bits of a machine's nets settle
pub settled : (m : MachineData) → IsMachine m → (s x : List Bool) → IsState m s → IsInputs m x → Settles m.circuit false x s [] (values m s x)
settled m good s x long ins =
    nets_settle m.circuit good.well_formed.driven (walk_of m) good.walk false x s [] good.well_formed.used good.well_formed.ranks good.well_formed.ranked ins long (sym (ap length good.no_gaters))

pub wide : (m : MachineData) → IsMachine m → (s x : List Bool) → IsState m s → IsInputs m x → length (values m s x) ≡ length m.circuit.names
wide m good s x long ins = (settled m good s x long ins).long
