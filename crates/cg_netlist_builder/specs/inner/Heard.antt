-- What is true of every builder: it was told some parts, which it took.
use Rattle.std.specs.Prelude.{◌≡◌, ◌⊎◌, ◌<◌, ◌≤◌, List, [], length, nat_eq, Option, None, Some}
use Rattle.std.specs.List.{AllByRecursion, IsDistinct}
use Rattle.cg_limit.specs.declared.TheConstants.{MOST_NETS, MOST_REGISTERS}
use Rattle.cg_limit.specs.declared.Limit.{Limit}
use Rattle.cg_netlist.specs.declared.fault.AddFault.{AddFault}
use Rattle.cg_netlist.specs.declared.fault.AddFault.TheVariants.{Limit as Passes, NoMemory}
use Rattle.cg_netlist_builder.specs.inner.Numbers.{AreNumbers, Numbers, ordered_numbers, seen, wired_numbers}
use Rattle.cg_netlist_builder.specs.Building.{Building}
use Rattle.cg_netlist_parts.specs.Part.{Part}
use Rattle.cg_netlist_parts.specs.Said.{limit_of, said, with_part}
use Rattle.cg_netlist_parts.specs.Says.{AreTaken}
use Rattle.cg_net.specs.Names.{NetName}

-- no parts
abbrev pub no_numbers : Numbers
no_numbers = record { names = []; inputs = []; outputs = []; clocks = []; cells = []; gaters = []; registers = [] }

-- a builder by its numbers
abbrev pub built : NetName → Numbers → Option AddFault → Building
built model n refused = record { model = model; said = seen n; refused = refused }

-- there are parts that say this, and that a builder takes
pub record IsHeard (model : NetName) (n : Numbers) : Type 0 where
  pub numbers : AreNumbers n
  pub parts : List Part
  pub heard : said parts ≡ seen n
  pub taken : AreTaken model parts

-- a builder that refused nothing has heard what it keeps
abbrev pub IsBuilder : NetName → Numbers → Option AddFault → Type 0
IsBuilder model n refused = refused ≡ None → IsHeard model n

-- the numbers are those of parts that say a netlist: each net stands in net order once, and each register has a clock
pub record IsReady (n : Numbers) : Type 0 where
  pub numbers : AreNumbers n
  pub once : IsDistinct nat_eq (ordered_numbers n)
  pub few : length (ordered_numbers n) ≤ MOST_NETS
  pub clocked : AllByRecursion (λ r. r.clock < length n.names) (wired_numbers n).registers

-- one part more was said, within the limits
pub record Hears (n next : Numbers) (part : Part) : Type 0 where
  pub numbered : AreNumbers next
  pub said_is : seen next ≡ with_part (seen n) part
  pub few_nets : length next.names ≤ MOST_NETS
  pub few_registers : length next.registers ≤ MOST_REGISTERS

-- why a part is not said: for want of memory, or for the limit that it would pass
abbrev pub Fails : Numbers → Part → AddFault → Type 0
Fails n part fault =
    (fault ≡ NoMemory) ⊎ ((limit : Limit) × (fault ≡ Passes limit) × (limit_of (with_part (seen n) part) ≡ Some limit))
