-- What parts have said so far, kind by kind: all that is asked of a list of parts. Of the order of parts of different kinds
-- it keeps the order of first mention alone.
use Rattle.std.specs.Prelude.{nat_lt, if◌then◌else◌, List, [], ◌∷◌, ◌++◌, length, Option, None, Some}
use Rattle.cg_limit.specs.declared.TheConstants.{MOST_NETS, MOST_REGISTERS}
use Rattle.cg_limit.specs.declared.Limit.{Limit}
use Rattle.cg_limit.specs.declared.Limit.TheVariants.{Nets, Registers}
use Rattle.cg_net.specs.Names.{NetName, with_name, with_names}
use Rattle.cg_netlist.specs.Circuit.{LogicCell, GatingCell, RegisterCell}
use Rattle.cg_netlist_parts.specs.Part.{Part, Input, Output, Clock, Logic, GaterPart, Register, cells, clocks, gaters, inputs, mentioned, nets}
use Rattle.cg_netlist_parts.specs.Part.{outputs, registers}

-- the nets in the order of their first mention; the inputs, outputs and declared clocks, each once; the cells of each kind
pub record Said : Type 0 where
  pub nets : List NetName
  pub inputs : List NetName
  pub outputs : List NetName
  pub clocks : List NetName
  pub cells : List (LogicCell NetName)
  pub gaters : List (GatingCell NetName)
  pub registers : List (RegisterCell NetName (Option NetName))

-- what a list of parts has said
abbrev pub said : List Part → Said
said parts =
    record {
      nets = nets parts;
      inputs = inputs parts;
      outputs = outputs parts;
      clocks = clocks parts;
      cells = cells parts;
      gaters = gaters parts;
      registers = registers parts;
    }

-- nothing
abbrev pub nothing_said : Said
nothing_said = record { nets = []; inputs = []; outputs = []; clocks = []; cells = []; gaters = []; registers = [] }

-- what was said, and one more part of its kind
abbrev pub with_kind : Part → Said → Said
with_kind (Input net) s = record s { inputs = with_name s.inputs net }
with_kind (Output net) s = record s { outputs = with_name s.outputs net }
with_kind (Clock net) s = record s { clocks = with_name s.clocks net }
with_kind (Logic cell) s = record s { cells = s.cells ++ cell ∷ [] }
with_kind (GaterPart gater) s = record s { gaters = s.gaters ++ gater ∷ [] }
with_kind (Register r) s = record s { registers = s.registers ++ r ∷ [] }

-- what was said, and one more part, with the nets that it mentions
abbrev pub with_part : Said → Part → Said
with_part s part = record (with_kind part s) { nets = with_names s.nets (mentioned part) }

-- the limit that this passes, if it passes one: 1,048,576 nets, and then 65,536 registers
abbrev pub limit_of : Said → Option Limit
limit_of s =
    if nat_lt MOST_NETS (length s.nets) then Some Nets else if nat_lt MOST_REGISTERS (length s.registers) then Some Registers
    else None
