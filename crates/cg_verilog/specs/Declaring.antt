-- Nets that are declared, one by one.
use Rattle.std.specs.Prelude.{ℕ, ◌+◌, ◌-◌, List, ◌∷◌, ◌++◌, [], map, reverse}
use Rattle.std.specs.List.{range_with_len}
use Rattle.cg_net.specs.Names.{NetName}
use Rattle.cg_verilog_text.specs.Meaning.{index_text}
use Rattle.cg_netlist_parts.specs.Part.{Part}
use Rattle.cg_netlist_parts.specs.Part as parts
use Rattle.cg_verilog.specs.declared.declare.Side.{Side}
use Rattle.cg_verilog.specs.declared.declare.Side.TheVariants.{Input, Output}

-- what a net is declared to be
abbrev pub side_part : Side → NetName → Part
side_part Input net = parts.Input net
side_part Output net = parts.Output net

-- a bit of a vector, and the bits from an index down or up to another
abbrev pub bit_name : NetName → ℕ → NetName
bit_name net index = net ++ 91 ∷ (index_text index ++ 93 ∷ [])

abbrev pub bits_down : ℕ → ℕ → NetName → List NetName
bits_down high low net = map (bit_name net) (reverse (range_with_len low (high + 1 - low)))

abbrev pub bits_up : ℕ → ℕ → NetName → List NetName
bits_up low high net = map (bit_name net) (range_with_len low (high + 1 - low))
