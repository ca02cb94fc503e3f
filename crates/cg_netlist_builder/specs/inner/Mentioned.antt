-- Nets that are mentioned by their names, and the numbers that they get.
use Rattle.std.specs.Prelude.{◌≡◌, ◌⊎◌, ℕ, ◌<◌, ◌≤◌, List, [], ◌∷◌, ◌++◌, map, length, slice_get, Option, Some}
use Rattle.cg_limit.specs.declared.TheConstants.{MOST_NETS, MOST_REGISTERS}
use Rattle.cg_limit.specs.declared.Limit.TheVariants.{Nets, Registers}
use Rattle.cg_netlist.specs.declared.fault.AddFault.{AddFault}
use Rattle.cg_netlist.specs.declared.fault.AddFault.TheVariants.{Limit as Passes, NoMemory}
use Rattle.cg_netlist.specs.Circuit.{GatingCell, LogicCell, RegisterCell}
use Rattle.cg_net.specs.NetSets.{with_net}
use Rattle.cg_netlist.specs.Places.{CellWithin}
use Rattle.cg_netlist_parts.specs.Part.{Logic, GaterPart, Register, mentioned}
use Rattle.cg_net.specs.Names.{NetName, net_name, with_names}
use Rattle.cg_netlist.specs.Wiring.{map_cell, map_gater, map_open}
use Rattle.cg_netlist_builder.specs.inner.Numbers.{GaterWithin, OpenWithin}

-- the nets of these names were mentioned one after another, and have these numbers
pub record IsMentioned (old new words : List NetName) (nets : List ℕ) : Type 0 where
  pub names : new ≡ with_names old words
  pub few : length new ≤ MOST_NETS
  pub numbered : map (slice_get new) nets ≡ map (λ word. Some word) words

-- why nets are not mentioned that would leave these names
abbrev pub IsMentionFault : List NetName → AddFault → Type 0
IsMentionFault names fault = (fault ≡ NoMemory) ⊎ ((fault ≡ Passes Nets) × (MOST_NETS < length names))

-- a net was mentioned and put into a set
pub record PutsNet (old new : List NetName) (word : NetName) (nets more : List ℕ) : Type 0 where
  pub net : ℕ
  pub mentioned : IsMentioned old new (word ∷ []) (net ∷ [])
  pub put : more ≡ with_net nets net

-- the nets of a part were mentioned, and the part was put behind the others of its kind, by the numbers of its nets
pub record PutsCell (old new : List NetName) (cells more : List (LogicCell ℕ)) (said : LogicCell NetName) : Type 0 where
  pub names : new ≡ with_names old (mentioned (Logic said))
  pub few : length new ≤ MOST_NETS
  pub cell : LogicCell ℕ
  pub named : map_cell (net_name new) cell ≡ said
  pub within : CellWithin (length new) cell
  pub put : more ≡ cells ++ cell ∷ []

pub record PutsGater (old new : List NetName) (gaters more : List (GatingCell ℕ)) (said : GatingCell NetName) : Type 0 where
  pub names : new ≡ with_names old (mentioned (GaterPart said))
  pub few : length new ≤ MOST_NETS
  pub gater : GatingCell ℕ
  pub named : map_gater (net_name new) gater ≡ said
  pub within : GaterWithin (length new) gater
  pub put : more ≡ gaters ++ gater ∷ []

pub record PutsRegister (old new : List NetName) (registers more : List (RegisterCell ℕ (Option ℕ)))
    (said : RegisterCell NetName (Option NetName)) : Type 0 where
  pub names : new ≡ with_names old (mentioned (Register said))
  pub few : length new ≤ MOST_NETS
  pub register : RegisterCell ℕ (Option ℕ)
  pub named : map_open (net_name new) register ≡ said
  pub within : OpenWithin (length new) register
  pub put : more ≡ registers ++ register ∷ []
  pub few_registers : length more ≤ MOST_REGISTERS

-- why a register is not put behind others
abbrev pub IsRegisterFault : List NetName → ℕ → AddFault → Type 0
IsRegisterFault names registers fault =
    IsMentionFault names fault ⊎ ((fault ≡ Passes Registers) × (length names ≤ MOST_NETS) × (registers ≡ MOST_REGISTERS))
