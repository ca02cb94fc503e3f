-- How a player keeps its place.
use Rattle.std.specs.Prelude.{◌≡◌, ◌≤◌, ◌<◌, ◌+◌, ◌-◌, ◌*◌, ℕ, Bool, true, false, List, [], ◌∷◌, ◌++◌, length, drop, replicate}
use Rattle.std.specs.Prelude.{Option, IsSome}
use Rattle.cg_limit.specs.declared.TheConstants.{MOST_REGISTERS}
use Rattle.cg_netlist.specs.Circuit.{data_inputs}
use Rattle.cg_netlist.specs.History.{Moment, Tick}
use Rattle.cg_netlist.specs.Netlist.{IsNetlist}
use Rattle.cg_edge.specs.Simulated.{Simulated}
use Rattle.cg_stimulus.specs.Inputs.{Rows, IsStimulus}
use Rattle.cg_report.specs.declared.player.Next.{Next}
use Rattle.cg_report.specs.declared.player.Next.TheVariants.{Low, High, Ended}

-- a row with zeros behind it, as wide as the data inputs
abbrev pub padded : ℕ → List Bool → List Bool
padded width row = row ++ replicate (width - length row) false

-- the moments from the low one of the next row on, behind these inputs
abbrev pub low_from : ℕ → List Bool → List (List Bool) → List Tick
low_from width inputs [] = record { clock = false; inputs = inputs } ∷ []
low_from width inputs (row ∷ rows) =
    record { clock = false; inputs = padded width row } ∷ record { clock = true; inputs = padded width row }
    ∷ low_from width (padded width row) rows

-- the moments that are left
abbrev pub left_of : ℕ → Next → List Bool → ℕ → List (List Bool) → List Tick
left_of width Low inputs row rows = low_from width inputs (drop row rows)
left_of width High inputs row rows = record { clock = true; inputs = inputs } ∷ low_from width inputs (drop (row + 1) rows)
left_of width Ended inputs row rows = []

-- what the next moment is, with the place of its row, and how many edges there are at most so far: each register may rise
-- at both moments of a row
abbrev pub IsNext : Next → ℕ → ℕ → Option Moment → ℕ → Type 0
IsNext Low rows row present edges = (row ≤ rows) × (edges ≤ 2 * MOST_REGISTERS * row)
IsNext High rows row present edges = (row < rows) × (edges ≤ 2 * MOST_REGISTERS * row + MOST_REGISTERS) × IsSome present
IsNext Ended rows row present edges = (row ≤ rows) × (edges ≤ 2 * MOST_REGISTERS * row + MOST_REGISTERS)

pub record IsPlayer (simulated : Simulated) (stimulus : Rows) (inputs : List Bool) (row : ℕ) (next : Next)
    (edges : ℕ) : Type 0 where
  pub netlist : IsNetlist simulated.circuit
  pub lawful : IsStimulus stimulus
  pub wide : length inputs ≡ length (data_inputs simulated.circuit)
  pub fits : length stimulus.inputs ≤ length (data_inputs simulated.circuit)
  pub zeros : drop (length stimulus.inputs) inputs
      ≡ replicate (length (data_inputs simulated.circuit) - length stimulus.inputs) false
  pub place : IsNext next (length stimulus.rows) row simulated.present edges
