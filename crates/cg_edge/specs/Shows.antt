-- Which histories a simulator shows.
use Rattle.std.specs.Prelude.{◌≡◌, Bool, false, List, [], ◌∷◌, ◌++◌, length, replicate, Option, None, Some}
use Rattle.cg_netlist.specs.Circuit.{Circuit}
use Rattle.cg_netlist.specs.History.{IsLawful, IsStart, IsWaveform, Moment, Tick}
use Rattle.cg_edge.specs.Simulated.{Simulated, rises_at}

-- the last moment, where there is one
abbrev pub last_moment : Option Moment → List Moment → Option Moment
last_moment before [] = before
last_moment before (now ∷ history) = last_moment (Some now) history

-- for each register whether it rises at the last moment of a history
abbrev pub last_rises : Circuit → Option Moment → List Bool → List Moment → List Bool
last_rises c before rose [] = rose
last_rises c before rose (now ∷ history) = last_rises c (Some now) (rises_at c before now) history

-- a simulator shows a history over a waveform: it is lawful for its netlist and its start, the present moment is its last
-- one, and the registers that rose are those that rise there; of no moment none does
pub record Shows (s : Simulated) (wave : List Tick) (history : List Moment) : Type 0 where
  pub started : IsStart s.circuit s.start
  pub waveform : IsWaveform s.circuit wave
  pub lawful : IsLawful s.circuit s.start wave history
  pub present : s.present ≡ last_moment None history
  pub rose : s.rose ≡ last_rises s.circuit None (replicate (length s.circuit.registers) false) history

-- a tick takes each history that was shown one moment further, and no other history is lawful then
abbrev pub ShowsOn : Simulated → Simulated → Tick → Type 0
ShowsOn old new tick = (wave : List Tick) (history : List Moment) → Shows old wave history
    → (now : Moment) × (new.present ≡ Some now) × Shows new (wave ++ tick ∷ []) (history ++ now ∷ [])
    × ((other : List Moment) → IsLawful old.circuit old.start (wave ++ tick ∷ []) other → other ≡ history ++ now ∷ [])
