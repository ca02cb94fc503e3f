-- What a netlist does when a stimulus is played on it.
use Rattle.std.specs.Prelude.{◌==◌, ◌-◌, ℕ, Bool, true, false, List, [], ◌∷◌, ◌++◌, map, length, replicate}
use Rattle.cg_netlist.specs.Circuit.{Circuit, data_inputs}
use Rattle.cg_netlist.specs.History.{Tick, Moment, IsLawful}

-- a moment with this clock bit and the bits of a row; the data inputs behind those of the row are 0
abbrev pub row_tick : ℕ → Bool → List Bool → Tick
row_tick width clock row = record { clock = clock; inputs = row ++ replicate (width - length row) false }

-- each row is played with the clock low and then high; at last the clock is low once more, with the bits of the row before.
-- Without rows all inputs are 0.
abbrev pub wave_from : ℕ → List Bool → List (List Bool) → List Tick
wave_from width before [] = row_tick width false before ∷ []
wave_from width before (row ∷ rows) = row_tick width false row ∷ row_tick width true row ∷ wave_from width row rows

abbrev pub played_wave : Circuit → List (List Bool) → List Tick
played_wave c rows = wave_from (length (data_inputs c)) [] rows

-- each register starts at its init; one that does not matter or is not known counts as 0
abbrev pub played_start : Circuit → List Bool
played_start c = map (λ register. register.init == 1) c.registers

-- the history of a netlist on which these rows are played
abbrev pub IsPlayed : Circuit → List (List Bool) → List Moment → Type 0
IsPlayed c rows history = IsLawful c (played_start c) (played_wave c rows) history
