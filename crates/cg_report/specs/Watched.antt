-- What a watcher says of rows that are played.
use Rattle.std.specs.Prelude.{ℕ, Bool, List, [], ◌∷◌, ◌++◌}
use Rattle.cg_netlist.specs.Circuit.{Circuit}
use Rattle.cg_netlist.specs.History.{Moment}
use Rattle.cg_report.specs.Place.{played_moments}
use Rattle.cg_report.specs.Shown.{Shown}

-- the line of a watcher that says this, where it was shown each moment of the history on which rows are played once, in order
abbrev pub watched_line : (Circuit → List Shown → List ℕ) → Circuit → List (List Bool) → List Moment → List ℕ
watched_line says c rows history = says c (played_moments c rows history) ++ 10 ∷ []
