-- How rows are played one after another.
use Rattle.std.specs.Prelude.{◌≡◌, ℕ, Bool, List, [], ◌∷◌, ◌++◌, length, drop}
use Rattle.cg_netlist.specs.Circuit.{Circuit, data_inputs}
use Rattle.cg_netlist.specs.History.{Moment, Tick}
use Rattle.cg_stimulus.specs.Played.{IsPlayed, played_wave, wave_from}
use Rattle.cg_report.specs.Zeros.{low_moments}
use Rattle.cg_report.specs.Place.{IsAt, Place}

-- both moments of a row are left
pub record HasRow (left : List Tick) : Type 0 where
  pub low : Tick
  pub high : Tick
  pub later : List Tick
  pub is : left ≡ low ∷ high ∷ later

-- both moments of a row were played
pub record PlaysPair (old new : Place) (now later : Moment) : Type 0 where
  pub circuit : new.simulated.circuit ≡ old.simulated.circuit
  pub rows : new.rows ≡ old.rows
  pub low : Tick
  pub high : Tick
  pub left : old.left ≡ low ∷ high ∷ new.left
  pub further : (wave : List Tick) (played : List Moment) → IsAt old wave played →
      IsAt new (wave ++ low ∷ high ∷ []) (played ++ now ∷ later ∷ [])

-- no moment was played, of so many rows, and there is one history on which they are played
pub record IsFirst (rows : ℕ) (place : Place) : Type 0 where
  pub count : rows ≡ length place.rows
  pub left : place.left ≡ played_wave place.simulated.circuit place.rows
  pub at : IsAt place [] []
  pub one : (history other : List Moment) → IsPlayed place.simulated.circuit place.rows history →
      IsPlayed place.simulated.circuit place.rows other → history ≡ other

-- moments in pairs
abbrev pub IsPairs : List Moment → Type 0
IsPairs [] = Unit {0}
IsPairs (last ∷ []) = ⊥
IsPairs (low ∷ high ∷ history) = IsPairs history

-- this many rows of a netlist were played, and these moments
pub record IsBehind (c : Circuit) (rows : List (List Bool)) (row : ℕ) (place : Place) (played : List Moment) : Type 0 where
  pub circuit : place.simulated.circuit ≡ c
  pub same_rows : place.rows ≡ rows
  pub before : List Bool
  pub left : place.left ≡ wave_from (length (data_inputs c)) before (drop row rows)
  pub wave : List Tick
  pub at : IsAt place wave played
  pub pairs : IsPairs played
  pub lows : length (low_moments played) ≡ row
