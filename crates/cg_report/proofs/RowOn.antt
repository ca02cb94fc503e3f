-- The rows are played one after another.
use Rattle.std.proofs.Common.{◌≡◌, ℕ, ◌+◌, ◌<◌, ◌≤◌, Bool, true, false, List, [], ◌∷◌, ◌++◌, length, drop, refl, sym, ap, subst}
use Rattle.std.proofs.Common.{◌∙◌, append_assoc, append-nil}
use Rattle.std.proofs.lemmas.List.{drop_all, length-append}
use Rattle.cg_netlist.specs.Circuit.{Circuit, data_inputs}
use Rattle.cg_netlist.specs.History.{IsLawful, Moment, Tick, edges}
use Rattle.cg_netlist.proofs.Values.{element_at}
use Rattle.cg_stimulus.specs.Played.{IsPlayed, played_start, played_wave, row_tick, wave_from}
use Rattle.cg_report.specs.Zeros.{low_moments}
use Rattle.cg_report.specs.Place.{IsAt, Place, Plays, Steps}
use Rattle.cg_report.specs.inner.RowByRow.{HasRow, IsBehind, IsFirst, IsPairs, PlaysPair}
use Rattle.cg_stimulus.proofs.ReadingOn.{next_at}

-- where a moment is left, a step plays it
pub stepped : (went : Bool) (old new : Place) (tick : Tick) (later : List Tick) → old.left ≡ tick ∷ later → Steps went old new → Plays old new
stepped true old new tick later left steps = steps
stepped false old new tick later left steps = let none : tick ∷ later ≡ [] = sym left ∙ steps.0 in absurd (cc)

pub left_after : (old new : Place) (tick : Tick) (later : List Tick) → old.left ≡ tick ∷ later → Plays old new → new.left ≡ later
left_after old new tick later left plays = let both : plays.tick ∷ new.left ≡ tick ∷ later = sym plays.left ∙ left in cc

-- both moments of a row
unfoldable pub pair_played : (old between new : Place) → (one : Plays old between) → (two : Plays between new) → PlaysPair old new one.now two.now
pair_played old between new one two =
    let first : one.tick ∷ two.tick ∷ new.left ≡ old.left = ap (λ l. one.tick ∷ l) (sym two.left) ∙ sym one.left in
    record {
      circuit = two.circuit ∙ one.circuit;
      rows = two.rows ∙ one.rows;
      low = one.tick;
      high = two.tick;
      left = sym first;
      further = λ wave played at.
          let at_new : IsAt new ((wave ++ one.tick ∷ []) ++ two.tick ∷ []) ((played ++ one.now ∷ []) ++ two.now ∷ []) = two.further (wave ++ one.tick ∷ []) (played ++ one.now ∷ []) (one.further wave played at) in
          subst (λ m. IsAt new (wave ++ one.tick ∷ two.tick ∷ []) m) (append_assoc played (one.now ∷ []) (two.now ∷ []))
          (subst (λ w. IsAt new w ((played ++ one.now ∷ []) ++ two.now ∷ [])) (append_assoc wave (one.tick ∷ []) (two.tick ∷ [])) at_new);
    }

-- low moments of pairs of moments

pub low_moments_on : (played : List Moment) (now later : Moment) → IsPairs played → low_moments (played ++ now ∷ later ∷ []) ≡ low_moments played ++ now ∷ []
low_moments_on [] now later pairs = refl
low_moments_on (last ∷ []) now later pairs = absurd pairs
low_moments_on (low ∷ high ∷ played) now later pairs = ap (λ l. low ∷ l) (low_moments_on played now later pairs)

pub pairs_on : (played : List Moment) (now later : Moment) → IsPairs played → IsPairs (played ++ now ∷ later ∷ [])
pairs_on [] now later pairs = tt
pairs_on (last ∷ []) now later pairs = absurd pairs
pairs_on (low ∷ high ∷ played) now later pairs = pairs_on played now later pairs

pub low_moments_last : (played : List Moment) (last : Moment) → IsPairs played → low_moments (played ++ last ∷ []) ≡ low_moments played
low_moments_last [] last pairs = refl
low_moments_last (one ∷ []) last pairs = absurd pairs
low_moments_last (low ∷ high ∷ played) last pairs = ap (λ l. low ∷ l) (low_moments_last played last pairs)

-- before the first row
unfoldable pub behind_none : (c : Circuit) (rows : List (List Bool)) (place : Place) → place.simulated.circuit ≡ c → place.rows ≡ rows → place.left ≡ played_wave c rows → IsAt place [] [] → IsBehind c rows 0 place []
behind_none c rows place circuit same left at = record {
  circuit = circuit;
  same_rows = same;
  before = [];
  left = left;
  wave = [];
  at = at;
  pairs = tt;
  lows = refl;
}

-- what holds of the player's netlist and rows, where they are known
pub of_player : (P : Circuit → List (List Bool) → Type 0) (c d : Circuit) (rows more : List (List Bool)) → d ≡ c → more ≡ rows → P d more → P c rows
of_player P c d rows more circuit same holds = subst (λ e. P e rows) circuit (subst (P d) same holds)

-- a player that was just made is before the first row
pub is_first : (c : Circuit) (rows : List (List Bool)) (place : Place) (count : ℕ) → place.simulated.circuit ≡ c → place.rows ≡ rows → place.left ≡ played_wave c rows → IsAt place [] [] → count ≡ length rows
    → ((history other : List Moment) → IsPlayed c rows history → IsPlayed c rows other → history ≡ other) → IsFirst count place
is_first c rows place count circuit same left at long one =
    let Left : Circuit → List (List Bool) → Type 0 = λ d r. place.left ≡ played_wave d r in
    let One : Circuit → List (List Bool) → Type 0 = λ d r. (history other : List Moment) → IsPlayed d r history → IsPlayed d r other → history ≡ other in
    record {
      count = long ∙ ap length (sym same);
      left = of_player Left place.simulated.circuit c place.rows rows (sym circuit) (sym same) left;
      at = at;
      one = of_player One place.simulated.circuit c place.rows rows (sym circuit) (sym same) one;
    }

-- a row is left where not all were played
pub rows_left : (width : ℕ) (before row : List Bool) (later : List (List Bool)) (left : List Tick) (rest : List (List Bool)) → rest ≡ row ∷ later → left ≡ wave_from width before rest
    → left ≡ row_tick width false row ∷ row_tick width true row ∷ wave_from width row later
rows_left width before row later left rest is of = of ∙ ap (wave_from width before) is

pub has_row : (c : Circuit) (rows : List (List Bool)) (row : ℕ) (place : Place) (played : List Moment) → IsBehind c rows row place played → row < length rows → HasRow place.left
has_row c rows row place played behind below =
    let width = length (data_inputs c) in
    let r = element_at rows row below in
    record {
      low = row_tick width false r.0;
      high = row_tick width true r.0;
      later = wave_from width r.0 (drop (row + 1) rows);
      is = rows_left width behind.before r.0 (drop (row + 1) rows) place.left (drop row rows) (next_at rows row r.0 r.1) behind.left;
    }

-- behind one row more
unfoldable pub behind_more : (c : Circuit) (rows : List (List Bool)) (row : ℕ) (old new : Place) (played : List Moment) (now later : Moment) → IsBehind c rows row old played → row < length rows → PlaysPair old new now later
    → IsBehind c rows (row + 1) new (played ++ now ∷ later ∷ [])
behind_more c rows row old new played now later behind below plays =
    let width = length (data_inputs c) in
    let r = element_at rows row below in
    let left = rows_left width behind.before r.0 (drop (row + 1) rows) old.left (drop row rows) (next_at rows row r.0 r.1) behind.left in
    let both : plays.low ∷ plays.high ∷ new.left ≡ row_tick width false r.0 ∷ row_tick width true r.0 ∷ wave_from width r.0 (drop (row + 1) rows) = sym plays.left ∙ left in
    record {
      circuit = plays.circuit ∙ behind.circuit;
      same_rows = plays.rows ∙ behind.same_rows;
      before = r.0;
      left = cc;
      wave = behind.wave ++ plays.low ∷ plays.high ∷ [];
      at = plays.further behind.wave played behind.at;
      pairs = pairs_on played now later behind.pairs;
      lows = ap length (low_moments_on played now later behind.pairs) ∙ (length-append (low_moments played) (now ∷ []) ∙ ap (λ n. n + 1) behind.lows);
    }

-- where no moment is left, the moments that were played are those of the played history
pub all_played : (c : Circuit) (rows : List (List Bool)) (place : Place) (wave : List Tick) (played : List Moment) → place.simulated.circuit ≡ c → place.rows ≡ rows → place.left ≡ [] → IsAt place wave played
    → (wave ≡ played_wave c rows) × IsPlayed c rows played
all_played c rows place wave played circuit same none at =
    let whole : wave ≡ played_wave c rows =
    sym (append-nil wave) ∙ (ap (λ l. wave ++ l) (sym none) ∙ (at.whole ∙ (ap (λ d. played_wave d place.rows) circuit ∙ ap (played_wave c) same))) in (
      whole,
      subst (λ w. IsLawful c (played_start c) w played) whole
          (subst (λ d. IsLawful d (played_start d) wave played) circuit
          (subst (λ s. IsLawful place.simulated.circuit s wave played) at.start at.shows.lawful)),
    )

-- behind the last moment
pub record IsWhole (c : Circuit) (rows : List (List Bool)) (new : Place) (played : List Moment) : Type 0 where
  pub last : Moment
  pub all : IsPlayed c rows (played ++ last ∷ [])
  pub edges : new.edges ≡ edges c (played ++ last ∷ [])

pub behind_all : (c : Circuit) (rows : List (List Bool)) (row : ℕ) (old new : Place) (went : Bool) (played : List Moment) → IsBehind c rows row old played → length rows ≤ row → Steps went old new → IsWhole c rows new played
behind_all c rows row old new went played behind all steps =
    let width = length (data_inputs c) in
    let last = row_tick width false behind.before in
    let left : old.left ≡ last ∷ [] = behind.left ∙ ap (wave_from width behind.before) (drop_all row rows all) in
    let plays = stepped went old new last [] left steps in
    let circuit : new.simulated.circuit ≡ c = plays.circuit ∙ behind.circuit in
    let at = plays.further behind.wave played behind.at in
    record {
      last = plays.now;
      all = (all_played c rows new (behind.wave ++ plays.tick ∷ []) (played ++ plays.now ∷ []) circuit (plays.rows ∙ behind.same_rows) (left_after old new last [] left plays) at).1;
      edges = at.counted ∙ ap (λ d. edges d (played ++ plays.now ∷ [])) circuit;
    }
