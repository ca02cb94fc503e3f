-- A watcher stands for the moments that it was shown while rows are played.
use Rattle.std.proofs.Common.{◌≡◌, ℕ, ◌+◌, ◌<◌, ◌≤◌, Bool, true, false, List, [], ◌∷◌, ◌++◌, length, None, sym, ap, subst, ◌∙◌}
use Rattle.std.proofs.Common.{append_assoc}
use Rattle.std.proofs.lemmas.List.{drop_all}
use Rattle.std.proofs.lemmas.Option.{same_Some}
use Rattle.cg_netlist.specs.Circuit.{Circuit, data_inputs}
use Rattle.cg_netlist.specs.History.{Moment, edges}
use Rattle.cg_stimulus.specs.Played.{IsPlayed, played_wave, row_tick, wave_from}
use Rattle.cg_report.specs.Place.{GivesStep, IsAt, MayWatch, Place, Plays, Steps, played_moments, shown_from}
use Rattle.cg_report.specs.RowLines.{row_line}
use Rattle.cg_report.specs.Shown.{Shown}
use Rattle.cg_report.specs.inner.RowByRow.{IsBehind, PlaysPair}
use Rattle.cg_report.specs.inner.Watching.{GoesOn, ShowRows, ShowsRow, StandsBehind, WatchRows, WatchesRow}
use Rattle.cg_report.proofs.RowOn.{all_played, behind_all, behind_more, behind_none, left_after, pair_played, stepped}
use Rattle.cg_report.proofs.SaidRows.{row_said, said_more, said_none}

-- a step that was shown
pub shown_step : (went : Bool) (old new : Place) (os ns : Circuit → List Shown → Type 0) → (one : Plays old new) → Steps went old new → GivesStep went os ns old new → GoesOn os ns old (one.tick ∷ []) (one.now ∷ [])
shown_step true old new os ns one steps gives wave played at stands =
    let c = old.simulated.circuit in
    let both : gives.tick ∷ new.left ≡ one.tick ∷ new.left = sym gives.left ∙ one.left in
    let tick : gives.tick ≡ one.tick = cc in
    let now : gives.now ≡ one.now = same_Some gives.now one.now (sym gives.present ∙ one.present) in
    subst (λ m. ns c (shown_from c None (wave ++ one.tick ∷ []) (played ++ m ∷ []))) now
    (subst (λ t. ns c (shown_from c None (wave ++ t ∷ []) (played ++ gives.now ∷ []))) tick (gives.further wave played at stands))
shown_step false old new os ns one steps gives wave played at stands = let none : one.tick ∷ new.left ≡ [] = sym one.left ∙ steps.0 in absurd (cc)

-- two of them
pub shown_pair : (old between new : Place) (os ms ns : Circuit → List Shown → Type 0) → (one : Plays old between) → (two : Plays between new) → GoesOn os ms old (one.tick ∷ []) (one.now ∷ [])
    → GoesOn ms ns between (two.tick ∷ []) (two.now ∷ []) → GoesOn os ns old (one.tick ∷ two.tick ∷ []) (one.now ∷ two.now ∷ [])
shown_pair old between new os ms ns one two first second wave played at stands =
    let c = old.simulated.circuit in
    let d = between.simulated.circuit in
    let w1 = wave ++ one.tick ∷ [] in
    let p1 = played ++ one.now ∷ [] in
    let mid : ms d (shown_from d None w1 p1) = subst (λ e. ms e (shown_from e None w1 p1)) (sym one.circuit) (first wave played at stands) in
    let last : ns c (shown_from c None (w1 ++ two.tick ∷ []) (p1 ++ two.now ∷ [])) =
    subst (λ e. ns e (shown_from e None (w1 ++ two.tick ∷ []) (p1 ++ two.now ∷ []))) one.circuit (second w1 p1 (one.further wave played at) mid) in
    subst (λ p. ns c (shown_from c None (wave ++ one.tick ∷ two.tick ∷ []) p)) (append_assoc played (one.now ∷ []) (two.now ∷ []))
    (subst (λ w. ns c (shown_from c None w (p1 ++ two.now ∷ []))) (append_assoc wave (one.tick ∷ []) (two.tick ∷ [])) last)

-- a watcher that was shown a step may be shown the next
pub may_still : (went : Bool) (old new : Place) (os ns : Circuit → List Shown → Type 0) → Plays old new → MayWatch os old → Steps went old new → GivesStep went os ns old new → MayWatch ns new
may_still true old new os ns one may steps gives =
    let moments = may.0 ++ record { clock = gives.tick.clock; nets = gives.now.nets; rose = new.simulated.rose } ∷ [] in
    (moments, subst (λ c. ns c moments) (sym one.circuit) (gives.given may.0 may.1))
may_still false old new os ns one may steps gives = let none : one.tick ∷ new.left ≡ [] = sym one.left ∙ steps.0 in absurd (cc)

pub row_shown : (old between new : Place) (os ms ns : Circuit → List Shown → Type 0) → (one : Plays old between) → (two : Plays between new) → GoesOn os ms old (one.tick ∷ []) (one.now ∷ [])
    → GoesOn ms ns between (two.tick ∷ []) (two.now ∷ []) → ShowsRow os ns old new
unfolding pair_played
row_shown old between new os ms ns one two first second = record {
  now = one.now;
  later = two.now;
  pair = pair_played old between new one two;
  shown = shown_pair old between new os ms ns one two first second;
}

pub row_watched : (number : ℕ) (old between new : Place) (text more : List ℕ) (os ms ns : Circuit → List Shown → Type 0) → (one : Plays old between) → (two : Plays between new) → GoesOn os ms old (one.tick ∷ []) (one.now ∷ [])
    → GoesOn ms ns between (two.tick ∷ []) (two.now ∷ []) → more ≡ text ++ row_line old.simulated.circuit number one.now two.now → WatchesRow os ns number old new text more
unfolding row_said pair_played
row_watched number old between new text more os ms ns one two first second line = record { says = row_said number old between new text more one two line; shown = shown_pair old between new os ms ns one two first second }

-- while rows are played, a watcher may be shown the next moment
pub may_watch : (c : Circuit) (rows : List (List Bool)) (row : ℕ) (place : Place) (played : List Moment) (stands : Circuit → List Shown → Type 0) → (behind : IsBehind c rows row place played)
    → StandsBehind stands c behind.wave played → MayWatch stands place
may_watch c rows row place played stands behind for' = (shown_from c None behind.wave played, subst (λ d. stands d (shown_from c None behind.wave played)) (sym behind.circuit) for')

-- one row more
pub stands_more : (c : Circuit) (rows : List (List Bool)) (row : ℕ) (old new : Place) (played : List Moment) (now later : Moment) (os ns : Circuit → List Shown → Type 0) → (behind : IsBehind c rows row old played)
    → (pair : PlaysPair old new now later) → GoesOn os ns old (pair.low ∷ pair.high ∷ []) (now ∷ later ∷ []) → StandsBehind os c behind.wave played
    → StandsBehind ns c (behind.wave ++ pair.low ∷ pair.high ∷ []) (played ++ now ∷ later ∷ [])
stands_more c rows row old new played now later os ns behind pair shown for' =
    subst (λ d. ns d (shown_from d None (behind.wave ++ pair.low ∷ pair.high ∷ []) (played ++ now ∷ later ∷ []))) behind.circuit
    (shown behind.wave played behind.at (subst (λ d. os d (shown_from d None behind.wave played)) (sym behind.circuit) for'))

pub shows_none : (c : Circuit) (rows : List (List Bool)) (place : Place) (stands : Circuit → List Shown → Type 0) → place.simulated.circuit ≡ c → place.rows ≡ rows → place.left ≡ played_wave c rows → IsAt place [] []
    → stands c [] → ShowRows stands c rows 0 place
unfolding behind_none
shows_none c rows place stands circuit same left at none = record { played = []; behind = behind_none c rows place circuit same left at; stands_for = none }

pub shows_more : (c : Circuit) (rows : List (List Bool)) (row : ℕ) (old new : Place) (os ns : Circuit → List Shown → Type 0) → ShowRows os c rows row old → row < length rows → ShowsRow os ns old new → ShowRows ns c rows (row + 1) new
unfolding behind_more
shows_more c rows row old new os ns show below row_is = record {
  played = show.played ++ row_is.now ∷ row_is.later ∷ [];
  behind = behind_more c rows row old new show.played row_is.now row_is.later show.behind below row_is.pair;
  stands_for = stands_more c rows row old new show.played row_is.now row_is.later os ns show.behind row_is.pair row_is.shown show.stands_for;
}

pub watches_none : (c : Circuit) (rows : List (List Bool)) (place : Place) (text : List ℕ) (stands : Circuit → List Shown → Type 0) → place.simulated.circuit ≡ c → place.rows ≡ rows → place.left ≡ played_wave c rows → IsAt place [] []
    → stands c [] → WatchRows stands c rows 0 place text text
unfolding said_none behind_none
watches_none c rows place text stands circuit same left at none = record { said = said_none c rows place text circuit same left at; stands_for = none }

pub watches_more : (c : Circuit) (rows : List (List Bool)) (row number : ℕ) (old new : Place) (text more most : List ℕ) (os ns : Circuit → List Shown → Type 0) → WatchRows os c rows row old text more → row < length rows
    → number ≡ row + 1 → WatchesRow os ns number old new more most → WatchRows ns c rows (row + 1) new text most
unfolding said_more behind_more
watches_more c rows row number old new text more most os ns watch below number_is row_is =
    let says = row_is.says in record {
      said = said_more c rows row number old new text more most watch.said below number_is says;
      stands_for = stands_more c rows row old new watch.said.played says.now says.later os ns watch.said.behind says.pair row_is.shown watch.stands_for;
    }

-- behind the last moment the watcher stands for all moments of the played history
pub stands_all : (c : Circuit) (rows : List (List Bool)) (row : ℕ) (old new : Place) (went : Bool) (played : List Moment) (os ns : Circuit → List Shown → Type 0) → (behind : IsBehind c rows row old played) → length rows ≤ row
    → Steps went old new → GivesStep went os ns old new → StandsBehind os c behind.wave played
    → ((history other : List Moment) → IsPlayed c rows history → IsPlayed c rows other → history ≡ other) → (history : List Moment) → IsPlayed c rows history → ns c (played_moments c rows history)
stands_all c rows row old new went played os ns behind all steps gives for' one history is =
    let width = length (data_inputs c) in
    let tick = row_tick width false behind.before in
    let left : old.left ≡ tick ∷ [] = behind.left ∙ ap (wave_from width behind.before) (drop_all row rows all) in
    let plays = stepped went old new tick [] left steps in
    let circuit : new.simulated.circuit ≡ c = plays.circuit ∙ behind.circuit in
    let wave = behind.wave ++ plays.tick ∷ [] in
    let mine = played ++ plays.now ∷ [] in
    let whole = all_played c rows new wave mine circuit (plays.rows ∙ behind.same_rows) (left_after old new tick [] left plays) (plays.further behind.wave played behind.at) in
    let stood : os old.simulated.circuit (shown_from old.simulated.circuit None behind.wave played) = subst (λ d. os d (shown_from d None behind.wave played)) (sym behind.circuit) for' in
    let stands : ns c (shown_from c None wave mine) = subst (λ d. ns d (shown_from d None wave mine)) behind.circuit (shown_step went old new os ns plays steps gives behind.wave played behind.at stood) in
    subst (λ h. ns c (shown_from c None (played_wave c rows) h)) (one mine history whole.1 is) (subst (λ w. ns c (shown_from c None w mine)) whole.0 stands)

-- the line behind a text
pub line_on : (text more line other : List ℕ) → more ≡ (text ++ line) ++ 10 ∷ [] → line ≡ other → more ≡ text ++ (other ++ 10 ∷ [])
line_on text more line other is same = is ∙ (append_assoc text line (10 ∷ []) ∙ ap (λ l. text ++ (l ++ 10 ∷ [])) same)

-- the edges behind the last moment
pub edges_all : (c : Circuit) (rows : List (List Bool)) (row : ℕ) (old new : Place) (went : Bool) (played : List Moment) (count : ℕ) → IsBehind c rows row old played → length rows ≤ row → Steps went old new
    → count ≡ new.edges → ((history other : List Moment) → IsPlayed c rows history → IsPlayed c rows other → history ≡ other) → (history : List Moment) → IsPlayed c rows history → count ≡ edges c history
edges_all c rows row old new went played count behind all steps counted one history is =
    let whole = behind_all c rows row old new went played behind all steps in
    counted ∙ (whole.edges ∙ ap (edges c) (one (played ++ whole.last ∷ []) history whole.all is))
