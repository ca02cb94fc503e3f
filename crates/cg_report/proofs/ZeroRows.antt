-- The zeros of the rows are counted while they are played.
use Rattle.std.proofs.Common.{◌≡◌, ℕ, zero, suc, ◌+◌, ◌<◌, ◌≤◌, Bool, true, false, cond, if◌then◌else◌, not, List, []}
use Rattle.std.proofs.Common.{◌∷◌, ◌++◌, length, replicate, slice_get, get_or, Some, refl, sym, ap, ◌∙◌, arith}
use Rattle.std.specs.List.{All}
use Rattle.std.proofs.lemmas.List.{length-replicate}
use Rattle.std.proofs.lemmas.List.Sums.{count_by-le-length, sum_by-append, sum_by-cons}
use Rattle.std.proofs.lemmas.Option.{same_Some, slice_get-get_or, slice_get_within}
use Rattle.cg_netlist.specs.Circuit.{Circuit}
use Rattle.cg_netlist.specs.History.{Moment}
use Rattle.cg_netlist.specs.Moment.{bit}
use Rattle.cg_stimulus.specs.Played.{IsPlayed, played_wave}
use Rattle.cg_report.specs.Zeros.{CountZeros, low_moments, zeros_of}
use Rattle.cg_report.specs.Place.{IsAt, Place, Plays, Steps}
use Rattle.cg_report.specs.inner.ZeroCounting.{AreCounted, CountRows, PlaysRow}
use Rattle.cg_report.proofs.RowOn.{behind_all, behind_more, behind_none, low_moments_last, low_moments_on, pair_played}

pub row_counted : (old between new : Place) (zeros more : List ℕ) → (one : Plays old between) → Plays between new → AreCounted (length zeros) one.now.nets zeros more → PlaysRow old new zeros more
row_counted old between new zeros more one two counted = record { now = one.now; later = two.now; pair = pair_played old between new one two; counted = counted }

-- before the first place nothing is counted
pub none_counted : (nets : List Bool) (old : List ℕ) → AreCounted 0 nets old old
none_counted nets old = record { long = refl; done = λ net n below at. absurd (omega arith); left = λ net past. refl }

one_more : (b : Bool) (n : ℕ) → n + (cond (not b) 1 0 + 0) ≡ (if b then n else n + 1)
one_more true n = omega arith
one_more false n = omega arith

zeros_on : (net : ℕ) (lows : List Moment) (now : Moment) → zeros_of net (lows ++ now ∷ []) ≡ (if bit now.nets net then zeros_of net lows else zeros_of net lows + 1)
zeros_on net lows now =
    let p : Moment → ℕ = λ m. cond (not (bit m.nets net)) 1 0 in
    let split : zeros_of net (lows ++ now ∷ []) ≡ zeros_of net lows + (p now + 0) = sum_by-append p lows (now ∷ []) ∙ ap (λ n. zeros_of net lows + n) (sum_by-cons p now []) in
    split ∙ one_more (bit now.nets net) (zeros_of net lows)

abbrev no_zeros : ℕ
no_zeros = 0

at_zeros : (n k : ℕ) → k < n → slice_get (replicate n no_zeros) k ≡ Some no_zeros
at_zeros zero k below = absurd (let no' : ⊥ = omega (arith, below) in no')
at_zeros (suc n) zero below = refl
at_zeros (suc n) (suc k) below = at_zeros n k (omega (arith, below))

-- before the first row
pub counts_none : (c : Circuit) (rows : List (List Bool)) (place : Place) (zeros : List ℕ) → place.simulated.circuit ≡ c → place.rows ≡ rows → place.left ≡ played_wave c rows → IsAt place [] []
    → zeros ≡ replicate (length c.names) 0 → CountRows c rows 0 place zeros
counts_none c rows place zeros circuit same left at none = record {
  played = [];
  behind = behind_none c rows place circuit same left at;
  long = ap length none ∙ length-replicate (length c.names) 0;
  each = λ net below. ap (λ l. slice_get l net) none ∙ at_zeros (length c.names) net below;
}

-- behind one row more
pub counts_more : (c : Circuit) (rows : List (List Bool)) (row : ℕ) (old new : Place) (zeros more : List ℕ) → CountRows c rows row old zeros → row < length rows → PlaysRow old new zeros more → CountRows c rows (row + 1) new more
counts_more c rows row old new zeros more counts below plays =
    let lows = low_moments_on counts.played plays.now plays.later counts.behind.pairs in
    record {
      played = counts.played ++ plays.now ∷ plays.later ∷ [];
      behind = behind_more c rows row old new counts.played plays.now plays.later counts.behind below plays.pair;
      long = plays.counted.long ∙ counts.long;
      each = λ net within.
          plays.counted.done net (zeros_of net (low_moments counts.played)) (omega (arith, within, counts.long)) (counts.each net within)
          ∙ ap Some (sym (zeros_on net (low_moments counts.played) plays.now) ∙ ap (zeros_of net) (sym lows));
    }

-- no number is above that of the rows

all_below : (P : ℕ → Type 0) (xs : List ℕ) → ((k x : ℕ) → slice_get xs k ≡ Some x → P x) → All P xs
all_below P xs each = λ k d within. each k (get_or xs k d) (slice_get-get_or xs k d within)

zeros_within : (c : Circuit) (rows : List (List Bool)) (row : ℕ) (place : Place) (zeros : List ℕ) → CountRows c rows row place zeros → (net n : ℕ) → slice_get zeros net ≡ Some n → n ≤ row
zeros_within c rows row place zeros counts net n at =
    let within : net < length zeros = slice_get_within zeros net n at in
    let is : n ≡ zeros_of net (low_moments counts.played) = same_Some n (zeros_of net (low_moments counts.played)) (sym at ∙ counts.each net (omega (arith, within, counts.long))) in
    let most = count_by-le-length (λ (now : Moment). not (bit now.nets net)) (low_moments counts.played) in
    omega (arith, is, most, counts.behind.lows)

pub most_of : (c : Circuit) (rows : List (List Bool)) (row most : ℕ) (place : Place) (zeros : List ℕ) → CountRows c rows row place zeros → row ≤ most → All (λ n. n ≤ most) zeros
most_of c rows row most place zeros counts fits = all_below (λ n. n ≤ most) zeros (λ net n at. let within = zeros_within c rows row place zeros counts net n at in omega (arith, within, fits))

pub few_of : (c : Circuit) (rows : List (List Bool)) (row room : ℕ) (place : Place) (zeros : List ℕ) → CountRows c rows row place zeros → row < room → All (λ n. n < room) zeros
few_of c rows row room place zeros counts fits = all_below (λ n. n < room) zeros (λ net n at. let within = zeros_within c rows row place zeros counts net n at in omega (arith, within, fits))

-- behind the last moment
pub counts_all : (c : Circuit) (rows : List (List Bool)) (row : ℕ) (old new : Place) (went : Bool) (zeros : List ℕ) → CountRows c rows row old zeros → length rows ≤ row → Steps went old new
    → ((history other : List Moment) → IsPlayed c rows history → IsPlayed c rows other → history ≡ other) → (history : List Moment) → IsPlayed c rows history → CountZeros c history zeros
counts_all c rows row old new went zeros counts all steps one history is =
    let whole = behind_all c rows row old new went counts.played counts.behind all steps in
    let lows : low_moments history ≡ low_moments counts.played = ap low_moments (one history (counts.played ++ whole.last ∷ []) is whole.all) ∙ low_moments_last counts.played whole.last counts.behind.pairs in
    record { count = counts.long; each = λ net within. counts.each net within ∙ ap (λ l. Some (zeros_of net l)) (sym lows) }
