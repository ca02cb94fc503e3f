-- Rises are counted while rows are played.
use Rattle.std.proofs.Common.{◌≡◌, ℕ, suc, ◌+◌, ◌*◌, ◌<◌, ◌≤◌, Bool, true, false, if◌then◌else◌, List, [], ◌∷◌, ◌++◌, length, map, replicate, get_or}
use Rattle.std.proofs.Common.{Option, None, Some, refl, sym, ap, ◌∙◌, subst, arith, append_assoc}
use Rattle.std.specs.List.{All}
use Rattle.std.proofs.lemmas.List.{drop_all}
use Rattle.std.proofs.lemmas.List.Elements.{All-cons, All-head, All-nil, All-tail}
use Rattle.cg_edge.specs.Shows.{last_moment, last_rises}
use Rattle.cg_edge.specs.Simulated.{rises_at}
use Rattle.cg_netlist.specs.Circuit.{Circuit, RegisterCell, data_inputs}
use Rattle.cg_netlist.specs.History.{Moment, Tick, rises}
use Rattle.cg_netlist.specs.Moment.{zip_with}
use Rattle.cg_report.specs.Place.{IsAt, Place}
use Rattle.cg_report.specs.Zeros.{low_moments}
use Rattle.cg_report.specs.inner.RowByRow.{IsBehind, IsPairs}
use Rattle.cg_report.proofs.RowOn.{all_played, behind_more, behind_none, left_after, pair_played}
use Rattle.cg_stimulus.specs.Played.{IsPlayed, played_wave, row_tick, wave_from}
use Rattle.cg_register_text.specs.Rises.{rises_from, rises_of}
use Rattle.cg_register_text.specs.inner.RiseCounting.{CountRises, CountsMoment, CountsRow, counted}

-- whether a register rises from one moment to the next; at a first moment it does not
abbrev rise_at : Option Moment → Moment → RegisterCell ℕ ℕ → Bool
rise_at None now r = false
rise_at (Some before) now r = rises before.nets now.nets r

counted_is : (b : Bool) (n : ℕ) → counted b n ≡ n + (if b then 1 else 0)
counted_is true n = refl
counted_is false n = omega arith

-- one moment more
one_moment : (before : Option Moment) (now : Moment) (r : RegisterCell ℕ ℕ) → rises_from before (now ∷ []) r ≡ (if rise_at before now r then 1 else 0)
one_moment None now r = refl
one_moment (Some before) now r = omega arith

rises_more : (before : Option Moment) (played : List Moment) (now : Moment) (r : RegisterCell ℕ ℕ) → rises_from before (played ++ now ∷ []) r ≡ rises_from before played r + (if rise_at (last_moment before played) now r then 1 else 0)
rises_more before [] now r = one_moment before now r ∙ omega arith
rises_more None (m ∷ played) now r = rises_more (Some m) played now r
rises_more (Some before) (m ∷ played) now r =
    let rest = rises_more (Some m) played now r in
    omega (arith, rest)

counts_by : (f : RegisterCell ℕ ℕ → Bool) (g : RegisterCell ℕ ℕ → ℕ) (rs : List (RegisterCell ℕ ℕ)) → zip_with counted (map f rs) (map g rs) ≡ map (λ r. counted (f r) (g r)) rs
counts_by f g [] = refl
counts_by f g (r ∷ rs) = ap (λ l. counted (f r) (g r) ∷ l) (counts_by f g rs)

counts_none : (g : RegisterCell ℕ ℕ → ℕ) (rs : List (RegisterCell ℕ ℕ)) → zip_with counted (replicate (length rs) false) (map g rs) ≡ map g rs
counts_none g [] = refl
counts_none g (r ∷ rs) = ap (λ l. g r ∷ l) (counts_none g rs)

same_map : (f g : RegisterCell ℕ ℕ → ℕ) (rs : List (RegisterCell ℕ ℕ)) → ((r : RegisterCell ℕ ℕ) → f r ≡ g r) → map f rs ≡ map g rs
same_map f g [] same = refl
same_map f g (r ∷ rs) same = ap (λ n. n ∷ map f rs) (same r) ∙ ap (λ l. g r ∷ l) (same_map f g rs same)

counted_on : (c : Circuit) (played : List Moment) (now : Moment) → zip_with counted (rises_at c (last_moment None played) now) (rises_of c played) ≡ rises_of c (played ++ now ∷ [])
counted_on c played now = go (last_moment None played) refl
  where
    each : (o : Option Moment) → last_moment None played ≡ o → (r : RegisterCell ℕ ℕ) → counted (rise_at o now r) (rises_from None played r) ≡ rises_from None (played ++ now ∷ []) r
    each o is r = counted_is (rise_at o now r) (rises_from None played r) ∙ (ap (λ p. rises_from None played r + (if rise_at p now r then 1 else 0)) (sym is) ∙ sym (rises_more None played now r))

    go : (o : Option Moment) → last_moment None played ≡ o → zip_with counted (rises_at c o now) (rises_of c played) ≡ rises_of c (played ++ now ∷ [])
    go None is = counts_none (rises_from None played) c.registers ∙ same_map (rises_from None played) (rises_from None (played ++ now ∷ [])) c.registers (each None is)
    go (Some before) is =
        counts_by (rises before.nets now.nets) (rises_from None played) c.registers
        ∙ same_map (λ r. counted (rises before.nets now.nets r) (rises_from None played r)) (rises_from None (played ++ now ∷ [])) c.registers (each (Some before) is)

-- the registers that rise at the last moment
rose_last : (c : Circuit) (before : Option Moment) (rose : List Bool) (played : List Moment) (now : Moment) → last_rises c before rose (played ++ now ∷ []) ≡ rises_at c (last_moment before played) now
rose_last c before rose [] now = refl
rose_last c before rose (m ∷ played) now = rose_last c (Some m) (rises_at c before m) played now

-- what a moment counts
pub moment_counts : (old new : Place) (rises more : List ℕ) → (m : CountsMoment old new rises more) → (wave : List Tick) (played : List Moment) → IsAt old wave played → rises ≡ rises_of old.simulated.circuit played
    → more ≡ rises_of old.simulated.circuit (played ++ m.plays.now ∷ [])
moment_counts old new rises more m wave played at are =
    let p = m.plays in
    let now = p.now in
    let behind : IsAt new (wave ++ p.tick ∷ []) (played ++ now ∷ []) = p.further wave played at in
    let rose : new.simulated.rose ≡ rises_at old.simulated.circuit (last_moment None played) now =
    behind.shows.rose ∙ (rose_last new.simulated.circuit None (replicate (length new.simulated.circuit.registers) false) played now ∙ ap (λ c. rises_at c (last_moment None played) now) p.circuit) in
    m.counts ∙ (ap (λ l. zip_with counted l rises) rose ∙ (ap (zip_with counted (rises_at old.simulated.circuit (last_moment None played) now)) are ∙ counted_on old.simulated.circuit played now))

-- what a row counts
pub row_counts : (old between new : Place) (rises more most : List ℕ) → CountsMoment old between rises more → CountsMoment between new more most → CountsRow old new rises most
unfolding pair_played
row_counts old between new rises more most one two = record {
  now = one.plays.now;
  later = two.plays.now;
  pair = pair_played old between new one.plays two.plays;
  counts = λ wave played at are.
      let first = moment_counts old between rises more one wave played at are in
      let c = one.plays.circuit in
      let second = moment_counts between new more most two (wave ++ one.plays.tick ∷ []) (played ++ one.plays.now ∷ []) (one.plays.further wave played at) (first ∙ ap (λ d. rises_of d (played ++ one.plays.now ∷ [])) (sym c)) in
      second ∙ (ap (λ d. rises_of d ((played ++ one.plays.now ∷ []) ++ two.plays.now ∷ [])) c ∙ ap (rises_of old.simulated.circuit) (append_assoc played (one.plays.now ∷ []) (two.plays.now ∷ [])));
}

-- before the first row
pub rises_none : (c : Circuit) (rows : List (List Bool)) (place : Place) (rises : List ℕ) → place.simulated.circuit ≡ c → place.rows ≡ rows → place.left ≡ played_wave c rows → IsAt place [] []
    → rises ≡ replicate (length c.registers) 0 → CountRises c rows 0 place rises
rises_none c rows place rises circuit same left at none = record {
  played = [];
  behind = behind_none c rows place circuit same left at;
  are = none ∙ zeros c.registers;
}
  where
    zeros : (rs : List (RegisterCell ℕ ℕ)) → replicate (length rs) 0 ≡ map (rises_from None []) rs
    zeros [] = refl
    zeros (r ∷ rs) = ap (λ l. 0 ∷ l) (zeros rs)

-- behind one row more
pub rises_row : (c : Circuit) (rows : List (List Bool)) (row : ℕ) (old new : Place) (rises more : List ℕ) → CountRises c rows row old rises → row < length rows → CountsRow old new rises more → CountRises c rows (row + 1) new more
rises_row c rows row old new rises more so_far below one = record {
  played = so_far.played ++ one.now ∷ one.later ∷ [];
  behind = behind_more c rows row old new so_far.played one.now one.later so_far.behind below one.pair;
  are =
      let circuit = so_far.behind.circuit in
      one.counts so_far.behind.wave so_far.played so_far.behind.at (so_far.are ∙ ap (λ d. rises_of d so_far.played) (sym circuit))
      ∙ ap (λ d. rises_of d (so_far.played ++ one.now ∷ one.later ∷ [])) circuit;
}

-- behind the last moment
pub rises_all : (c : Circuit) (rows : List (List Bool)) (row : ℕ) (old new : Place) (rises more : List ℕ) → CountRises c rows row old rises → length rows ≤ row → CountsMoment old new rises more
    → ((history other : List Moment) → IsPlayed c rows history → IsPlayed c rows other → history ≡ other) → (history : List Moment) → IsPlayed c rows history → more ≡ rises_of c history
rises_all c rows row old new rises more so_far all last one history is =
    let behind = so_far.behind in
    let plays = last.plays in
    let tick = row_tick (length (data_inputs c)) false behind.before in
    let left : old.left ≡ tick ∷ [] = behind.left ∙ ap (wave_from (length (data_inputs c)) behind.before) (drop_all row rows all) in
    let mine = so_far.played ++ plays.now ∷ [] in
    let whole = all_played c rows new (behind.wave ++ plays.tick ∷ []) mine (plays.circuit ∙ behind.circuit) (plays.rows ∙ behind.same_rows) (left_after old new tick [] left plays) (plays.further behind.wave so_far.played behind.at) in
    let counts = moment_counts old new rises more last behind.wave so_far.played behind.at (so_far.are ∙ ap (λ d. rises_of d so_far.played) (sym behind.circuit)) in
    counts ∙ (ap (λ d. rises_of d mine) behind.circuit ∙ ap (rises_of c) (one mine history whole.1 is))

-- while a moment is left, the next can be played
pub one_left : (c : Circuit) (rows : List (List Bool)) (row : ℕ) (place : Place) (played : List Moment) → IsBehind c rows row place played → length rows ≤ row → (tick : Tick) × (later : List Tick) × (place.left ≡ tick ∷ later)
one_left c rows row place played behind all =
    (row_tick (length (data_inputs c)) false behind.before, [], behind.left ∙ ap (wave_from (length (data_inputs c)) behind.before) (drop_all row rows all))

-- no number is above that of the moments
rises_most : (before : Option Moment) (history : List Moment) (r : RegisterCell ℕ ℕ) → rises_from before history r ≤ length history
rises_most before [] r = omega arith
rises_most None (now ∷ history) r = let rest = rises_most (Some now) history r in omega (arith, rest)
rises_most (Some before) (now ∷ history) r = let rest = rises_most (Some now) history r in go (rises before.nets now.nets r) rest
  where
    go : (b : Bool) → rises_from (Some now) history r ≤ length history → (if b then 1 else 0) + rises_from (Some now) history r ≤ length (now ∷ history)
    go true rest = omega (arith, rest)
    go false rest = omega (arith, rest)

pairs_long : (played : List Moment) → IsPairs played → length played ≡ 2 * length (low_moments played)
pairs_long [] pairs = refl
pairs_long (last ∷ []) pairs = absurd pairs
pairs_long (low ∷ high ∷ played) pairs = let rest = pairs_long played pairs in omega (arith, rest)

pub few_rises : (c : Circuit) (rows : List (List Bool)) (row : ℕ) (place : Place) (rises : List ℕ) → CountRises c rows row place rises → All (λ n. n ≤ 2 * row) rises
few_rises c rows row place rises so_far =
    let long : length so_far.played ≡ 2 * row = pairs_long so_far.played so_far.behind.pairs ∙ ap (λ n. 2 * n) so_far.behind.lows in
    subst (All (λ n. n ≤ 2 * row)) (sym so_far.are) (each c.registers (λ r. let b = rises_most None so_far.played r in omega (arith, b, long)))
  where
    each : (rs : List (RegisterCell ℕ ℕ)) → ((r : RegisterCell ℕ ℕ) → rises_from None so_far.played r ≤ 2 * row) → All (λ n. n ≤ 2 * row) (map (rises_from None so_far.played) rs)
    each [] below = All-nil (λ n. n ≤ 2 * row)
    each (r ∷ rs) below = All-cons (λ n. n ≤ 2 * row) (rises_from None so_far.played r) (map (rises_from None so_far.played) rs) (below r) (each rs below)

pub all_more : (k : ℕ) (rose : List Bool) (xs : List ℕ) → All (λ n. n < k) xs → All (λ n. n ≤ k) (zip_with counted rose xs)
all_more k [] xs all = All-nil (λ n. n ≤ k)
all_more k (b ∷ rose) [] all = All-nil (λ n. n ≤ k)
all_more k (b ∷ rose) (x ∷ xs) all =
    let low : x < k = All-head (λ n. n < k) x xs all in
    All-cons (λ n. n ≤ k) (counted b x) (zip_with counted rose xs) (let e = counted_is b x in go b low) (all_more k rose xs (All-tail (λ n. n < k) x xs all))
  where
    go : (c : Bool) → x < k → counted c x ≤ k
    go true low = omega (arith, low)
    go false low = omega (arith, low)

-- counting at one place after another
pub counted_all : (rose : List Bool) (old new : List ℕ) → length rose ≡ length old → length new ≡ length old → ((k : ℕ) → k < length old → get_or new k 0 ≡ counted (get_or rose k false) (get_or old k 0)) → new ≡ zip_with counted rose old
counted_all [] [] [] one two each = refl
counted_all [] [] (y ∷ new) one two each = absurd (omega (arith, two))
counted_all [] (x ∷ old) new one two each = absurd (omega (arith, one))
counted_all (b ∷ rose) [] new one two each = absurd (omega (arith, one))
counted_all (b ∷ rose) (x ∷ old) [] one two each = absurd (omega (arith, two))
counted_all (b ∷ rose) (x ∷ old) (y ∷ new) one two each =
    let head : y ≡ counted b x = each 0 (omega arith) in
    let rest : new ≡ zip_with counted rose old = counted_all rose old new (omega (arith, one)) (omega (arith, two)) (λ k below. each (suc k) (omega (arith, below))) in
    ap (λ n. n ∷ new) head ∙ ap (λ l. counted b x ∷ l) rest
