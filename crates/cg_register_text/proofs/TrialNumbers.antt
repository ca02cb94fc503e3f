-- What the numbers of the trials that pass a test say of these trials.
use Rattle.std.proofs.Common.{◌≡◌, ℕ, zero, suc, ◌+◌, ◌-◌, ◌<◌, Bool, true, false, not, ◌&&◌, ◌||◌, if◌then◌else◌, List, [], ◌∷◌, map, slice_get, nat_eq, Option, None, Some, refl, sym, ap, ◌∙◌, arith}
use Rattle.std.specs.Option.{option_map, option_map_or}
use Rattle.std.proofs.lemmas.Bool.{and_parts, both_ways, eq-eqb, ne_eqb, or_from, or_left}
use Rattle.std.proofs.lemmas.Option.{none-some, same_Some, slice_get-map}
use Rattle.cg_net.specs.NetSets.{is_in}
use Rattle.cg_net.proofs.TableLemmas.{mapped_at}
use Rattle.cg_register_text.specs.Meaning.{AreNumbers}
use Rattle.cg_register_text.specs.Trials.{Trial, failed, gave, givers, last_failed, last_of, numbers_from}

module _ (test : Trial → Bool) where
  -- where there are none, none passes
  pub none_pass : (number : ℕ) (ts : List Trial) → numbers_from test number ts ≡ [] → (k : ℕ) (t : Trial) → slice_get ts k ≡ Some t → test t ≡ false
  none_pass number [] none k t at = absurd (none-some t at)
  none_pass number (s ∷ ts) none k t at = go (none_pass (number + 1) ts) (test s) refl none k at
    where
      go : (numbers_from test (number + 1) ts ≡ [] → (j : ℕ) (u : Trial) → slice_get ts j ≡ Some u → test u ≡ false)
          → (b : Bool) → test s ≡ b → (if b then number ∷ numbers_from test (number + 1) ts else numbers_from test (number + 1) ts) ≡ [] → (k : ℕ) → slice_get (s ∷ ts) k ≡ Some t → test t ≡ false
      go rest true is h j there = absurd (cc)
      go rest false is h zero there = ap test (sym (same_Some s t there)) ∙ is
      go rest false is h (suc j) there = rest h j t there

  -- where there is no last, there are none
  pub no_last : (ns : List ℕ) → last_of ns ≡ None → ns ≡ []
  no_last [] none = refl
  no_last (n ∷ []) none = absurd (cc)
  no_last (n ∷ k ∷ ns) none = absurd (let h : k ∷ ns ≡ [] = no_last (k ∷ ns) none in cc)

  -- the trial of the last number
  pub record IsLast (number n : ℕ) (ts : List Trial) : Type 0 where
    pub place : ℕ
    pub is : n ≡ number + place
    pub trial : Trial
    pub at : slice_get ts place ≡ Some trial
    pub passes : test trial ≡ true
    pub later : (k : ℕ) (t : Trial) → place < k → slice_get ts k ≡ Some t → test t ≡ false

  pub last_is : (number n : ℕ) (ts : List Trial) → last_of (numbers_from test number ts) ≡ Some n → IsLast number n ts
  last_is number n [] is = absurd (cc)
  last_is number n (s ∷ ts) is = go (last_is (number + 1) n ts) (test s) refl (numbers_from test (number + 1) ts) refl is
    where
      behind : (place : ℕ) → ((k : ℕ) (t : Trial) → place < k → slice_get ts k ≡ Some t → test t ≡ false) → (k : ℕ) (t : Trial) → suc place < k → slice_get (s ∷ ts) k ≡ Some t → test t ≡ false
      behind place later zero t past at = absurd (omega (arith, past))
      behind place later (suc k) t past at = later k t (omega (arith, past)) at

      after_first : numbers_from test (number + 1) ts ≡ [] → (k : ℕ) (t : Trial) → 0 < k → slice_get (s ∷ ts) k ≡ Some t → test t ≡ false
      after_first none zero t past at = absurd (omega (arith, past))
      after_first none (suc k) t past at = none_pass (number + 1) ts none k t at

      further : (last_of (numbers_from test (number + 1) ts) ≡ Some n → IsLast (number + 1) n ts) → last_of (numbers_from test (number + 1) ts) ≡ Some n → IsLast number n (s ∷ ts)
      further rest h =
          let l : IsLast (number + 1) n ts = rest h in
          let place : ℕ = l.place in
          let same : n ≡ (number + 1) + place = l.is in
          record { place = suc place; is = omega (arith, same); trial = l.trial; at = l.at; passes = l.passes; later = λ k t past at. behind place l.later k t past at }

      go : (last_of (numbers_from test (number + 1) ts) ≡ Some n → IsLast (number + 1) n ts)
          → (b : Bool) → test s ≡ b → (ns : List ℕ) → numbers_from test (number + 1) ts ≡ ns → last_of (if b then number ∷ ns else ns) ≡ Some n → IsLast number n (s ∷ ts)
      go rest true passes [] none h = record {
        place = 0;
        is = let same : number ≡ n = same_Some number n h in omega (arith, same);
        trial = s;
        at = refl;
        passes = passes;
        later = λ k t past at. after_first none k t past at;
      }
      go rest true passes (k ∷ ns) some h = further rest (ap last_of some ∙ h)
      go rest false passes ns are h = further rest (ap last_of are ∙ h)

  -- no number is less than the first may be
  numbers_from_first : (number n : ℕ) (ts : List Trial) → n < number → is_in (numbers_from test number ts) n ≡ false
  numbers_from_first number n [] below = refl
  numbers_from_first number n (t ∷ ts) below = go (test t) (numbers_from_first (number + 1) n ts (omega (arith, below)))
    where
      go : (b : Bool) → is_in (numbers_from test (number + 1) ts) n ≡ false → is_in (if b then number ∷ numbers_from test (number + 1) ts else numbers_from test (number + 1) ts) n ≡ false
      go true rest = or_from (nat_eq n number) (is_in (numbers_from test (number + 1) ts) n) (ne_eqb n number (λ same. let no : ⊥ = omega (arith, below, same) in no)) rest
      go false rest = rest

  -- a number is there exactly where the trial at its place passes
  pub numbers_tell : (number k : ℕ) (ts : List Trial) → is_in (numbers_from test number ts) (number + k) ≡ option_map_or test (slice_get ts k) false
  numbers_tell number k [] = refl
  numbers_tell number zero (t ∷ ts) = go (test t) (numbers_from_first (number + 1) (number + zero) ts (omega arith))
    where
      go : (b : Bool) → is_in (numbers_from test (number + 1) ts) (number + zero) ≡ false → is_in (if b then number ∷ numbers_from test (number + 1) ts else numbers_from test (number + 1) ts) (number + zero) ≡ b
      go true rest = or_left (nat_eq (number + zero) number) (is_in (numbers_from test (number + 1) ts) (number + zero)) (eq-eqb (number + zero) number (omega arith))
      go false rest = rest
  numbers_tell number (suc k) (t ∷ ts) =
      go (test t) (ap (is_in (numbers_from test (number + 1) ts)) (let e : number + suc k ≡ number + 1 + k = omega arith in e) ∙ numbers_tell (number + 1) k ts)
    where
      go : (b : Bool) → is_in (numbers_from test (number + 1) ts) (number + suc k) ≡ option_map_or test (slice_get ts k) false
          → is_in (if b then number ∷ numbers_from test (number + 1) ts else numbers_from test (number + 1) ts) (number + suc k) ≡ option_map_or test (slice_get ts k) false
      go true rest = ap (λ c. c || is_in (numbers_from test (number + 1) ts) (number + suc k)) (ne_eqb (number + suc k) number (λ same. let no : ⊥ = omega (arith, same) in no)) ∙ rest
      go false rest = rest

-- the numbers of what gave a register its enable
module _ {T : Type 0} (f : T → Trial) (xs : List T) (r : ℕ) where
  pub givers_are : AreNumbers (λ x. gave r (f x)) xs (givers (map f xs) r)
  givers_are = record {
    counted = numbers_from_first (gave r) 1 0 (map f xs) (omega arith);
    each = λ k.
        ap (is_in (givers (map f xs) r)) (let e : k + 1 ≡ 1 + k = omega arith in e)
        ∙ (numbers_tell (gave r) 1 k (map f xs)
        ∙ (ap (λ o. option_map_or (gave r) o false) (slice_get-map f xs k)
        ∙ of_mapped (slice_get xs k)));
  }
    where
      of_mapped : (o : Option T) → option_map_or (gave r) (option_map f o) false ≡ option_map_or (λ x. gave r (f x)) o false
      of_mapped None = refl
      of_mapped (Some x) = refl

has_none : (inserted among : Bool) → (inserted && among) ≡ false → (not inserted && among) ≡ false → among ≡ false
has_none true among gave failed = gave
has_none false among gave failed = failed

left_out : (inserted among : Bool) → (inserted && among) ≡ false → among ≡ true → inserted ≡ false
left_out true among gave has = absurd (both_ways among gave has)
left_out false among gave has = refl

-- trials of some things, of which none gave a register its enable
module _ {T : Type 0} (f : T → Trial) (xs : List T) (r : ℕ) (none : givers (map f xs) r ≡ []) where
  at_place : (k : ℕ) (x : T) → slice_get xs k ≡ Some x → slice_get (map f xs) k ≡ Some (f x)
  at_place k x at = slice_get-map f xs k ∙ ap (option_map f) at

  -- none that has it was inserted
  pub none_inserted : (k : ℕ) (x : T) → slice_get xs k ≡ Some x → is_in (f x).regs r ≡ true → (f x).inserted ≡ false
  none_inserted k x at among = left_out (f x).inserted (is_in (f x).regs r) (none_pass (gave r) 1 (map f xs) none k (f x) (at_place k x at)) among

  -- where none has it that gave it none, none has it
  pub apart : last_failed (map f xs) r ≡ None → (k : ℕ) (x : T) → slice_get xs k ≡ Some x → is_in (f x).regs r ≡ false
  apart last k x at =
      has_none (f x).inserted (is_in (f x).regs r) (none_pass (gave r) 1 (map f xs) none k (f x) (at_place k x at))
      (none_pass (failed r) 1 (map f xs) (no_last (failed r) (numbers_from (failed r) 1 (map f xs)) last) k (f x) (at_place k x at))

  -- and else this is the last that has it
  pub record IsLastFailed (n : ℕ) : Type 0 where
    pub counted : 0 < n
    pub item : T
    pub at : slice_get xs (n - 1) ≡ Some item
    pub among : is_in (f item).regs r ≡ true
    pub last : (k : ℕ) (x : T) → slice_get xs (n + k) ≡ Some x → is_in (f x).regs r ≡ false

  pub last_one : (n : ℕ) → last_failed (map f xs) r ≡ Some n → IsLastFailed n
  last_one n is =
      let l : IsLast (failed r) 1 n (map f xs) = last_is (failed r) 1 n (map f xs) is in
      let place : ℕ = l.place in
      let there : n ≡ 1 + place = l.is in
      let x = mapped_at f (slice_get xs place) l.trial (sym (slice_get-map f xs place) ∙ l.at) in
      let parts = and_parts (not l.trial.inserted) (is_in l.trial.regs r) l.passes in
      record {
        counted = omega (arith, there);
        item = x.0;
        at = ap (slice_get xs) (let e : n - 1 ≡ place = omega (arith, there) in e) ∙ x.1;
        among = ap (λ (t : Trial). is_in t.regs r) x.2 ∙ parts.1;
        last = λ k y at.
            has_none (f y).inserted (is_in (f y).regs r) (none_pass (gave r) 1 (map f xs) none (n + k) (f y) (at_place (n + k) y at))
            (l.later (n + k) (f y) (omega (arith, there)) (at_place (n + k) y at));
      }
