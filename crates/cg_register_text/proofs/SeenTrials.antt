-- What was tried for each register, trial by trial.
use Rattle.std.proofs.Common.{◌≡◌, ◌≢◌, ℕ, zero, suc, ◌+◌, ◌<◌, Bool, true, false, not, ◌&&◌, ◌||◌, if◌then◌else◌, List, [], ◌∷◌, ◌++◌}
use Rattle.std.proofs.Common.{length, replicate, take, slice_get, slice_set, nat_eq, nat_lt, Option, None, Some, refl, sym, ap, ◌∙◌, arith, inl, inr}
use Rattle.std.specs.Option.{option_map_or}
use Rattle.std.proofs.lemmas.Bool.{eq-eqb, lt-ltb, ne_eqb, or_left}
use Rattle.std.proofs.lemmas.List.{length-replicate, length-set, length-take-le}
use Rattle.std.proofs.lemmas.Option.{none-some, same_Some, slice_get_within}
use Rattle.cg_net.specs.NetSets.{is_in}
use Rattle.cg_net.proofs.Members.{is_in-append, is_in_right}
use Rattle.cg_net.proofs.TableLemmas.{same_or_not, slice_get-set_other, slice_get-set_same, take_next}
use Rattle.cg_register_text.specs.declared.seen.Seen.{Seen}
use Rattle.cg_register_text.specs.Trials.{Trial, failed, gave, givers, last_failed, last_of, numbers_from}
use Rattle.cg_register_text.specs.inner.Seeing.{AreNoted, AreSeen, ends_with, noted, noted_at, seen_of, unseen, with_number}

-- the last of some numbers
pub last_more : (ns : List ℕ) (n : ℕ) → last_of (ns ++ n ∷ []) ≡ Some n
last_more [] n = refl
last_more (k ∷ []) n = refl
last_more (k ∷ j ∷ ns) n = last_more (j ∷ ns) n

-- the last stands at the last place
pub last_at : (ns : List ℕ) (k v : ℕ) → suc k ≡ length ns → slice_get ns k ≡ Some v → last_of ns ≡ Some v
last_at [] k v last at = absurd (omega (arith, last))
last_at (n ∷ []) zero v last at = at
last_at (n ∷ []) (suc k) v last at = absurd (omega (arith, last))
last_at (n ∷ m ∷ ns) zero v last at = absurd (omega (arith, last))
last_at (n ∷ m ∷ ns) (suc k) v last at = last_at (m ∷ ns) k v (omega (arith, last)) at

-- one trial more
pub numbers_more : (test : Trial → Bool) (number : ℕ) (trials : List Trial) (t : Trial) → numbers_from test number (trials ++ t ∷ []) ≡ numbers_from test number trials ++ (if test t then (number + length trials) ∷ [] else [])
numbers_more test number [] t = ap (λ n. if test t then n ∷ [] else []) (omega arith)
numbers_more test number (u ∷ trials) t =
    go (numbers_more test (number + 1) trials t ∙ ap (λ n. numbers_from test (number + 1) trials ++ (if test t then n ∷ [] else [])) (omega arith)) (test u)
  where
    go : numbers_from test (number + 1) (trials ++ t ∷ []) ≡ numbers_from test (number + 1) trials ++ (if test t then (number + length (u ∷ trials)) ∷ [] else [])
        → (b : Bool) → (if b then number ∷ numbers_from test (number + 1) (trials ++ t ∷ []) else numbers_from test (number + 1) (trials ++ t ∷ []))
        ≡ (if b then number ∷ numbers_from test (number + 1) trials else numbers_from test (number + 1) trials) ++ (if test t then (number + length (u ∷ trials)) ∷ [] else [])
    go rest true = ap (λ l. number ∷ l) rest
    go rest false = rest

-- numbers are those of trials
pub last_below : (test : Trial → Bool) (number : ℕ) (trials : List Trial) (n : ℕ) → last_of (numbers_from test number trials) ≡ Some n → n < number + length trials
last_below test number [] n is = absurd (none-some n is)
last_below test number (u ∷ trials) n is =
    go (λ h. let b = last_below test (number + 1) trials n h in omega (arith, b)) (test u) (numbers_from test (number + 1) trials) refl is
  where
    go : (last_of (numbers_from test (number + 1) trials) ≡ Some n → n < number + length (u ∷ trials)) → (b : Bool) (rest : List ℕ) → numbers_from test (number + 1) trials ≡ rest → last_of (if b then number ∷ rest else rest) ≡ Some n → n < number + length (u ∷ trials)
    go later false rest are h = later (ap last_of are ∙ h)
    go later true [] are h = let same : number ≡ n = same_Some number n h in omega (arith, same)
    go later true (k ∷ rest) are h = later (ap last_of are ∙ h)

-- a number that no trial has is behind all others
apart : (number : ℕ) (o : Option ℕ) → ((n : ℕ) → o ≡ Some n → n < number) → option_map_or (λ last. nat_eq last number) o false ≡ false
apart number None below = refl
apart number (Some n) below = ne_eqb n number (λ same. let b = below n refl in let no : ⊥ = omega (arith, b, same) in no)

pub with_fresh : (test : Trial → Bool) (trials : List Trial) → with_number (numbers_from test 1 trials) (1 + length trials) ≡ numbers_from test 1 trials ++ (1 + length trials) ∷ []
with_fresh test trials =
    ap (λ b. if b then numbers_from test 1 trials else numbers_from test 1 trials ++ (1 + length trials) ∷ [])
    (apart (1 + length trials) (last_of (numbers_from test 1 trials)) (λ n is. last_below test 1 trials n is))

-- what a trial more is for a register
failed_more : (ns : List ℕ) (n : ℕ) (b : Bool) → last_of (ns ++ (if b then n ∷ [] else [])) ≡ (if b then Some n else last_of ns)
failed_more ns n true = last_more ns n
failed_more ns n false = ap last_of (append_nil ns)
  where
    append_nil : (l : List ℕ) → l ++ [] ≡ l
    append_nil [] = refl
    append_nil (x ∷ l) = ap (λ k. x ∷ k) (append_nil l)

pub seen_more : (trials : List Trial) (t : Trial) (r : ℕ) → seen_of (trials ++ t ∷ []) r ≡ (if is_in t.regs r then noted (1 + length trials) t.inserted (seen_of trials r) else seen_of trials r)
seen_more trials t r = by_parts ∙ go t.inserted (is_in t.regs r)
  where
    nil : (l : List ℕ) → l ++ [] ≡ l
    nil [] = refl
    nil (x ∷ l) = ap (λ k. x ∷ k) (nil l)

    by_parts : seen_of (trials ++ t ∷ []) r
        ≡ record {
          givers = givers trials r ++ (if t.inserted && is_in t.regs r then (1 + length trials) ∷ [] else []);
          failed = if not t.inserted && is_in t.regs r then Some (1 + length trials) else last_failed trials r;
        }
    by_parts =
        let g = numbers_more (gave r) 1 trials t in
        let f = ap last_of (numbers_more (failed r) 1 trials t) ∙ failed_more (numbers_from (failed r) 1 trials) (1 + length trials) (failed r t) in
        λ i. record { givers = g i; failed = f i }

    go : (inserted among : Bool) →
        (let both : Seen = record {
          givers = givers trials r ++ (if inserted && among then (1 + length trials) ∷ [] else []);
          failed = if not inserted && among then Some (1 + length trials) else last_failed trials r;
        } in both)
        ≡ (if among then noted (1 + length trials) inserted (seen_of trials r) else seen_of trials r)
    go true true = ap (λ l. record { givers = l; failed = last_failed trials r }) (sym (with_fresh (gave r) trials))
    go true false = ap (λ l. record { givers = l; failed = last_failed trials r }) (nil (givers trials r))
    go false true = ap (λ l. record { givers = l; failed = Some (1 + length trials) }) (nil (givers trials r))
    go false false = ap (λ l. record { givers = l; failed = last_failed trials r }) (nil (givers trials r))

-- a trial that is noted twice is noted once
with_again : (ns : List ℕ) (n : ℕ) → with_number (with_number ns n) n ≡ with_number ns n
with_again ns n = go (ends_with ns n) refl
  where
    put : Bool → List ℕ → List ℕ
    put b l = if b then l else l ++ n ∷ []

    behind : ends_with (ns ++ n ∷ []) n ≡ true
    behind = ap (λ o. option_map_or (λ last. nat_eq last n) o false) (last_more ns n) ∙ eq-eqb n n refl

    go : (b : Bool) → ends_with ns n ≡ b → with_number (if b then ns else ns ++ n ∷ []) n ≡ (if b then ns else ns ++ n ∷ [])
    go true is = ap (λ b. if b then ns else ns ++ n ∷ []) is
    go false is = ap (λ b. if b then ns ++ n ∷ [] else (ns ++ n ∷ []) ++ n ∷ []) behind

noted_again : (n : ℕ) (inserted : Bool) (s : Seen) → noted n inserted (noted n inserted s) ≡ noted n inserted s
noted_again n true s = ap (λ l. record { givers = l; failed = s.failed }) (with_again s.givers n)
noted_again n false s = refl

-- registers one after another
pub noted_none : (n : ℕ) (inserted : Bool) (old : List Seen) → AreNoted [] n inserted old old
noted_none n inserted old = record { long = refl; each = λ r s at. at }

module _ (n : ℕ) (inserted : Bool) where
  more_long : (q : ℕ) (new : List Seen) → length (noted_at q n inserted new) ≡ length new
  more_long q new = go (nat_lt q (length new))
    where
      v : Seen
      v = noted n inserted (option_map_or (λ s. s) (slice_get new q) unseen)

      go : (b : Bool) → length (if b then slice_set new q v else new) ≡ length new
      go true = length-set new q v
      go false = refl

  at_other : (q r : ℕ) (new : List Seen) → r ≢ q → slice_get (noted_at q n inserted new) r ≡ slice_get new r
  at_other q r new other = go (nat_lt q (length new))
    where
      v : Seen
      v = noted n inserted (option_map_or (λ s. s) (slice_get new q) unseen)

      go : (b : Bool) → slice_get (if b then slice_set new q v else new) r ≡ slice_get new r
      go true = slice_get-set_other new q r v other
      go false = refl

  at_same : (q : ℕ) (new : List Seen) (s : Seen) → slice_get new q ≡ Some s → slice_get (noted_at q n inserted new) q ≡ Some (noted n inserted s)
  at_same q new s at =
      let v : Option Seen → Seen = λ o. noted n inserted (option_map_or (λ t. t) o unseen) in
      let within : q < length new = slice_get_within new q s at in
      ap (λ b. slice_get (if b then slice_set new q (v (slice_get new q)) else new) q) (lt-ltb q (length new) within)
      ∙ (slice_get-set_same new q (v (slice_get new q)) within ∙ ap (λ o. Some (v o)) at)

  pub noted_more : (regs : List ℕ) (q : ℕ) (old new : List Seen) → AreNoted regs n inserted old new → AreNoted (regs ++ q ∷ []) n inserted old (noted_at q n inserted new)
  noted_more regs q old new noted_so = record {
    long = more_long q new ∙ noted_so.long;
    each = λ r s at. elim (same_or_not r q) [
      | inl same ↦ here r s at same (is_in regs r) (noted_so.each r s at)
      | inr other ↦ at_other q r new other ∙ (noted_so.each r s at ∙ ap (λ b. Some (if b then noted n inserted s else s)) (sym (in_more r other)))
    ];
  }
    where
      in_more : (r : ℕ) → r ≢ q → is_in (regs ++ q ∷ []) r ≡ is_in regs r
      in_more r other = is_in-append regs (q ∷ []) r ∙ (ap (λ b. is_in regs r || (b || false)) (ne_eqb r q other) ∙ or_none (is_in regs r))
        where
          or_none : (b : Bool) → (b || false) ≡ b
          or_none true = refl
          or_none false = refl

      among : (r : ℕ) → r ≡ q → is_in (regs ++ q ∷ []) r ≡ true
      among r same = is_in_right regs (q ∷ []) r (or_left (nat_eq r q) false (eq-eqb r q same))

      once : (s : Seen) (b : Bool) → noted n inserted (if b then noted n inserted s else s) ≡ noted n inserted s
      once s true = noted_again n inserted s
      once s false = refl

      here : (r : ℕ) (s : Seen) → slice_get old r ≡ Some s → r ≡ q → (b : Bool) → slice_get new r ≡ Some (if b then noted n inserted s else s) → slice_get (noted_at q n inserted new) r ≡ Some (if is_in (regs ++ q ∷ []) r then noted n inserted s else s)
      here r s at same b was =
          ap (slice_get (noted_at q n inserted new)) same
          ∙ (at_same q new (if b then noted n inserted s else s) (sym (ap (slice_get new) same) ∙ was)
          ∙ (ap Some (once s b) ∙ ap (λ a. Some (if a then noted n inserted s else s)) (sym (among r same))))

-- trials one after another
abbrev nothing : Seen
nothing = unseen

pub seen_none : (n : ℕ) → AreSeen n [] (replicate n unseen)
seen_none n = record { long = length-replicate n unseen; each = λ r below. at r n below }
  where
    at : (r n : ℕ) → r < n → slice_get (replicate n nothing) r ≡ Some nothing
    at r zero below = absurd (omega arith)
    at zero (suc n) below = refl
    at (suc r) (suc n) below = at r n (omega arith)

pub seen_on : (n k : ℕ) (trials : List Trial) (t : Trial) (old new : List Seen) → slice_get trials k ≡ Some t → AreSeen n (take k trials) old → AreNoted t.regs (k + 1) t.inserted old new → AreSeen n (take (k + 1) trials) new
seen_on n k trials t old new at seen noted_so =
    let more : take (k + 1) trials ≡ take k trials ++ t ∷ [] = take_next trials k t at in
    let within : k < length trials = slice_get_within trials k t at in
    let long : length (take k trials) ≡ k = length-take-le k trials (omega arith) in
    let number : k + 1 ≡ 1 + length (take k trials) = omega (arith, long) in
    record {
      long = noted_so.long ∙ seen.long;
      each = λ r below.
          noted_so.each r (seen_of (take k trials) r) (seen.each r below)
          ∙ (ap (λ j. Some (if is_in t.regs r then noted j t.inserted (seen_of (take k trials) r) else seen_of (take k trials) r)) number
          ∙ (ap Some (sym (seen_more (take k trials) t r)) ∙ ap (λ l. Some (seen_of l r)) (sym more)));
    }
