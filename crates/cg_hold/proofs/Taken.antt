-- What came of the first registers, one register after another.
use Rattle.std.proofs.Common.{◌≡◌, ℕ, zero, suc, ◌+◌, ◌*◌, ◌<◌, ◌≤◌, Bool, true, false, ◌||◌, ◌&&◌, cond, if◌then◌else◌}
use Rattle.std.proofs.Common.{List, [], ◌∷◌, ◌++◌, map, length, replicate, nat_eq, nat_lt, slice_get, slice_index_or, slice_set}
use Rattle.std.proofs.Common.{is_none, is_some, OnOk, unwrap_or, append_assoc, Option, Some, None, Result, Ok, Err, refl, sym, ◌∙◌}
use Rattle.std.proofs.Common.{ap, arith, ◌⊎◌, inl, inr}
use Rattle.std.specs.List.{cons_option, count_by, filter, filter_map, find, list_any, range_with_len}
use Rattle.std.specs.Option.{option_map_or}
use Rattle.std.proofs.lemmas.Bool.{and_parts, both_ways, eqb-true, eq-eqb, or_cases, or_left, or_right}
use Rattle.std.proofs.lemmas.Bool.Decides.{eqb_tells}
use Rattle.std.proofs.lemmas.Grind.{flat_map-append}
use Rattle.std.proofs.lemmas.List.{append-nil, length-replicate, length-set}
use Rattle.std.proofs.lemmas.List.Sums.{count_by-le-length, sum_by-append}
use Rattle.std.proofs.lemmas.List.Folds.{list_any-append}
use Rattle.std.proofs.lemmas.List.Elements.{filter-append, filter_map-append}
use Rattle.std.proofs.lemmas.Option.{slice_get-get_or, unwrap_or-slice_get}
use Rattle.cg_stage_groups.proofs.Ordered.{range_more}
use Rattle.cg_limit.specs.declared.Limit.TheVariants.{ClaimNodes}
use Rattle.cg_claim.specs.Question.{hold_question}
use Rattle.cg_netlist.proofs.Driven.{is_in-range}
use Rattle.cg_stage_list_laws.specs.HoldList.{choices, chosen, chosen_regs, hold_list, hold_passes, hold_stage, hold_wide}
use Rattle.cg_stage_list_laws.specs.HoldList.{hold_width, is_large, serves, unless_empty, up_to}
use Rattle.cg_stage_list_laws.specs.Literals.{ZeroCounts, both_literals, literals_of, same_bool, same_literal}
use Rattle.cg_stage_list_laws.specs.Supports.{free_registers}
use Rattle.cg_machine.specs.Claims.{Literal}
use Rattle.cg_machine.specs.Machine.{MachineData, enable_of}
use Rattle.cg_machine.specs.declared.stage.Stage.{Stage}
use Rattle.cg_net.proofs.TableLemmas.{slice_get-set_other, slice_get-set_same}
use Rattle.cg_net.specs.NetSets.{is_in}
use Rattle.cg_netlist.specs.declared.fault.AddFault.{AddFault}
use Rattle.cg_netlist.specs.declared.fault.AddFault.TheVariants.{Limit as LimitFault, NoMemory}
use Rattle.cg_hold.specs.declared.choice.Choice.{Choice}
use Rattle.cg_hold.specs.declared.choice.Choice.TheVariants.{Wide, Takes}
use Rattle.cg_hold.specs.HoldAnswer.{hold_answer}
use Rattle.cg_hold.specs.declared.candidates.HoldFound.{HoldFound}
use Rattle.cg_hold.specs.inner.Choosing.{AreChosen, FitsChoice, choice_by, free_to, list_at, passes_at, stage_at}
use Rattle.cg_hold.specs.inner.Choosing.{wide_by, with_choice}
use Rattle.cg_hold.specs.inner.Packed.{literal_place}
use Rattle.std.proofs.Math.Bool.{or-false}
use Rattle.cg_netlist.proofs.Filtered.{to_filter}

-- what a choice takes, and whether it is too wide
abbrev option_of : Choice → Option Literal
option_of Wide = None
option_of (Takes o) = o

abbrev is_wide : Choice → Bool
is_wide Wide = true
is_wide (Takes o) = false

wide_one : (c : Choice) → wide_by c ≡ (if is_wide c then 1 else 0)
wide_one Wide = refl
wide_one (Takes o) = refl

-- a literal by its place
same_is : (l k : Literal) → same_literal l k ≡ true → literal_place l ≡ literal_place k
same_is l k same =
    let p = and_parts (nat_eq l.0 k.0) (same_bool l.1 k.1) same in
    go (eqb-true l.0 k.0 p.0) l.1 k.1 p.1
  where
    go : l.0 ≡ k.0 → (a b : Bool) → same_bool a b ≡ true → 2 * l.0 + (if a then 1 else 0) ≡ 2 * k.0 + (if b then 1 else 0)
    go e true true h = ap (λ n. 2 * n + 1) e
    go e true false h = absurd (both_ways false refl h)
    go e false true h = absurd (both_ways false refl h)
    go e false false h = ap (λ n. 2 * n + 0) e

place_is : (l k : Literal) → literal_place l ≡ literal_place k → same_literal l k ≡ true
place_is l k e = go l.1 k.1 e
  where
    net : (x y : ℕ) (b : Bool) → x ≡ y → (nat_eq x y && true) ≡ true
    net x y b same = ap (λ z. z && true) (eq-eqb x y same)

    go : (a b : Bool) → 2 * l.0 + (if a then 1 else 0) ≡ 2 * k.0 + (if b then 1 else 0) → (nat_eq l.0 k.0 && same_bool a b) ≡ true
    go true true h = net l.0 k.0 true (omega (arith, h))
    go true false h = absurd (omega (arith, h))
    go false true h = absurd (omega (arith, h))
    go false false h = net l.0 k.0 true (omega (arith, h))

same_place : (l k : Literal) → nat_eq (literal_place l) (literal_place k) ≡ same_literal l k
same_place l k = truth (nat_eq (literal_place l) (literal_place k)) (same_literal l k) (λ h. place_is l k (eqb-true (literal_place l) (literal_place k) h)) (λ h. eq-eqb (literal_place l) (literal_place k) (same_is l k h))
  where
    truth : (x y : Bool) → (x ≡ true → y ≡ true) → (y ≡ true → x ≡ true) → x ≡ y
    truth true y there back = sym (there refl)
    truth false true there back = back refl
    truth false false there back = refl

-- the list of a literal, with one more register or not
pub index_list : (lists : List (List ℕ)) (k : ℕ) → slice_index_or lists k [] ≡ list_at lists k
index_list lists k = sym (unwrap_or-slice_get lists k []) ∙ go (slice_get lists k)
  where
    go : (o : Option (List ℕ)) → unwrap_or o [] ≡ option_map_or (λ (l : List ℕ). l) o []
    go None = refl
    go (Some l) = refl

list_with : (lists : List (List ℕ)) (choice : Choice) (r : ℕ) (l : Literal) → FitsChoice (length lists) choice → list_at (with_choice lists choice r) (literal_place l) ≡ list_at lists (literal_place l) ++ (if option_map_or (same_literal l) (option_of choice) false then r ∷ [] else [])
list_with lists Wide r l fits = sym (append-nil (list_at lists (literal_place l)))
list_with lists (Takes None) r l fits = sym (append-nil (list_at lists (literal_place l)))
list_with lists (Takes (Some k)) r l fits = elim (eqb_tells (literal_place l) (literal_place k)) [
  | inl same ↦
      ap (λ z. list_at (slice_set lists (literal_place k) (slice_index_or lists (literal_place k) [] ++ r ∷ [])) z) same.1
      ∙ (ap (λ o. option_map_or (λ (x : List ℕ). x) o []) (slice_get-set_same lists (literal_place k) (slice_index_or lists (literal_place k) [] ++ r ∷ []) fits)
      ∙ (ap (λ x. x ++ r ∷ []) (index_list lists (literal_place k) ∙ ap (list_at lists) (sym same.1))
      ∙ ap (λ b. list_at lists (literal_place l) ++ (if b then r ∷ [] else [])) (sym (sym (same_place l k) ∙ same.0))))
  | inr other ↦
      ap (λ o. option_map_or (λ (x : List ℕ). x) o []) (slice_get-set_other lists (literal_place k) (literal_place l) (slice_index_or lists (literal_place k) [] ++ r ∷ []) other.1)
      ∙ (sym (append-nil (list_at lists (literal_place l))) ∙ ap (λ b. list_at lists (literal_place l) ++ (if b then r ∷ [] else [])) (sym (sym (same_place l k) ∙ other.0)))
]

pub with_length : (lists : List (List ℕ)) (choice : Choice) (r : ℕ) → length (with_choice lists choice r) ≡ length lists
with_length lists Wide r = refl
with_length lists (Takes None) r = refl
with_length lists (Takes (Some k)) r = length-set lists (literal_place k) (slice_index_or lists (literal_place k) [] ++ r ∷ [])

module _ (m : MachineData) (counts : Option ZeroCounts) (width : ℕ) where
  -- what a choice says of a register
  record Says (r : ℕ) (choice : Choice) : Type 0 where
    within : passes_at m counts width r ≡ false
    wide : nat_lt width (hold_width m r) ≡ is_wide choice
    takes : chosen m counts width r ≡ option_of choice

  abbrev U : ℕ → List Literal
  U r = up_to (serves m r) (literals_of m counts r)

  large_parts : (r : ℕ) (w : Bool) → list_any (λ l. is_large m (hold_question l r)) (if w then [] else U r) ≡ (if w then false else list_any (λ l. is_large m (hold_question l r)) (U r))
  large_parts r true = refl
  large_parts r false = refl

  -- the parts of a choice
  abbrev parts : Bool → Bool → Option Literal → Result Choice AddFault
  parts w a o = if w then Ok Wide else if a then Err (LimitFault ClaimNodes) else Ok (Takes o)

  says : (r : ℕ) (choice : Choice) → choice_by m width r (literals_of m counts r) ≡ Ok choice → Says r choice
  says r choice is =
      let p = go (nat_lt width (hold_width m r)) (list_any (λ l. is_large m (hold_question l r)) (U r)) (find (serves m r) (literals_of m counts r)) is in
      record { within = large_parts r (nat_lt width (hold_width m r)) ∙ p.2; wide = p.0; takes = p.1 }
    where
      go : (w a : Bool) (found : Option Literal) → parts w a found ≡ Ok choice
          → (w ≡ is_wide choice) × ((if w then None else found) ≡ option_of choice) × ((if w then false else a) ≡ false)
      go true a found h = let e : Wide ≡ choice = cc in (ap is_wide e, ap option_of e, refl)
      go false true found h = absurd (cc)
      go false false found h = let e : Takes found ≡ choice = cc in (ap is_wide e, ap option_of e, refl)

  pub refused : (r : ℕ) (f : AddFault) → choice_by m width r (literals_of m counts r) ≡ Err f → (f ≡ LimitFault ClaimNodes) × (passes_at m counts width r ≡ true)
  refused r f is =
      let p = go (nat_lt width (hold_width m r)) (list_any (λ l. is_large m (hold_question l r)) (U r)) (find (serves m r) (literals_of m counts r)) is in
      (p.0, large_parts r (nat_lt width (hold_width m r)) ∙ p.1)
    where
      go : (w a : Bool) (found : Option Literal) → parts w a found ≡ Err f
          → (f ≡ LimitFault ClaimNodes) × ((if w then false else a) ≡ true)
      go true a found h = absurd (cc)
      go false true found h = (cc, refl)
      go false false found h = absurd (cc)

  -- the registers without an enable, with one more or not
  free_more : (n : ℕ) → free_to m (n + 1) ≡ free_to m n ++ cond (is_none (enable_of m n)) (n ∷ []) []
  free_more n = ap (filter (λ r. is_none (enable_of m r))) (range_more n) ∙ filter-append (λ r. is_none (enable_of m r)) (range_with_len 0 n) (n ∷ [])

  free_same : (n : ℕ) → is_none (enable_of m n) ≡ false → free_to m (n + 1) ≡ free_to m n
  free_same n enabled = free_more n ∙ (ap (λ b. free_to m n ++ cond b (n ∷ []) []) enabled ∙ append-nil (free_to m n))

  free_next : (n : ℕ) → is_none (enable_of m n) ≡ true → free_to m (n + 1) ≡ free_to m n ++ n ∷ []
  free_next n free = free_more n ∙ ap (λ b. free_to m n ++ cond b (n ∷ []) []) free

  pub chosen_same : (n : ℕ) (lists : List (List ℕ)) (wide : ℕ) → is_none (enable_of m n) ≡ false → AreChosen m counts width n lists wide → AreChosen m counts width (n + 1) lists wide
  chosen_same n lists wide enabled are = record {
    count = are.count;
    each = λ l within. are.each l within ∙ ap (λ rs. chosen_regs (map (λ (r : ℕ). (r, chosen m counts width r)) rs) l) (sym (free_same n enabled));
    wide_is = are.wide_is ∙ ap (count_by (λ r. nat_lt width (hold_width m r))) (sym (free_same n enabled));
    within = ap (list_any (passes_at m counts width)) (free_same n enabled) ∙ are.within;
  }

  chosen_more : (n : ℕ) (l : Literal) (rs : List ℕ) → chosen_regs (map (λ (r : ℕ). (r, chosen m counts width r)) (rs ++ n ∷ [])) l ≡ chosen_regs (map (λ (r : ℕ). (r, chosen m counts width r)) rs) l ++ (if option_map_or (same_literal l) (chosen m counts width n) false then n ∷ [] else [])
  chosen_more n l [] = go (option_map_or (same_literal l) (chosen m counts width n) false)
    where
      go : (b : Bool) → map (λ (c : ℕ × Option Literal). c.0) (cond b ((n, chosen m counts width n) ∷ []) []) ≡ (if b then n ∷ [] else [])
      go true = refl
      go false = refl
  chosen_more n l (r ∷ rs) = go (option_map_or (same_literal l) (chosen m counts width r) false) (chosen_more n l rs)
    where
      go : (b : Bool) → chosen_regs (map (λ (q : ℕ). (q, chosen m counts width q)) (rs ++ n ∷ [])) l ≡ chosen_regs (map (λ (q : ℕ). (q, chosen m counts width q)) rs) l ++ (if option_map_or (same_literal l) (chosen m counts width n) false then n ∷ [] else [])
          → map (λ (c : ℕ × Option Literal). c.0) (cond b ((r, chosen m counts width r) ∷ filter (λ (c : ℕ × Option Literal). option_map_or (same_literal l) c.1 false) (map (λ (q : ℕ). (q, chosen m counts width q)) (rs ++ n ∷ []))) (filter (λ (c : ℕ × Option Literal). option_map_or (same_literal l) c.1 false) (map (λ (q : ℕ). (q, chosen m counts width q)) (rs ++ n ∷ []))))
          ≡ map (λ (c : ℕ × Option Literal). c.0) (cond b ((r, chosen m counts width r) ∷ filter (λ (c : ℕ × Option Literal). option_map_or (same_literal l) c.1 false) (map (λ (q : ℕ). (q, chosen m counts width q)) rs)) (filter (λ (c : ℕ × Option Literal). option_map_or (same_literal l) c.1 false) (map (λ (q : ℕ). (q, chosen m counts width q)) rs))) ++ (if option_map_or (same_literal l) (chosen m counts width n) false then n ∷ [] else [])
      go true rest = ap (λ xs. r ∷ xs) rest
      go false rest = rest

  count_one : (n : ℕ) (rs : List ℕ) → count_by (λ r. nat_lt width (hold_width m r)) (rs ++ n ∷ []) ≡ count_by (λ r. nat_lt width (hold_width m r)) rs + (if nat_lt width (hold_width m n) then 1 else 0)
  count_one n rs = sum_by-append (λ r. cond (nat_lt width (hold_width m r)) 1 0) rs (n ∷ []) ∙ ap (λ k. count_by (λ r. nat_lt width (hold_width m r)) rs + k) (go (nat_lt width (hold_width m n)))
    where
      go : (b : Bool) → 0 + cond b 1 0 ≡ (if b then 1 else 0)
      go true = refl
      go false = refl

  pub chosen_next : (n : ℕ) (lists : List (List ℕ)) (wide : ℕ) (choice : Choice) (after : List (List ℕ)) (more : ℕ) → is_none (enable_of m n) ≡ true → AreChosen m counts width n lists wide → choice_by m width n (literals_of m counts n) ≡ Ok choice → FitsChoice (length lists) choice
      → after ≡ with_choice lists choice n → more ≡ wide + wide_by choice → AreChosen m counts width (n + 1) after more
  chosen_next n lists wide choice after more free are is fits put counted =
      let s = says n choice is in
      record {
        count = ap length put ∙ (with_length lists choice n ∙ are.count);
        each = λ l within.
            ap (λ xs. list_at xs (literal_place l)) put
            ∙ (list_with lists choice n l fits
            ∙ (ap (λ o. list_at lists (literal_place l) ++ (if option_map_or (same_literal l) o false then n ∷ [] else [])) (sym s.takes)
            ∙ (ap (λ xs. xs ++ (if option_map_or (same_literal l) (chosen m counts width n) false then n ∷ [] else [])) (are.each l within)
            ∙ (sym (chosen_more n l (free_to m n)) ∙ ap (λ rs. chosen_regs (map (λ (r : ℕ). (r, chosen m counts width r)) rs) l) (sym (free_next n free))))));
        wide_is =
            counted
            ∙ (ap (λ k. k + wide_by choice) are.wide_is
            ∙ (ap (λ k. count_by (λ r. nat_lt width (hold_width m r)) (free_to m n) + k) (wide_one choice ∙ ap (λ b. if b then 1 else 0) (sym s.wide))
            ∙ (sym (count_one n (free_to m n)) ∙ ap (count_by (λ r. nat_lt width (hold_width m r))) (sym (free_next n free)))));
        within =
            ap (list_any (passes_at m counts width)) (free_next n free)
            ∙ (list_any-append (passes_at m counts width) (free_to m n) (n ∷ []) ∙ (ap (λ b. b || (passes_at m counts width n || false)) are.within ∙ (or-false (passes_at m counts width n) ∙ s.within)));
      }

  -- the number of those that are too wide is small
  range_length : (n a : ℕ) → length (range_with_len a n) ≡ n
  range_length zero a = refl
  range_length (suc n) a = ap suc (range_length n (a + 1))

  filter_less : (test : ℕ → Bool) (xs : List ℕ) → length (filter test xs) ≤ length xs
  filter_less test [] = omega arith
  filter_less test (x ∷ xs) = go (test x) (filter_less test xs)
    where
      go : (b : Bool) → length (filter test xs) ≤ length xs → length (cond b (x ∷ filter test xs) (filter test xs)) ≤ suc (length xs)
      go true rest = omega (arith, rest)
      go false rest = omega (arith, rest)

  pub wide_small : (n : ℕ) (lists : List (List ℕ)) (wide : ℕ) → AreChosen m counts width n lists wide → wide ≤ n
  wide_small n lists wide are =
      let a = count_by-le-length (λ r. nat_lt width (hold_width m r)) (free_to m n) in
      let b = filter_less (λ r. is_none (enable_of m r)) (range_with_len 0 n) in
      let c = range_length n 0 in
      omega (arith, are.wide_is, a, b, c)

  -- at the start
  pub chosen_none : (lists : List (List ℕ)) (wide : ℕ) → lists ≡ replicate (2 * length m.circuit.names) [] → wide ≡ 0 → AreChosen m counts width 0 lists wide
  chosen_none lists wide empty zeroed = record {
    count = ap length empty ∙ length-replicate (2 * length m.circuit.names) [];
    each = λ l within. ap (λ xs. list_at xs (literal_place l)) empty ∙ none_at (2 * length m.circuit.names) (literal_place l);
    wide_is = zeroed;
    within = refl;
  }
    where
      none_at : (n k : ℕ) → list_at (replicate n []) k ≡ []
      none_at zero k = refl
      none_at (suc n) zero = refl
      none_at (suc n) (suc k) = none_at n k

  -- where one register passes the limit, the list does
  any_in : (test : ℕ → Bool) (xs : List ℕ) (x : ℕ) → is_in xs x ≡ true → test x ≡ true → list_any test xs ≡ true
  any_in test [] x among passes = absurd (both_ways false refl among)
  any_in test (y ∷ xs) x among passes = elim (or_cases (nat_eq x y) (is_in xs x) among) [
    | inl same ↦ or_left (test y) (list_any test xs) (ap test (sym (eqb-true x y same)) ∙ passes)
    | inr later ↦ or_right (test y) (list_any test xs) (any_in test xs x later passes)
  ]

  pub passing : (r : ℕ) → r < m.own_registers → is_none (enable_of m r) ≡ true → passes_at m counts width r ≡ true → hold_passes m counts width ≡ true
  passing r own free passes = any_in (passes_at m counts width) (free_registers m) r (to_filter (λ k. is_none (enable_of m k)) (range_with_len 0 m.own_registers) r (is_in-range m.own_registers 0 r (omega arith) (omega arith)) free) passes

  -- the stages
  same_maps : (lists : List (List ℕ)) (n a : ℕ) → ((l : Literal) → l.0 < a + n → list_at lists (literal_place l) ≡ chosen_regs (choices m counts width) l)
      → filter_map (stage_at lists) (both_literals (range_with_len a n)) ≡ filter_map (λ l. unless_empty (hold_stage l) (chosen_regs (choices m counts width) l)) (both_literals (range_with_len a n))
  same_maps lists zero a same = refl
  same_maps lists (suc n) a same =
      let rest = same_maps lists n (a + 1) (λ l within. same l (omega (arith, within))) in
      ap (λ rs. cons_option (unless_empty (hold_stage (a, false)) rs) (cons_option (stage_at lists (a, true)) (filter_map (stage_at lists) (both_literals (range_with_len (a + 1) n))))) (same (a, false) (omega arith))
      ∙ (ap (λ rs. cons_option (unless_empty (hold_stage (a, false)) (chosen_regs (choices m counts width) (a, false))) (cons_option (unless_empty (hold_stage (a, true)) rs) (filter_map (stage_at lists) (both_literals (range_with_len (a + 1) n))))) (same (a, true) (omega arith))
      ∙ ap (λ xs. cons_option (unless_empty (hold_stage (a, false)) (chosen_regs (choices m counts width) (a, false))) (cons_option (unless_empty (hold_stage (a, true)) (chosen_regs (choices m counts width) (a, true))) xs)) rest)

  pub stages_are : (lists : List (List ℕ)) (wide : ℕ) → AreChosen m counts width m.own_registers lists wide → filter_map (stage_at lists) (both_literals (range_with_len 0 (length m.circuit.names))) ≡ hold_list m counts width
  stages_are lists wide are = same_maps lists (length m.circuit.names) 0 (λ l within. are.each l (omega (arith, within)))

  -- the whole answer
  abbrev answer : Bool → List Stage → ℕ → Result HoldFound AddFault
  answer passes stages wide = if passes then Err (LimitFault ClaimNodes) else Ok (record { stages = stages; wide = wide })

  pub answered : (lists : List (List ℕ)) (wide : ℕ) (stages : List Stage) → AreChosen m counts width m.own_registers lists wide → stages ≡ filter_map (stage_at lists) (both_literals (range_with_len 0 (length m.circuit.names)))
      → hold_answer m counts width ≡ Ok (record { stages = stages; wide = wide })
  answered lists wide stages are made =
      ap (λ b. answer b (hold_list m counts width) (hold_wide m width)) are.within
      ∙ (ap (λ s. answer false s (hold_wide m width)) (sym (made ∙ stages_are lists wide are)) ∙ ap (λ w. answer false stages w) (sym are.wide_is))

  pub unanswered : (f : AddFault) → f ≡ LimitFault ClaimNodes → hold_passes m counts width ≡ true → hold_answer m counts width ≡ Err f
  unanswered f is passes = ap (λ b. answer b (hold_list m counts width) (hold_wide m width)) passes ∙ cc

-- the stages of one net more
pub both_more : (lists : List (List ℕ)) (n : ℕ) (before one two : List Stage) → before ≡ filter_map (stage_at lists) (both_literals (range_with_len 0 n)) → one ≡ before ++ cons_option (stage_at lists (n, false)) [] → two ≡ one ++ cons_option (stage_at lists (n, true)) []
    → two ≡ filter_map (stage_at lists) (both_literals (range_with_len 0 (n + 1)))
both_more lists n before one two so_far first second =
    second
    ∙ (ap (λ l. l ++ cons_option (stage_at lists (n, true)) []) (first ∙ ap (λ l. l ++ cons_option (stage_at lists (n, false)) []) so_far)
    ∙ (append_assoc (filter_map (stage_at lists) (both_literals (range_with_len 0 n))) (cons_option (stage_at lists (n, false)) []) (cons_option (stage_at lists (n, true)) [])
    ∙ (ap (λ l. filter_map (stage_at lists) (both_literals (range_with_len 0 n)) ++ l) (two_options (stage_at lists (n, false)) (stage_at lists (n, true)))
    ∙ sym (ap (filter_map (stage_at lists)) (ap both_literals (range_more n) ∙ flat_map-append (λ y. (y, false) ∷ (y, true) ∷ []) (range_with_len 0 n) (n ∷ [])) ∙ filter_map-append (stage_at lists) (both_literals (range_with_len 0 n)) ((n, false) ∷ (n, true) ∷ [])))))
  where
    two_options : (a b : Option Stage) → cons_option a [] ++ cons_option b [] ≡ cons_option a (cons_option b [])
    two_options None b = refl
    two_options (Some x) b = refl

-- no stage where no register took a literal
pub empty_stage : (lists : List (List ℕ)) (l : Literal) (i : ℕ) (regs : List ℕ) (b : Bool) (before : List Stage) → i ≡ literal_place l → i < length lists → regs ≡ slice_index_or lists i regs → b ≡ nat_eq (length regs) 0 → b ≡ true → before ≡ before ++ cons_option (stage_at lists l) []
empty_stage lists l i regs b before place below read is some =
    sym (ap (λ rs. before ++ cons_option (unless_empty (hold_stage l) rs) []) (sym there ∙ none regs (sym is ∙ some)) ∙ append-nil before)
  where
    none : (rs : List ℕ) → nat_eq (length rs) 0 ≡ true → rs ≡ []
    none [] h = refl
    none (r ∷ rs) h = let e : length (r ∷ rs) ≡ 0 = eqb-true (length (r ∷ rs)) 0 h in absurd (omega (arith, e))

    there : regs ≡ list_at lists (literal_place l)
    there = read ∙ (sym (unwrap_or-slice_get lists i regs) ∙ (ap (λ o. unwrap_or o regs) (slice_get-get_or lists i [] below) ∙ (index_list lists i ∙ ap (list_at lists) place)))

-- a fault of one register is one of the list
pub refused_known : (m : MachineData) (counts : Option ZeroCounts) (width r : ℕ) → r < m.own_registers → (f : AddFault) → (f ≡ NoMemory) ⊎ ((f ≡ LimitFault ClaimNodes) × ((is_none (enable_of m r) ≡ true) × (passes_at m counts width r ≡ true)))
    → (f ≡ NoMemory) ⊎ ((f ≡ LimitFault ClaimNodes) × (hold_passes m counts width ≡ true))
refused_known m counts width r own f (inl is) = inl is
refused_known m counts width r own f (inr is) = inr (is.0, passing m counts width r own is.1.0 is.1.1)

-- whether there is none
pub none_of_some : (o : Option ℕ) → is_some o ≡ true → is_none o ≡ false
none_of_some None h = absurd (both_ways false refl h)
none_of_some (Some x) h = refl

pub none_of_none : (o : Option ℕ) → is_some o ≡ false → is_none o ≡ true
none_of_none None h = refl
none_of_none (Some x) h = absurd (both_ways true h refl)

-- what holds where an answer is there
pub on_ok_both : {X A B C : Type 0} (r : Result X AddFault) → (A → B → C) → OnOk r A → OnOk r B → OnOk r C
on_ok_both (Ok x) f a b = f a b
on_ok_both (Err e) f a b = tt

-- a fault of a register
pub refused_one : (m : MachineData) (counts : Option ZeroCounts) (width r : ℕ) (f : AddFault) → is_none (enable_of m r) ≡ true → (f ≡ NoMemory) ⊎ (choice_by m width r (literals_of m counts r) ≡ Err f)
    → (f ≡ NoMemory) ⊎ ((f ≡ LimitFault ClaimNodes) × ((is_none (enable_of m r) ≡ true) × (passes_at m counts width r ≡ true)))
refused_one m counts width r f free (inl is) = inl is
refused_one m counts width r f free (inr is) = let p = refused m counts width r f is in inr (p.0, (free, p.1))
