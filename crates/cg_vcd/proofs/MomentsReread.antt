-- What the lines of moments tell: steps, behind each of which each net that is used has its bit.
use Rattle.std.proofs.Common.{◌≡◌, ℕ, ◌+◌, ◌^◌, ◌<◌, ◌≤◌, ◌==◌, Bool, true, false, List, [], ◌∷◌, ◌++◌, length, map, Option, Some, None, slice_get, slice_index, nat_lt, decimal, codes, not, ◌&&◌, ◌||◌}
use Rattle.std.proofs.Common.{refl, sym, ap, ◌∙◌, arith, subst, inl, inr, append_assoc, if◌then◌else◌}
use Rattle.std.specs.List.{AllByRecursion}
use Rattle.std.specs.Str.{all_ascii_digits}
use Rattle.std.proofs.lemmas.Bool.{and_parts, cases_Bool, ne_eqb}
use Rattle.std.proofs.lemmas.Bool.Decides.{nat_tests}
use Rattle.std.proofs.lemmas.List.{append-nil}
use Rattle.std.proofs.lemmas.Option.{slice_get-get_or}
use Rattle.cg_net.specs.NetSets.{is_in}
use Rattle.cg_netlist.specs.Moment.{bit}
use Rattle.cg_report.specs.Shown.{Shown as ShownMoment}
use Rattle.cg_stimulus.specs.Reading.{column_of}
use Rattle.cg_text.specs.Spots.{Spot, spots_of}
use Rattle.cg_text.specs.Written.{numbered}
use Rattle.cg_text.specs.declared.number.Number.TheVariants.{Small, Large}
use Rattle.cg_text.specs.Numbers.{digits_after}
use Rattle.cg_text.proofs.Spelling.{is_number-decimal, number_of-decimal}
use Rattle.cg_vcd.specs.declared.change.Change.{Change}
use Rattle.cg_vcd.specs.Changes.{Free, StepsRead, put_time, time_then, told, with_step_end}
use Rattle.cg_vcd.specs.Dumped.{all_values, changed_values, dump_lines, value_line}
use Rattle.cg_vcd.specs.Identifiers.{id_of}
use Rattle.cg_vcd.specs.Kinds.{are_digits, time_of}
use Rattle.cg_vcd.specs.Rows.{value_from, value_of}
use Rattle.cg_vcd.specs.inner.Sampled.{Shown}
use Rattle.cg_vcd.proofs.DumpLines.{alone}
use Rattle.cg_vcd.proofs.DumpReadBack.{dumped, lined, merged, put_if, redumped, value_reread, values_retaken, values_taken, values_reread, with_changes}

-- lines of one word, numbered
pub lined_alone : (k : ℕ) (ws : List (List ℕ)) → spots_of (numbered k (alone ws)) ≡ lined k ws
lined_alone k [] = refl
lined_alone k (w ∷ ws) = ap (λ later. record { line = k; text = w } ∷ later) (lined_alone (k + 1) ws)

-- the value behind more changes
pub value_behind : (v : Option Bool) (id : ℕ) (xs ys : List Change) → value_from v id (xs ++ ys) ≡ value_from (value_from v id xs) id ys
value_behind v id [] ys = refl
value_behind v id (x ∷ xs) ys = value_behind (if x.id == id then x.bit else v) id xs ys

-- the digits that are written of a time say it
digits_read : (t : ℕ) → t < 2 ^ 64 → are_digits (decimal t) ≡ true
digits_read t small =
    let word = decimal t in
    let parts = and_parts (not (length word == 0) && (not (slice_index word 0 == 48) || length word == 1)) (all_ascii_digits word) (is_number-decimal t small) in
    let front = and_parts (not (length word == 0)) (not (slice_index word 0 == 48) || length word == 1) parts.0 in
    let digits : all_ascii_digits (decimal t) ≡ true = parts.1 in
    let some : not (length (decimal t) == 0) ≡ true = front.0 in
    rw (some, digits) refl

value_read : (t : ℕ) → t < 2 ^ 64 → digits_after 0 (decimal t) ≡ t
value_read t small = elim (cases_Bool (nat_lt (digits_after 0 (decimal t)) (2 ^ 64))) [
  | inl fits ↦ let number : Small (digits_after 0 (decimal t)) ≡ Small t = rw (is_number-decimal t small, fits) at (number_of-decimal t small) in cc
  | inr over ↦ let no : Large ≡ Small t = rw (is_number-decimal t small, over) at (number_of-decimal t small) in absurd (cc)
]

time_read : (t : ℕ) → t < 2 ^ 64 → time_of (35 ∷ decimal t) ≡ Some t
time_read t small =
    let digits : are_digits (decimal t) ≡ true = digits_read t small in
    let number : digits_after 0 (decimal t) ≡ t = value_read t small in
    let fits : nat_lt t (2 ^ 128) ≡ true = grind (arith, nat_tests) in
    ap (λ b. if b && nat_lt (digits_after 0 (decimal t)) (2 ^ 128) then Some (digits_after 0 (decimal t)) else None) digits
    ∙ (ap (λ v. if nat_lt v (2 ^ 128) then Some v else None) number ∙ ap (λ b. if b then Some t else None) fits)

later_time : (line before now : ℕ) (t : StepsRead) → before < now → put_time line (Some before) now t ≡ with_step_end t
later_time line before now t later =
    let a : nat_lt now before ≡ false = grind (arith, nat_tests) in
    let b : (now == before) ≡ false = ne_eqb now before (λ e. let no : ⊥ = omega (arith, e) in no) in
    rw (a, b) refl

bit_there : (nets : List Bool) (n id : ℕ) → length nets ≡ n → id < n → slice_get nets id ≡ Some (bit nets id)
bit_there nets n id long small = slice_get-get_or nets id false (omega arith)

module _ (used : List ℕ) (ids : List (List ℕ)) (end n : ℕ) (known : (net : ℕ) → net < n → column_of ids (id_of net) ≡ Some net) where
  abbrev free : Option ℕ → List Spot → StepsRead
  free time ws = told ids used end Free time ws

  abbrev change : ℕ → ℕ → Bool → Change
  change k net b = record { id = net; bit = Some b; line = k }

  -- the line of a net, before the lines of others
  one_told : (k net : ℕ) (b : Bool) (before now : List Bool) (time : Option ℕ) (rest : List (List ℕ)) → net < n
      → free time (lined (k + 1) (changed_values (net + 1) before now ++ rest))
      ≡ with_changes (redumped used (k + 1) (net + 1) before now) (free time (lined (k + 1 + length (changed_values (net + 1) before now)) rest))
      → free time (lined k (value_line net b ∷ changed_values (net + 1) before now ++ rest))
      ≡ with_changes (put_if (is_in used net) (change k net b) (redumped used (k + 1) (net + 1) before now))
      (free time (lined (k + length (value_line net b ∷ changed_values (net + 1) before now)) rest))
  one_told k net b before now time rest small later =
      let e : k + 1 + length (changed_values (net + 1) before now) ≡ k + length (value_line net b ∷ changed_values (net + 1) before now) = omega arith in
      value_reread used ids end n known k net b time (lined (k + 1) (changed_values (net + 1) before now ++ rest)) small
      ∙ (ap (with_changes (put_if (is_in used net) (change k net b) []))
      (later ∙ ap (λ i. with_changes (redumped used (k + 1) (net + 1) before now) (free time (lined i rest))) e)
      ∙ merged (is_in used net) (change k net b) (redumped used (k + 1) (net + 1) before now) (free time (lined (k + length (value_line net b ∷ changed_values (net + 1) before now)) rest)))

  -- the lines of the nets whose bits differ
  changed_reread : (k net : ℕ) (before now : List Bool) (time : Option ℕ) (rest : List (List ℕ)) → net + length before ≤ n
      → free time (lined k (changed_values net before now ++ rest))
      ≡ with_changes (redumped used k net before now) (free time (lined (k + length (changed_values net before now)) rest))
  changed_reread k net [] now time rest few = let e : k ≡ k + 0 = omega arith in ap (λ i. free time (lined i rest)) e
  changed_reread k net (b ∷ before) [] time rest few = let e : k ≡ k + 0 = omega arith in ap (λ i. free time (lined i rest)) e
  changed_reread k net (true ∷ before) (true ∷ now) time rest few = changed_reread k (net + 1) before now time rest (omega arith)
  changed_reread k net (false ∷ before) (false ∷ now) time rest few = changed_reread k (net + 1) before now time rest (omega arith)
  changed_reread k net (true ∷ before) (false ∷ now) time rest few =
      one_told k net false before now time rest (omega arith) (changed_reread (k + 1) (net + 1) before now time rest (omega arith))
  changed_reread k net (false ∷ before) (true ∷ now) time rest few =
      one_told k net true before now time rest (omega arith) (changed_reread (k + 1) (net + 1) before now time rest (omega arith))

  -- a time word behind another ends a step, and so does the first
  time_reread : (k t p : ℕ) (ws : List Spot) → t < 2 ^ 64 → p < t → free (Some p) (record { line = k; text = 35 ∷ decimal t } ∷ ws) ≡ with_step_end (free (Some t) ws)
  time_reread k t p ws small rising = ap (λ o. time_then k (Some p) o (λ now. free now ws)) (time_read t small) ∙ later_time k p t (free (Some t) ws) rising

  first_time : (k : ℕ) (ws : List Spot) → free None (record { line = k; text = 35 ∷ decimal 0 } ∷ ws) ≡ with_step_end (free (Some 0) ws)
  first_time k ws = ap (λ o. time_then k None o (λ now. free now ws)) (time_read 0 (omega arith))

  module _ (below : (id : ℕ) → is_in used id ≡ true → id < n) where
    -- steps are told and no fault, and behind each step each net that is used has its bit
    pub record Tells (changes : List Change) (t : StepsRead) (nows : List (List Bool)) : Type 0 where
      pub whole : t.fault ≡ None
      pub first : t.step ≡ []
      pub shown : Shown used changes t.later nows

    -- behind the changes of a moment each net that is used has its bit
    bits_behind : (k : ℕ) (changes : List Change) (before now : List Bool) → length before ≡ n → length now ≡ n
        → ((id : ℕ) → is_in used id ≡ true → value_of changes id ≡ Some (bit before id))
        → (id : ℕ) → is_in used id ≡ true → value_of (changes ++ redumped used k 0 before now) id ≡ Some (bit now id)
    bits_behind k changes before now wide wide_now was id among =
        value_behind None id changes (redumped used k 0 before now)
        ∙ (ap (λ v. value_from v id (redumped used k 0 before now)) (was id among)
        ∙ values_retaken used k 0 before now id id (bit before id) (bit now id) among (omega arith) (bit_there before n id wide (below id among)) (bit_there now n id wide_now (below id among)))

    pub moments_reread : (k t p : ℕ) (before : List Bool) (moments : List ShownMoment) (changes : List Change) → p < t → t + length moments < 2 ^ 64 → length before ≡ n
        → AllByRecursion (λ m. length m.nets ≡ n) moments → ((id : ℕ) → is_in used id ≡ true → value_of changes id ≡ Some (bit before id))
        → Tells changes (free (Some p) (lined k (dump_lines t (Some before) moments))) (map (λ m. m.nets) moments)
    moments_reread k t p before [] changes rising few wide all was = record { whole = refl; first = refl; shown = tt }
    moments_reread k t p before (now ∷ later) changes rising few wide all was =
        let step = redumped used (k + 1) 0 before now.nets in
        let line = k + 1 + length (changed_values 0 before now.nets) in
        let rest = free (Some t) (lined line (dump_lines (t + 1) (Some now.nets) later)) in
        let nows = map (λ m. m.nets) later in
        let told_so : free (Some p) (lined k (dump_lines t (Some before) (now ∷ later))) ≡ with_step_end (with_changes step rest) =
        time_reread k t p (lined (k + 1) (changed_values 0 before now.nets ++ dump_lines (t + 1) (Some now.nets) later)) (omega arith) rising
        ∙ ap with_step_end (changed_reread (k + 1) 0 before now.nets (Some t) (dump_lines (t + 1) (Some now.nets) later) (omega arith)) in
        let values = bits_behind (k + 1) changes before now.nets wide all.0 was in
        let behind : Tells (changes ++ step) rest nows = moments_reread line (t + 1) t now.nets later (changes ++ step) (omega arith) (omega arith) all.0 all.1 values in
        let step_is : step ++ rest.step ≡ step = ap (λ s. step ++ s) behind.first ∙ append-nil step in
        subst (λ x. Tells changes x (now.nets ∷ nows)) (sym told_so) (record {
          whole = behind.whole;
          first = refl;
          shown = subst (λ s. ((id : ℕ) → is_in used id ≡ true → value_of (changes ++ s) id ≡ Some (bit now.nets id)) × Shown used (changes ++ s) rest.later nows) (sym step_is) (values, behind.shown);
        })

    -- what the lines of all moments tell
    pub record TellsAll (t : StepsRead) (first : List Bool) (nows : List (List Bool)) : Type 0 where
      pub changes : List Change
      pub steps : List (List Change)
      pub told_is : t ≡ record { step = []; later = changes ∷ steps; fault = None }
      pub values : (id : ℕ) → is_in used id ≡ true → value_of changes id ≡ Some (bit first id)
      pub shown : Shown used changes steps nows

    pub all_told : (k : ℕ) (first : ShownMoment) (later : List ShownMoment) → 1 + length later < 2 ^ 64 → length first.nets ≡ n → AllByRecursion (λ m. length m.nets ≡ n) later
        → TellsAll (free None (lined k (dump_lines 0 None (first ∷ later)))) first.nets (map (λ m. m.nets) later)
    all_told k first later few wide all =
        let more = dump_lines 1 (Some first.nets) later in
        let step = dumped used (k + 1 + 1) 0 first.nets in
        let line = k + 1 + 1 + length first.nets in
        let rest = free (Some 0) (lined (line + 1) more) in
        let told_so : free None (lined k (dump_lines 0 None (first ∷ later))) ≡ with_step_end (with_changes step rest) =
        first_time k (lined (k + 1) (codes "$dumpvars" ∷ (all_values 0 first.nets ++ codes "$end" ∷ []) ++ more))
        ∙ ap with_step_end (ap (λ ls. free (Some 0) (lined (k + 1 + 1) ls)) (append_assoc (all_values 0 first.nets) (codes "$end" ∷ []) more)
        ∙ values_reread used ids end n known (k + 1 + 1) 0 first.nets (Some 0) (codes "$end" ∷ more) (omega arith)) in
        let values : (id : ℕ) → is_in used id ≡ true → value_of step id ≡ Some (bit first.nets id) =
        λ id among. values_taken used (k + 1 + 1) 0 first.nets None id id (bit first.nets id) among (omega arith) (bit_there first.nets n id wide (below id among)) in
        let behind : Tells step rest (map (λ m. m.nets) later) = moments_reread (line + 1) 1 0 first.nets later step (omega arith) few wide all values in
        let parts : with_step_end (with_changes step rest) ≡ record { step = []; later = step ∷ rest.later; fault = None } =
        ap (λ s. record { step = []; later = (step ++ s) ∷ rest.later; fault = rest.fault }) behind.first
        ∙ (ap (λ s. record { step = []; later = s ∷ rest.later; fault = rest.fault }) (append-nil step)
        ∙ ap (λ f. record { step = []; later = step ∷ rest.later; fault = f }) behind.whole) in
        record { changes = step; steps = rest.later; told_is = told_so ∙ parts; values = values; shown = behind.shown }
