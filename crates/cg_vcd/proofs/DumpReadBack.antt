-- What the lines of a moment tell: its values.
use Rattle.std.proofs.Common.{◌≡◌, ℕ, zero, suc, ◌+◌, ◌<◌, ◌≤◌, ◌==◌, Bool, true, false, List, [], ◌∷◌, ◌++◌, length, Option, Some, slice_get}
use Rattle.std.proofs.Common.{refl, sym, ap, ◌∙◌, arith, inl, inr, if◌then◌else◌}
use Rattle.std.proofs.lemmas.Bool.{cases_Bool, ne_eqb}
use Rattle.std.proofs.lemmas.Option.{same_Some}
use Rattle.cg_net.specs.NetSets.{is_in}
use Rattle.cg_stimulus.specs.Reading.{column_of}
use Rattle.cg_text.specs.Spots.{Spot}
use Rattle.cg_vcd.specs.declared.change.Change.{Change}
use Rattle.cg_vcd.specs.Changes.{Free, StepsRead, told}
use Rattle.cg_vcd.specs.Dumped.{all_values, value_line}
use Rattle.cg_vcd.specs.Identifiers.{id_of}
use Rattle.cg_vcd.specs.Rows.{value_from}

-- words that stand in lines of their own, the first of this number
abbrev pub lined : ℕ → List (List ℕ) → List Spot
lined k [] = []
lined k (w ∷ ws) = record { line = k; text = w } ∷ lined (k + 1) ws

abbrev pub put_if : Bool → Change → List Change → List Change
put_if true change changes = change ∷ changes
put_if false change changes = changes

-- changes before what is told
abbrev pub with_changes : List Change → StepsRead → StepsRead
with_changes changes t = record { step = changes ++ t.step; later = t.later; fault = t.fault }

pub merged : (u : Bool) (change : Change) (changes : List Change) (t : StepsRead) → with_changes (put_if u change []) (with_changes changes t) ≡ with_changes (put_if u change changes) t
merged true change changes t = refl
merged false change changes t = refl

module _ (used : List ℕ) where
  -- the changes that all values of a moment tell
  abbrev pub dumped : ℕ → ℕ → List Bool → List Change
  dumped k net [] = []
  dumped k net (b ∷ bits) = put_if (is_in used net) (record { id = net; bit = Some b; line = k }) (dumped (k + 1) (net + 1) bits)

  other_kept : (u : Bool) (net id k : ℕ) (b : Bool) (v : Option Bool) (changes : List Change) → (net == id) ≡ false
      → value_from v id (put_if u (record { id = net; bit = Some b; line = k }) changes) ≡ value_from v id changes
  other_kept true net id k b v changes other = ap (λ t. value_from (if t then Some b else v) id changes) other
  other_kept false net id k b v changes other = refl

  taking : (net id k : ℕ) (b : Bool) (v : Option Bool) (changes : List Change) → is_in used net ≡ true → (net == id) ≡ true
      → value_from v id (put_if (is_in used net) (record { id = net; bit = Some b; line = k }) changes) ≡ value_from (Some b) id changes
  taking net id k b v changes here test =
      ap (λ u. value_from v id (put_if u (record { id = net; bit = Some b; line = k }) changes)) here ∙ ap (λ t. value_from (if t then Some b else v) id changes) test

  -- nets before these keep their values
  pub values_before : (k net : ℕ) (bits : List Bool) (v : Option Bool) (id : ℕ) → id < net → value_from v id (dumped k net bits) ≡ v
  values_before k net [] v id small = refl
  values_before k net (b ∷ bits) v id small =
      other_kept (is_in used net) net id k b v (dumped (k + 1) (net + 1) bits) (ne_eqb net id (λ e. let no' : ⊥ = omega (arith, e) in no'))
      ∙ values_before (k + 1) (net + 1) bits v id (omega arith)

  -- each net that is used takes its bit
  pub values_taken : (k net : ℕ) (bits : List Bool) (v : Option Bool) (id j : ℕ) (b : Bool) → is_in used id ≡ true → id ≡ net + j → slice_get bits j ≡ Some b
      → value_from v id (dumped k net bits) ≡ Some b
  values_taken k net [] v id j b is_used place at = absurd (cc)
  values_taken k net (c ∷ bits) v id zero b is_used place at =
      let same : net ≡ id = omega arith in
      let here : is_in used net ≡ true = ap (is_in used) same ∙ is_used in
      let bit_is : c ≡ b = same_Some c b at in
      let test : (net == id) ≡ true = grind arith in
      taking net id k c v (dumped (k + 1) (net + 1) bits) here test ∙ (values_before (k + 1) (net + 1) bits (Some c) id (omega arith) ∙ ap Some bit_is)
  values_taken k net (c ∷ bits) v id (suc j) b is_used place at =
      other_kept (is_in used net) net id k c v (dumped (k + 1) (net + 1) bits) (ne_eqb net id (λ e. let no' : ⊥ = omega (arith, e) in no'))
      ∙ values_taken (k + 1) (net + 1) bits v id j b is_used (omega arith) at

  -- the changes that the values of a later moment tell: of the nets that differ
  abbrev pub redumped : ℕ → ℕ → List Bool → List Bool → List Change
  redumped k net [] now = []
  redumped k net (b ∷ before) [] = []
  redumped k net (true ∷ before) (true ∷ now) = redumped k (net + 1) before now
  redumped k net (true ∷ before) (false ∷ now) = put_if (is_in used net) (record { id = net; bit = Some false; line = k }) (redumped (k + 1) (net + 1) before now)
  redumped k net (false ∷ before) (true ∷ now) = put_if (is_in used net) (record { id = net; bit = Some true; line = k }) (redumped (k + 1) (net + 1) before now)
  redumped k net (false ∷ before) (false ∷ now) = redumped k (net + 1) before now

  apart : (net id : ℕ) → (net ≡ id → ⊥) → (net == id) ≡ false
  apart net id differ = ne_eqb net id differ

  pub rest_before : (k net : ℕ) (before now : List Bool) (v : Option Bool) (id : ℕ) → id < net → value_from v id (redumped k net before now) ≡ v
  rest_before k net [] now v id small = refl
  rest_before k net (b ∷ before) [] v id small = refl
  rest_before k net (true ∷ before) (true ∷ now) v id small = rest_before k (net + 1) before now v id (omega arith)
  rest_before k net (true ∷ before) (false ∷ now) v id small =
      other_kept (is_in used net) net id k false v (redumped (k + 1) (net + 1) before now) (apart net id (λ e. let no' : ⊥ = omega (arith, e) in no')) ∙ rest_before (k + 1) (net + 1) before now v id (omega arith)
  rest_before k net (false ∷ before) (true ∷ now) v id small =
      other_kept (is_in used net) net id k true v (redumped (k + 1) (net + 1) before now) (apart net id (λ e. let no' : ⊥ = omega (arith, e) in no')) ∙ rest_before (k + 1) (net + 1) before now v id (omega arith)
  rest_before k net (false ∷ before) (false ∷ now) v id small = rest_before k (net + 1) before now v id (omega arith)

  -- one net: its change, or none where it keeps its bit
  took : (net id k : ℕ) (b : Bool) (v : Option Bool) (before now : List Bool) → is_in used id ≡ true → net ≡ id
      → value_from v id (put_if (is_in used net) (record { id = net; bit = Some b; line = k }) (redumped (k + 1) (net + 1) before now)) ≡ Some b
  took net id k b v before now is_used same =
      let here : is_in used net ≡ true = ap (is_in used) same ∙ is_used in
      let test : (net == id) ≡ true = grind arith in
      taking net id k b v (redumped (k + 1) (net + 1) before now) here test ∙ rest_before (k + 1) (net + 1) before now (Some b) id (omega arith)

  -- each net that is used takes its bit, where it had that of the moment before
  pub values_retaken : (k net : ℕ) (before now : List Bool) (id j : ℕ) (b n : Bool) → is_in used id ≡ true → id ≡ net + j → slice_get before j ≡ Some b → slice_get now j ≡ Some n
      → value_from (Some b) id (redumped k net before now) ≡ Some n
  values_retaken k net [] now id j b n is_used place at at_now = absurd (cc)
  values_retaken k net (c ∷ before) [] id j b n is_used place at at_now = absurd (cc)
  values_retaken k net (true ∷ before) (true ∷ now) id zero b n is_used place at at_now =
      let bit_is : true ≡ b = same_Some true b at in let now_is : true ≡ n = same_Some true n at_now in
      rest_before k (net + 1) before now (Some b) id (omega arith) ∙ ap Some (sym bit_is ∙ now_is)
  values_retaken k net (true ∷ before) (false ∷ now) id zero b n is_used place at at_now =
      took net id k false (Some b) before now is_used (omega arith) ∙ ap Some (same_Some false n at_now)
  values_retaken k net (false ∷ before) (true ∷ now) id zero b n is_used place at at_now =
      took net id k true (Some b) before now is_used (omega arith) ∙ ap Some (same_Some true n at_now)
  values_retaken k net (false ∷ before) (false ∷ now) id zero b n is_used place at at_now =
      let bit_is : false ≡ b = same_Some false b at in let now_is : false ≡ n = same_Some false n at_now in
      rest_before k (net + 1) before now (Some b) id (omega arith) ∙ ap Some (sym bit_is ∙ now_is)
  values_retaken k net (true ∷ before) (true ∷ now) id (suc j) b n is_used place at at_now = values_retaken k (net + 1) before now id j b n is_used (omega arith) at at_now
  values_retaken k net (true ∷ before) (false ∷ now) id (suc j) b n is_used place at at_now =
      other_kept (is_in used net) net id k false (Some b) (redumped (k + 1) (net + 1) before now) (apart net id (λ e. let no' : ⊥ = omega (arith, e) in no'))
      ∙ values_retaken (k + 1) (net + 1) before now id j b n is_used (omega arith) at at_now
  values_retaken k net (false ∷ before) (true ∷ now) id (suc j) b n is_used place at at_now =
      other_kept (is_in used net) net id k true (Some b) (redumped (k + 1) (net + 1) before now) (apart net id (λ e. let no' : ⊥ = omega (arith, e) in no'))
      ∙ values_retaken (k + 1) (net + 1) before now id j b n is_used (omega arith) at at_now
  values_retaken k net (false ∷ before) (false ∷ now) id (suc j) b n is_used place at at_now = values_retaken k (net + 1) before now id j b n is_used (omega arith) at at_now

  module _ (ids : List (List ℕ)) (end n : ℕ) (known : (net : ℕ) → net < n → column_of ids (id_of net) ≡ Some net) where
    -- the line of a net
    pub value_reread : (k net : ℕ) (b : Bool) (time : Option ℕ) (rest : List Spot) → net < n
        → told ids used end Free time (record { line = k; text = value_line net b } ∷ rest)
        ≡ with_changes (put_if (is_in used net) (record { id = net; bit = Some b; line = k }) []) (told ids used end Free time rest)
    value_reread k net true time rest small = elim (cases_Bool (is_in used net)) [ inl e ↦ rw (known net small, e) refl | inr e ↦ rw (known net small, e) refl ]
    value_reread k net false time rest small = elim (cases_Bool (is_in used net)) [ inl e ↦ rw (known net small, e) refl | inr e ↦ rw (known net small, e) refl ]

    -- the lines of all nets
    pub values_reread : (k net : ℕ) (bits : List Bool) (time : Option ℕ) (rest : List (List ℕ)) → net + length bits ≤ n
        → told ids used end Free time (lined k (all_values net bits ++ rest)) ≡ with_changes (dumped k net bits) (told ids used end Free time (lined (k + length bits) rest))
    values_reread k net [] time rest few = let e : k ≡ k + 0 = omega arith in ap (λ i. told ids used end Free time (lined i rest)) e
    values_reread k net (b ∷ bits) time rest few =
        let e : k + 1 + length bits ≡ k + length (b ∷ bits) = omega arith in
        value_reread k net b time (lined (k + 1) (all_values (net + 1) bits ++ rest)) (omega arith)
        ∙ (ap (with_changes (put_if (is_in used net) (record { id = net; bit = Some b; line = k }) []))
        (values_reread (k + 1) (net + 1) bits time rest (omega arith) ∙ ap (λ i. with_changes (dumped (k + 1) (net + 1) bits) (told ids used end Free time (lined i rest))) e)
        ∙ merged (is_in used net) (record { id = net; bit = Some b; line = k }) (dumped (k + 1) (net + 1) bits) (told ids used end Free time (lined (k + length (b ∷ bits)) rest)))
