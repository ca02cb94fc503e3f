-- The cell of the form of a cover: it has the cover's value, and no other inputs.
use Rattle.std.proofs.Common.{[], ◌≡◌, ◌≤◌, Bool, true, false, not, ◌&&◌, ◌||◌, List, ◌∷◌, ◌++◌, map, length}
use Rattle.std.proofs.Common.{refl, ap, sym, ◌∙◌, subst, if◌then◌else◌, cond, Option, None, Some, option_map, inl, inr}
use Rattle.std.specs.Bool.{Decides}
use Rattle.std.specs.List.{AllByRecursion, cons_option, filter_map, find, flat_map, list_all, list_any}
use Rattle.std.proofs.lemmas.Bool.{and_from, and_parts, both_ways, or_cases, or_left, or_right}
use Rattle.std.proofs.lemmas.List.Folds.{list_any-append}
use Rattle.std.proofs.lemmas.Map.Made.{length-le_from_is_member}
use Rattle.cg_cell.specs.Cover.{CoverData, agrees, cover_value, row_matches}
use Rattle.cg_netlist.proofs.Each.{each}
use Rattle.cg_verilog_text.specs.CoverForms.{form_of, is_empty, literals_of, sum_or_constant, term_of}
use Rattle.cg_verilog_text.specs.Forms.{Form, Constant, Sum, Literal, nets_of, on_of, terms_of}
use Rattle.cg_verilog_text.specs.Meaning.{bit_in, cover_on, once, row_of}
use Rattle.cg_verilog_text.proofs.EachOnce.{all_listed, equivalence, has, has_once, is_same, once_distinct, once_has, same_back, same_bool, same_is}
use Rattle.cg_verilog_text.proofs.FormValues.{agrees_as, form_of_value, form_value, holds, term_holds}
use Rattle.cg_verilog_text.proofs.Terms.{AllIn, ApartIn, AreApart, all_term, apart_term}

module _ {N : Type 0} (same : N → N → Bool) (decides : (x y : N) → Decides (same x y) (x ≡ y)) where
  abbrev pub Lit : Type 0
  Lit = Literal N

  -- and each is of one of these nets
  abbrev pub IsOf : List N → Lit → Type 0
  IsOf nets l = has same decides nets l.net ≡ true

  more_nets : (net : N) (nets : List N) (ls : List Lit) → AllByRecursion (IsOf nets) ls → AllByRecursion (IsOf (net ∷ nets)) ls
  more_nets net nets ls all = each (IsOf nets) (IsOf (net ∷ nets)) (λ l h. or_right (same l.net net) (has same decides nets l.net) h) ls all

  literals_in : (nets : List N) (row : List (Option Bool)) → AllByRecursion (IsOf nets) (literals_of nets row)
  literals_in [] row = tt
  literals_in (net ∷ nets) [] = tt
  literals_in (net ∷ nets) (None ∷ row) = more_nets net nets (literals_of nets row) (literals_in nets row)
  literals_in (net ∷ nets) (Some bit ∷ row) = (or_left (same net net) (has same decides nets net) (is_same same decides net), more_nets net nets (literals_of nets row) (literals_in nets row))

  -- a good term of these nets
  pub record IsTerm (nets : List N) (t : List Lit) : Type 0 where
    pub apart : AreApart same decides t
    pub of : AllByRecursion (IsOf nets) t

  with_term : (nets : List N) (o : Option (List Lit)) (ts : List (List Lit)) → ApartIn same decides o → AllIn (IsOf nets) o → AllByRecursion (IsTerm nets) ts → AllByRecursion (IsTerm nets) (cons_option o ts)
  with_term nets None ts apart of all = all
  with_term nets (Some t) ts apart of all = (record { apart = apart; of = of }, all)

  row_terms : (nets : List N) (rows : List (List (Option Bool))) → AllByRecursion (IsTerm nets) (filter_map (term_of same nets) rows)
  row_terms nets [] = tt
  row_terms nets (row ∷ rows) =
      let ls = literals_of nets row in
      with_term nets (term_of same nets row) (filter_map (term_of same nets) rows) (apart_term same decides (Some []) ls tt) (all_term same (IsOf nets) (Some []) ls tt (literals_in nets row)) (row_terms nets rows)

  -- the form of a cover: a constant, or a sum of good terms, none of them empty
  pub data IsGood (nets : List N) : Form N → Type 0 where
    GoodConstant : (value : Bool) → IsGood nets (Constant value)
    GoodSum : (on : Bool) (l : Lit) (ls : List Lit) (ts : List (List Lit)) → AllByRecursion (IsTerm nets) ((l ∷ ls) ∷ ts) → AllByRecursion (λ t. is_empty t ≡ false) ts → IsGood nets (Sum on ((l ∷ ls) ∷ ts))

  none_empty : (ts : List (List Lit)) → list_any is_empty ts ≡ false → AllByRecursion (λ t. is_empty t ≡ false) ts
  none_empty [] is = tt
  none_empty ([] ∷ ts) is = absurd (both_ways true is refl)
  none_empty ((l ∷ ls) ∷ ts) is = (refl, none_empty ts is)

  good_step : (nets : List N) (on : Bool) (t : List Lit) (ts : List (List Lit)) (b : Bool) → list_any is_empty (t ∷ ts) ≡ b → AllByRecursion (IsTerm nets) (t ∷ ts) → IsGood nets (if b then Constant on else Sum on (t ∷ ts))
  good_step nets on t ts true e all = GoodConstant on
  good_step nets on [] ts false e all = absurd (both_ways true e refl)
  good_step nets on (l ∷ ls) ts false e all = GoodSum on l ls ts all (none_empty ts e)

  good_sum : (nets : List N) (on : Bool) (ts : List (List Lit)) → AllByRecursion (IsTerm nets) ts → IsGood nets (sum_or_constant on ts)
  good_sum nets on [] all = GoodConstant (not on)
  good_sum nets on (t ∷ ts) all = good_step nets on t ts (list_any is_empty (t ∷ ts)) refl all

  pub form_is_good : (nets : List N) (cover : CoverData) → IsGood nets (form_of same nets cover)
  form_is_good nets cover = good_sum nets cover.on (filter_map (term_of same nets) cover.rows) (row_terms nets cover.rows)

  -- the nets of a good form are of these nets
  pub has-append : (xs ys : List N) (x : N) → has same decides (xs ++ ys) x ≡ (has same decides xs x || has same decides ys x)
  has-append xs ys x = list_any-append (same x) xs ys

  nets_in_term : (nets : List N) (t : List Lit) → AllByRecursion (IsOf nets) t → (x : N) → has same decides (map (λ (l : Lit). l.net) t) x ≡ true → has same decides nets x ≡ true
  nets_in_term nets [] all x is = absurd (both_ways false refl is)
  nets_in_term nets (l ∷ ls) all x is = elim (or_cases (same x l.net) (has same decides (map (λ (l : Lit). l.net) ls) x) is) [
    | inl h ↦ subst (λ y. has same decides nets y ≡ true) (sym (same_is same decides x l.net h)) all.0
    | inr h ↦ nets_in_term nets ls all.1 x h
  ]

  nets_in_terms : (nets : List N) (ts : List (List Lit)) → AllByRecursion (IsTerm nets) ts → (x : N) → has same decides (flat_map (λ t. map (λ (l : Lit). l.net) t) ts) x ≡ true → has same decides nets x ≡ true
  nets_in_terms nets [] all x is = absurd (both_ways false refl is)
  nets_in_terms nets (t ∷ ts) all x is = elim (or_cases (has same decides (map (λ (l : Lit). l.net) t) x) (has same decides (flat_map (λ t. map (λ (l : Lit). l.net) t) ts) x) (sym (has-append (map (λ (l : Lit). l.net) t) (flat_map (λ t. map (λ (l : Lit). l.net) t) ts) x) ∙ is)) [
    | inl h ↦ nets_in_term nets t all.0.of x h
    | inr h ↦ nets_in_terms nets ts all.1 x h
  ]

  good_nets : (nets : List N) (form : Form N) → IsGood nets form → (x : N) → has same decides (nets_of form) x ≡ true → has same decides nets x ≡ true
  good_nets nets form (GoodConstant true) x is = absurd (both_ways false refl is)
  good_nets nets form (GoodConstant false) x is = absurd (both_ways false refl is)
  good_nets nets form (GoodSum on l ls ts all full) x is = nets_in_terms nets ((l ∷ ls) ∷ ts) all x is

  -- the inputs of the cell are nets of the cover
  pub inputs_within : (nets : List N) (cover : CoverData) (x : N) → has same decides (once same (nets_of (form_of same nets cover))) x ≡ true → has same decides nets x ≡ true
  inputs_within nets cover x is = good_nets nets (form_of same nets cover) (form_is_good nets cover) x (has_once same decides (nets_of (form_of same nets cover)) x is)

  -- a term's row over some nets, among which are its own
  pub all_at : (P : N → Type 0) (xs : List N) (x : N) → AllByRecursion P xs → has same decides xs x ≡ true → P x
  all_at P [] x all is = absurd (both_ways false refl is)
  all_at P (y ∷ ys) x all is = elim (or_cases (same x y) (has same decides ys x) is) [
    | inl h ↦ subst P (sym (same_is same decides x y h)) all.0
    | inr h ↦ all_at P ys x all.1 h
  ]

  Looked : List Lit → Lit → Type 0
  Looked t l = bit_in same t l.net ≡ Some l.plain

  looked_tail : (l : Lit) (ls ms : List Lit) → AllByRecursion (λ m. same m.net l.net ≡ false) ms → AllByRecursion (λ (m : Lit). bit_in same ls m.net ≡ Some m.plain) ms → AllByRecursion (λ (m : Lit). bit_in same (l ∷ ls) m.net ≡ Some m.plain) ms
  looked_tail l ls [] apart all = tt
  looked_tail l ls (m ∷ ms) apart all =
      (ap (λ b. option_map (λ (k : Lit). k.plain) (cond b (Some l) (find (λ (k : Lit). same k.net m.net) ls))) (same_back same decides m.net l.net apart.0) ∙ all.0, looked_tail l ls ms apart.1 all.1)

  looked : (t : List Lit) → AreApart same decides t → AllByRecursion (λ (l : Lit). bit_in same t l.net ≡ Some l.plain) t
  looked [] apart = tt
  looked (l ∷ ls) apart = (ap (λ b. option_map (λ (k : Lit). k.plain) (cond b (Some l) (find (λ (k : Lit). same k.net l.net) ls))) (is_same same decides l.net), looked_tail l ls ls apart.0 (looked ls apart.1))

  module _ (val : N → Bool) where
    abbrev fits_at : List Lit → N → Bool
    fits_at t net = agrees (bit_in same t net) (val net)

    matched : (t : List Lit) (inputs : List N) → row_matches (row_of same inputs t) (map val inputs) ≡ list_all (fits_at t) inputs
    matched t [] = refl
    matched t (n ∷ ns) = ap (λ b. fits_at t n && b) (matched t ns)

    abbrev lits_hold : List Lit → Bool
    lits_hold ls = term_holds same decides val ls

    holds_from : (t ls : List Lit) (inputs : List N) → AllByRecursion (λ n. fits_at t n ≡ true) inputs → AllByRecursion (IsOf inputs) ls → AllByRecursion (λ (l : Lit). bit_in same t l.net ≡ Some l.plain) ls → lits_hold ls ≡ true
    holds_from t [] inputs fit of at = refl
    holds_from t (l ∷ ls) inputs fit of at =
        and_from (holds same decides val l) (lits_hold ls)
        (sym (agrees_as same decides val l.plain l.net) ∙ (ap (λ b. agrees b (val l.net)) (sym at.0) ∙ all_at (λ n. fits_at t n ≡ true) inputs l.net fit of.0))
        (holds_from t ls inputs fit of.1 at.1)

    fits_step : (l : Lit) (ls : List Lit) (n : N) (b : Bool) → same l.net n ≡ b → holds same decides val l ≡ true → fits_at ls n ≡ true → agrees (option_map (λ (k : Lit). k.plain) (cond b (Some l) (find (λ (k : Lit). same k.net n) ls))) (val n) ≡ true
    fits_step l ls n true e h rest = subst (λ m. agrees (Some l.plain) (val m) ≡ true) (same_is same decides l.net n e) (agrees_as same decides val l.plain l.net ∙ h)
    fits_step l ls n false e h rest = rest

    fits_from : (t : List Lit) (n : N) → lits_hold t ≡ true → fits_at t n ≡ true
    fits_from [] n h = refl
    fits_from (l ∷ ls) n h =
        let parts = and_parts (holds same decides val l) (lits_hold ls) h in
        fits_step l ls n (same l.net n) refl parts.0 (fits_from ls n parts.1)

    all_fit : (t : List Lit) (inputs : List N) → lits_hold t ≡ true → list_all (fits_at t) inputs ≡ true
    all_fit t [] h = refl
    all_fit t (n ∷ ns) h = and_from (fits_at t n) (list_all (fits_at t) ns) (fits_from t n h) (all_fit t ns h)

    term_row : (t : List Lit) (inputs : List N) → AreApart same decides t → AllByRecursion (IsOf inputs) t → row_matches (row_of same inputs t) (map val inputs) ≡ lits_hold t
    term_row t inputs apart of = matched t inputs ∙ same_bool (list_all (fits_at t) inputs) (lits_hold t)
        (λ all. holds_from t t inputs (all_listed (fits_at t) inputs all) of (looked t apart)) (λ h. all_fit t inputs h)

    abbrev IsRow : List N → List Lit → Type 0
    IsRow inputs t = AreApart same decides t × AllByRecursion (IsOf inputs) t

    rows_hold : (inputs : List N) (ts : List (List Lit)) → AllByRecursion (IsRow inputs) ts → list_any (λ row. row_matches row (map val inputs)) (map (row_of same inputs) ts) ≡ list_any lits_hold ts
    rows_hold inputs [] all = refl
    rows_hold inputs (t ∷ ts) all =
        ap (λ b. b || list_any (λ row. row_matches row (map val inputs)) (map (row_of same inputs) ts)) (term_row t inputs all.0.0 all.0.1)
        ∙ ap (λ b. lits_hold t || b) (rows_hold inputs ts all.1)

  -- the terms of a form have the form's nets
  own_nets : (t : List Lit) (ns : List N) → ((x : N) → has same decides (map (λ (l : Lit). l.net) t) x ≡ true → has same decides ns x ≡ true) → AllByRecursion (IsOf ns) t
  own_nets [] ns all = tt
  own_nets (l ∷ ls) ns all = (
    all l.net (or_left (same l.net l.net) (has same decides (map (λ (l : Lit). l.net) ls) l.net) (is_same same decides l.net)),
    own_nets ls ns (λ x h. all x (or_right (same x l.net) (has same decides (map (λ (l : Lit). l.net) ls) x) h)),
  )

  abbrev term_nets : List (List Lit) → List N
  term_nets ts = flat_map (λ t. map (λ (l : Lit). l.net) t) ts

  own_terms : (ts : List (List Lit)) (ns : List N) → AllByRecursion (AreApart same decides) ts → ((x : N) → has same decides (term_nets ts) x ≡ true → has same decides ns x ≡ true)
      → AllByRecursion (λ t. AreApart same decides t × AllByRecursion (IsOf ns) t) ts
  own_terms [] ns all within = tt
  own_terms (t ∷ ts) ns all within = (
    (all.0, own_nets t ns (λ x h. within x (has-append (map (λ (l : Lit). l.net) t) (term_nets ts) x ∙ or_left (has same decides (map (λ (l : Lit). l.net) t) x) (has same decides (term_nets ts) x) h))),
    own_terms ts ns all.1 (λ x h. within x (has-append (map (λ (l : Lit). l.net) t) (term_nets ts) x ∙ or_right (has same decides (map (λ (l : Lit). l.net) t) x) (has same decides (term_nets ts) x) h)),
  )

  -- the cover of a form in whose terms no net stands twice has the form's value
  pub own_value : (val : N → Bool) (form : Form N) → AllByRecursion (AreApart same decides) (terms_of form)
      → cover_value (cover_on same (once same (nets_of form)) form) (map val (once same (nets_of form))) ≡ form_value same decides val form
  own_value val form all =
      ap (λ b. if b then on_of form else not (on_of form)) (rows_hold val (once same (nets_of form)) (terms_of form)
      (own_terms (terms_of form) (once same (nets_of form)) all (λ x h. once_has same decides (nets_of form) x h)))

  good_value : (val : N → Bool) (nets : List N) (form : Form N) → IsGood nets form
      → cover_value (cover_on same (once same (nets_of form)) form) (map val (once same (nets_of form))) ≡ form_value same decides val form
  good_value val nets form (GoodConstant true) = refl
  good_value val nets form (GoodConstant false) = refl
  good_value val nets form (GoodSum on l ls ts all full) =
      own_value val (Sum on ((l ∷ ls) ∷ ts)) (each (IsTerm nets) (AreApart same decides) (λ t h. h.apart) ((l ∷ ls) ∷ ts) all)

  -- the cell of the form of a cover has the cover's value
  pub cell_value_kept : (val : N → Bool) (nets : List N) (cover : CoverData)
      → cover_value (cover_on same (once same (nets_of (form_of same nets cover))) (form_of same nets cover)) (map val (once same (nets_of (form_of same nets cover)))) ≡ cover_value cover (map val nets)
  cell_value_kept val nets cover = good_value val nets (form_of same nets cover) (form_is_good nets cover) ∙ form_of_value same decides val nets cover

  -- each input stands once, so that there are no more than nets
  pub fewer_inputs : (nets : List N) (cover : CoverData) → length (once same (nets_of (form_of same nets cover))) ≤ length nets
  fewer_inputs nets cover =
      length-le_from_is_member (equivalence same decides) (once same (nets_of (form_of same nets cover))) nets (once_distinct same decides (nets_of (form_of same nets cover))) (λ q is. inputs_within nets cover q is)
