-- The form of a cover has the cover's value.
use Rattle.std.proofs.Common.{[], ◌≡◌, Bool, true, false, not, ◌&&◌, ◌||◌, List, ◌∷◌, map, refl, ap, sym, ◌∙◌, if◌then◌else◌, Option}
use Rattle.std.proofs.Common.{None, Some}
use Rattle.std.specs.Bool.{Decides}
use Rattle.std.specs.List.{cons_option, filter_map, list_any}
use Rattle.std.proofs.lemmas.Bool.{or_right}
use Rattle.cg_cell.specs.Cover.{CoverData, agrees, cover_value, row_matches}
use Rattle.cg_verilog_text.specs.CoverForms.{form_of, is_empty, literals_of, sum_or_constant, term_of}
use Rattle.cg_verilog_text.specs.Forms.{Form, Constant, Sum, Literal, on_of, terms_of}
use Rattle.cg_verilog_text.proofs.Terms as terms

module _ {N : Type 0} (same : N → N → Bool) (decides : (x y : N) → Decides (same x y) (x ≡ y)) (val : N → Bool) where
  abbrev Lit : Type 0
  Lit = Literal N

  abbrev pub holds : Lit → Bool
  holds l = terms.holds same decides val l

  abbrev pub term_holds : List Lit → Bool
  term_holds t = terms.term_holds same decides val t

  abbrev pub form_value : Form N → Bool
  form_value form = if list_any term_holds (terms_of form) then on_of form else not (on_of form)

  pub agrees_as : (bit : Bool) (net : N) → agrees (Some bit) (val net) ≡ holds (record { net = net; plain = bit })
  agrees_as true net = refl
  agrees_as false net = refl

  -- a row matches where its literals hold
  row_value : (nets : List N) (row : List (Option Bool)) → row_matches row (map val nets) ≡ term_holds (literals_of nets row)
  row_value [] [] = refl
  row_value [] (b ∷ row) = refl
  row_value (net ∷ nets) [] = refl
  row_value (net ∷ nets) (None ∷ row) = row_value nets row
  row_value (net ∷ nets) (Some bit ∷ row) = ap (λ b. b && row_matches row (map val nets)) (agrees_as bit net) ∙ ap (λ b. holds (record { net = net; plain = bit }) && b) (row_value nets row)

  -- the rows of a cover match where its terms hold
  with_term : (o : Option (List Lit)) (ts : List (List Lit)) → (terms.some_holds same decides val o || list_any term_holds ts) ≡ list_any term_holds (cons_option o ts)
  with_term None ts = refl
  with_term (Some t) ts = refl

  rows_value : (nets : List N) (rows : List (List (Option Bool))) → list_any (λ row. row_matches row (map val nets)) rows ≡ list_any term_holds (filter_map (term_of same nets) rows)
  rows_value nets [] = refl
  rows_value nets (row ∷ rows) =
      let ts = filter_map (term_of same nets) rows in
      ap (λ b. row_matches row (map val nets) || b) (rows_value nets rows)
      ∙ (ap (λ b. b || list_any term_holds ts) (row_value nets row ∙ sym (terms.term_value same decides val (Some []) (literals_of nets row)))
      ∙ with_term (term_of same nets row) ts)

  empty_holds : (ts : List (List Lit)) → list_any is_empty ts ≡ true → list_any term_holds ts ≡ true
  empty_holds [] is = is
  empty_holds ([] ∷ ts) is = refl
  empty_holds ((l ∷ ls) ∷ ts) is = or_right (term_holds (l ∷ ls)) (list_any term_holds ts) (empty_holds ts is)

  constant_value : (on : Bool) → form_value (Constant on) ≡ on
  constant_value true = refl
  constant_value false = refl

  sum_step : (on : Bool) (ts : List (List Lit)) (b : Bool) → list_any is_empty ts ≡ b → form_value (if b then Constant on else Sum on ts) ≡ (if list_any term_holds ts then on else not on)
  sum_step on ts true e = constant_value on ∙ sym (ap (λ b. if b then on else not on) (empty_holds ts e))
  sum_step on ts false e = refl

  sum_value : (on : Bool) (ts : List (List Lit)) → form_value (sum_or_constant on ts) ≡ (if list_any term_holds ts then on else not on)
  sum_value on [] = constant_value (not on)
  sum_value on (t ∷ ts) = sum_step on (t ∷ ts) (list_any is_empty (t ∷ ts)) refl

  pub form_of_value : (nets : List N) (cover : CoverData) → form_value (form_of same nets cover) ≡ cover_value cover (map val nets)
  form_of_value nets cover = sum_value cover.on (filter_map (term_of same nets) cover.rows) ∙ ap (λ b. if b then cover.on else not cover.on) (sym (rows_value nets cover.rows))
