-- The form of a cover and its cell do not depend on what the nets are called.
use Rattle.std.proofs.Common.{[], ◌≡◌, Bool, true, false, not, List, ◌∷◌, ◌++◌, map}
use Rattle.std.proofs.Common.{refl, ap, sym, ◌∙◌, if◌then◌else◌, cond, Option, None, Some, option_map}
use Rattle.std.specs.List.{AllByRecursion, cons_option, filter, filter_map, find, flat_map, fold, list_any}
use Rattle.std.proofs.lemmas.List.{map-append}
use Rattle.cg_cell.specs.Cover.{CoverData}
use Rattle.cg_netlist.specs.Wiring.{map_cell}
use Rattle.cg_netlist.specs.declared.parts.LogicFunction.{LogicFunction}
use Rattle.cg_netlist.specs.declared.parts.LogicFunction.TheVariants.{Cover, Cell}
use Rattle.cg_netlist.proofs.Each.{each}
use Rattle.cg_verilog_text.specs.CoverForms.{form_of, is_empty, joined, literals_of, sum_or_constant, term_of, with_literal}
use Rattle.cg_verilog_text.specs.Forms.{Form, Constant, Sum, Differ, Choice, Literal, nets_of, on_of, terms_of}
use Rattle.cg_verilog_text.specs.Kept.{kept_function}
use Rattle.cg_verilog_text.specs.Meaning.{bit_in, form_cell, once, row_of}
use Rattle.cg_verilog_text.proofs.EachOnce.{all_filter}
use Rattle.cg_verilog_text.proofs.Terms.{AllIn, all_term, all_with}

-- tests that agree keep the same
filter_renamed : {X Y : Type 0} (g : X → Y) (p : X → Bool) (q : Y → Bool) (xs : List X) → AllByRecursion (λ x. q (g x) ≡ p x) xs → filter q (map g xs) ≡ map g (filter p xs)
filter_renamed g p q [] all = refl
filter_renamed {X} {Y} g p q (x ∷ xs) all =
    ap (λ b. cond b (g x ∷ filter q (map g xs)) (filter q (map g xs))) all.0 ∙ step (p x) (filter_renamed g p q xs all.1)
  where
    step : (b : Bool) → filter q (map g xs) ≡ map g (filter p xs) → cond b (g x ∷ filter q (map g xs)) (filter q (map g xs)) ≡ map g (cond b (x ∷ filter p xs) (filter p xs))
    step true rest = ap (λ l. g x ∷ l) rest
    step false rest = rest

module _ {N M : Type 0} (same : N → N → Bool) (other_same : M → M → Bool) (f : N → M) (P : N → Type 0)
    (keeps : (x y : N) → P x → P y → other_same (f x) (f y) ≡ same x y) where
  abbrev Lit : Type 0
  Lit = Literal N

  abbrev mf : Lit → Literal M
  mf l = record { net = f l.net; plain = l.plain }

  abbrev PL : Lit → Type 0
  PL l = P l.net

  abbrev map_form : Form N → Form M
  map_form (Constant b) = Constant b
  map_form (Sum on ts) = Sum on (map (map mf) ts)
  map_form (Differ a b) = Differ (mf a) (mf b)
  map_form (Choice a b c) = Choice (mf a) (mf b) (mf c)

  literals_renamed : (nets : List N) (row : List (Option Bool)) → literals_of (map f nets) row ≡ map mf (literals_of nets row)
  literals_renamed [] row = refl
  literals_renamed (n ∷ ns) [] = refl
  literals_renamed (n ∷ ns) (None ∷ row) = literals_renamed ns row
  literals_renamed (n ∷ ns) (Some b ∷ row) = ap (λ l. record { net = f n; plain = b } ∷ l) (literals_renamed ns row)

  literals_have : (nets : List N) (row : List (Option Bool)) → AllByRecursion P nets → AllByRecursion PL (literals_of nets row)
  literals_have [] row all = tt
  literals_have (n ∷ ns) [] all = tt
  literals_have (n ∷ ns) (None ∷ row) all = literals_have ns row all.1
  literals_have (n ∷ ns) (Some b ∷ row) all = (all.0, literals_have ns row all.1)

  bit_renamed : (t : List Lit) (n : N) → P n → AllByRecursion PL t → bit_in other_same (map mf t) (f n) ≡ bit_in same t n
  bit_renamed [] n pn all = refl
  bit_renamed (l ∷ ls) n pn all =
      ap (λ b. option_map (λ (k : Literal M). k.plain) (cond b (Some (mf l)) (find (λ (k : Literal M). other_same k.net (f n)) (map mf ls)))) (keeps l.net n all.0 pn)
      ∙ out (same l.net n) (bit_renamed ls n pn all.1)
    where
      out : (b : Bool) → option_map (λ (k : Literal M). k.plain) (find (λ (k : Literal M). other_same k.net (f n)) (map mf ls)) ≡ option_map (λ (k : Lit). k.plain) (find (λ (k : Lit). same k.net n) ls)
          → option_map (λ (k : Literal M). k.plain) (cond b (Some (mf l)) (find (λ (k : Literal M). other_same k.net (f n)) (map mf ls))) ≡ option_map (λ (k : Lit). k.plain) (cond b (Some l) (find (λ (k : Lit). same k.net n) ls))
      out true rest = refl
      out false rest = rest

  -- literals that are added to a term, if there is one
  abbrev map_term : Option (List Lit) → Option (List (Literal M))
  map_term o = option_map (map mf) o

  joined_renamed : (l : Lit) (t : List Lit) (b : Option Bool) → joined (mf l) (map mf t) b ≡ map_term (joined l t b)
  joined_renamed l t None = ap Some (sym (map-append mf t (l ∷ [])))
  joined_renamed l t (Some true) = step l.plain
    where
      step : (p : Bool) → (if p then Some (map mf t) else None) ≡ map_term (if p then Some t else None)
      step true = refl
      step false = refl
  joined_renamed l t (Some false) = step l.plain
    where
      step : (p : Bool) → (if p then None else Some (map mf t)) ≡ map_term (if p then None else Some t)
      step true = refl
      step false = refl

  with_renamed : (o : Option (List Lit)) (l : Lit) → AllIn PL o → PL l → with_literal other_same (map_term o) (mf l) ≡ map_term (with_literal same o l)
  with_renamed None l all here = refl
  with_renamed (Some t) l all here = ap (joined (mf l) (map mf t)) (bit_renamed t l.net here all) ∙ joined_renamed l t (bit_in same t l.net)

  term_renamed : (o : Option (List Lit)) (ls : List Lit) → AllIn PL o → AllByRecursion PL ls → fold (with_literal other_same) (map_term o) (map mf ls) ≡ map_term (fold (with_literal same) o ls)
  term_renamed o [] all more = refl
  term_renamed o (l ∷ ls) all more =
      ap (λ p. fold (with_literal other_same) p (map mf ls)) (with_renamed o l all more.0) ∙ term_renamed (with_literal same o l) ls (all_with same PL o l all more.0) more.1

  row_term_renamed : (nets : List N) (row : List (Option Bool)) → AllByRecursion P nets → term_of other_same (map f nets) row ≡ map_term (term_of same nets row)
  row_term_renamed nets row all = ap (fold (with_literal other_same) (Some [])) (literals_renamed nets row) ∙ term_renamed (Some []) (literals_of nets row) tt (literals_have nets row all)

  pub rows_terms_renamed : (nets : List N) (rows : List (List (Option Bool))) → AllByRecursion P nets → filter_map (term_of other_same (map f nets)) rows ≡ map (map mf) (filter_map (term_of same nets) rows)
  rows_terms_renamed nets [] all = refl
  rows_terms_renamed nets (row ∷ rows) all =
      ap (λ o. cons_option o (filter_map (term_of other_same (map f nets)) rows)) (row_term_renamed nets row all)
      ∙ (ap (cons_option (option_map (map mf) (term_of same nets row))) (rows_terms_renamed nets rows all) ∙ out (term_of same nets row) (filter_map (term_of same nets) rows))
    where
      out : (o : Option (List Lit)) (ts : List (List Lit)) → cons_option (option_map (map mf) o) (map (map mf) ts) ≡ map (map mf) (cons_option o ts)
      out None ts = refl
      out (Some t) ts = refl

  empties : (ts : List (List Lit)) → list_any is_empty (map (map mf) ts) ≡ list_any is_empty ts
  empties [] = refl
  empties ([] ∷ ts) = refl
  empties ((l ∷ ls) ∷ ts) = empties ts

  sum_renamed : (on : Bool) (ts : List (List Lit)) → sum_or_constant on (map (map mf) ts) ≡ map_form (sum_or_constant on ts)
  sum_renamed on [] = refl
  sum_renamed on (t ∷ ts) = ap (λ b. if b then Constant on else Sum on (map (map mf) (t ∷ ts))) (empties (t ∷ ts)) ∙ out (list_any is_empty (t ∷ ts))
    where
      out : (b : Bool) → (if b then Constant on else Sum on (map (map mf) (t ∷ ts))) ≡ map_form (if b then Constant on else Sum on (t ∷ ts))
      out true = refl
      out false = refl

  form_renamed : (nets : List N) (cover : CoverData) → AllByRecursion P nets → form_of other_same (map f nets) cover ≡ map_form (form_of same nets cover)
  form_renamed nets cover all = ap (sum_or_constant cover.on) (rows_terms_renamed nets cover.rows all) ∙ sum_renamed cover.on (filter_map (term_of same nets) cover.rows)

  -- terms of a form whose nets are all as wanted
  terms_renamed : (form : Form N) → terms_of (map_form form) ≡ map (map mf) (terms_of form)
  terms_renamed (Constant true) = refl
  terms_renamed (Constant false) = refl
  terms_renamed (Sum on ts) = refl
  terms_renamed (Differ a b) = refl
  terms_renamed (Choice a b c) = refl

  on_renamed : (form : Form N) → on_of (map_form form) ≡ on_of form
  on_renamed (Constant b) = refl
  on_renamed (Sum on ts) = refl
  on_renamed (Differ a b) = refl
  on_renamed (Choice a b c) = refl

  term_nets_renamed : (t : List Lit) → map (λ (l : Literal M). l.net) (map mf t) ≡ map f (map (λ (l : Lit). l.net) t)
  term_nets_renamed [] = refl
  term_nets_renamed (l ∷ ls) = ap (λ k. f l.net ∷ k) (term_nets_renamed ls)

  nets_renamed : (ts : List (List Lit)) → flat_map (λ t. map (λ (l : Literal M). l.net) t) (map (map mf) ts) ≡ map f (flat_map (λ t. map (λ (l : Lit). l.net) t) ts)
  nets_renamed [] = refl
  nets_renamed (t ∷ ts) =
      ap (λ l. l ++ flat_map (λ t. map (λ (l : Literal M). l.net) t) (map (map mf) ts)) (term_nets_renamed t)
      ∙ (ap (λ l. map f (map (λ (l : Lit). l.net) t) ++ l) (nets_renamed ts)
      ∙ sym (map-append f (map (λ (l : Lit). l.net) t) (flat_map (λ t. map (λ (l : Lit). l.net) t) ts)))

  once_have : (xs : List N) → AllByRecursion P xs → AllByRecursion P (once same xs)
  once_have [] all = tt
  once_have (x ∷ xs) all = (all.0, all_filter P (λ other. not (same other x)) (once same xs) (once_have xs all.1))

  once_renamed : (xs : List N) → AllByRecursion P xs → once other_same (map f xs) ≡ map f (once same xs)
  once_renamed [] all = refl
  once_renamed (x ∷ xs) all =
      ap (λ l. f x ∷ filter (λ other. not (other_same other (f x))) l) (once_renamed xs all.1)
      ∙ ap (λ l. f x ∷ l) (filter_renamed f (λ other. not (same other x)) (λ other. not (other_same other (f x))) (once same xs)
      (each P (λ y. not (other_same (f y) (f x)) ≡ not (same y x)) (λ y py. ap not (keeps y x py all.0)) (once same xs) (once_have xs all.1)))

  row_renamed : (inputs : List N) (t : List Lit) → AllByRecursion P inputs → AllByRecursion PL t → row_of other_same (map f inputs) (map mf t) ≡ row_of same inputs t
  row_renamed [] t all of = refl
  row_renamed (n ∷ ns) t all of = ap (λ b. b ∷ row_of other_same (map f ns) (map mf t)) (bit_renamed t n all.0 of) ∙ ap (λ l. bit_in same t n ∷ l) (row_renamed ns t all.1 of)

  rows_renamed : (inputs : List N) (ts : List (List Lit)) → AllByRecursion P inputs → AllByRecursion (λ t. AllByRecursion PL t) ts → map (row_of other_same (map f inputs)) (map (map mf) ts) ≡ map (row_of same inputs) ts
  rows_renamed inputs [] all of = refl
  rows_renamed inputs (t ∷ ts) all of = ap (λ r. r ∷ map (row_of other_same (map f inputs)) (map (map mf) ts)) (row_renamed inputs t all of.0) ∙ ap (λ l. row_of same inputs t ∷ l) (rows_renamed inputs ts all of.1)

  -- all nets of the terms of a cover are as wanted
  with_term : (o : Option (List Lit)) (ts : List (List Lit)) → AllIn PL o → AllByRecursion (λ t. AllByRecursion PL t) ts → AllByRecursion (λ t. AllByRecursion PL t) (cons_option o ts)
  with_term None ts here all = all
  with_term (Some t) ts here all = (here, all)

  kept_terms : (nets : List N) (rows : List (List (Option Bool))) → AllByRecursion P nets → AllByRecursion (λ t. AllByRecursion PL t) (filter_map (term_of same nets) rows)
  kept_terms nets [] all = tt
  kept_terms nets (row ∷ rows) all =
      with_term (term_of same nets row) (filter_map (term_of same nets) rows) (all_term same PL (Some []) (literals_of nets row) tt (literals_have nets row all)) (kept_terms nets rows all)

  sum_terms : (on : Bool) (ts : List (List Lit)) → AllByRecursion (λ t. AllByRecursion PL t) ts → AllByRecursion (λ t. AllByRecursion PL t) (terms_of (sum_or_constant on ts))
  sum_terms true [] all = tt
  sum_terms false [] all = (tt, tt)
  sum_terms on (t ∷ ts) all = step on (list_any is_empty (t ∷ ts))
    where
      step : (on b : Bool) → AllByRecursion (λ t. AllByRecursion PL t) (terms_of (if b then Constant on else Sum on (t ∷ ts)))
      step true true = (tt, tt)
      step false true = tt
      step on false = all

  terms_nets : (ts : List (List Lit)) → AllByRecursion (λ t. AllByRecursion PL t) ts → AllByRecursion P (flat_map (λ t. map (λ (l : Lit). l.net) t) ts)
  terms_nets [] all = tt
  terms_nets (t ∷ ts) all = more t all.0 (terms_nets ts all.1)
    where
      more : (ls : List Lit) → AllByRecursion PL ls → AllByRecursion P (flat_map (λ t. map (λ (l : Lit). l.net) t) ts) → AllByRecursion P (map (λ (l : Lit). l.net) ls ++ flat_map (λ t. map (λ (l : Lit). l.net) t) ts)
      more [] of rest = rest
      more (l ∷ ls) of rest = (of.0, more ls of.1 rest)

  -- the cell of a form of such terms
  cell_of_form : (output : N) (form : Form N) → AllByRecursion (λ t. AllByRecursion PL t) (terms_of form) → form_cell other_same (f output) (map_form form) ≡ map_cell f (form_cell same output form)
  cell_of_form output form of =
      let all = terms_nets (terms_of form) of in
      let own = once same (nets_of form) in
      let inputs : once other_same (nets_of (map_form form)) ≡ map f own =
      ap (λ ts. once other_same (flat_map (λ t. map (λ (l : Literal M). l.net) t) ts)) (terms_renamed form) ∙ (ap (once other_same) (nets_renamed (terms_of form)) ∙ once_renamed (nets_of form) all) in
      ap (λ ins. record { inputs = ins; output = f output; function = Cover (record { rows = map (row_of other_same ins) (terms_of (map_form form)); on = on_of (map_form form) }) }) inputs
      ∙ (ap (λ ts. record { inputs = map f own; output = f output; function = Cover (record { rows = map (row_of other_same (map f own)) ts; on = on_of (map_form form) }) }) (terms_renamed form)
      ∙ (ap (λ rows. record { inputs = map f own; output = f output; function = Cover (record { rows = rows; on = on_of (map_form form) }) }) (rows_renamed own (terms_of form) (once_have (nets_of form) all) of)
      ∙ ap (λ on. record { inputs = map f own; output = f output; function = Cover (record { rows = map (row_of same own) (terms_of form); on = on }) }) (on_renamed form)))

  -- what is kept of a cell
  pub function_renamed : (inputs : List N) (output : N) (g : LogicFunction) → AllByRecursion P inputs → kept_function other_same (map f inputs) (f output) g ≡ map_cell f (kept_function same inputs output g)
  function_renamed inputs output (Cell cell) all = refl
  function_renamed inputs output (Cover cover) all =
      ap (form_cell other_same (f output)) (form_renamed inputs cover all)
      ∙ cell_of_form output (form_of same inputs cover) (sum_terms cover.on (filter_map (term_of same inputs) cover.rows) (kept_terms inputs cover.rows all))
