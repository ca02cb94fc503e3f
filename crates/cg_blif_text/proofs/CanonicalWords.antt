-- The words of canonical lines are names, and say what they were made of.
use Rattle.std.proofs.Common.{◌≡◌, ℕ, ◌+◌, ◌-◌, ◌≤◌, Bool, true, false, not, ◌&&◌, ◌==◌, if◌then◌else◌, IsTrue, List, [], ◌∷◌, ◌++◌}
use Rattle.std.proofs.Common.{map, length, suc, zero, Option, None, Some, Ok, Err, refl, sym, ap, ◌∙◌, arith, append_assoc, take}
use Rattle.std.proofs.Common.{slice_index_or, nat_lt}
use Rattle.std.specs.List.{AllByRecursion, list_all, slice_get}
use Rattle.std.specs.Option.{option_and_then, option_map}
use Rattle.std.proofs.lemmas.Bool.{and_from, eq-eqb, false_from_ne_true, ltb-true}
use Rattle.std.proofs.lemmas.List.{length-append, length-map}
use Rattle.std.proofs.lemmas.List.Folds.{list_all-append}
use Rattle.std.proofs.Math.Dec.{eqb-suc-zero}
use Rattle.cg_cell.specs.Cover.{CoverData, CoverFits, IsCover}
use Rattle.cg_cell.specs.Name.{ends_name, is_name, is_name_byte}
use Rattle.cg_cell.specs.Pins.{PinData}
use Rattle.cg_limit.specs.declared.Limit.TheVariants.{CoverInputs}
use Rattle.cg_limit.specs.declared.TheConstants.{MOST_COVER_INPUTS}
use Rattle.cg_text.specs.Written.{numbered}
use Rattle.cg_blif_text.specs.declared.fault.BlifFault.TheVariants.{BadLine, BadCover}
use Rattle.cg_blif_text.specs.declared.fault.LineFault.TheVariants as faults
use Rattle.cg_blif_text.specs.declared.statement.Statement.TheVariants.{Names}
use Rattle.cg_blif_text.specs.Canonical.{bit_byte, place_byte, row_words}
use Rattle.cg_blif_text.specs.Commands.{are_row}
use Rattle.cg_blif_text.specs.Latches.{init_of}
use Rattle.cg_blif_text.specs.Meaning.{front, last, names_line}
use Rattle.cg_blif_text.specs.PinWords.{pin_word}
use Rattle.cg_blif_text.specs.Rows.{cover_from, keeps_value, put_places, put_row, row_of, row_place, row_places, row_with, value_of}
use Rattle.cg_blif_text.proofs.PinPairs.{Word, pin_words}
use Rattle.cg_netlist_placed.proofs.WordsForPins.{IsNamed}
use Rattle.cg_netlist_placed.proofs.WordsForPins.{AreNamed}
use Rattle.cg_blif_text.proofs.WrittenLines.{EndsWell, last_of, name_bytes, name_ends}

-- names

pub all_named : (ws : List Word) → AllByRecursion IsNamed ws → list_all is_name ws ≡ true
all_named [] all = refl
all_named (w ∷ ws) all = and_from (is_name w) (list_all is_name ws) all.0 (all_named ws all.1)

ends_named : (w : Word) → EndsWell w → list_all is_name_byte w ≡ true → is_name w ≡ true
ends_named w ends bytes =
    and_from (ends_name (slice_get w (length w - 1))) (list_all is_name_byte w)
    (ap (λ v. ends_name (slice_get v (length v - 1))) ends.is ∙ (ap ends_name (last_of ends.front ends.last) ∙ ap not ends.other)) bytes

bytes_both : (xs ys : List ℕ) → list_all is_name_byte xs ≡ true → list_all is_name_byte ys ≡ true → list_all is_name_byte (xs ++ ys) ≡ true
bytes_both xs ys x y = list_all-append is_name_byte xs ys ∙ and_from (list_all is_name_byte xs) (list_all is_name_byte ys) x y

pub pin_word_named : (pin net : Word) → IsNamed pin → IsNamed net → IsNamed (pin_word pin net)
pin_word_named pin net p n =
    let ends = name_ends net n in
    ends_named (pin_word pin net) (record { front = pin ++ 61 ∷ ends.front; last = ends.last; is = ap (λ v. pin ++ 61 ∷ v) ends.is ∙ sym (append_assoc pin (61 ∷ ends.front) (ends.last ∷ [])); high = ends.high; other = ends.other })
    (bytes_both pin (61 ∷ net) (name_bytes pin p) (name_bytes net n))

pub pin_words_named : (pins : List PinData) (nets : List (Option Word)) → AllByRecursion (λ pin. IsTrue (is_name pin.name)) pins → AreNamed nets → AllByRecursion IsNamed (pin_words pins nets)
pin_words_named [] nets pins_named nets_named = tt
pin_words_named (p ∷ pins) [] pins_named nets_named = tt
pin_words_named (p ∷ pins) (None ∷ nets) pins_named nets_named = pin_words_named pins nets pins_named.1 nets_named.1
pin_words_named (p ∷ pins) (Some net ∷ nets) pins_named nets_named = (pin_word_named p.name net pins_named.0 nets_named.0.0, pin_words_named pins nets pins_named.1 nets_named.1)

-- rows

IsPlain : ℕ → Type 0
IsPlain b = (is_name_byte b ≡ true) × ((b == 92) ≡ false)

plain_ends : (x : ℕ) (xs : List ℕ) → AllByRecursion IsPlain (x ∷ xs) → ends_name (slice_get (x ∷ xs) (length (x ∷ xs) - 1)) ≡ true
unfolding IsPlain
plain_ends x [] all = ap not all.0.1
plain_ends x (y ∷ ys) all =
    let e : length (x ∷ y ∷ ys) - 1 ≡ suc (length (y ∷ ys) - 1) = omega arith in
    ap (λ n. ends_name (slice_get (x ∷ y ∷ ys) n)) e ∙ plain_ends y ys all.1

plain_bytes : (xs : List ℕ) → AllByRecursion IsPlain xs → list_all is_name_byte xs ≡ true
unfolding IsPlain
plain_bytes [] all = refl
plain_bytes (x ∷ xs) all = and_from (is_name_byte x) (list_all is_name_byte xs) all.0.0 (plain_bytes xs all.1)

plain_name : (x : ℕ) (xs : List ℕ) → AllByRecursion IsPlain (x ∷ xs) → IsNamed (x ∷ xs)
plain_name x xs all = and_from (ends_name (slice_get (x ∷ xs) (length (x ∷ xs) - 1))) (list_all is_name_byte (x ∷ xs)) (plain_ends x xs all) (plain_bytes (x ∷ xs) all)

place_plain : (p : Option Bool) → IsPlain (place_byte p)
unfolding IsPlain
place_plain None = (refl, refl)
place_plain (Some true) = (refl, refl)
place_plain (Some false) = (refl, refl)

places_plain : (ps : List (Option Bool)) → AllByRecursion IsPlain (map place_byte ps)
places_plain [] = tt
places_plain (p ∷ ps) = (place_plain p, places_plain ps)

bit_named : (on : Bool) → IsNamed (bit_byte on ∷ [])
bit_named true = refl
bit_named false = refl

pub row_named : (on : Bool) (row : List (Option Bool)) → AllByRecursion IsNamed (row_words on row)
row_named on [] = (bit_named on, tt)
row_named on (p ∷ ps) = (plain_name (place_byte p) (map place_byte ps) (places_plain (p ∷ ps)), (bit_named on, tt))

pub row_row : (on : Bool) (row : List (Option Bool)) → are_row (row_words on row) ≡ true
row_row true [] = refl
row_row false [] = refl
row_row on (None ∷ ps) = refl
row_row on (Some true ∷ ps) = refl
row_row on (Some false ∷ ps) = refl

place_back : (p : Option Bool) → row_place (place_byte p) ≡ Some p
place_back None = refl
place_back (Some true) = refl
place_back (Some false) = refl

places_back : (ps : List (Option Bool)) → row_places (map place_byte ps) ≡ Some ps
places_back [] = refl
places_back (p ∷ ps) =
    ap (λ o. option_and_then (λ place. option_map (λ places. place ∷ places) (row_places (map place_byte ps))) o) (place_back p)
    ∙ ap (λ o. option_map (λ places. p ∷ places) o) (places_back ps)

value_back : (on : Bool) → value_of (bit_byte on ∷ []) ≡ Some on
value_back true = refl
value_back false = refl

same_eqb : (n : ℕ) → (n == n) ≡ true
same_eqb n = eq-eqb n n refl

row_back : (inputs : ℕ) (on : Bool) (row : List (Option Bool)) → length row ≡ inputs → row_of inputs (row_words on row) ≡ Some (record { places = row; value = on })
row_back inputs on [] long =
    ap (λ n. if n == 0 then row_with (Some []) (value_of (bit_byte on ∷ [])) else None) (sym long) ∙ ap (row_with (Some [])) (value_back on)
row_back inputs on (p ∷ ps) long =
    ap (λ n. if not (n == 0) && length (map place_byte (p ∷ ps)) == n then row_with (row_places (map place_byte (p ∷ ps))) (value_of (bit_byte on ∷ [])) else None) (sym long)
    ∙ (ap (λ b. if not b && length (map place_byte (p ∷ ps)) == length (p ∷ ps) then row_with (row_places (map place_byte (p ∷ ps))) (value_of (bit_byte on ∷ [])) else None) (eqb-suc-zero (length ps))
    ∙ (ap (λ b. if b then row_with (row_places (map place_byte (p ∷ ps))) (value_of (bit_byte on ∷ [])) else None) (ap (λ n. n == length (p ∷ ps)) (length-map (p ∷ ps) place_byte) ∙ same_eqb (length (p ∷ ps)))
    ∙ (ap (λ o. row_with o (value_of (bit_byte on ∷ []))) (places_back (p ∷ ps)) ∙ ap (row_with (Some (p ∷ ps))) (value_back on))))

keeps_own : (on : Bool) → keeps_value (Some on) on ≡ true
keeps_own true = refl
keeps_own false = refl

-- the rows behind rows of their value, and all rows
rows_on : (inputs : ℕ) (on : Bool) (rows : List (List (Option Bool))) (number : ℕ) → AllByRecursion (λ row. length row ≡ inputs) rows
    → cover_from inputs (numbered number (map (row_words on) rows)) (Some on) ≡ Ok (record { rows = rows; on = on })
rows_on inputs on [] number fits = refl
rows_on inputs on (row ∷ rows) number fits =
    ap (λ b. if b then put_row number (Some on) (row_of inputs (row_words on row)) (cover_from inputs (numbered (number + 1) (map (row_words on) rows))) else Err (BadLine number)) (all_named (row_words on row) (row_named on row))
    ∙ (ap (λ o. put_row number (Some on) o (cover_from inputs (numbered (number + 1) (map (row_words on) rows)))) (row_back inputs on row fits.0)
    ∙ (ap (λ b. if b then put_places row (cover_from inputs (numbered (number + 1) (map (row_words on) rows)) (Some on)) else Err (BadCover number)) (keeps_own on)
    ∙ ap (put_places row) (rows_on inputs on rows (number + 1) fits.1)))

pub rows_back : (inputs : ℕ) (cover : CoverData) (number : ℕ) → IsCover cover → CoverFits inputs cover → cover_from inputs (numbered number (map (row_words cover.on) cover.rows)) None ≡ Ok cover
rows_back inputs cover number is fits = go cover.rows refl fits
  where
    go : (rows : List (List (Option Bool))) → cover.rows ≡ rows → AllByRecursion (λ row. length row ≡ inputs) rows → cover_from inputs (numbered number (map (row_words cover.on) rows)) None ≡ Ok (record { rows = rows; on = cover.on })
    go [] e f = ap (λ b. Ok (record { rows = []; on = b })) (sym (is.on_without_rows e))
    go (row ∷ rows) e f =
        ap (λ b. if b then put_row number None (row_of inputs (row_words cover.on row)) (cover_from inputs (numbered (number + 1) (map (row_words cover.on) rows))) else Err (BadLine number)) (all_named (row_words cover.on row) (row_named cover.on row))
        ∙ (ap (λ o. put_row number None o (cover_from inputs (numbered (number + 1) (map (row_words cover.on) rows)))) (row_back inputs cover.on row f.0)
        ∙ ap (put_places row) (rows_on inputs cover.on rows (number + 1) f.1))

-- `.names` lines

take_exact : (xs ys : List Word) → take (length xs) (xs ++ ys) ≡ xs
take_exact [] ys = refl
take_exact (x ∷ xs) ys = ap (λ l. x ∷ l) (take_exact xs ys)

at_exact : (xs : List Word) (y : Word) → slice_index_or (xs ++ y ∷ []) (length xs) [] ≡ y
at_exact [] y = refl
at_exact (x ∷ xs) y = at_exact xs y

pub names_back : (inputs : List Word) (output : Word) → length inputs ≤ MOST_COVER_INPUTS → names_line (inputs ++ output ∷ []) ≡ Ok (Names inputs output)
names_back inputs output few =
    let long : length (inputs ++ output ∷ []) ≡ suc (length inputs) = omega (arith, length-append inputs (output ∷ [])) in
    let one : length (inputs ++ output ∷ []) - 1 ≡ length inputs = omega (arith, long) in
    let some : (length (inputs ++ output ∷ []) == 0) ≡ false = ap (λ n. n == 0) long ∙ eqb-suc-zero (length inputs) in
    let small : nat_lt (1 + MOST_COVER_INPUTS) (length (inputs ++ output ∷ [])) ≡ false = false_from_ne_true _ (λ over. let more = ltb-true (1 + MOST_COVER_INPUTS) (length (inputs ++ output ∷ [])) over in let no : ⊥ = omega (arith, more, long, few) in no) in
    ap (λ b. if b then Err faults.BadLine else (if nat_lt (1 + MOST_COVER_INPUTS) (length (inputs ++ output ∷ [])) then Err (faults.Limit CoverInputs) else Ok (Names (front (inputs ++ output ∷ [])) (last (inputs ++ output ∷ []))))) some
    ∙ (ap (λ b. if b then Err (faults.Limit CoverInputs) else Ok (Names (front (inputs ++ output ∷ [])) (last (inputs ++ output ∷ [])))) small
    ∙ (ap (λ ins. Ok (Names ins (last (inputs ++ output ∷ [])))) (ap (λ n. take n (inputs ++ output ∷ [])) one ∙ take_exact inputs (output ∷ []))
    ∙ ap (λ out. Ok (Names inputs out)) (ap (λ n. slice_index_or (inputs ++ output ∷ []) n []) one ∙ at_exact inputs output)))

-- inits

pub init_back : (init : ℕ) → init ≤ 3 → init_of ((48 + init) ∷ []) ≡ Some init
init_back zero small = refl
init_back (suc zero) small = refl
init_back (suc (suc zero)) small = refl
init_back (suc (suc (suc zero))) small = refl
init_back (suc (suc (suc (suc n)))) small = absurd (omega (arith, small))

pub init_named : (init : ℕ) → init ≤ 3 → IsNamed ((48 + init) ∷ [])
init_named zero small = refl
init_named (suc zero) small = refl
init_named (suc (suc zero)) small = refl
init_named (suc (suc (suc zero))) small = refl
init_named (suc (suc (suc (suc n)))) small = absurd (omega (arith, small))
