-- The cover of rows is one, and has a place for each input.
use Rattle.std.proofs.Common.{◌≡◌, ℕ, ◌==◌, ◌&&◌, not, Bool, true, false, if◌then◌else◌, List, [], ◌∷◌, length, Option, None, Some}
use Rattle.std.proofs.Common.{Result, Ok, Err, refl, sym, ap, ◌∙◌, subst, suc, unwrap_or}
use Rattle.std.specs.List.{list_all}
use Rattle.std.specs.Option.{option_and_then, option_map}
use Rattle.std.proofs.lemmas.Bool.{eqb-true}
use Rattle.std.proofs.lemmas.Option.{same_Some}
use Rattle.cg_cell.specs.Cover.{CoverData, CoverFits, IsCover}
use Rattle.cg_cell.specs.Name.{is_name}
use Rattle.cg_text.specs.declared.lines.Line.{Line}
use Rattle.cg_blif_text.specs.declared.fault.BlifFault.{BlifFault}
use Rattle.cg_blif_text.specs.declared.fault.BlifFault.TheVariants.{BadLine, BadCover}
use Rattle.cg_blif_text.specs.Rows.{Row, cover_from, keeps_value, put_places, put_row, row_of, row_place, row_places, row_with}
use Rattle.cg_blif_text.specs.Rows.{value_of}
use Rattle.cg_blif_text.proofs.PinPairs.{Word}
use Rattle.cg_cell.proofs.Covers.{have_one_length}

places_long : (word : Word) (places : List (Option Bool)) → row_places word ≡ Some places → length places ≡ length word
places_long [] places is = ap length (sym (same_Some [] places is))
places_long (b ∷ bs) places is = go (row_place b) (row_places bs) is (λ ps r. places_long bs ps r)
  where
    go : (o : Option (Option Bool)) (rest : Option (List (Option Bool))) → option_and_then (λ place. option_map (λ ps. place ∷ ps) rest) o ≡ Some places
        → ((ps : List (Option Bool)) → rest ≡ Some ps → length ps ≡ length bs) → length places ≡ suc (length bs)
    go None rest q back = absurd (cc)
    go (Some p) None q back = absurd (cc)
    go (Some p) (Some ps) q back = ap length (sym (same_Some (p ∷ ps) places q)) ∙ ap suc (back ps refl)

row_long : (inputs : ℕ) (ws : List Word) (row : Row) → row_of inputs ws ≡ Some row → length row.places ≡ inputs
row_long inputs [] row is = absurd (cc)
row_long inputs (v ∷ []) row is = go (inputs == 0) refl (value_of v) is
  where
    go : (b : Bool) → (inputs == 0) ≡ b → (value : Option Bool) → (if b then row_with (Some []) value else None) ≡ Some row → length row.places ≡ inputs
    go false e value q = absurd (cc)
    go true e None q = absurd (cc)
    go true e (Some value) q = ap (λ (r : Row). length r.places) (sym (same_Some (record { places = []; value = value }) row q)) ∙ sym (eqb-true inputs 0 e)
row_long inputs (w ∷ v ∷ []) row is = go (not (inputs == 0)) (length w == inputs) refl (row_places w) refl (value_of v) is
  where
    go : (a b : Bool) → (length w == inputs) ≡ b → (places : Option (List (Option Bool))) → row_places w ≡ places → (value : Option Bool) → (if a && b then row_with places value else None) ≡ Some row → length row.places ≡ inputs
    go false b e places p value q = absurd (cc)
    go true false e places p value q = absurd (cc)
    go true true e None p value q = absurd (cc)
    go true true e (Some places) p None q = absurd (cc)
    go true true e (Some places) p (Some value) q =
        ap (λ (r : Row). length r.places) (sym (same_Some (record { places = places; value = value }) row q)) ∙ (places_long w places p ∙ eqb-true (length w) inputs e)
row_long inputs (w ∷ v ∷ u ∷ ws) row is = absurd (cc)

-- rows that were read
pub record AreRows (inputs : ℕ) (on : Option Bool) (cover : CoverData) : Type 0 where
  pub fits : CoverFits inputs cover
  pub without : cover.rows ≡ [] → cover.on ≡ unwrap_or on true

pub rows_fit : (inputs : ℕ) (lines : List Line) (on : Option Bool) (cover : CoverData) → cover_from inputs lines on ≡ Ok cover → AreRows inputs on cover
rows_fit inputs [] on cover is = let same : record { rows = []; on = unwrap_or on true } ≡ cover = cc in subst (AreRows inputs on) same (record { fits = tt; without = λ none. refl })
rows_fit inputs (line ∷ later) on cover is = go (list_all is_name line.words) (row_of inputs line.words) refl is (λ value more r. rows_fit inputs later (Some value) more r)
  where
    put_on : (places : List (Option Bool)) → length places ≡ inputs → (rest : Result CoverData BlifFault) → put_places places rest ≡ Ok cover → ((more : CoverData) → rest ≡ Ok more → CoverFits inputs more) → AreRows inputs on cover
    put_on places long (Err fault) q back = absurd (cc)
    put_on places long (Ok more) q back =
        let same : record more { rows = places ∷ more.rows } ≡ cover = cc in
        subst (AreRows inputs on) same (record { fits = (long, back more refl); without = λ none. absurd (cc) })

    kept : (b : Bool) (row : Row) → length row.places ≡ inputs → (if b then put_places row.places (cover_from inputs later (Some row.value)) else Err (BadCover line.number)) ≡ Ok cover
        → ((value : Bool) (more : CoverData) → cover_from inputs later (Some value) ≡ Ok more → AreRows inputs (Some value) more) → AreRows inputs on cover
    kept true row long q back = put_on row.places long (cover_from inputs later (Some row.value)) q (λ more r. (back row.value more r).fits)
    kept false row long q back = absurd (cc)

    go : (b : Bool) (o : Option Row) → row_of inputs line.words ≡ o → (if b then put_row line.number on o (cover_from inputs later) else Err (BadLine line.number)) ≡ Ok cover
        → ((value : Bool) (more : CoverData) → cover_from inputs later (Some value) ≡ Ok more → AreRows inputs (Some value) more) → AreRows inputs on cover
    go false o r q back = absurd (cc)
    go true None r q back = absurd (cc)
    go true (Some row) r q back = kept (keeps_value on row.value) row (row_long inputs line.words row r) q back

pub cover_fits : (inputs : ℕ) (lines : List Line) (cover : CoverData) → cover_from inputs lines None ≡ Ok cover → IsCover cover × CoverFits inputs cover
cover_fits inputs lines cover is =
    let rows = rows_fit inputs lines None cover is in
    (record { even = have_one_length inputs cover.rows rows.fits; on_without_rows = rows.without }, rows.fits)
