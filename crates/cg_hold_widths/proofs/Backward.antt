-- Masks that are led back over logic cells tell the nets of cones.
use Rattle.std.proofs.Common.{◌≡◌, ℕ, zero, suc, ◌+◌, ◌<◌, Bool, true, false, ◌||◌, ◌&&◌, if◌then◌else◌, List, [], ◌∷◌, ◌++◌, length, slice_get}
use Rattle.std.proofs.Common.{drop, Some, refl, sym, ◌∙◌, ap, arith}
use Rattle.std.specs.List.{cons_option}
use Rattle.cg_net.specs.NetSets.{is_in}
use Rattle.cg_net.proofs.Members.{is_in-append}
use Rattle.cg_net.proofs.TableLemmas.{drop_cons}
use Rattle.cg_netlist.specs.Circuit.{LogicCell}
use Rattle.cg_netlist.specs.Moment.{values_at}
use Rattle.cg_netlist_cone.specs.Cone.{cone_of}
use Rattle.cg_hold_widths.specs.inner.Masks.{AreMasks, has_bit, mask_at}

pub element : {X : Type 0} (xs : List X) (k : ℕ) → k < length xs → (x : X) × (slice_get xs k ≡ Some x)
element [] k within = absurd (omega (arith, within))
element (x ∷ xs) zero within = (x, refl)
element (x ∷ xs) (suc k) within = element xs k (omega (arith, within))

-- the cells from a place on
pub cells_from : (cells : List (LogicCell ℕ)) (ids : List ℕ) (place id : ℕ) (cell : LogicCell ℕ) → slice_get ids place ≡ Some id → slice_get cells id ≡ Some cell
    → values_at cells (drop place ids) ≡ cell ∷ values_at cells (drop (place + 1) ids)
cells_from cells ids place id cell at is =
    ap (values_at cells) (drop_cons ids place id at)
    ∙ (ap (λ o. cons_option o (values_at cells (drop (suc place) ids))) is ∙ ap (λ k. cell ∷ values_at cells (drop k ids)) (let e : suc place ≡ place + 1 = omega arith in e))

-- the cone with one more cell in front
cone_more : (cell : LogicCell ℕ) (cells : List (LogicCell ℕ)) (nets : List ℕ) (y : ℕ)
    → is_in (cone_of (cell ∷ cells) nets) y ≡ (is_in (cone_of cells nets) y || (is_in cell.inputs y && is_in (cone_of cells nets) cell.output))
cone_more cell cells nets y = go (is_in (cone_of cells nets) cell.output)
  where
    and_true : (b : Bool) → b ≡ (b && true)
    and_true true = refl
    and_true false = refl

    or_none : (a b : Bool) → a ≡ (a || (b && false))
    or_none true b = refl
    or_none false true = refl
    or_none false false = refl

    go : (b : Bool) → is_in (if b then cone_of cells nets ++ cell.inputs else cone_of cells nets) y ≡ (is_in (cone_of cells nets) y || (is_in cell.inputs y && b))
    go true = is_in-append (cone_of cells nets) cell.inputs y ∙ ap (λ b. is_in (cone_of cells nets) y || b) (and_true (is_in cell.inputs y))
    go false = or_none (is_in (cone_of cells nets) y) (is_in cell.inputs y)

-- masks led back over one more cell
pub led_more : (nets : ℕ → List ℕ) (cell : LogicCell ℕ) (cells : List (LogicCell ℕ)) (before after : List ℕ) → AreMasks (λ i. cone_of cells (nets i)) before
    → ((i y : ℕ) → has_bit i (mask_at after y) ≡ (has_bit i (mask_at before y) || (is_in cell.inputs y && has_bit i (mask_at before cell.output)))) → AreMasks (λ i. cone_of (cell ∷ cells) (nets i)) after
led_more nets cell cells before after are led i y =
    led i y
    ∙ (ap (λ b. b || (is_in cell.inputs y && has_bit i (mask_at before cell.output))) (are i y)
    ∙ (ap (λ b. is_in (cone_of cells (nets i)) y || (is_in cell.inputs y && b)) (are i cell.output)
    ∙ sym (cone_more cell cells (nets i) y)))
