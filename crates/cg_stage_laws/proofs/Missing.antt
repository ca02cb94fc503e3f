-- The first kind of cell that is needed and that a library lacks.
use Rattle.std.proofs.Common.{◌≡◌, ℕ, zero, suc, ◌<◌, Bool, true, false, not, cond, List, [], ◌∷◌, length, slice_get, is_some, None, Some}
use Rattle.std.proofs.Common.{refl, sym, ◌∙◌, ap, subst, arith}
use Rattle.std.specs.List.{position_or_len}
use Rattle.std.proofs.lemmas.Bool.{both_ways, lt-ltb}
use Rattle.std.proofs.lemmas.List.Folds.{find_at}
use Rattle.std.proofs.lemmas.Option.{none-some, same_Some, slice_get_within}
use Rattle.cg_cell.specs.Cell.{CellData}
use Rattle.cg_cell.specs.Fit.{is_fit}
use Rattle.cg_cell.specs.Library.{first_fit}
use Rattle.cg_cell.specs.declared.fit.FitKind.{FitKind}
use Rattle.cg_stage_laws.specs.Cells.{HasCell}
use Rattle.cg_stage_laws.specs.Needs.{missing}
use Rattle.cg_stage_laws.proofs.CellsThere.{first_there}

-- a library with a cell of a kind has a first one
pub no_cell : (library : List CellData) (kind : FitKind) → is_some (first_fit kind library) ≡ false → HasCell library kind → ⊥
no_cell library kind none has =
    let place : ℕ = position_or_len (is_fit kind) library in
    let within : place < length library = slice_get_within library place has.0 (sym (find_at (is_fit kind) library) ∙ has.1) in
    both_ways true (sym (ap (λ b. is_some (cond b (Some place) None)) (lt-ltb place (length library) within)) ∙ none) refl

-- the first kind of which a library has no cell
pub record IsFirstMissing (library : List CellData) (kinds : List FitKind) (kind : FitKind) : Type 0 where
  pub place : ℕ
  pub at : slice_get kinds place ≡ Some kind
  pub before : (k : ℕ) (other : FitKind) → k < place → slice_get kinds k ≡ Some other → HasCell library other
  pub none : HasCell library kind → ⊥

pub first_missing : (library : List CellData) (kinds : List FitKind) (kind : FitKind) → missing library kinds ≡ Some kind → IsFirstMissing library kinds kind
first_missing library [] kind h = absurd (none-some kind h)
first_missing library (first ∷ kinds) kind h = go (is_some (first_fit first library)) refl h (first_missing library kinds kind)
  where
    go : (b : Bool) → is_some (first_fit first library) ≡ b → cond (not b) (Some first) (missing library kinds) ≡ Some kind
        → (missing library kinds ≡ Some kind → IsFirstMissing library kinds kind) → IsFirstMissing library (first ∷ kinds) kind
    go false is k rest =
        let same : first ≡ kind = same_Some first kind k in
        record { place = 0; at = k; before = λ j other low at. absurd (omega (arith, low)); none = subst (λ x. HasCell library x → ⊥) same (no_cell library first is) }
    go true is k rest =
        let r : IsFirstMissing library kinds kind = rest k in
        record { place = suc r.place; at = r.at; before = earlier r; none = r.none }
      where
        earlier : (r : IsFirstMissing library kinds kind) (j : ℕ) (other : FitKind) → j < suc r.place → slice_get (first ∷ kinds) j ≡ Some other → HasCell library other
        earlier r zero other low at = subst (HasCell library) (same_Some first other at) (first_there library first [] (ap (λ b. cond (not b) (Some first) None) is)).0
        earlier r (suc j) other low at = r.before j other (omega (arith, low)) at
