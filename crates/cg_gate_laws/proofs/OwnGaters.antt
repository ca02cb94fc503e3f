-- The gating cells of a netlist that is gated: none is refused, and so the library has cells for what they become.
use Rattle.std.proofs.Common.{◌≡◌, ℕ, ◌+◌, ◌≤◌, Bool, true, false, not, cond, ◌&&◌, List, [], ◌∷◌, length, slice_get, is_some}
use Rattle.std.proofs.Common.{Option, None, Some, refl, sym, ◌∙◌, ap, subst, arith}
use Rattle.std.specs.List.{count_by, find, list_any, position_from}
use Rattle.std.specs.Option.{option_to_list}
use Rattle.std.specs.Str.{bytes_eq}
use Rattle.std.proofs.lemmas.Bool.{both_ways}
use Rattle.std.proofs.lemmas.Iterator.Adapters.{position_from-zero}
use Rattle.std.proofs.lemmas.Option.{none-some, same_Some}
use Rattle.cg_cell.specs.Cell.{CellData, IsCell, has_test}
use Rattle.cg_cell.specs.Fit.{is_fit, is_gater}
use Rattle.cg_cell.specs.Pins.{is_test}
use Rattle.cg_cell.specs.declared.cell.CellKind.TheVariants.{Gater as GaterKind}
use Rattle.cg_cell.specs.declared.fit.FitKind.TheVariants.{And2, Gater}
use Rattle.cg_netlist.specs.Circuit.{Circuit, GatingCell}
use Rattle.cg_netlist_parts.specs.Writable.{IsOf}
use Rattle.cg_insert.proofs.GatedCells.{some_pass}
use Rattle.cg_stage_laws.specs.Cells.{HasCell}
use Rattle.cg_stage_laws.specs.Needs.{gater_kind}
use Rattle.cg_extract.specs.Lifted.{HasNoTests, first_refused, is_refused}
use Rattle.cg_extract.proofs.ForGating.{unrefused_untested}
use Rattle.cg_gate_laws.specs.Gated.{CanGate, Gating, first_gater, has_and, refused_gater}
use Rattle.cg_machine.proofs.Lists.{all_at}

-- where a test finds an element that passes another test, that one finds one
found_too : {X : Type 0} (p q : X → Bool) (xs : List X) (x : X) → find q xs ≡ Some x → p x ≡ true → (y : X) × (find p xs ≡ Some y)
found_too p q [] x at passes = absurd (none-some x at)
found_too {X = X} p q (y ∷ ys) x at passes = go (p y) refl (q y) at (found_too p q ys x)
  where
    go : (a : Bool) → p y ≡ a → (b : Bool) → cond b (Some y) (find q ys) ≡ Some x → (find q ys ≡ Some x → p x ≡ true → (z : X) × (find p ys ≡ Some z)) → (z : X) × (cond a (Some y) (find p ys) ≡ Some z)
    go true is b here rest = (y, refl)
    go false is true here rest = absurd (both_ways (p y) is (ap p (same_Some y x here) ∙ passes))
    go false is false later rest = rest later passes

-- and so it does where some place passes it
placed_found : {X : Type 0} (p : X → Bool) (xs : List X) (a : ℕ) → is_some (position_from p a xs) ≡ true → (x : X) × (find p xs ≡ Some x)
placed_found p [] a some = absurd (both_ways false refl some)
placed_found {X = X} p (x ∷ xs) a some = go (p x) refl some (placed_found p xs (a + 1))
  where
    go : (b : Bool) → p x ≡ b → is_some (cond b (Some a) (position_from p (a + 1) xs)) ≡ true → (is_some (position_from p (a + 1) xs) ≡ true → (y : X) × (find p xs ≡ Some y)) → (y : X) × (cond b (Some x) (find p xs) ≡ Some y)
    go true is some rest = (x, refl)
    go false is some rest = rest some

pub and_there : (library : List CellData) → has_and library ≡ true → HasCell library And2
and_there library some = placed_found (is_fit And2) library 0 (ap is_some (sym (position_from-zero (is_fit And2) library)) ∙ some)

none_pass : {X : Type 0} (p : X → Bool) (xs : List X) → count_by p xs ≡ 0 → list_any p xs ≡ false
none_pass p xs none = go (list_any p xs) refl
  where
    go : (b : Bool) → list_any p xs ≡ b → b ≡ false
    go false is = refl
    go true is = let some : 1 ≤ count_by p xs = some_pass p xs is in absurd (omega (arith, some, none))

-- a gating cell without a test pin gates a clock
gater_fits : (cell : CellData) → cell.kind ≡ GaterKind → count_by is_test cell.pins ≡ 0 → is_fit Gater cell ≡ true
gater_fits cell kind none = ap (λ k. is_gater k && not (has_test cell)) kind ∙ ap not (none_pass is_test cell.pins none)

no_gaters : (gaters : List (GatingCell ℕ)) → first_gater gaters ≡ None → gaters ≡ []
no_gaters [] none = refl
no_gaters (gater ∷ gaters) none = absurd (none-some 0 (sym none))

module _ (by : Gating) (c : Circuit) (can : CanGate by c) where
  -- where there is to be a test input, there is no gating cell
  pub ungated_tested : (name : List ℕ) → by.test ≡ Some name → c.gaters ≡ []
  ungated_tested name is = no_gaters c.gaters (subst (λ t. refused_gater by.library t c ≡ None) is can.lifts)

  -- and where there is to be none, no gating cell has a test pin
  plain_refused : by.test ≡ None → first_refused c (has_and by.library) ≡ None
  plain_refused is = subst (λ t. refused_gater by.library t c ≡ None) is can.lifts

  pub untested : by.test ≡ None → HasNoTests c
  untested is = unrefused_untested c (has_and by.library) (plain_refused is)

  -- without a cell for the and of two nets, no gating cell stands behind another
  pub unchained : has_and by.library ≡ false → first_refused c false ≡ None
  unchained none = go by.test refl
    where
      go : (t : Option (List ℕ)) → by.test ≡ t → first_refused c false ≡ None
      go None is = subst (λ b. first_refused c b ≡ None) none (plain_refused is)
      go (Some name) is = ap (position_from (is_refused c false) 0) (ungated_tested name is)

  -- where there is a gating cell, the library has one of the kind that is written
  pub gater_there : (k : ℕ) (g : GatingCell ℕ) → slice_get c.gaters k ≡ Some g → HasCell by.library (gater_kind by.settings.test)
  gater_there k g at = go by.test refl
    where
      go : (t : Option (List ℕ)) → by.test ≡ t → HasCell by.library (gater_kind by.settings.test)
      go None is =
          let its = all_at (λ (gater : GatingCell ℕ). IsCell gater.cell × (gater.cell.kind ≡ GaterKind) × (count_by is_test gater.cell.pins ≡ length (option_to_list gater.test))) c.gaters k g can.start.netlist.well_formed.gating at in
          let free : g.test ≡ None = all_at (λ (gater : GatingCell ℕ). gater.test ≡ None) c.gaters k g (untested is) at in
          let own : IsOf by.library g.cell = all_at (λ (gater : GatingCell ℕ). IsOf by.library gater.cell) c.gaters k g can.own at in
          let fits : is_fit Gater g.cell ≡ true = gater_fits g.cell its.1 (its.2 ∙ ap (λ (o : Option ℕ). length (option_to_list o)) free) in
          subst (λ b. HasCell by.library (gater_kind b)) (sym (can.tested ∙ ap is_some is)) (found_too (is_fit Gater) (λ cell. bytes_eq g.cell.name cell.name) by.library g.cell own fits)
      go (Some name) is = absurd (none-some g (ap (λ (gs : List (GatingCell ℕ)). slice_get gs k) (sym (ungated_tested name is)) ∙ at))
