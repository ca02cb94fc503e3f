-- Lists of parts, and cells that fit a kind of gate or gate a clock.
use Rattle.std.proofs.Common.{◌≡◌, ℕ, ◌+◌, ◌≤◌, Bool, true, false, not, cond, ◌||◌, ◌&&◌, List, [], ◌∷◌, Option, None, Some, nat_eq}
use Rattle.std.proofs.Common.{refl, ap, sym, ◌∙◌, subst, inl, inr, arith}
use Rattle.std.specs.List.{All, AllPairs, count_by, find, list_any}
use Rattle.std.specs.Option.{option_map_or, option_to_list}
use Rattle.std.proofs.lemmas.Bool.{and_parts, both_ways, eqb-true, or_cases}
use Rattle.std.proofs.lemmas.List.Elements.{All-head, All-tail}
use Rattle.std.proofs.lemmas.List.Sums.{sum_by-cons}
use Rattle.std.proofs.lemmas.Option.{same_Some}
use Rattle.cg_cell.specs.Cell.{CellData}
use Rattle.cg_cell.specs.Fit.{is_fit, is_gate, is_gater, is_logic}
use Rattle.cg_cell.specs.Pins.{is_data, is_test}
use Rattle.cg_insert.specs.Insert.{gating_kind}
use Rattle.cg_cell.specs.declared.cell.CellKind.{CellKind}
use Rattle.cg_cell.specs.declared.cell.CellKind.TheVariants.{Logic, Flop as FlopKind, Gater as GaterKind, Unusable}
use Rattle.cg_cell.specs.declared.fit.FitKind.{FitKind}
use Rattle.cg_cell.specs.declared.fit.FitKind.TheVariants.{Inv, And2, Or2}
use Rattle.cg_netlist.specs.Circuit.{RegisterCell}
use Rattle.cg_netlist.specs.WellFormed.{FitsKind}
use Rattle.cg_netlist.specs.declared.parts.RegisterKind.{RegisterKind}
use Rattle.cg_netlist.specs.declared.parts.RegisterKind.TheVariants.{Plain, Flop}
use Rattle.cg_machine.specs.Gates.{HasInputs}

-- an option has no two
pub pairs_option : {X : Type 0} (R : X → X → Type 0) (o : Option X) → AllPairs R (option_to_list o)
pairs_option R None i j d before within = absurd (omega (arith, within))
pairs_option R (Some x) i j d before within = absurd (omega (arith, within, before))

pub some_pass : {X : Type 0} (p : X → Bool) (ys : List X) → list_any p ys ≡ true → 1 ≤ count_by p ys
some_pass p [] is = absurd (both_ways false refl is)
some_pass p (y ∷ ys) is = elim (or_cases (p y) (list_any p ys) is) [
  | inl here ↦ let one : ◌≡◌ {A = ℕ} (cond (p y) 1 0) 1 = ap {B = ℕ} (λ b. cond b 1 0) here in omega (arith, sum_by-cons (λ z. cond (p z) 1 0) y ys, one)
  | inr later ↦ let rest = some_pass p ys later in omega (arith, sum_by-cons (λ z. cond (p z) 1 0) y ys, rest)
]

-- the count of those that pass a test which passes at most once
pub counts : {X : Type 0} (p : X → Bool) (xs : List X) → (b : Bool) → count_by p xs ≤ 1 → cond b (list_any p xs) (not (list_any p xs)) ≡ true → count_by p xs ≡ cond b 1 0
counts p [] true few is = absurd (both_ways false refl is)
counts p [] false few is = refl
counts p (x ∷ xs) b few is = go (p x) refl b is (counts p xs false)
  where
    count : count_by p (x ∷ xs) ≡ cond (p x) 1 0 + count_by p xs
    count = sum_by-cons (λ y. cond (p y) 1 0) x xs

    go : (t : Bool) → p x ≡ t → (b : Bool) → cond b (t || list_any p xs) (not (t || list_any p xs)) ≡ true → (count_by p xs ≤ 1 → cond false (list_any p xs) (not (list_any p xs)) ≡ true → count_by p xs ≡ cond false 1 0) → count_by p (x ∷ xs) ≡ cond b 1 0
    go true at true is rest = let one : ◌≡◌ {A = ℕ} (cond (p x) 1 0) 1 = ap {B = ℕ} (λ b. cond b 1 0) at in omega (arith, count, one, few)
    go true at false is rest = absurd (both_ways false refl is)
    go false at false is rest = let none : ◌≡◌ {A = ℕ} (cond (p x) 1 0) 0 = ap {B = ℕ} (λ b. cond b 1 0) at in omega (arith, count, none, rest (omega (arith, count, few)) is)
    go false at true is rest =
        let none : ◌≡◌ {A = ℕ} (cond (p x) 1 0) 0 = ap {B = ℕ} (λ b. cond b 1 0) at in
        let more : 1 ≤ count_by p xs = some_pass p xs is in
        omega (arith, count, none, few, more)

pub found_All : {X : Type 0} (P : X → Type 0) (test : X → Bool) (xs : List X) (x : X) → All P xs → find test xs ≡ Some x → P x
found_All P test [] x all is = absurd (cc)
found_All P test (y ∷ ys) x all is = go (test y) is (found_All P test ys x (All-tail P y ys all))
  where
    go : (b : Bool) → cond b (Some y) (find test ys) ≡ Some x → (find test ys ≡ Some x → P x) → P x
    go true here rest = subst P (same_Some y x here) (All-head P y ys all)
    go false later rest = rest later

-- a cell that fits is a logic cell of so many inputs
pub fit_over : (kind : FitKind) (cell : CellData) (k : ℕ) → HasInputs kind k → is_fit kind cell ≡ true → (cell.kind ≡ Logic) × (count_by is_data cell.pins ≡ k)
fit_over kind cell k has fits = go kind has fits
  where
    logic : (kind : CellKind) → is_logic kind ≡ true → kind ≡ Logic
    logic Logic h = refl
    logic FlopKind h = absurd (both_ways false refl h)
    logic GaterKind h = absurd (both_ways false refl h)
    logic Unusable h = absurd (both_ways false refl h)

    gate : (n : ℕ) → k ≡ n → is_gate n cell ≡ true → (cell.kind ≡ Logic) × (count_by is_data cell.pins ≡ k)
    gate n is h = let both = and_parts (is_logic cell.kind) (Rattle.std.specs.Prelude.nat_eq (count_by is_data cell.pins) n) h in (logic cell.kind both.0, eqb-true (count_by is_data cell.pins) n both.1 ∙ sym is)

    go : (kind : FitKind) → HasInputs kind k → is_fit kind cell ≡ true → (cell.kind ≡ Logic) × (count_by is_data cell.pins ≡ k)
    go Inv has fits = gate 1 has (and_parts (is_gate 1 cell) (Rattle.cg_cell.specs.Fit.is_inversion (Rattle.cg_cell.specs.Fit.is_one cell.function)) fits).0
    go And2 has fits = gate 2 has (and_parts (is_gate 2 cell) (Rattle.cg_cell.specs.Fit.is_conjunction (Rattle.cg_cell.specs.Fit.is_one cell.function)) fits).0
    go Or2 has fits = gate 2 has (and_parts (is_gate 2 cell) (Rattle.cg_cell.specs.Fit.is_disjunction (Rattle.cg_cell.specs.Fit.is_one cell.function)) fits).0
    go _ has fits = absurd has

pub gater_kind : (kind : CellKind) → is_gater kind ≡ true → kind ≡ GaterKind
gater_kind GaterKind h = refl
gater_kind FlopKind h = absurd (both_ways false refl h)
gater_kind Logic h = absurd (both_ways false refl h)
gater_kind Unusable h = absurd (both_ways false refl h)

-- a reclocked register fits
pub kind_kept : (r : RegisterCell ℕ ℕ) (k : ℕ) (kind : RegisterKind) → FitsKind kind r → FitsKind kind (record r { clock = k })
kind_kept r k Plain fits = fits
kind_kept r k (Flop cell) fits = fits

-- the cell that gates a clock has a test pin exactly where there is a test input
pub gaters_by : (test : Option (List ℕ)) (cell : CellData) → is_fit (gating_kind test) cell ≡ (is_gater cell.kind && cond (option_map_or (λ _. true) test false) (list_any is_test cell.pins) (not (list_any is_test cell.pins)))
gaters_by None cell = refl
gaters_by (Some name) cell = refl
