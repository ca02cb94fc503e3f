-- The nets of a cone: the roots are among them, with the output of a cell its inputs, and they are the nets from which
-- logic cells lead to a root.
use Rattle.std.proofs.Common.{◌≡◌, ℕ, zero, suc, Bool, true, false, if◌then◌else◌, List, [], ◌∷◌, ◌++◌, slice_get, Some, refl, sym}
use Rattle.std.proofs.Common.{◌∙◌, ap, subst, inl, inr}
use Rattle.std.proofs.lemmas.Bool.{both_ways}
use Rattle.std.proofs.lemmas.Option.{none-some}
use Rattle.cg_netlist.specs.Circuit.{LogicCell}
use Rattle.cg_net.specs.NetSets.{is_in}
use Rattle.cg_netlist_cone.specs.Cone.{IsInCone, Reaches, cone_of, here, through}
use Rattle.cg_netlist.specs.Nets.{IsOrdered, IsWalk, outputs}
use Rattle.cg_net.proofs.Members.{is_in_cases, is_in_left, is_in_right, member_at}
use Rattle.cg_netlist.proofs.Values.{at_map}

-- with the output of a cell its inputs pass the test
abbrev pub AreClosed : List (LogicCell ℕ) → (ℕ → Bool) → Type 0
AreClosed cells test = (k : ℕ) (cell : LogicCell ℕ) → slice_get cells k ≡ Some cell → test cell.output ≡ true → (x : ℕ) → is_in cell.inputs x ≡ true → test x ≡ true

pub cone_has : (cells : List (LogicCell ℕ)) (nets : List ℕ) (x : ℕ) → is_in nets x ≡ true → is_in (cone_of cells nets) x ≡ true
cone_has [] nets x among = among
cone_has (cell ∷ cells) nets x among = go (cone_has cells nets x among) (is_in (cone_of cells nets) cell.output)
  where
    go : is_in (cone_of cells nets) x ≡ true → (b : Bool) → is_in (if b then cone_of cells nets ++ cell.inputs else cone_of cells nets) x ≡ true
    go known true = is_in_left (cone_of cells nets) cell.inputs x known
    go known false = known

closed_on : (cell : LogicCell ℕ) (cells : List (LogicCell ℕ)) (later : List ℕ) → IsOrdered (cell ∷ cells) → AreClosed cells (is_in later)
    → (b : Bool) → is_in later cell.output ≡ b → AreClosed (cell ∷ cells) (is_in (if b then later ++ cell.inputs else later))
closed_on cell cells later ordered closed true is zero c at output x among =
    let same : cell ≡ c = cc in
    is_in_right later cell.inputs x (subst (λ e. is_in e.inputs x ≡ true) (sym same) among)
closed_on cell cells later ordered closed true is (suc k) c at output x among =
    elim (is_in_cases later cell.inputs c.output output) [
      | inl early ↦ is_in_left later cell.inputs x (closed k c at early x among)
      | inr input ↦ absurd (both_ways (is_in (outputs (cell ∷ cells)) c.output) (ordered.0 c.output input)
          (member_at (outputs (cell ∷ cells)) (suc k) c.output (at_map (λ cell. cell.output) (cell ∷ cells) (suc k) c at)))
    ]
closed_on cell cells later ordered closed false is zero c at output x among =
    let same : cell ≡ c = cc in
    absurd (both_ways (is_in later c.output) (ap (λ e. is_in later e.output) (sym same) ∙ is) output)
closed_on cell cells later ordered closed false is (suc k) c at output x among = closed k c at output x among

pub cone_closed : (cells : List (LogicCell ℕ)) (nets : List ℕ) → IsOrdered cells → AreClosed cells (is_in (cone_of cells nets))
cone_closed [] nets ordered = λ k c at output x among. absurd (none-some c at)
cone_closed (cell ∷ cells) nets ordered = closed_on cell cells (cone_of cells nets) ordered (cone_closed cells nets ordered.1) (is_in (cone_of cells nets) cell.output) refl

-- one more cell in front of a way
pub longer : (cells : List (LogicCell ℕ)) (k : ℕ) (cell : LogicCell ℕ) (y x : ℕ) → slice_get cells k ≡ Some cell → is_in cell.inputs y ≡ true → Reaches cells cell.output x → Reaches cells y x
longer cells k cell y x at input here = through k cell y at input here
longer cells k cell y x at input (through j c z atj inz way) = through j c z atj inz (longer cells k cell y z at input way)

module _ (cells walk : List (LogicCell ℕ)) (good : IsWalk cells walk) (roots : List ℕ) where
  pub in_cone : (rest : List (LogicCell ℕ)) → ((j : ℕ) (cell : LogicCell ℕ) → slice_get rest j ≡ Some cell → (k : ℕ) × (slice_get cells k ≡ Some cell)) → (y : ℕ) → is_in (cone_of rest roots) y ≡ true → IsInCone cells roots y
  in_cone [] places y among = record { root = y; among = among; reaches = here }
  in_cone (cell ∷ rest) places y among = go (in_cone rest (λ j. places (suc j))) (is_in (cone_of rest roots) cell.output) refl among
    where
      go : ((z : ℕ) → is_in (cone_of rest roots) z ≡ true → IsInCone cells roots z) → (b : Bool) → is_in (cone_of rest roots) cell.output ≡ b
          → is_in (if b then cone_of rest roots ++ cell.inputs else cone_of rest roots) y ≡ true → IsInCone cells roots y
      go known false is h = known y h
      go known true is h = elim (is_in_cases (cone_of rest roots) cell.inputs y h) [
        | inl later ↦ known y later
        | inr input ↦
            let k = places 0 cell refl in
            let way = known cell.output is in
            record { root = way.root; among = way.among; reaches = longer cells k.0 cell y way.root k.1 input way.reaches }
      ]

  pub from_way : (y x : ℕ) → Reaches cells y x → is_in (cone_of walk roots) x ≡ true → is_in (cone_of walk roots) y ≡ true
  from_way y x here among = among
  from_way y x (through k cell z at input way) among =
      let j = good.placed k cell at in
      from_way y z way (cone_closed walk roots good.ordered j.0 cell j.1 among z input)

  -- the cone by the walk is the cone by the relation
  pub cone_is : (y : ℕ) → (is_in (cone_of walk roots) y ≡ true → IsInCone cells roots y) × (IsInCone cells roots y → is_in (cone_of walk roots) y ≡ true)
  cone_is y = (
    in_cone walk good.of_cells y,
    (λ (way : IsInCone cells roots y). from_way y way.root way.reaches (cone_has walk roots way.root way.among)),
  )
