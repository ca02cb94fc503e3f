-- The rises of the registers of a netlist are its edges.
use Rattle.std.proofs.Common.{◌≡◌, ℕ, ◌+◌, if◌then◌else◌, List, [], ◌∷◌, Option, None, Some, refl, ap, ◌∙◌, arith}
use Rattle.std.specs.List.{count_by, sum_by}
use Rattle.std.proofs.lemmas.List.Sums.{sum-map, sum_by-cons}
use Rattle.cg_netlist.specs.Circuit.{Circuit, RegisterCell}
use Rattle.cg_netlist.specs.History.{Moment, edges_from, rises}
use Rattle.cg_register_text.specs.Laws.{RisesAreEdges}
use Rattle.cg_register_text.specs.Rises.{rises_from}

-- the sum of sums
sum_both : (f g : RegisterCell ℕ ℕ → ℕ) (rs : List (RegisterCell ℕ ℕ)) → sum_by (λ r. f r + g r) rs ≡ sum_by f rs + sum_by g rs
sum_both f g [] = refl
sum_both f g (r ∷ rs) =
    let h : RegisterCell ℕ ℕ → ℕ = λ r. f r + g r in
    let both : sum_by h (r ∷ rs) ≡ h r + sum_by h rs = sum_by-cons h r rs in
    let one = sum_by-cons f r rs in
    let two = sum_by-cons g r rs in
    let rest : sum_by h rs ≡ sum_by f rs + sum_by g rs = sum_both f g rs in
    omega (arith, both, one, two, rest)

sum_none : (rs : List (RegisterCell ℕ ℕ)) → sum_by (λ (r : RegisterCell ℕ ℕ). 0) rs ≡ 0
sum_none [] = refl
sum_none (r ∷ rs) = let one = sum_by-cons (λ (q : RegisterCell ℕ ℕ). 0) r rs in let rest = sum_none rs in omega (arith, one, rest)

from_moment : (c : Circuit) (before : Option Moment) (history : List Moment) → sum_by (rises_from before history) c.registers ≡ edges_from c before history
from_moment c before [] = sum_none c.registers
from_moment c None (now ∷ history) = from_moment c (Some now) history
from_moment c (Some before) (now ∷ history) =
    sum_both (λ r. if rises before.nets now.nets r then 1 else 0) (rises_from (Some now) history) c.registers
    ∙ ap (λ n. count_by (rises before.nets now.nets) c.registers + n) (from_moment c (Some now) history)

pub rises_are_edges : RisesAreEdges
rises_are_edges c history = sum-map (rises_from None history) c.registers ∙ from_moment c None history
