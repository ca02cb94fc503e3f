-- The literals that may hold a register, those first that are 0 most often.
use Rattle.std.specs.Prelude.{◌≡◌, ◌≤◌, ℕ, ◌-◌, Bool, true, false, not, ◌&&◌, if◌then◌else◌, List, [], ◌∷◌, length, slice_index_or}
use Rattle.std.specs.Prelude.{nat_eq, nat_le, Option, Some, None}
use Rattle.std.specs.List.{All, flat_map}
use Rattle.cg_cell.specs.Gates.{exclusive_or}
use Rattle.cg_machine.specs.Claims.{Literal}
use Rattle.cg_machine.specs.Machine.{MachineData}
use Rattle.cg_stage_list_laws.specs.Supports.{in_net_order, input_cone}

-- on how many rows of a stimulus each net is 0 while the clock is low, and how many rows there are
pub record ZeroCounts : Type 0 where
  pub zeros : List ℕ
  pub rows : ℕ

-- there is one number for each net, and none is above that of the rows
pub record AreZeroCounts (m : MachineData) (counts : ZeroCounts) : Type 0 where
  pub count : length counts.zeros ≡ length m.circuit.names
  pub most : All (λ zeros. zeros ≤ counts.rows) counts.zeros

abbrev pub FitZeroCounts : MachineData → Option ZeroCounts → Type 0
FitZeroCounts m None = Unit {0}
FitZeroCounts m (Some counts) = AreZeroCounts m counts

-- on how many rows a literal is 0; without a stimulus on none
abbrev pub zero_count : Option ZeroCounts → Literal → ℕ
zero_count None l = 0
zero_count (Some counts) l = let zeros = slice_index_or counts.zeros l.0 0 in if l.1 then counts.rows - zeros else zeros

-- a literal before those that are 0 less often or as often
abbrev pub insert_literal : Option ZeroCounts → Literal → List Literal → List Literal
insert_literal counts l [] = l ∷ []
insert_literal counts l (k ∷ ls) = if nat_le (zero_count counts k) (zero_count counts l) then l ∷ k ∷ ls else k ∷ insert_literal counts l ls

-- literals by how often they are 0, the most often first; those with one count stay in their order
abbrev pub by_count : Option ZeroCounts → List Literal → List Literal
by_count counts [] = []
by_count counts (l ∷ ls) = insert_literal counts l (by_count counts ls)

-- each net plain and then inverted
abbrev pub both_literals : List ℕ → List Literal
both_literals nets = flat_map (λ y. (y, false) ∷ (y, true) ∷ []) nets

-- the literals of a register
abbrev pub literals_of : MachineData → Option ZeroCounts → ℕ → List Literal
literals_of m counts r = by_count counts (both_literals (in_net_order m (input_cone m r)))

-- whether two literals are the same
abbrev pub same_bool : Bool → Bool → Bool
same_bool a b = not (exclusive_or a b)

abbrev pub same_literal : Literal → Literal → Bool
same_literal l k = nat_eq l.0 k.0 && same_bool l.1 k.1
