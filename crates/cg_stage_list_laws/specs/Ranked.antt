-- The order in which the literals of a register are looked at.
use Rattle.std.specs.Prelude.{◌≡◌, ◌⊎◌, ◌<◌, ℕ, Bool, true, false, List, slice_get, Option, Some}
use Rattle.cg_machine.specs.Claims.{Literal}
use Rattle.cg_machine.specs.Machine.{IsMachine, MachineData}
use Rattle.cg_net.specs.NetSets.{is_in}
use Rattle.cg_stage_list_laws.specs.Literals.{ZeroCounts, literals_of, zero_count}
use Rattle.cg_stage_list_laws.specs.Supports.{input_cone}

-- in net order, and of one net plain before inverted
abbrev pub IsBefore : Literal → Literal → Type 0
IsBefore l k = (l.0 < k.0) ⊎ ((l.0 ≡ k.0) × (l.1 ≡ false) × (k.1 ≡ true))

-- a literal that is 0 on more rows than another, or on as many and before it
abbrev pub Precedes : Option ZeroCounts → Literal → Literal → Type 0
Precedes counts l k = (zero_count counts k < zero_count counts l) ⊎ ((zero_count counts l ≡ zero_count counts k) × IsBefore l k)

-- the two literals of each of these nets and no other, each once, the one that precedes another before it
pub record AreRanked (counts : Option ZeroCounts) (nets : List ℕ) (literals : List Literal) : Type 0 where
  pub there : (net : ℕ) (inverted : Bool) → is_in nets net ≡ true → (place : ℕ) × (slice_get literals place ≡ Some (net, inverted))
  pub only : (place : ℕ) (l : Literal) → slice_get literals place ≡ Some l → is_in nets l.0 ≡ true
  pub once : (i j : ℕ) (l : Literal) → slice_get literals i ≡ Some l → slice_get literals j ≡ Some l → i ≡ j
  pub ranked : (i j : ℕ) (l k : Literal) → i < j → slice_get literals i ≡ Some l → slice_get literals j ≡ Some k → Precedes counts l k

-- so it is with the literals of a register, which are those of the nets of its inputs' cone
abbrev pub LiteralsAreRanked : Type 0
LiteralsAreRanked = (m : MachineData) (counts : Option ZeroCounts) (r : ℕ) → IsMachine m →
    AreRanked counts (input_cone m r) (literals_of m counts r)
