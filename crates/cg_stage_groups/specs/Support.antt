-- The support of a register, as data.
use Rattle.std.specs.Prelude.{◌≡◌, ◌<◌, ◌+◌, ℕ, Bool, true, not, ◌||◌, List, length, nat_eq}
use Rattle.std.specs.List.{IsDistinct, list_any}
use Rattle.cg_netlist.specs.Circuit.{data_inputs}
use Rattle.cg_stage_list_laws.specs.Supports.{has_enable, has_input, input_cone, others_of, supports}
use Rattle.cg_claim.specs.Reach.{feeds}
use Rattle.cg_machine.specs.Machine.{MachineData}
use Rattle.cg_net.specs.NetSets.{is_in}
use Rattle.cg_stage_groups.specs.declared.support.Support.{Support}

-- it tells whether a data input is in the support of register r, and has the registers that are
pub record IsSupport (m : MachineData) (r : ℕ) (s : Support) : Type 0 where
  pub input : s.has_input ≡ has_input m r
  pub registers : (k : ℕ) → is_in s.registers k ≡ supports m r k

-- whether a data input, or another register without an enable, is in the support of register r
abbrev pub stands_on_free : MachineData → ℕ → Bool
stands_on_free m r = has_input m r || list_any (λ k. not (has_enable m k)) (others_of m r)

-- data inputs of the cone of a register's inputs, and registers at its edge or the register itself, each once, more than n of both
pub record StandsOnMore (m : MachineData) (r n : ℕ) : Type 0 where
  pub inputs : List ℕ
  pub registers : List ℕ
  pub inputs_once : IsDistinct nat_eq inputs
  pub registers_once : IsDistinct nat_eq registers
  pub inputs_are : (y : ℕ) → is_in inputs y ≡ true → (is_in (input_cone m r) y ≡ true) × (is_in (data_inputs m.circuit) y ≡ true)
  pub registers_are : (k : ℕ) → is_in registers k ≡ true → (nat_eq k r || feeds m (input_cone m r) k) ≡ true
  pub more : n < length inputs + length registers
