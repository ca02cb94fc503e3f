-- The machine whose gating cells were lifted, with the enables of its registers, is the lifted machine.
use Rattle.std.proofs.Common.{[], ◌≡◌, ℕ, suc, ◌<◌, ◌≤◌, List, ◌∷◌, map, length, replicate, slice_get, Option, None, Some, refl, ap}
use Rattle.std.proofs.Common.{sym, ◌∙◌, subst, inl, inr, arith}
use Rattle.std.specs.Option.{option_flatten}
use Rattle.std.proofs.lemmas.Option.{slice_get_past}
use Rattle.cg_netlist.specs.Circuit.{Circuit, RegisterCell}
use Rattle.cg_machine.specs.Machine.{IsNet, MachineData}
use Rattle.cg_machine.specs.Run.{with_enables}
use Rattle.cg_extract.proofs.LiftedMachine.{start_count}
use Rattle.cg_extract.proofs.Lifts.{enable_net, lifting_lifts}
use Rattle.cg_extract.proofs.NetPlaces.{clock_within}
use Rattle.cg_extract.proofs.Taking.{lifting_free}
use Rattle.cg_extract.specs.Lifted.{CanExtract, enable_under, lifted, lifting}
use Rattle.cg_extract.specs.inner.Taking.{IsEnableTable, entry_at, table_enables}
use Rattle.cg_machine.proofs.Lists.{below_or}

module _ (c : Circuit) (prefix : List ℕ) (can : CanExtract c prefix) (old : MachineData) (named : old.prefix ≡ prefix) (m : MachineData) (made : m ≡ (lifting c old.prefix).machine) (table : List (Option ℕ)) (tells : IsEnableTable c (lifting c old.prefix).enables table) where
  machine_is : m ≡ (lifting c prefix).machine
  machine_is = made ∙ ap (λ p. (lifting c p).machine) named

  table_is : IsEnableTable c (lifting c prefix).enables table
  table_is = subst (λ p. IsEnableTable c (lifting c p).enables table) named tells

  pub nets : (net enable : ℕ) → entry_at table net ≡ Some enable → IsNet m enable
  nets net enable has = subst (λ n. IsNet n enable) (sym machine_is) (elim (below_or (length c.names) net) [
    | inl below ↦ enable_net c (lifting c prefix).machine (lifting c prefix).enables net enable (lifting_lifts c prefix can).all (sym (table_is.tells net below) ∙ has)
    | inr past ↦ absurd (let none : None ≡ Some enable = sym (ap option_flatten (slice_get_past table net (omega (arith, past, table_is.long)))) ∙ has in cc)
  ])

  pub registers : m.own_registers ≡ length c.registers
  registers = ap (λ (n : MachineData). n.own_registers) machine_is ∙ ((lifting_lifts c prefix can).extends.own ∙ start_count c prefix can)

  pub free : m.enables ≡ replicate (length c.registers) None
  free = ap (λ (n : MachineData). n.enables) machine_is ∙ lifting_free c prefix can

  same_enables : (rs : List (RegisterCell ℕ ℕ)) → ((k : ℕ) (r : RegisterCell ℕ ℕ) → slice_get rs k ≡ Some r → r.clock < length c.names) → table_enables table rs ≡ map (λ r. enable_under (lifting c prefix).enables r.clock) rs
  same_enables [] within = refl
  same_enables (r ∷ rs) within =
      ap (λ o. o ∷ table_enables table rs) (table_is.tells r.clock (within 0 r refl))
      ∙ ap (λ l. enable_under (lifting c prefix).enables r.clock ∷ l) (same_enables rs (λ k s at. within (suc k) s at))

  pub enabled : with_enables m (table_enables table c.registers) ≡ lifted c prefix
  enabled = ap (λ n. with_enables n (table_enables table c.registers)) machine_is ∙ ap (with_enables (lifting c prefix).machine) (same_enables c.registers (clock_within c can.netlist))
