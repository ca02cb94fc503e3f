-- What the machine of a netlist keeps of it: its own netlist, and which registers are on gating cells.
use Rattle.std.proofs.Common.{◌≡◌, ℕ, ◌<◌, false, List, length, Option, None, Some, is_some, refl, sym, ap, ◌∙◌, inl, inr}
use Rattle.std.specs.Option.{option_map_or}
use Rattle.std.specs.List.{All}
use Rattle.std.proofs.lemmas.Bool.{cases_Bool}
use Rattle.cg_extract.specs.Lifted.{CanExtract, bare, enable_under, lifted, lifting}
use Rattle.cg_extract.proofs.ForGating.{bare_is_netlist, lifted_own}
use Rattle.cg_extract.proofs.LiftedMachine.{enable_is, gater_taken, lifted_is_machine, lifted_is_small}
use Rattle.cg_extract.proofs.Lifts.{enable_gater, lifting_lifts, taken_found}
use Rattle.cg_machine.specs.Added.{own_netlist}
use Rattle.cg_machine.specs.Machine.{IsMachine, MachineData, enable_of}
use Rattle.cg_net.specs.NetSets.{is_in}
use Rattle.cg_netlist.specs.Circuit.{Circuit, RegisterCell, gater_outputs, used_nets}
use Rattle.cg_netlist.specs.WellFormed.{IsDriven}
use Rattle.cg_netlist.proofs.Values.{element_at}
use Rattle.cg_register_text.specs.Causes.{is_given}

pub record IsLiftedFrom (c : Circuit) (m : MachineData) : Type 0 where
  pub good : IsMachine m
  pub registers : length m.circuit.registers ≡ length c.registers
  pub own : m.own_registers ≡ length c.registers
  pub netlist : own_netlist m ≡ bare c
  pub enabled : (r : ℕ) → r < length c.registers → is_some (enable_of m r) ≡ is_given c r

module _ (c : Circuit) (prefix : List ℕ) (can : CanExtract c prefix) where
  -- a net has an enable beside it exactly where it is the output of a gating cell
  under : (net : ℕ) (o : Option ℕ) → enable_under (lifting c prefix).enables net ≡ o → is_some o ≡ is_in (gater_outputs c) net
  under net (Some e) is = sym (enable_gater c (lifting c prefix).machine (lifting c prefix).enables net e (lifting_lifts c prefix can).all is)
  under net None is = elim (cases_Bool (is_in (gater_outputs c) net)) [
    | inl gate ↦
        let found = taken_found (lifting c prefix).enables net (gater_taken c prefix can net gate) in
        absurd (let no : None ≡ Some found.0 = sym is ∙ found.1 in cc)
    | inr other ↦ sym other
  ]

  given_so : (r : ℕ) → r < length c.registers → is_some (enable_of (lifted c prefix) r) ≡ is_given c r
  given_so r below =
      let at = element_at c.registers r below in
      ap is_some (enable_is c prefix can r at.0 at.1)
      ∙ (under at.0.clock (enable_under (lifting c prefix).enables at.0.clock) refl
      ∙ sym (ap (λ (o : Option (RegisterCell ℕ ℕ)). option_map_or (λ (cell : RegisterCell ℕ ℕ). is_in (gater_outputs c) cell.clock) o false) at.1))

  pub lifted_from : IsLiftedFrom c (lifted c prefix)
  lifted_from = record {
    good = lifted_is_machine c prefix can;
    registers = (lifted_is_small c prefix can).1;
    own = (lifted_is_small c prefix can).2;
    netlist = (lifted_own c prefix can).own;
    enabled = given_so;
  }

  -- the netlist that is left is one
  pub bare_driven : IsDriven (bare c)
  bare_driven = (bare_is_netlist c can.netlist).0.well_formed.driven

  pub bare_used : All (λ net. net < length (bare c).names) (used_nets (bare c))
  bare_used = (bare_is_netlist c can.netlist).0.well_formed.used
