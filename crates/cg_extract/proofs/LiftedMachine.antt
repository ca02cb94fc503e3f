-- The machine that lifting makes: a machine with the netlist's registers and no more nets than it.
use Rattle.std.proofs.Common.{◌≡◌, ◌⊎◌, ℕ, ◌+◌, ◌<◌, ◌≤◌, Bool, true, List, [], ◌∷◌, length, map, nat_eq, slice_get, Option, None}
use Rattle.std.proofs.Common.{Some, refl, ap, sym, ◌∙◌, subst, inl, inr, arith}
use Rattle.std.specs.Option.{option_flatten, option_map}
use Rattle.std.proofs.lemmas.Bool.{or_cases, or_left, or_right}
use Rattle.std.proofs.lemmas.List.{length-map}
use Rattle.std.proofs.lemmas.Option.{slice_get-map, slice_get_within}
use Rattle.cg_netlist.specs.Circuit.{Circuit, GatingCell, RegisterCell, gater_outputs}
use Rattle.cg_net.specs.NetSets.{is_in}
use Rattle.cg_netlist.specs.Wiring.{map_register}
use Rattle.cg_machine.specs.Machine.{IsMachine, IsNet, MachineData, enable_of}
use Rattle.cg_extract.proofs.Bare.{bare_long}
use Rattle.cg_extract.proofs.Depths.{all_taken, depths_few}
use Rattle.cg_extract.proofs.Lifts.{Lifts, enable_net, lifting_lifts, taken}
use Rattle.cg_extract.specs.Laws.{LiftedIsMachine, LiftedIsSmall}
use Rattle.cg_extract.specs.Lifted.{CanExtract, Lifting, bare, by_depth, enable_under, lift_each, lift_one, lifted, lifted_enables}
use Rattle.cg_extract.specs.Lifted.{lifting, number_of, on_clock, unlifted}

-- each gating cell that is taken has an entry
entries_count : (c : Circuit) (l : Lifting) (gs : List (GatingCell ℕ)) → length (lift_each c l gs).enables ≡ length l.enables + length gs
entries_count c l [] = omega arith
entries_count c l (g ∷ gs) = let rest = entries_count c (lift_one c l g) gs in omega (arith, rest)

entries_has : (c : Circuit) (l : Lifting) (gs : List (GatingCell ℕ)) (x : ℕ) → (is_in (taken l.enables) x ≡ true) ⊎ (is_in (map (λ (g : GatingCell ℕ). g.output) gs) x ≡ true) → is_in (taken (lift_each c l gs).enables) x ≡ true
entries_has c l [] x which = elim which [ inl before ↦ before | inr never ↦ absurd (Rattle.std.proofs.lemmas.Bool.both_ways Rattle.std.proofs.Common.false refl never) ]
entries_has c l (g ∷ gs) x which = entries_has c (lift_one c l g) gs x (elim which [
  | inl before ↦ inl (or_right (nat_eq x g.output) (is_in (taken l.enables) x) before)
  | inr there ↦ elim (or_cases (nat_eq x g.output) (is_in (map (λ (g : GatingCell ℕ). g.output) gs) x) there) [
    | inl here ↦ inl (or_left (nat_eq x g.output) (is_in (taken l.enables) x) here)
    | inr later ↦ inr later
  ]
])

module _ (c : Circuit) (prefix : List ℕ) (can : CanExtract c prefix) where
  abbrev l : Lifting
  l = lifting c prefix

  abbrev m : MachineData
  m = lifted c prefix

  abbrev is : Lifts c prefix can l
  is = lifting_lifts c prefix can

  pub gater_taken : (x : ℕ) → is_in (gater_outputs c) x ≡ true → is_in (taken (lifting c prefix).enables) x ≡ true
  gater_taken x among = entries_has c (unlifted c prefix) (by_depth c) x (inr (all_taken c can.netlist.well_formed x among))

  pub start_count : length (bare c).registers ≡ length c.registers
  start_count = length-map (map (on_clock c) c.registers) (map_register (number_of c)) ∙ length-map c.registers (on_clock c)

  pub enables_long : length (lifted_enables c l.enables) ≡ length l.machine.circuit.registers
  enables_long = length-map c.registers (λ (r : RegisterCell ℕ ℕ). enable_under l.enables r.clock) ∙ sym (is.count ∙ start_count)

  -- the enable of a register is that of its clock net
  pub enable_is : (r : ℕ) (cell : RegisterCell ℕ ℕ) → slice_get c.registers r ≡ Some cell → enable_of (lifted c prefix) r ≡ enable_under (lifting c prefix).enables cell.clock
  enable_is r cell at = ap option_flatten (slice_get-map (λ (r : RegisterCell ℕ ℕ). enable_under l.enables r.clock) c.registers r ∙ ap (option_map (λ (r : RegisterCell ℕ ℕ). enable_under l.enables r.clock)) at)

  enabled_by : (r e : ℕ) (o : Option (RegisterCell ℕ ℕ)) → option_flatten (option_map (λ (r : RegisterCell ℕ ℕ). enable_under l.enables r.clock) o) ≡ Some e → IsNet l.machine e
  enabled_by r e None none = absurd (cc)
  enabled_by r e (Some cell) has = enable_net c l.machine l.enables cell.clock e is.all has

  pub lifted_machine : IsMachine (lifted c prefix)
  lifted_machine =
      let good = is.machine in
      record {
        well_formed = good.well_formed;
        no_gaters = good.no_gaters;
        inputs_once = good.inputs_once;
        outputs_once = good.outputs_once;
        small = good.small;
        few_registers = good.few_registers;
        walk = good.walk;
        enables = enables_long;
        enabled = λ r e has.
            let net = enabled_by r e (slice_get c.registers r) (sym (ap option_flatten (slice_get-map (λ (r : RegisterCell ℕ ℕ). enable_under l.enables r.clock) c.registers r)) ∙ has) in
            record { below = net.below; apart = net.apart };
        own_cells = good.own_cells;
        gates = good.gates;
        gates_fit = good.gates_fit;
        own_registers = good.own_registers;
        delays = λ r cell past at. let within = slice_get_within l.machine.circuit.registers r cell at in absurd (omega (arith, within, past, is.count, is.extends.own));
        added_nets = good.added_nets;
        prefix = good.prefix;
        fresh = good.fresh;
      }

pub lifted_is_machine : LiftedIsMachine
lifted_is_machine c prefix can = lifted_machine c prefix can

pub lifted_is_small : LiftedIsSmall
lifted_is_small c prefix can =
    let is = lifting_lifts c prefix can in
    let few = depths_few c in
    let entries = entries_count c (unlifted c prefix) (by_depth c) in
    let nets = bare_long c can.netlist in
    let regs = start_count c prefix can in (omega (arith, is.room, few, entries, nets), is.count ∙ regs, is.extends.own ∙ regs)
