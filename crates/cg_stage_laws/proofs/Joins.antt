-- Nets joined from the left by or gates: the gates are there, and the joined net is 1 where one of the nets is.
use Rattle.std.proofs.Common.{◌≡◌, ℕ, ◌<◌, Bool, true, false, ◌||◌, List, [], ◌∷◌, map, length, nat_eq, None, refl, sym}
use Rattle.std.proofs.Common.{◌∙◌, ap, subst, arith, inl, inr}
use Rattle.std.proofs.lemmas.Bool.{both_ways, eqb-true, eq-eqb, or_cases, or_left, or_right}
use Rattle.cg_cell.specs.Cover.{cover_value}
use Rattle.cg_cell.specs.Gates.{any_of}
use Rattle.cg_cell.specs.declared.fit.FitKind.TheVariants.{Or2}
use Rattle.cg_net.specs.NetSets.{is_in}
use Rattle.cg_netlist.specs.Moment.{bit}
use Rattle.cg_machine.specs.Added.{Added, add_gate, gate_limit}
use Rattle.cg_machine.specs.Extends.{Extends, HasGate, old}
use Rattle.cg_machine.specs.Gates.{or_cover}
use Rattle.cg_machine.specs.Machine.{IsInputs, IsMachine, IsNet, IsState, MachineData, values}
use Rattle.cg_machine.proofs.Extended.{extends_self, extends_then, front_bit, net_kept, old_inputs, old_long}
use Rattle.cg_machine.proofs.FewValues.{values_two}
use Rattle.cg_machine.proofs.GateValues.{or_value}
use Rattle.cg_machine.proofs.Settled.{wide}
use Rattle.cg_machine.proofs.There.{first_none, gate_there, second_none}
use Rattle.cg_stage_laws.specs.Joined.{join, join_limit}
use Rattle.std.proofs.Math.Bool.{or_assoc}

pub two_nets : (m : MachineData) (a b : ℕ) → IsNet m a → IsNet m b → (y : ℕ) → is_in (a ∷ b ∷ []) y ≡ true → IsNet m y
two_nets m a b is it y among = elim (or_cases (nat_eq y a) (nat_eq y b || false) among) [
  | inl same ↦ subst (IsNet m) (sym (eqb-true y a same)) is
  | inr more ↦ elim (or_cases (nat_eq y b) false more) [
    | inl same ↦ subst (IsNet m) (sym (eqb-true y b same)) it
    | inr none ↦ absurd (both_ways false refl none)
  ]
]

pub or_there : (m : MachineData) → IsMachine m → (a b : ℕ) → IsNet m a → IsNet m b → gate_limit m Or2 (a ∷ b ∷ []) ≡ None → HasGate m Or2 (a ∷ b ∷ []) (add_gate m Or2 (a ∷ b ∷ []))
or_there m good a b is it room = gate_there m Or2 (a ∷ b ∷ []) good (record { count = refl; nets = two_nets m a b is it }) room

-- nets joined
pub record Joins (m : MachineData) (nets : List ℕ) (a : Added) : Type 0 where
  pub good : IsMachine a.machine
  pub extends : Extends m a.machine
  pub is_net : IsNet a.machine a.net
  pub registers : length a.machine.circuit.registers ≡ length m.circuit.registers
  pub shows : (s x : List Bool) → IsState a.machine s → IsInputs a.machine x → bit (values a.machine s x) a.net ≡ any_of (map (bit (values a.machine s x)) nets)

or_none : (b : Bool) → b ≡ (b || false)
or_none true = refl
or_none false = refl

pub join_there : (a : Added) → IsMachine a.machine → IsNet a.machine a.net → (ys : List ℕ) → ((y : ℕ) → is_in ys y ≡ true → IsNet a.machine y) → join_limit a ys ≡ None → Joins a.machine (a.net ∷ ys) (join a ys)
join_there a good net [] nets room = record {
  good = good;
  extends = extends_self a.machine;
  is_net = net;
  registers = refl;
  shows = λ s x long ins. or_none (bit (values a.machine s x) a.net);
}
join_there a good net (y ∷ ys) nets room =
    let isy : IsNet a.machine y = nets y (or_left (nat_eq y y) (is_in ys y) (eq-eqb y y refl)) in
    let first : HasGate a.machine Or2 (a.net ∷ y ∷ []) (add_gate a.machine Or2 (a.net ∷ y ∷ [])) = or_there a.machine good a.net y net isy (first_none (gate_limit a.machine Or2 (a.net ∷ y ∷ [])) (join_limit (add_gate a.machine Or2 (a.net ∷ y ∷ [])) ys) room) in
    let b : Added = add_gate a.machine Or2 (a.net ∷ y ∷ []) in
    let rest : Joins b.machine (b.net ∷ ys) (join b ys) = join_there b first.good first.is_net ys (λ z among. net_kept a.machine b.machine first.extends z (nets z (or_right (nat_eq z y) (is_in ys z) among))) (second_none (gate_limit a.machine Or2 (a.net ∷ y ∷ [])) (join_limit (add_gate a.machine Or2 (a.net ∷ y ∷ [])) ys) room) in
    record {
      good = rest.good;
      extends = extends_then a.machine b.machine (join b ys).machine first.extends rest.extends;
      is_net = rest.is_net;
      registers = rest.registers ∙ first.registers;
      shows = λ s x long ins.
          let e : Extends b.machine (join b ys).machine = rest.extends in
          let inb : IsInputs b.machine x = old_inputs b.machine (join b ys).machine e x ins in
          let s0 : List Bool = old b.machine s in
          let long_b : IsState b.machine s0 = old_long b.machine (join b ys).machine e s long in
          let front : (z : ℕ) → z < length b.machine.circuit.names → bit (values (join b ys).machine s x) z ≡ bit (values b.machine s0 x) z = front_bit b.machine (join b ys).machine e s x long inb in
          let na : a.net < length b.machine.circuit.names = (net_kept a.machine b.machine first.extends a.net net).below in
          let ny : y < length b.machine.circuit.names = (net_kept a.machine b.machine first.extends y isy).below in
          let long_values : length (values b.machine s0 x) ≡ length b.machine.circuit.names = wide b.machine first.good s0 x long_b inb in
          let gate : bit (values (join b ys).machine s x) b.net ≡ (bit (values (join b ys).machine s x) a.net || bit (values (join b ys).machine s x) y) =
          front b.net first.is_net.below
          ∙ (first.shows s0 x long_b inb
          ∙ (ap (cover_value or_cover) (values_two (values b.machine s0 x) a.net y (omega (arith, long_values, na)) (omega (arith, long_values, ny)))
          ∙ (or_value (bit (values b.machine s0 x) a.net) (bit (values b.machine s0 x) y)
          ∙ (ap (λ c. c || bit (values b.machine s0 x) y) (sym (front a.net na)) ∙ ap (λ c. bit (values (join b ys).machine s x) a.net || c) (sym (front y ny)))))) in
          rest.shows s x long ins
          ∙ (ap (λ c. c || any_of (map (bit (values (join b ys).machine s x)) ys)) gate
          ∙ or_assoc (bit (values (join b ys).machine s x) a.net) (bit (values (join b ys).machine s x) y) (any_of (map (bit (values (join b ys).machine s x)) ys)));
    }
