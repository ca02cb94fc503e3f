-- A machine in which a stage is inserted has all that it had, with another enable for the stage's registers.
use Rattle.std.proofs.Common.{◌≡◌, ℕ, true, false, List, [], ◌∷◌, ◌++◌, length, nat_eq, slice_get, slice_set, Option, None, Some}
use Rattle.std.proofs.Common.{refl, sym, ◌∙◌, ap, arith, ◌⊎◌, inl, inr, length-append}
use Rattle.std.specs.Option.{option_flatten}
use Rattle.std.proofs.lemmas.Bool.{eq-eqb, or_left, or_right}
use Rattle.std.proofs.lemmas.List.{append-nil, append_assoc}
use Rattle.cg_cell.specs.declared.fit.FitKind.{FitKind}
use Rattle.cg_cell.specs.declared.fit.FitKind.TheVariants.{And2, Inv, Or2}
use Rattle.cg_machine.specs.Added.{Added, add_delay, add_gate, find_delay, find_gate, give, next_gate, or_push, push_delay}
use Rattle.cg_machine.specs.Added.{push_gate}
use Rattle.cg_machine.specs.Claims.{Literal}
use Rattle.cg_machine.specs.Gates.{gate_cell}
use Rattle.cg_machine.specs.Machine.{MachineData}
use Rattle.cg_machine.specs.declared.stage.Stage.{Stage}
use Rattle.cg_machine.specs.declared.stage.StageKind.{StageKind}
use Rattle.cg_machine.specs.declared.stage.StageKind.TheVariants.{Hold, Stable, Unseen}
use Rattle.cg_machine.proofs.Lists.{get_front}
use Rattle.cg_netlist.specs.Circuit.{LogicCell}
use Rattle.cg_net.specs.NetSets.{is_in}
use Rattle.cg_net.proofs.TableLemmas.{set_cases}
use Rattle.cg_claim_reach.specs.Fanout.{Grows}
use Rattle.cg_stage_laws.specs.Effects.{delayed, limit_by, literal_net, net_by, with_own}
use Rattle.cg_stage_laws.specs.Joined.{enabled, join, join_all}
use Rattle.cg_stage_laws.specs.Stages.{enable_nets, first_literal}
use Rattle.cg_stage_laws.specs.Appends.{Keeps}
use Rattle.cg_plan.specs.inner.Inserting.{AddsNet}

-- n has the cells of m, with more behind them or none
abbrev MoreCells : MachineData → MachineData → Type 0
MoreCells m n = (more : List (LogicCell ℕ)) × (n.circuit.cells ≡ m.circuit.cells ++ more)

same_cells : (m : MachineData) → MoreCells m m
same_cells m = ([], sym (append-nil m.circuit.cells))

more_then : (m n o : MachineData) → MoreCells m n → MoreCells n o → MoreCells m o
more_then m n o a b = (a.0 ++ b.0, b.1 ∙ (ap (λ (l : List (LogicCell ℕ)). l ++ b.0) a.1 ∙ append_assoc m.circuit.cells a.0 b.0))

gate_cells : (m : MachineData) (kind : FitKind) (inputs : List ℕ) → MoreCells m (add_gate m kind inputs).machine
gate_cells m kind inputs = go (find_gate m kind inputs)
  where
    go : (o : Option ℕ) → MoreCells m (or_push m (push_gate m kind inputs) o).machine
    go None = (gate_cell (next_gate m kind inputs) ∷ [], refl)
    go (Some net) = same_cells m

delay_cells : (m : MachineData) (net : ℕ) → MoreCells m (add_delay m net).machine
delay_cells m net = go (find_delay m net)
  where
    go : (o : Option ℕ) → MoreCells m (or_push m (push_delay m net) o).machine
    go None = same_cells m
    go (Some y) = same_cells m

join_cells : (a : Added) (ys : List ℕ) → MoreCells a.machine (join a ys).machine
join_cells a [] = same_cells a.machine
join_cells a (y ∷ ys) =
    let b : Added = add_gate a.machine Or2 (a.net ∷ y ∷ []) in
    more_then a.machine b.machine (join b ys).machine (gate_cells a.machine Or2 (a.net ∷ y ∷ [])) (join_cells b ys)

all_cells : (m : MachineData) (ys : List ℕ) → MoreCells m (join_all m ys).machine
all_cells m [] = same_cells m
all_cells m (y ∷ ys) = join_cells (record { machine = m; net = y }) ys

own_cells : (a : Added) (own : Option ℕ) → MoreCells a.machine (with_own a own).machine
own_cells a None = same_cells a.machine
own_cells a (Some own) = gate_cells a.machine And2 (own ∷ a.net ∷ [])

literal_cells : (m : MachineData) (l : Literal) → MoreCells m (literal_net m l).machine
literal_cells m (y, true) = gate_cells m Inv (y ∷ [])
literal_cells m (y, false) = same_cells m

net_cells : (m : MachineData) (s : Stage) (kind : StageKind) → MoreCells m (net_by kind m s).machine
net_cells m s Hold = literal_cells m (first_literal s.enable)
net_cells m s Stable =
    let a : Added = join_all m (enable_nets s) in
    more_then m a.machine (with_own (delayed a) s.own).machine (all_cells m (enable_nets s))
    (more_then a.machine (delayed a).machine (with_own (delayed a) s.own).machine (delay_cells a.machine a.net) (own_cells (delayed a) s.own))
net_cells m s Unseen = all_cells m (enable_nets s)

-- an enable that registers have got is the net that they were given, or one of before
given : (enables : List (Option ℕ)) (regs : List ℕ) (net r e : ℕ) → option_flatten (slice_get (give enables regs net) r) ≡ Some e → (option_flatten (slice_get enables r) ≡ Some e) ⊎ ((is_in regs r ≡ true) × (e ≡ net))
given enables [] net r e is = inl is
given enables (q ∷ qs) net r e is = elim (given (slice_set enables q (Some net)) qs net r e is) [
  | inl before ↦ go (slice_get (slice_set enables q (Some net)) r) refl before
  | inr got ↦ inr (or_right (nat_eq r q) (is_in qs r) got.0, got.1)
]
  where
    go : (o : Option (Option ℕ)) → slice_get (slice_set enables q (Some net)) r ≡ o → option_flatten o ≡ Some e → (option_flatten (slice_get enables r) ≡ Some e) ⊎ ((is_in (q ∷ qs) r ≡ true) × (e ≡ net))
    go None at h = absurd (cc)
    go (Some z) at h = elim (set_cases enables q r (Some net) z at) [
      | inl new ↦ (let same : Some e ≡ Some net = sym h ∙ new.1 in inr (or_left (nat_eq r q) (is_in qs r) (eq-eqb r q new.0), cc))
      | inr old ↦ inl (ap option_flatten old.1 ∙ h)
    ]

pub grown : (m : MachineData) (s : Stage) (regs : List ℕ) (n : MachineData) (net : ℕ) → AddsNet (limit_by s.kind m s) (net_by s.kind m s) n net → Keeps m n → Grows m (enabled (record { machine = n; net = net }) regs) regs net
grown m s regs n net adds keeps =
    let more = net_cells m s s.kind in
    let cells : n.circuit.cells ≡ m.circuit.cells ++ more.0 = ap (λ (a : Added). a.machine.circuit.cells) (sym adds.is) ∙ more.1 in
    record {
      cells = λ k low. ap (λ (l : List (LogicCell ℕ)). slice_get l k) cells ∙ get_front m.circuit.cells more.0 k low;
      more_cells = (let long = ap (λ (l : List (LogicCell ℕ)). length l) cells in omega (arith, long, length-append m.circuit.cells more.0));
      outputs = keeps.extends.outputs;
      registers = keeps.extends.registers;
      more_registers = keeps.extends.count;
      enables = λ r e low is. elim (given n.enables regs net r e is) [ inl before ↦ inl (sym (keeps.extends.enables r low) ∙ before) | inr got ↦ inr got ];
    }
