-- What a hint adds stands behind the parts of a machine's own netlist, and the names of added nets behind their names.
use Rattle.std.proofs.Common.{◌≡◌, ℕ, zero, suc, if◌then◌else◌, List, [], ◌∷◌, Bool, true, false, refl, subst, Result, Ok}
use Rattle.cg_cell.specs.declared.fit.FitKind.{FitKind}
use Rattle.cg_cell.specs.declared.fit.FitKind.TheVariants.{And2, Inv, Or2}
use Rattle.cg_machine.specs.Added.{Added, add_delay, add_gate, delay_answer, delay_limit, gate_answer, gate_limit}
use Rattle.cg_machine.specs.Claims.{Literal}
use Rattle.cg_machine.specs.Machine.{IsMachine, MachineData}
use Rattle.cg_machine.proofs.OwnKept.{IsFront, Keeps, delay_keeps, gate_keeps, machine_front, onward, stays}
use Rattle.cg_netlist.specs.declared.fault.AddFault.{AddFault}
use Rattle.cg_stage_laws.specs.Joined.{enabled}
use Rattle.cg_hint_laws.specs.declared.hint.Hint.{Hint}
use Rattle.cg_hint_laws.specs.Effects.{AddedNets, and_then, before_nets, condition_answer, delayed_by, effect, for_each, hint_answer, joined, joined_from}
use Rattle.cg_hint_laws.specs.Effects.{joined_with, literal_answer, term_answer}
use Rattle.cg_hint_laws.proofs.Additions.{and_then_ok, or_limit_ok}

abbrev Grows : MachineData → MachineData → Type 0
Grows m n = IsFront m → Keeps m n

then_grows : (m n o : MachineData) → Grows m n → Grows n o → Grows m o
then_grows m n o first second front = let f = first front in onward m n o f (second f.front)

gate_grows : (m : MachineData) (kind : FitKind) (inputs : List ℕ) (a : Added) → gate_answer m kind inputs ≡ Ok a → Grows m a.machine
gate_grows m kind inputs a ok = subst (λ (b : Added). Grows m b.machine) (or_limit_ok (gate_limit m kind inputs) (add_gate m kind inputs) a ok).1 (gate_keeps m kind inputs)

delay_grows : (m : MachineData) (net : ℕ) (a : Added) → delay_answer m net ≡ Ok a → Grows m a.machine
delay_grows m net a ok = subst (λ (b : Added). Grows m b.machine) (or_limit_ok (delay_limit m net) (add_delay m net) a ok).1 (delay_keeps m net)

each_grows : {A : Type 0} (add : MachineData → A → Result Added AddFault) → ((m : MachineData) (i : A) (a : Added) → add m i ≡ Ok a → Grows m a.machine)
    → (m : MachineData) (items : List A) (b : AddedNets) → for_each add m items ≡ Ok b → Grows m b.machine
each_grows add each m [] b ok =
    let same : record { machine = m; nets = [] } ≡ b = cc in
    subst (λ (c : AddedNets). Grows m c.machine) same (stays m)
each_grows add each m (i ∷ items) b ok =
    let first = and_then_ok (add m i) (λ a. and_then (for_each add a.machine items) (before_nets a)) b ok in
    let a : Added = first.0 in
    let rest = and_then_ok (for_each add a.machine items) (before_nets a) b first.2 in
    let c : AddedNets = rest.0 in
    let same : record { machine = c.machine; nets = a.net ∷ c.nets } ≡ b = cc in
    subst (λ (d : AddedNets). Grows m d.machine) same (then_grows m a.machine c.machine (each m i a first.1) (each_grows add each a.machine items c rest.1))

joined_grows : (kind : FitKind) (a : Added) (ys : List ℕ) (c : Added) → joined_with kind a ys ≡ Ok c → Grows a.machine c.machine
joined_grows kind a [] c ok = let same : a ≡ c = cc in subst (λ (b : Added). Grows a.machine b.machine) same (stays a.machine)
joined_grows kind a (y ∷ ys) c ok =
    let first = and_then_ok (gate_answer a.machine kind (a.net ∷ y ∷ [])) (λ b. joined_with kind b ys) c ok in
    then_grows a.machine first.0.machine c.machine (gate_grows a.machine kind (a.net ∷ y ∷ []) first.0 first.1) (joined_grows kind first.0 ys c first.2)

from_grows : (kind : FitKind) (m : MachineData) (ys : List ℕ) (c : Added) → joined_from kind m ys ≡ Ok c → Grows m c.machine
from_grows kind m [] c ok = let same : record { machine = m; net = 0 } ≡ c = cc in subst (λ (b : Added). Grows m b.machine) same (stays m)
from_grows kind m (y ∷ ys) c ok = joined_grows kind (record { machine = m; net = y }) ys c ok

literal_grows : (m : MachineData) (l : Literal) (a : Added) → literal_answer m l ≡ Ok a → Grows m a.machine
literal_grows m l a ok = go l.1 ok
  where
    go : (b : Bool) → (if b then gate_answer m Inv (l.0 ∷ []) else Ok (record { machine = m; net = l.0 })) ≡ Ok a → Grows m a.machine
    go true at = gate_grows m Inv (l.0 ∷ []) a at
    go false at = let same : record { machine = m; net = l.0 } ≡ a = cc in subst (λ (b : Added). Grows m b.machine) same (stays m)

both_grow : {A : Type 0} (add : MachineData → A → Result Added AddFault) → ((m : MachineData) (i : A) (a : Added) → add m i ≡ Ok a → Grows m a.machine)
    → (kind : FitKind) (m : MachineData) (items : List A) (a : Added) → and_then (for_each add m items) (joined kind) ≡ Ok a → Grows m a.machine
both_grow add each kind m items a ok =
    let first = and_then_ok (for_each add m items) (joined kind) a ok in
    let b : AddedNets = first.0 in
    then_grows m b.machine a.machine (each_grows add each m items b first.1) (from_grows kind b.machine b.nets a first.2)

term_grows : (m : MachineData) (term : List Literal) (a : Added) → term_answer m term ≡ Ok a → Grows m a.machine
term_grows m term a ok = both_grow literal_answer literal_grows And2 m term a ok

delayed_grows : (k : ℕ) (a c : Added) → delayed_by k a ≡ Ok c → Grows a.machine c.machine
delayed_grows zero a c ok = let same : a ≡ c = cc in subst (λ (b : Added). Grows a.machine b.machine) same (stays a.machine)
delayed_grows (suc k) a c ok =
    let first = and_then_ok (delay_answer a.machine a.net) (delayed_by k) c ok in
    then_grows a.machine first.0.machine c.machine (delay_grows a.machine a.net first.0 first.1) (delayed_grows k first.0 c first.2)

enabled_grows : (a : Added) (regs : List ℕ) → Grows a.machine (enabled a regs)
enabled_grows a regs front = record { front = record { cells = front.cells; registers = front.registers }; same = refl; prefix = refl; names = λ named. named }

pub effect_keeps_own : (m n : MachineData) (h : Hint) → IsMachine m → effect m h ≡ Ok n → Keeps m n
effect_keeps_own m n h good ok =
    let last = and_then_ok (hint_answer m h) (λ a. Ok (enabled a h.regs)) n ok in
    let c : Added = last.0 in
    let first = and_then_ok (condition_answer m h.terms) (delayed_by h.after) c last.1 in
    let a : Added = first.0 in
    let same : enabled c h.regs ≡ n = cc in
    subst (Keeps m) same
    (then_grows m c.machine (enabled c h.regs)
    (then_grows m a.machine c.machine (both_grow term_answer term_grows Or2 m h.terms a first.1) (delayed_grows h.after a c first.2))
    (enabled_grows c h.regs)
    (machine_front m good))
