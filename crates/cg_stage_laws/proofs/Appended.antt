-- A machine with gates and delay registers behind all that it had, and nothing else.
use Rattle.std.proofs.Common.{◌≡◌, ℕ, List, [], ◌∷◌, ◌++◌, map, Option, None, Some, Result, Ok, Err, IfOk, OnErr, refl, sym, ◌∙◌, ap, subst}
use Rattle.std.proofs.lemmas.List.{append-nil, append_assoc, map-append}
use Rattle.cg_cell.specs.declared.fit.FitKind.{FitKind}
use Rattle.cg_machine.proofs.OwnKept.{delay_keeps as own_delay_keeps, gate_keeps as own_gate_keeps, machine_front}
use Rattle.cg_limit.specs.Answers.{OrNoMemory}
use Rattle.cg_limit.specs.declared.Limit.{Limit}
use Rattle.cg_machine.proofs.Extended.{extends_self, extends_then}
use Rattle.cg_machine.specs.Added.{Added, HasNames, add_delay, add_gate, delay_answer, delay_limit, find_delay, find_gate, gate_answer, gate_limit, next_delay}
use Rattle.cg_machine.specs.Added.{next_gate, next_name, or_limit, or_push, own_netlist, push_delay, push_gate}
use Rattle.cg_stage_laws.specs.Appends.{Appends, Keeps}
use Rattle.cg_machine.specs.Extends.{HasDelay, HasGate}
use Rattle.cg_machine.specs.Gates.{gate_cell}
use Rattle.cg_machine.specs.Machine.{IsMachine, MachineData}
use Rattle.cg_netlist.specs.Circuit.{RegisterCell}
use Rattle.cg_netlist.specs.declared.fault.AddFault.{AddFault}
use Rattle.cg_netlist.specs.declared.fault.AddFault.TheVariants.{NoMemory}

appends_self : (m : MachineData) → Appends m m
appends_self m = record {
  netlist = refl;
  prefix = refl;
  own_cells = refl;
  own_registers = refl;
  more_names = [];
  more_gates = [];
  more_registers = [];
  names = sym (append-nil m.circuit.names);
  gates = sym (append-nil m.gates);
  cells = sym (append-nil m.circuit.cells);
  registers = sym (append-nil m.circuit.registers);
  enables = sym (append-nil m.enables);
  named = λ named. named;
}

-- lists that grow twice
grown_twice : {T : Type 0} (a b c more later : List T) → b ≡ a ++ more → c ≡ b ++ later → c ≡ a ++ (more ++ later)
grown_twice a b c more later first second = second ∙ (ap (λ l. l ++ later) first ∙ append_assoc a more later)

abbrev none_of : RegisterCell ℕ ℕ → Option ℕ
none_of register = None

appends_then : (m n o : MachineData) → Appends m n → Appends n o → Appends m o
appends_then m n o a b = record {
  netlist = b.netlist ∙ a.netlist;
  prefix = b.prefix ∙ a.prefix;
  own_cells = b.own_cells ∙ a.own_cells;
  own_registers = b.own_registers ∙ a.own_registers;
  more_names = a.more_names ++ b.more_names;
  more_gates = a.more_gates ++ b.more_gates;
  more_registers = a.more_registers ++ b.more_registers;
  names = grown_twice m.circuit.names n.circuit.names o.circuit.names a.more_names b.more_names a.names b.names;
  gates = grown_twice m.gates n.gates o.gates a.more_gates b.more_gates a.gates b.gates;
  cells =
      grown_twice m.circuit.cells n.circuit.cells o.circuit.cells (map gate_cell a.more_gates) (map gate_cell b.more_gates) a.cells b.cells
      ∙ ap (λ l. m.circuit.cells ++ l) (sym (map-append gate_cell a.more_gates b.more_gates));
  registers = grown_twice m.circuit.registers n.circuit.registers o.circuit.registers a.more_registers b.more_registers a.registers b.registers;
  enables =
      grown_twice m.enables n.enables o.enables (map none_of a.more_registers) (map none_of b.more_registers) a.enables b.enables
      ∙ ap (λ l. m.enables ++ l) (sym (map-append none_of a.more_registers b.more_registers));
  named = λ named. b.named (a.named named);
}

module _ (m : MachineData) (good : IsMachine m) where
  gate_appends : (kind : FitKind) (inputs : List ℕ) → Appends m (add_gate m kind inputs).machine
  gate_appends kind inputs = go (find_gate m kind inputs) refl
    where
      go : (o : Option ℕ) → find_gate m kind inputs ≡ o → Appends m (or_push m (push_gate m kind inputs) o).machine
      go (Some net) is = appends_self m
      go None is =
          let k = own_gate_keeps m kind inputs (machine_front m good) in
          let at : (add_gate m kind inputs).machine ≡ push_gate m kind inputs = ap (λ o. (or_push m (push_gate m kind inputs) o).machine) is in
          record {
            netlist = sym (ap own_netlist at) ∙ k.same;
            prefix = refl;
            own_cells = refl;
            own_registers = refl;
            more_names = next_name m ∷ [];
            more_gates = next_gate m kind inputs ∷ [];
            more_registers = [];
            names = refl;
            gates = refl;
            cells = refl;
            registers = sym (append-nil m.circuit.registers);
            enables = sym (append-nil m.enables);
            named = λ named. subst HasNames at (k.names named);
          }

  delay_appends : (net : ℕ) → Appends m (add_delay m net).machine
  delay_appends net = go (find_delay m net) refl
    where
      go : (o : Option ℕ) → find_delay m net ≡ o → Appends m (or_push m (push_delay m net) o).machine
      go (Some y) is = appends_self m
      go None is =
          let k = own_delay_keeps m net (machine_front m good) in
          let at : (add_delay m net).machine ≡ push_delay m net = ap (λ o. (or_push m (push_delay m net) o).machine) is in
          record {
            netlist = sym (ap own_netlist at) ∙ k.same;
            prefix = refl;
            own_cells = refl;
            own_registers = refl;
            more_names = next_name m ∷ [];
            more_gates = [];
            more_registers = next_delay m net ∷ [];
            names = refl;
            gates = sym (append-nil m.gates);
            cells = sym (append-nil m.circuit.cells);
            registers = refl;
            enables = refl;
            named = λ named. subst HasNames at (k.names named);
          }

-- what keeps all that a machine has
pub keeps_self : (m n : MachineData) → IsMachine m → n ≡ m → Keeps m n
keeps_self m n good is = subst (Keeps m) (sym is) (record { good = good; extends = extends_self m; appends = appends_self m })

pub keeps_then : (m n o : MachineData) → Keeps m n → Keeps n o → Keeps m o
keeps_then m n o k l = record { good = l.good; extends = extends_then m n o k.extends l.extends; appends = appends_then m n o k.appends l.appends }

abbrev with_net : MachineData → ℕ → Added
with_net n net = record { machine = n; net = net }

added_is : (limit : Option Limit) (added : Added) (n : MachineData) (net : ℕ) → or_limit limit added ≡ Ok (with_net n net) → added ≡ with_net n net
added_is None added n net is = cc
added_is (Some limit) added n net is = absurd (cc)

pub gate_keeps : (m n : MachineData) (kind : FitKind) (inputs : List ℕ) (r : Result ℕ AddFault) → IsMachine m → OrNoMemory NoMemory (with_net n) r (gate_answer m kind inputs)
    → IfOk r (λ net. HasGate m kind inputs (with_net n net)) → OnErr r (n ≡ m) → Keeps m n
gate_keeps m n kind inputs (Ok net) good answer there same =
    let is = added_is (gate_limit m kind inputs) (add_gate m kind inputs) n net answer in
    record { good = there.good; extends = there.extends; appends = subst (λ (a : Added). Appends m a.machine) is (gate_appends m good kind inputs) }
gate_keeps m n kind inputs (Err fault) good answer there same = keeps_self m n good same

pub delay_keeps : (m n : MachineData) (x : ℕ) (r : Result ℕ AddFault) → IsMachine m → OrNoMemory NoMemory (with_net n) r (delay_answer m x)
    → IfOk r (λ net. HasDelay m x (with_net n net)) → OnErr r (n ≡ m) → Keeps m n
delay_keeps m n x (Ok net) good answer there same =
    let is = added_is (delay_limit m x) (add_delay m x) n net answer in
    record { good = there.good; extends = there.extends; appends = subst (λ (a : Added). Appends m a.machine) is (delay_appends m good x) }
delay_keeps m n x (Err fault) good answer there same = keeps_self m n good same
