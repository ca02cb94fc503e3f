-- What is added to a machine stands behind the parts of its own netlist, and its name behind their names.
use Rattle.std.proofs.Common.{◌≡◌, ℕ, ◌+◌, ◌-◌, ◌≤◌, List, [], ◌∷◌, ◌++◌, length, map, take, Option, None, Some, refl, sym, ◌∙◌, ap}
use Rattle.std.proofs.Common.{append-nil, append_assoc, arith, length-append}
use Rattle.std.specs.List.{range_with_len}
use Rattle.std.proofs.Math.Seq.{take-length}
use Rattle.std.proofs.lemmas.List.{take-append-le}
use Rattle.std.proofs.lemmas.List.FromFn.{map-range_with_len_more}
use Rattle.cg_cell.specs.declared.fit.FitKind.{FitKind}
use Rattle.cg_netlist.specs.Circuit.{Circuit, LogicCell, RegisterCell}
use Rattle.cg_machine.specs.Added.{HasNames, add_delay, add_gate, find_delay, find_gate, next_delay, next_gate, next_name, or_push, own_netlist, push_delay, push_gate}
use Rattle.cg_machine.specs.Gates.{gate_cell}
use Rattle.cg_machine.specs.Machine.{IsMachine, MachineData, added_name, additions}
use Rattle.cg_machine.specs.Start.{machine_of}

-- the netlist's own parts are the first ones
pub record IsFront (m : MachineData) : Type 0 where
  pub cells : m.own_cells ≤ length m.circuit.cells
  pub registers : m.own_registers ≤ length m.circuit.registers

-- n has m's netlist and prefix, and names added nets by it where m does
pub record Keeps (m n : MachineData) : Type 0 where
  pub front : IsFront n
  pub same : own_netlist n ≡ own_netlist m
  pub prefix : n.prefix ≡ m.prefix
  pub names : HasNames m → HasNames n

pub stays : (m : MachineData) → IsFront m → Keeps m m
stays m front = record { front = front; same = refl; prefix = refl; names = λ named. named }

pub onward : (m n o : MachineData) → Keeps m n → Keeps n o → Keeps m o
onward m n o first second = record { front = second.front; same = second.same ∙ first.same; prefix = second.prefix ∙ first.prefix; names = λ named. second.names (first.names named) }

-- of every machine they are
pub machine_front : (m : MachineData) → IsMachine m → IsFront m
machine_front m good = record { cells = omega (arith, good.own_cells); registers = good.own_registers }

same_parts : (c : Circuit) (n1 n2 : List (List ℕ)) (c1 c2 : List (LogicCell ℕ)) (r1 r2 : List (RegisterCell ℕ ℕ)) → n1 ≡ n2 → c1 ≡ c2 → r1 ≡ r2
    → let a : Circuit = record c { names = n1; cells = c1; registers = r1 } in let b : Circuit = record c { names = n2; cells = c2; registers = r2 } in a ≡ b
same_parts c n1 n2 c1 c2 r1 r2 names cells registers = λ i. record c { names = names i; cells = cells i; registers = registers i }

front_names : (names : List (List ℕ)) (name : List ℕ) (more fewer : ℕ) → more ≡ fewer + 1 → take (length (names ++ name ∷ []) - more) (names ++ name ∷ []) ≡ take (length names - fewer) names
front_names names name more fewer one =
    let long : length (names ++ name ∷ []) ≡ length names + 1 = length-append names (name ∷ []) in
    let same : length (names ++ name ∷ []) - more ≡ length names - fewer = omega (arith, long, one) in
    ap (λ k. take k (names ++ name ∷ [])) same ∙ take-append-le (length names - fewer) names (name ∷ []) (omega arith)

-- one name more
more_names : (m : MachineData) (own : List (List ℕ)) (count : ℕ) → count ≡ additions m + 1 → own ≡ (own_netlist m).names → HasNames m → m.circuit.names ++ next_name m ∷ [] ≡ own ++ map (added_name m) (range_with_len 0 count)
more_names m own count one same named =
    let added : List (List ℕ) = map (added_name m) (range_with_len 0 (additions m)) in
    ap (λ names. names ++ next_name m ∷ []) named
    ∙ (append_assoc (own_netlist m).names added (next_name m ∷ [])
    ∙ (ap (λ later. (own_netlist m).names ++ later) (sym (map-range_with_len_more (added_name m) 0 (additions m) (additions m) (omega arith)))
    ∙ (ap (λ n. (own_netlist m).names ++ map (added_name m) (range_with_len 0 n)) (sym one)
    ∙ ap (λ names. names ++ map (added_name m) (range_with_len 0 count)) (sym same))))

pushed_gate : (m : MachineData) (kind : FitKind) (inputs : List ℕ) → IsFront m → Keeps m (push_gate m kind inputs)
pushed_gate m kind inputs front =
    let cell : LogicCell ℕ = gate_cell (next_gate m kind inputs) in
    let gates : length (m.gates ++ next_gate m kind inputs ∷ []) ≡ length m.gates + 1 = length-append m.gates (next_gate m kind inputs ∷ []) in
    let cells : length (m.circuit.cells ++ cell ∷ []) ≡ length m.circuit.cells + 1 = length-append m.circuit.cells (cell ∷ []) in
    let names : (own_netlist (push_gate m kind inputs)).names ≡ (own_netlist m).names = front_names m.circuit.names (next_name m) (additions (push_gate m kind inputs)) (additions m) (omega (arith, gates)) in
    record {
      front = record { cells = omega (arith, cells, front.cells); registers = front.registers };
      same = same_parts m.circuit _ _ _ _ _ _ names (take-append-le m.own_cells m.circuit.cells (cell ∷ []) front.cells) refl;
      prefix = refl;
      names = λ named. more_names m (own_netlist (push_gate m kind inputs)).names (additions (push_gate m kind inputs)) (omega (arith, gates)) names named;
    }

pushed_delay : (m : MachineData) (net : ℕ) → IsFront m → Keeps m (push_delay m net)
pushed_delay m net front =
    let r : RegisterCell ℕ ℕ = next_delay m net in
    let registers : length (m.circuit.registers ++ r ∷ []) ≡ length m.circuit.registers + 1 = length-append m.circuit.registers (r ∷ []) in
    let names : (own_netlist (push_delay m net)).names ≡ (own_netlist m).names = front_names m.circuit.names (next_name m) (additions (push_delay m net)) (additions m) (omega (arith, registers, front.registers)) in
    record {
      front = record { cells = front.cells; registers = omega (arith, registers, front.registers) };
      same = same_parts m.circuit _ _ _ _ _ _ names refl (take-append-le m.own_registers m.circuit.registers (r ∷ []) front.registers);
      prefix = refl;
      names = λ named. more_names m (own_netlist (push_delay m net)).names (additions (push_delay m net)) (omega (arith, registers, front.registers)) names named;
    }

found_or_pushed : (m pushed : MachineData) (found : Option ℕ) → IsFront m → Keeps m pushed → Keeps m (or_push m pushed found).machine
found_or_pushed m pushed None front keeps = keeps
found_or_pushed m pushed (Some net) front keeps = stays m front

pub gate_keeps : (m : MachineData) (kind : FitKind) (inputs : List ℕ) → IsFront m → Keeps m (add_gate m kind inputs).machine
gate_keeps m kind inputs front = found_or_pushed m (push_gate m kind inputs) (find_gate m kind inputs) front (pushed_gate m kind inputs front)

pub delay_keeps : (m : MachineData) (net : ℕ) → IsFront m → Keeps m (add_delay m net).machine
delay_keeps m net front = found_or_pushed m (push_delay m net) (find_delay m net) front (pushed_delay m net front)

-- a machine to which nothing is added has the netlist itself, and its names alone
pub own_is_whole : (c : Circuit) (prefix : List ℕ) → own_netlist (machine_of c prefix) ≡ c
own_is_whole c prefix =
    let none : length c.names - additions (machine_of c prefix) ≡ length c.names = omega arith in
    let same : own_netlist (machine_of c prefix) ≡ c = same_parts c _ _ _ _ _ _ (ap (λ k. take k c.names) none ∙ take-length c.names) (take-length c.cells) (take-length c.registers) in
    same

pub named_start : (c : Circuit) (prefix : List ℕ) → HasNames (machine_of c prefix)
named_start c prefix =
    let none : additions (machine_of c prefix) ≡ 0 = omega arith in
    sym (ap (λ (d : Circuit). d.names) (own_is_whole c prefix)) ∙ (sym (append-nil (own_netlist (machine_of c prefix)).names)
    ∙ ap (λ n. (own_netlist (machine_of c prefix)).names ++ map (added_name (machine_of c prefix)) (range_with_len 0 n)) (sym none))
