-- What is kept beside a netlist is the machine with what was added.
use Rattle.std.proofs.Common.{◌≡◌, ℕ, zero, suc, ◌+◌, ◌-◌, ◌<◌, ◌≤◌, Bool, true, false, ◌&&◌, cond, nat_eq, nat_lt, List, [], ◌∷◌}
use Rattle.std.proofs.Common.{◌++◌, map, length, replicate, slice_get, slice_set, take, bytes_eq, if◌then◌else◌, Option, None, Some}
use Rattle.std.proofs.Common.{refl, ap, sym, ◌∙◌, arith, append_assoc}
use Rattle.std.specs.Fmt.{decimal}
use Rattle.std.specs.List.{find, range_with_len}
use Rattle.std.specs.Option.{option_and_then, option_flatten, option_map}
use Rattle.std.proofs.lemmas.Bool.{false_from_ne_true, lt-ltb, ltb-true}
use Rattle.std.proofs.lemmas.List.{append-nil, length-append, length-map, map-append}
use Rattle.std.proofs.Math.Seq.{drop-append_seam, take-append_seam}
use Rattle.cg_cell.specs.declared.fit.FitKind.{FitKind}
use Rattle.cg_netlist.specs.Circuit.{Circuit, RegisterCell}
use Rattle.cg_machine.specs.Added.{find_delay, first_output, next_gate, next_name, next_net, push_delay, push_gate, set_enable}
use Rattle.cg_machine.specs.Gates.{AddedGate, gate_cell}
use Rattle.cg_machine.specs.inner.Kept.{delay_of, kept}
use Rattle.cg_machine.specs.Added.{HasNames, added_place, own_netlist, own_nets}
use Rattle.cg_machine.specs.Machine.{MachineData, additions}
use Rattle.cg_machine.specs.Run.{with_enables}
use Rattle.cg_machine.specs.Start.{machine_of}
use Rattle.cg_netlist.proofs.ByRank.{range_more}

abbrev nones : ℕ → List (Option ℕ)
nones n = replicate n None

nones_more : (n : ℕ) → nones (suc n) ≡ nones n ++ None ∷ []
nones_more zero = refl
nones_more (suc n) = ap (λ l. None ∷ l) (nones_more n)

set_front : (es rest : List (Option ℕ)) (r : ℕ) (e : Option ℕ) → r < length es → slice_set (es ++ rest) r e ≡ slice_set es r e ++ rest
set_front [] rest r e below = absurd (omega (arith, below))
set_front (x ∷ es) rest zero e below = refl
set_front (x ∷ es) rest (suc r) e below = ap (λ l. x ∷ l) (set_front es rest r e (omega (arith, below)))

-- another enable
pub kept_enable : (c : Circuit) (prefix : List ℕ) (es : List (Option ℕ)) (gs : List AddedGate) (ds : List (ℕ × ℕ)) (r net : ℕ) → r < length es
    → kept c prefix (slice_set es r (Some net)) gs ds ≡ set_enable (kept c prefix es gs ds) r net
kept_enable c prefix es gs ds r net below = ap (with_enables (kept c prefix es gs ds)) (sym (set_front es (replicate (length ds) None) r (Some net) below))

-- the enable of a register, where the delay registers have none
pub kept_enable_of : (es : List (Option ℕ)) (n r : ℕ) → option_flatten (slice_get (es ++ replicate n None) r) ≡ option_flatten (slice_get es r)
kept_enable_of [] zero r = refl
kept_enable_of [] (suc n) zero = refl
kept_enable_of [] (suc n) (suc r) = kept_enable_of [] n r
kept_enable_of (x ∷ es) n zero = refl
kept_enable_of (x ∷ es) n (suc r) = kept_enable_of es n r

-- before anything is added
pub kept_start : (c : Circuit) (prefix : List ℕ) (es : List (Option ℕ)) → es ≡ replicate (length c.registers) None → kept c prefix es [] [] ≡ machine_of c prefix
kept_start c prefix es none = let no_delays : es ++ [] ≡ replicate (length c.registers) None = append-nil es ∙ none in λ i. record {
  circuit = record {
    model = c.model;
    names = append-nil c.names i;
    inputs = c.inputs;
    clock = c.clock;
    outputs = c.outputs;
    cells = append-nil c.cells i;
    gaters = c.gaters;
    registers = append-nil c.registers i;
  };
  enables = no_delays i;
  gates = [];
  own_cells = length c.cells;
  own_registers = length c.registers;
  prefix = prefix;
}

module _ (c : Circuit) (prefix : List ℕ) (es : List (Option ℕ)) (gs : List AddedGate) (ds : List (ℕ × ℕ)) where
  abbrev m : MachineData
  m = kept c prefix es gs ds

  abbrev name : ℕ → List ℕ
  name k = prefix ++ decimal k

  pub added_count : additions (kept c prefix es gs ds) ≡ length gs + length ds
  added_count = omega (arith, length-append c.registers (map (delay_of c) ds), length-map ds (delay_of c))

  names_more : (k : ℕ) → k ≡ suc (length gs + length ds) → c.names ++ map name (range_with_len 0 k) ≡ m.circuit.names ++ next_name m ∷ []
  names_more k is =
      let n : ℕ = length gs + length ds in
      let zero_n : 0 + n ≡ n = omega arith in
      ap (λ j. c.names ++ map name (range_with_len 0 j)) is
      ∙ (ap (λ ks. c.names ++ map name ks) (range_more n 0)
      ∙ (ap (λ l. c.names ++ l) (map-append name (range_with_len 0 n) ((0 + n) ∷ []))
      ∙ (sym (append_assoc c.names (map name (range_with_len 0 n)) (name (0 + n) ∷ []))
      ∙ ap (λ j. m.circuit.names ++ name j ∷ []) (zero_n ∙ sym added_count))))

  -- one more gate
  module _ (kind : FitKind) (inputs : List ℕ) where
    abbrev g : AddedGate
    g = next_gate m kind inputs

    gate_names : c.names ++ map name (range_with_len 0 (length (gs ++ g ∷ []) + length ds)) ≡ m.circuit.names ++ next_name m ∷ []
    gate_names = names_more (length (gs ++ g ∷ []) + length ds) (omega (arith, length-append gs (g ∷ [])))

    gate_cells : c.cells ++ map gate_cell (gs ++ g ∷ []) ≡ (c.cells ++ map gate_cell gs) ++ gate_cell g ∷ []
    gate_cells = ap (λ l. c.cells ++ l) (map-append gate_cell gs (g ∷ [])) ∙ sym (append_assoc c.cells (map gate_cell gs) (gate_cell g ∷ []))

    pub kept_gate : kept c prefix es (gs ++ next_gate (kept c prefix es gs ds) kind inputs ∷ []) ds ≡ push_gate (kept c prefix es gs ds) kind inputs
    kept_gate = λ i. record {
      circuit = record {
        model = c.model;
        names = gate_names i;
        inputs = c.inputs;
        clock = c.clock;
        outputs = c.outputs;
        cells = gate_cells i;
        gaters = c.gaters;
        registers = c.registers ++ map (delay_of c) ds;
      };
      enables = es ++ replicate (length ds) None;
      gates = gs ++ g ∷ [];
      own_cells = length c.cells;
      own_registers = length c.registers;
      prefix = prefix;
    }

  -- one more delay register
  module _ (net : ℕ) where
    abbrev d : ℕ × ℕ
    d = (net, next_net m)

    delay_names : c.names ++ map name (range_with_len 0 (length gs + length (ds ++ d ∷ []))) ≡ m.circuit.names ++ next_name m ∷ []
    delay_names = names_more (length gs + length (ds ++ d ∷ [])) (omega (arith, length-append ds (d ∷ [])))

    delay_registers : c.registers ++ map (delay_of c) (ds ++ d ∷ []) ≡ (c.registers ++ map (delay_of c) ds) ++ delay_of c d ∷ []
    delay_registers = ap (λ l. c.registers ++ l) (map-append (delay_of c) ds (d ∷ [])) ∙ sym (append_assoc c.registers (map (delay_of c) ds) (delay_of c d ∷ []))

    delay_enables : es ++ nones (length (ds ++ d ∷ [])) ≡ (es ++ nones (length ds)) ++ None ∷ []
    delay_enables =
        let count : length (ds ++ d ∷ []) ≡ suc (length ds) = omega (arith, length-append ds (d ∷ [])) in
        ap (λ k. es ++ nones k) count ∙ (ap (λ l. es ++ l) (nones_more (length ds)) ∙ sym (append_assoc es (nones (length ds)) (None ∷ [])))

    pub kept_delay : kept c prefix es gs (ds ++ (net, next_net (kept c prefix es gs ds)) ∷ []) ≡ push_delay (kept c prefix es gs ds) net
    kept_delay = λ i. record {
      circuit = record {
        model = c.model;
        names = delay_names i;
        inputs = c.inputs;
        clock = c.clock;
        outputs = c.outputs;
        cells = c.cells ++ map gate_cell gs;
        gaters = c.gaters;
        registers = delay_registers i;
      };
      enables = delay_enables i;
      gates = gs;
      own_cells = length c.cells;
      own_registers = length c.registers;
      prefix = prefix;
    }

    find_mapped : (xs : List (ℕ × ℕ)) → option_and_then (λ (r : RegisterCell ℕ ℕ). first_output r.outputs) (find (λ (r : RegisterCell ℕ ℕ). bytes_eq (net ∷ []) r.inputs) (map (delay_of c) xs)) ≡ option_map (λ (x : ℕ × ℕ). x.1) (find (λ (x : ℕ × ℕ). nat_eq net x.0) xs)
    find_mapped [] = refl
    find_mapped (x ∷ xs) = go (nat_eq net x.0) (find_mapped xs)
      where
        go : (b : Bool) → option_and_then (λ (r : RegisterCell ℕ ℕ). first_output r.outputs) (find (λ (r : RegisterCell ℕ ℕ). bytes_eq (net ∷ []) r.inputs) (map (delay_of c) xs)) ≡ option_map (λ (y : ℕ × ℕ). y.1) (find (λ (y : ℕ × ℕ). nat_eq net y.0) xs)
            → option_and_then (λ (r : RegisterCell ℕ ℕ). first_output r.outputs) (cond (b && true) (Some (delay_of c x)) (find (λ (r : RegisterCell ℕ ℕ). bytes_eq (net ∷ []) r.inputs) (map (delay_of c) xs)))
            ≡ option_map (λ (y : ℕ × ℕ). y.1) (cond b (Some x) (find (λ (y : ℕ × ℕ). nat_eq net y.0) xs))
        go true rest = refl
        go false rest = rest

    pub kept_find : find_delay (kept c prefix es gs ds) net ≡ option_map (λ delay. delay.1) (find (λ delay. nat_eq net delay.0) ds)
    kept_find = ap (λ rs. option_and_then (λ (r : RegisterCell ℕ ℕ). first_output r.outputs) (find (λ (r : RegisterCell ℕ ℕ). bytes_eq (net ∷ []) r.inputs) rs)) (drop-append_seam c.registers (map (delay_of c) ds)) ∙ find_mapped ds

  -- the number of nets
  range_length : (k a : ℕ) → length (range_with_len a k) ≡ k
  range_length zero a = refl
  range_length (suc k) a = let rest = range_length k (a + 1) in omega (arith, rest)

  pub names_count : length (c.names ++ map name (range_with_len 0 (length gs + length ds))) ≡ length c.names + (length gs + length ds)
  names_count =
      let n : ℕ = length gs + length ds in
      omega (arith, length-append c.names (map name (range_with_len 0 n)), length-map (range_with_len 0 n) name, range_length n 0)

  pub registers_count : length (c.registers ++ map (delay_of c) ds) ≡ length c.registers + length ds
  registers_count = omega (arith, length-append c.registers (map (delay_of c) ds), length-map ds (delay_of c))

  -- the netlist before anything was added
  pub kept_own_nets : length m.circuit.names - additions m ≡ length c.names
  kept_own_nets = omega (arith, added_count, names_count)

  pub kept_own : own_netlist (kept c prefix es gs ds) ≡ c
  kept_own =
      let names : take (length m.circuit.names - additions m) m.circuit.names ≡ c.names = ap (λ k. take k m.circuit.names) kept_own_nets ∙ take-append_seam c.names (map name (range_with_len 0 (length gs + length ds))) in
      let cells : take (length c.cells) m.circuit.cells ≡ c.cells = take-append_seam c.cells (map gate_cell gs) in
      let registers : take (length c.registers) m.circuit.registers ≡ c.registers = take-append_seam c.registers (map (delay_of c) ds) in
      λ i. record { model = c.model; names = names i; inputs = c.inputs; clock = c.clock; outputs = c.outputs; cells = cells i; gaters = c.gaters; registers = registers i }

  -- the names
  pub kept_names : HasNames (kept c prefix es gs ds)
  kept_names =
      ap (λ n. c.names ++ map name (range_with_len 0 n)) (sym added_count)
      ∙ ap (λ (d : Circuit). d.names ++ map name (range_with_len 0 (additions (kept c prefix es gs ds)))) (sym kept_own)

-- the place of a net among those that were added
pub place_before : (m : MachineData) (net number own : ℕ) → number ≡ net → own ≡ own_nets m → number < own → added_place m net ≡ None
place_before m net number own is count below = ap (λ b. if b then None else Some (net - own_nets m)) (lt-ltb net (own_nets m) (omega (arith, is, count, below)))

pub place_behind : (m : MachineData) (net number own : ℕ) → number ≡ net → own ≡ own_nets m → own ≤ number → added_place m net ≡ Some (number - own)
place_behind m net number own is count past =
    let same : net - own_nets m ≡ number - own = omega (arith, is, count) in
    ap (λ b. if b then None else Some (net - own_nets m)) (false_from_ne_true (nat_lt net (own_nets m)) (λ low. let b = ltb-true net (own_nets m) low in omega (arith, b, is, count, past))) ∙ ap Some same
