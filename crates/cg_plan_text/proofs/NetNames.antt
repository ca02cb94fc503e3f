-- The names of a machine's nets and registers, those of the netlist and those of what was added.
use Rattle.std.proofs.Common.{◌≡◌, ℕ, ◌+◌, ◌-◌, ◌<◌, ◌≤◌, Bool, true, false, nat_lt, if◌then◌else◌, List, [], ◌∷◌, ◌++◌, length}
use Rattle.std.proofs.Common.{take, get_or, map, Option, None, Some, refl, sym, ap, ◌∙◌, arith}
use Rattle.std.specs.Prelude.{slice_get, unwrap_or}
use Rattle.std.specs.List.{range_with_len}
use Rattle.std.specs.Option.{option_and_then}
use Rattle.std.specs.Fmt.{decimal}
use Rattle.std.proofs.lemmas.Bool.{ltb-false}
use Rattle.std.proofs.lemmas.List.{get_or-append_right, get_or-take, length-append, length-map, length-take-le}
use Rattle.std.proofs.lemmas.List.FromFn.{get_or-map-range_with_len, length-range_with_len}
use Rattle.std.proofs.lemmas.Option.{get_or_from_slice_get, slice_get_past, unwrap_or-slice_get}
use Rattle.cg_machine.specs.Added.{HasNames, added_place, first_output, own_netlist, own_nets}
use Rattle.cg_machine.specs.Machine.{MachineData, added_name, additions, delay_cell}
use Rattle.cg_machine.proofs.Lists.{take_get}
use Rattle.cg_netlist.specs.Circuit.{RegisterCell}
use Rattle.cg_plan_text.specs.Words.{net_word, register_net}

-- a net of the netlist
pub net_word-own : (m : MachineData) (net : ℕ) (name : List ℕ) → net < own_nets m → slice_get (own_netlist m).names net ≡ Some name → net_word m net ≡ name
net_word-own m net name below at =
    unwrap_or-slice_get m.circuit.names net [] ∙ (sym (get_or-take (own_nets m) m.circuit.names net [] below) ∙ get_or_from_slice_get (take (own_nets m) m.circuit.names) net name [] at)

-- an added net
pub net_word-added : (m : MachineData) (net : ℕ) → HasNames m → own_nets m ≤ net → net < length m.circuit.names → net_word m net ≡ added_name m (net - own_nets m)
net_word-added m net names above below =
    let own : List (List ℕ) = take (own_nets m) m.circuit.names in
    let more : List (List ℕ) = map (added_name m) (range_with_len 0 (additions m)) in
    let front : length own ≡ own_nets m = length-take-le (own_nets m) m.circuit.names (omega arith) in
    let behind : length more ≡ additions m = length-map (range_with_len 0 (additions m)) (added_name m) ∙ length-range_with_len 0 (additions m) in
    let whole : length m.circuit.names ≡ length own + length more = ap length names ∙ length-append own more in
    unwrap_or-slice_get m.circuit.names net []
    ∙ (ap (λ (all : List (List ℕ)). get_or all net []) names
    ∙ (get_or-append_right own more (own_nets m) net [] front above
    ∙ get_or-map-range_with_len (added_name m) 0 (additions m) (net - own_nets m) (net - own_nets m) [] (omega (arith, front, behind, whole)) (omega arith)))

-- no net
pub net_word-none : (m : MachineData) (net : ℕ) → length m.circuit.names ≤ net → net_word m net ≡ []
net_word-none m net past = ap (λ (name : Option (List ℕ)). unwrap_or name []) (slice_get_past m.circuit.names net past)

-- a register of the netlist, a delay register, no register
named_by : Option (RegisterCell ℕ ℕ) → Option ℕ
named_by register = option_and_then (λ (register : RegisterCell ℕ ℕ). first_output register.outputs) register

pub register_net-own : (m : MachineData) (r : ℕ) (register : RegisterCell ℕ ℕ) → r < m.own_registers → slice_get (own_netlist m).registers r ≡ Some register → register_net m r ≡ first_output register.outputs
unfolding named_by
register_net-own m r register below at = ap named_by (sym (take_get m.own_registers m.circuit.registers r below) ∙ at)

pub register_net-delay : (m : MachineData) (r clock net output : ℕ) → slice_get m.circuit.registers r ≡ Some (delay_cell clock net output) → register_net m r ≡ Some output
unfolding named_by
register_net-delay m r clock net output at = ap named_by at

pub register_net-none : (m : MachineData) (r : ℕ) → length m.circuit.registers ≤ r → register_net m r ≡ None
unfolding named_by
register_net-none m r past = ap named_by (slice_get_past m.circuit.registers r past)

pub ruleset net_names = (net_word-own, net_word-none)

-- a net that has a place in the order of addition
pub net_word-placed : (m : MachineData) (net place : ℕ) → HasNames m → net < length m.circuit.names → Some place ≡ added_place m net → net_word m net ≡ m.prefix ++ decimal place
net_word-placed m net place names below is = go (nat_lt net (own_nets m)) refl
  where
    go : (b : Bool) → nat_lt net (own_nets m) ≡ b → net_word m net ≡ m.prefix ++ decimal place
    go true own =
        let none : Some place ≡ None = is ∙ ap (λ b. if b then None else Some (net - own_nets m)) own in
        absurd (cc)
    go false added =
        let there : Some place ≡ Some (net - own_nets m) = is ∙ ap (λ b. if b then None else Some (net - own_nets m)) added in
        let same : place ≡ net - own_nets m = cc in
        net_word-added m net names (ltb-false net (own_nets m) added) below ∙ ap (λ k. m.prefix ++ decimal k) (sym same)
