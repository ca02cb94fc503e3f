-- The names of the gated netlist: those of the netlist, and those that are made.
use Rattle.std.proofs.Common.{◌≡◌, ℕ, ◌-◌, List, [], ◌++◌, map, length, Option, ap, sym, ◌∙◌, arith, append_assoc}
use Rattle.std.proofs.Common.{length-append}
use Rattle.std.specs.List.{range_with_len}
use Rattle.std.specs.Fmt.{decimal}
use Rattle.std.specs.Option.{option_to_list}
use Rattle.std.proofs.lemmas.List.{length-map}
use Rattle.cg_machine.specs.Added.{HasNames, own_netlist}
use Rattle.cg_machine.specs.Machine.{MachineData, added_name, additions}
use Rattle.cg_netlist.proofs.OrderLemmas.{length-range_with_len}
use Rattle.cg_netlist.specs.Circuit.{Circuit}
use Rattle.cg_insert.specs.Insert.{enables_of}
use Rattle.cg_insert.specs.inner.GatedParts.{gated_names}

pub names_whole : (m : MachineData) (test : Option (List ℕ)) → HasNames m → (own : Circuit) → own ≡ own_netlist m → (p q : List ℕ) → p ≡ m.prefix → q ≡ m.prefix
    → (added nets own_nets enables : ℕ) → added ≡ nets - own_nets → nets ≡ length m.circuit.names → own_nets ≡ length own.names → enables ≡ length (enables_of m)
    → (none first middle last : List (List ℕ)) → none ≡ [] → first ≡ none ++ map (λ k. p ++ decimal k) (range_with_len 0 added) → middle ≡ first ++ option_to_list test → last ≡ middle ++ map (λ k. q ++ decimal k) (range_with_len added enables)
    → own.names ++ last ≡ gated_names test m
names_whole m test has own own_is p q p_is q_is added nets own_nets enables added_is nets_is own_nets_is enables_is none first middle last none_is first_is middle_is last_is =
    let t : List (List ℕ) = option_to_list test in
    let a : List (List ℕ) = map (added_name m) (range_with_len 0 (additions m)) in
    let b : List (List ℕ) = map (added_name m) (range_with_len (additions m) (length (enables_of m))) in
    let o : List (List ℕ) = (own_netlist m).names in
    let count : added ≡ additions m = omega (arith, added_is, nets_is, own_nets_is, ap (λ (d : Circuit). length d.names) own_is, ap length has, length-append o a, length-map (range_with_len 0 (additions m)) (added_name m), length-range_with_len (additions m) 0) in
    let first_same : first ≡ a = first_is ∙ (λ i. none_is i ++ map (λ k. p_is i ++ decimal k) (range_with_len 0 (count i))) in
    let last_same : last ≡ (a ++ t) ++ b = last_is ∙ (λ i. (middle_is ∙ ap (λ xs. xs ++ t) first_same) i ++ map (λ k. q_is i ++ decimal k) (range_with_len (count i) (enables_is i))) in
    (λ i. (own_is i).names ++ last_same i) ∙ (sym (append_assoc o (a ++ t) b) ∙ (ap (λ xs. xs ++ b) (sym (append_assoc o a t)) ∙ ap (λ xs. xs ++ t ++ b) (sym has)))
