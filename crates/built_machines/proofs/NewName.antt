-- A name that no net of the netlist has, and that does not begin as those of added nets do, is new.
use Rattle.std.proofs.Common.{◌≡◌, ◌≢◌, ℕ, false, nat_eq, List, [], ◌∷◌, ◌++◌, map, length, sym, ◌∙◌, ap, subst}
use Rattle.std.specs.Fmt.{decimal}
use Rattle.std.specs.List.{All, AllByRecursion, range_with_len}
use Rattle.std.proofs.lemmas.Bool.{both_ways, or_parts}
use lib.Pointwise.{pointwise}
use Rattle.cg_insert.specs.Insert.{enables_of, gate_names}
use Rattle.cg_machine.specs.Added.{HasNames, own_netlist}
use Rattle.cg_machine.specs.Machine.{MachineData, added_name, additions}
use Rattle.cg_machine.specs.Start.{begins}
use Rattle.cg_net.specs.Names.{is_known}
use Rattle.cg_netlist.proofs.Each.{each_together, from_recursion}
use Rattle.cg_machine.proofs.Started.{all_same, begun}

-- none of the names is this one
abbrev AreOther : List ℕ → List (List ℕ) → Type 0
AreOther name names = AllByRecursion (λ (other : List ℕ). other ≢ name) names

unknown : (names : List (List ℕ)) (name : List ℕ) → is_known names name ≡ false → AreOther name names
unknown [] name none = tt
unknown (other ∷ names) name none =
    let parts = or_parts (pointwise nat_eq name other) (is_known names name) none in
    (λ same. both_ways (pointwise nat_eq name other) parts.0 (ap (pointwise nat_eq name) same ∙ all_same name), unknown names name parts.1)

apart : (m : MachineData) (name : List ℕ) → begins m.prefix name ≡ false → (k : ℕ) → added_name m k ≢ name
apart m name none k same = both_ways (begins m.prefix name) none (ap (begins m.prefix) (sym same) ∙ begun m.prefix (decimal k))

not_added : (m : MachineData) (name : List ℕ) → begins m.prefix name ≡ false → (ks : List ℕ) → AreOther name (map (added_name m) ks)
not_added m name none [] = tt
not_added m name none (k ∷ ks) = (apart m name none k, not_added m name none ks)

pub new_name : (m : MachineData) (name : List ℕ) → HasNames m → is_known (own_netlist m).names name ≡ false → begins m.prefix name ≡ false → All (λ other. other ≢ name) (m.circuit.names ++ gate_names m)
new_name m name names is_other is_apart =
    let own : AreOther name m.circuit.names = subst (AreOther name) (sym names) (each_together (λ other. other ≢ name) (own_netlist m).names (map (added_name m) (range_with_len 0 (additions m))) (unknown (own_netlist m).names name is_other) (not_added m name is_apart (range_with_len 0 (additions m)))) in
    from_recursion (λ other. other ≢ name) (m.circuit.names ++ gate_names m) (each_together (λ other. other ≢ name) m.circuit.names (gate_names m) own (not_added m name is_apart (range_with_len (additions m) (length (enables_of m)))))
