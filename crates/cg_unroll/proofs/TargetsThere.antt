-- What the name of a target names is there.
use Rattle.std.proofs.Common.{◌≡◌, ℕ, ◌<◌, List, [], ◌∷◌, ◌++◌, length, get_or, sym, ◌∙◌, ap, subst}
use Rattle.std.specs.List.{All}
use Rattle.std.proofs.lemmas.List.Elements.{All-get_or, All-tail}
use Rattle.cg_machine.specs.Machine.{IsMachine, MachineData}

-- what holds of all holds of those behind others
all_back : {X : Type 0} (P : X → Type 0) (xs ys : List X) → All P (xs ++ ys) → All P ys
all_back P [] ys all = all
all_back P (x ∷ xs) ys all = all_back P xs ys (All-tail P x (xs ++ ys) all)

-- an output of a machine is one of its nets
pub output_there : (m : MachineData) (outputs : List ℕ) (k x : ℕ) → IsMachine m → outputs ≡ m.circuit.outputs → k < length m.circuit.outputs → x ≡ get_or outputs k x → x < length m.circuit.names
output_there m outputs k x good same below is =
    let there = All-get_or (λ net. net < length m.circuit.names) m.circuit.outputs k x below (all_back (λ net. net < length m.circuit.names) _ m.circuit.outputs good.well_formed.used) in
    let e : x ≡ get_or m.circuit.outputs k x = is ∙ ap (λ xs. get_or xs k x) same in
    subst (λ y. y < length m.circuit.names) (sym e) there
