-- The leaves of a question: what it reaches and takes as given.
use Rattle.std.specs.Prelude.{ℕ, zero, suc, ◌+◌, Bool, false, not, ◌&&◌, ◌||◌, if◌then◌else◌, List, [], ◌∷◌, ◌++◌, map, length, nat_eq, Option, Some, None}
use Rattle.std.specs.List.{filter, flat_map, range_with_len}
use Rattle.std.specs.Option.{option_map}
use Rattle.cg_net.specs.NetSets.{is_in}
use Rattle.cg_netlist.specs.Circuit.{data_inputs}
use Rattle.cg_machine.specs.Machine.{MachineData}
use Rattle.cg_claim.specs.Leaves.{same_source, sources}
use Rattle.cg_claim.specs.Reach.{registers_of}
use Rattle.cg_claim.specs.declared.leaf.Leaf.{Leaf}
use Rattle.cg_claim.specs.declared.leaf.LeafSource.{LeafSource}
use Rattle.cg_claim.specs.declared.leaf.LeafSource.TheVariants.{Input, Register}
use Rattle.cg_claim.specs.form.Question.{Changes, Ends, Question, Shows}
use Rattle.cg_claim.specs.form.Reach.{nets_of, other_nets, other_states, states_of}

-- whether a net is one of a cut
abbrev pub is_cut : Option (List ℕ) → ℕ → Bool
is_cut None y = false
is_cut (Some cut) y = is_in cut y

-- all sources in order: the data inputs, behind them the nets of a cut, and then the registers
abbrev pub cut_sources : MachineData → Option (List ℕ) → List LeafSource
cut_sources m None = sources m
cut_sources m (Some cut) = map Input (data_inputs m.circuit ++ cut) ++ map Register (registers_of m)

-- whether an input is read in the last cycle with other bits, where it is that of the last cycle; a net of a cut has a bit of its own there
abbrev pub other_reads : MachineData → Question → Ends → ℕ → Bool
other_reads m q (Changes register) y = false
other_reads m q (Shows part G) y = not (is_cut q.cut y) && is_in (other_nets m q) y

-- whether the bit of a register after the first cycle is given
abbrev pub is_given : Question → ℕ → Bool
is_given q r = q.loose r || not (q.follows r)

-- whether a source is a leaf of a cycle
abbrev pub is_leaf : MachineData → Question → ℕ → LeafSource → Bool
is_leaf m q i (Input y) = (other_reads m q q.ends y && nat_eq i q.after) || is_in (nets_of m q i) y
is_leaf m q zero (Register r) = states_of m q 0 r
is_leaf m q (suc i) (Register r) = is_given q r && states_of m q (suc i) r

-- whether it is one of the last cycle with other bits
abbrev pub is_other_leaf : MachineData → Question → List ℕ → LeafSource → Bool
is_other_leaf m q G (Input y) = is_cut q.cut y && is_in (other_nets m q) y
is_other_leaf m q G (Register r) = other_states m q r && is_in G r

-- the leaves of one cycle, and those of the last one with other bits
abbrev pub leaves_at : MachineData → Question → ℕ → List Leaf
leaves_at m q i = map (λ source. record { copy = i; source = source }) (filter (is_leaf m q i) (cut_sources m q.cut))

abbrev pub with_other : MachineData → Question → Ends → List Leaf → List Leaf
with_other m q (Changes register) leaves = leaves
with_other m q (Shows part G) leaves =
    leaves ++ map (λ source. record { copy = suc q.after; source = source }) (filter (is_other_leaf m q G) (cut_sources m q.cut))

-- the leaves of a question in the order of their numbers: by cycle, then data inputs, then registers
abbrev pub leaves_of : MachineData → Question → List Leaf
leaves_of m q = with_other m q q.ends (flat_map (leaves_at m q) (range_with_len 0 (q.after + 1)))

-- the width of a question: how many leaves it has
abbrev pub width_of : MachineData → Question → ℕ
width_of m q = length (leaves_of m q)

-- the place of a leaf among leaves
abbrev pub same_leaf : Leaf → Leaf → Bool
same_leaf l k = nat_eq l.copy k.copy && same_source l.source k.source

abbrev pub leaf_place : List Leaf → Leaf → Option ℕ
leaf_place [] l = None
leaf_place (k ∷ leaves) l = if same_leaf l k then Some 0 else option_map suc (leaf_place leaves l)
