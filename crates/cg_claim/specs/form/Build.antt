-- The list and the goal of a question, as one run of a domain's operations in order: cycle by cycle the reached bits of the registers
-- in register order and the reached cells in walk order, then the cells of the last cycle with other bits, and then the goal.
use Rattle.std.specs.Prelude.{ℕ, zero, suc, if◌then◌else◌, List, [], ◌∷◌, Option, Some, None}
use Rattle.std.specs.List.{filter}
use Rattle.std.specs.Option.{option_map_or}
use Rattle.cg_cell.specs.Build.{Run, build_and, build_or, build_xor, chain, plain}
use Rattle.cg_cell.specs.Domain.{Seen}
use Rattle.cg_net.specs.NetSets.{is_in}
use Rattle.cg_netlist.specs.Circuit.{LogicCell}
use Rattle.cg_machine.specs.Claims.{Literal}
use Rattle.cg_machine.specs.Machine.{MachineData, enable_of}
use Rattle.cg_claim.specs.Build.{Table, Values, aig_values, lay, leaf_list, literal_of, mux_run, next_run, put_run, size, start_nets}
use Rattle.cg_claim.specs.Question.{CopyPart, Net, Next, State, Enable}
use Rattle.cg_claim.specs.Reach.{registers_of}
use Rattle.cg_claim.specs.declared.leaf.Leaf.{Leaf}
use Rattle.cg_claim.specs.declared.leaf.LeafSource.{LeafSource}
use Rattle.cg_claim.specs.declared.leaf.LeafSource.TheVariants.{Input, Register}
use Rattle.cg_claim.specs.form.Leaves.{leaf_place, leaves_of, width_of}
use Rattle.cg_claim.specs.form.Question.{Changes, Ends, Question, Shows}
use Rattle.cg_claim.specs.form.Reach.{nets_of, other_nets, states_of, cut_walk}

-- the value of a leaf, and 0 where it is none
abbrev pub leaf_value : Values → List Leaf → ℕ → LeafSource → ℕ
leaf_value d leaves i source = option_map_or d.leaf (leaf_place leaves (record { copy = i; source = source })) 0

-- a cycle that is built: the values of its registers' bits and of its nets, and the domain then
pub record Cycle : Type 0 where
  pub states : ℕ → ℕ
  pub nets : ℕ → ℕ
  pub domain : Seen

abbrev pub cycle_with : (ℕ → ℕ) → Table → Cycle
cycle_with states t = record { states = states; nets = t.at; domain = t.domain }

-- the cells whose outputs are among these nets, in walk order, but for those behind a cut
abbrev pub reached_cells : MachineData → Option (List ℕ) → List ℕ → List (LogicCell ℕ)
reached_cells m cut nets = filter (λ cell. is_in nets cell.output) (cut_walk m cut)

-- the nets of a cycle before its cells are laid: those of a cut are leaves, of this copy
abbrev pub cut_start : Values → MachineData → Option (List ℕ) → List Leaf → ℕ → (ℕ → ℕ) → ℕ → ℕ
cut_start d m None leaves i start = start
cut_start d m (Some cut) leaves i start = λ y. if is_in cut y then leaf_value d leaves i (Input y) else start y

-- a copy with the inputs of cycle i: its reached cells in walk order
abbrev pub copy_from : Values → MachineData → Question → List Leaf → ℕ → ℕ → List ℕ → Table → Cycle
copy_from d m q leaves i copy nets t =
    cycle_with t.at
    (lay d (reached_cells m q.cut nets)
    (record { domain = t.domain; at = cut_start d m q.cut leaves copy (start_nets d m (λ y. leaf_value d leaves i (Input y)) t.at) }))

-- cycle i from its registers' bits
abbrev pub cycle_from : Values → MachineData → Question → List Leaf → ℕ → Table → Cycle
cycle_from d m q leaves i t = copy_from d m q leaves i i (nets_of m q i) t

-- the bit of a register after a cycle: a leaf, its next bit, or where it is not loaded its bit and else a leaf
abbrev pub state_run : Values → MachineData → Question → (ℕ → ℕ) → Cycle → ℕ → Seen → Run
state_run d m q given c r s =
    if q.loose r then plain (given r) s else
    if q.follows r then next_run d m c.nets c.states r s else mux_run d (enable_of m r) c.nets (given r) (c.states r) s

-- the bits of registers after a cycle by this run, one after another
abbrev pub lay_states : (ℕ → Seen → Run) → List ℕ → Table → Table
lay_states run [] t = t
lay_states run (r ∷ rs) t = lay_states run rs (put_run t r (run r t.domain))

-- the registers' bits that are reached in cycle i, from the cycle before
abbrev pub next_states : Values → MachineData → Question → List Leaf → ℕ → Cycle → Table
next_states d m q leaves i c =
    lay_states (state_run d m q (λ r. leaf_value d leaves i (Register r)) c) (filter (states_of m q i) (registers_of m))
    (record { domain = c.domain; at = λ r. 0 })

-- the cycles, one after another: in the first the registers' bits are leaves
abbrev pub cycle_at : Values → MachineData → Question → List Leaf → Seen → ℕ → Cycle
cycle_at d m q leaves s zero = cycle_from d m q leaves 0 (record { domain = s; at = λ r. leaf_value d leaves 0 (Register r) })
cycle_at d m q leaves s (suc i) = cycle_from d m q leaves (suc i) (next_states d m q leaves (suc i) (cycle_at d m q leaves s i))

-- the last cycle with other bits, behind the last one
abbrev pub other_states_of : Values → Question → List Leaf → List ℕ → (ℕ → ℕ) → ℕ → ℕ
other_states_of d q leaves G states r = if is_in G r then leaf_value d leaves (suc q.after) (Register r) else states r

abbrev pub other_cycle : Values → MachineData → Question → List Leaf → List ℕ → Cycle → Cycle
other_cycle d m q leaves G last =
    copy_from d m q leaves q.after (suc q.after) (other_nets m q)
    (record { domain = last.domain; at = other_states_of d q leaves G last.states })

-- a term: its literals joined by `and` from the left
abbrev pub and_run : Values → (ℕ → ℕ) → ℕ → List Literal → Seen → Run
and_run d nets a [] s = plain a s
and_run d nets a (l ∷ ls) s = chain (build_and d.ops a (literal_of d nets l) s) (λ b t. and_run d nets b ls t)

abbrev pub term_run : Values → (ℕ → ℕ) → List Literal → Seen → Run
term_run d nets [] s = plain 0 s
term_run d nets (l ∷ ls) s = and_run d nets (literal_of d nets l) ls s

-- the condition: its terms joined by `or` from the left, each built when it is joined
abbrev pub or_run : Values → (ℕ → ℕ) → ℕ → List (List Literal) → Seen → Run
or_run d nets a [] s = plain a s
or_run d nets a (term ∷ terms) s =
    chain (term_run d nets term s) (λ b t. chain (build_or d.ops a b t) (λ c u. or_run d nets c terms u))

abbrev pub condition_run : Values → (ℕ → ℕ) → List (List Literal) → Seen → Run
condition_run d nets [] s = plain 0 s
condition_run d nets (term ∷ terms) s = chain (term_run d nets term s) (λ b t. or_run d nets b terms t)

-- a part of a copy
abbrev pub part_run : Values → MachineData → Question → Cycle → CopyPart → Seen → Run
part_run d m q c (Net y) s = plain (c.nets y) s
part_run d m q c (Next r) s = next_run d m c.nets c.states r s
part_run d m q c (State r) s = plain (c.states r) s
part_run d m q c Enable s = condition_run d c.nets q.condition s

-- the goal of two values, of which the value e of the condition is known: their exclusive or, and the `and` of it with the inverse of e
abbrev pub differ_run : Values → ℕ → ℕ → ℕ → Seen → Run
differ_run d e a b s = chain (build_xor d.ops a b s) (λ x t. build_and d.ops (d.inverse e) x t)

-- the goal that a register changes its bit in a cycle; without one, that the condition is 0
abbrev pub changes_run : Values → MachineData → Cycle → Option ℕ → ℕ → Seen → Run
changes_run d m c None e s = plain (d.inverse e) s
changes_run d m c (Some r) e s = chain (next_run d m c.nets c.states r s) (λ a t. differ_run d e a (c.states r) t)

abbrev pub goal_of : Values → MachineData → Question → List Leaf → Cycle → Ends → ℕ → Seen → Run
goal_of d m q leaves last (Changes register) e s = changes_run d m last register e s
goal_of d m q leaves last (Shows part G) e s =
    let other = other_cycle d m q leaves G last in
    chain (part_run d m q last part s) (λ a t. chain (part_run d m q other part t) (λ b u. differ_run d e a b u))

-- the domain when all is built but the goal
abbrev pub built_domain : Values → MachineData → Question → List Leaf → Cycle → Ends → Seen
built_domain d m q leaves last (Changes register) = last.domain
built_domain d m q leaves last (Shows part G) = (other_cycle d m q leaves G last).domain

-- the goal, the condition first: it is of the first cycle, and all cycles are built before
abbrev pub goal_run : Values → MachineData → Question → List Leaf → Cycle → Cycle → Run
goal_run d m q leaves first last =
    chain (condition_run d first.nets q.condition (built_domain d m q leaves last q.ends)) (λ e s. goal_of d m q leaves last q.ends e s)

-- the run of a question, from a domain that has its leaves
abbrev pub question_run : Values → MachineData → Question → Seen → Run
question_run d m q s =
    goal_run d m q (leaves_of m q) (cycle_at d m q (leaves_of m q) s 0) (cycle_at d m q (leaves_of m q) s q.after)

-- the and-inverter list and the goal of a question
abbrev pub claim_run : MachineData → Question → Run
claim_run m q = question_run aig_values m q (leaf_list (width_of m q))

-- how many leaves and and-nodes it has
abbrev pub nodes_of : MachineData → Question → ℕ
nodes_of m q = size (claim_run m q).domain
