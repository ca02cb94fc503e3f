-- What a question reaches in each of its cycles, from the last to the first, and in the last once more with other bits in some
-- registers. It is found by structure alone: each input of each cell and register and each enable counts, whether or not a function
-- depends on it.
use Rattle.std.specs.Prelude.{ℕ, zero, suc, ◌-◌, Bool, false, not, ◌&&◌, ◌||◌, if◌then◌else◌, List, [], ◌++◌, nat_eq, is_some, Option, Some, None}
use Rattle.std.specs.List.{filter, flat_map}
use Rattle.std.specs.Option.{option_to_list}
use Rattle.cg_net.specs.NetSets.{is_in}
use Rattle.cg_netlist.specs.Circuit.{LogicCell}
use Rattle.cg_netlist_cone.specs.Cone.{cone_of}
use Rattle.cg_machine.specs.Machine.{MachineData, enable_of, walk_of}
use Rattle.cg_claim.specs.Reach.{feeds, next_asks_own, next_nets, part_asks, part_nets, registers_of}
use Rattle.cg_claim.specs.form.Question.{Changes, Ends, Question, Shows, condition_nets}

-- the logic cells in walk order, but for those behind a cut
abbrev pub cut_walk : MachineData → Option (List ℕ) → List (LogicCell ℕ)
cut_walk m None = walk_of m
cut_walk m (Some cut) = filter (λ cell. not (is_in cut cell.output)) (walk_of m)

-- what is asked of a cycle: nets, and bits of registers
pub record Asked : Type 0 where
  pub nets : List ℕ
  pub states : ℕ → Bool

abbrev pub nothing : Asked
nothing = record { nets = []; states = λ r. false }

-- the nets and the registers' bits that are reached then
abbrev pub reached_nets : MachineData → Option (List ℕ) → Asked → List ℕ
reached_nets m cut a = cone_of (cut_walk m cut) a.nets

abbrev pub reached_states : MachineData → Option (List ℕ) → Asked → ℕ → Bool
reached_states m cut a r = feeds m (reached_nets m cut a) r || a.states r

-- the nets of a cycle that the bit of register r after it asks for, and whether it asks for the bit before
abbrev pub origin_nets : MachineData → Question → ℕ → List ℕ
origin_nets m q r = if q.loose r then [] else if q.follows r then next_nets m r else option_to_list (enable_of m r)

abbrev pub origin_asks : MachineData → Question → ℕ → Bool
origin_asks m q r = if q.loose r then false else if q.follows r then next_asks_own m r else is_some (enable_of m r)

-- what that asks of the cycle before
abbrev pub asked_before : MachineData → Question → Asked → Asked
asked_before m q a =
    record {
      nets = flat_map (origin_nets m q) (filter (reached_states m q.cut a) (registers_of m));
      states = λ r. reached_states m q.cut a r && origin_asks m q r;
    }

-- what the goal asks of the last cycle where some registers have other bits
abbrev pub asked_other : MachineData → Question → Ends → Asked
asked_other m q (Changes register) = nothing
asked_other m q (Shows part G) = record { nets = part_nets m (condition_nets q.condition) part; states = part_asks m part }

-- what it asks where a register may change its bit: its next bit, and its bit
abbrev pub asked_change : MachineData → Option ℕ → Asked
asked_change m None = nothing
asked_change m (Some k) = record { nets = next_nets m k; states = λ r. nat_eq r k }

-- and so what it asks of the last cycle as it is: a bit that is not another is the one that is there
abbrev pub asked_last : MachineData → Question → Ends → Asked
asked_last m q (Changes register) = asked_change m register
asked_last m q (Shows part G) =
    record {
      nets = part_nets m (condition_nets q.condition) part;
      states = λ r. part_asks m part r || (reached_states m q.cut (asked_other m q (Shows part G)) r && not (is_in G r));
    }

-- so many steps back from the last cycle, of which this is asked
abbrev pub back : (Asked → Asked) → Asked → ℕ → Asked
back step last zero = last
back step last (suc j) = step (back step last j)

-- what is asked of the j-th cycle before the last, by the goal and by the cycles behind it
abbrev pub asked_back : MachineData → Question → ℕ → Asked
asked_back m q j = back (asked_before m q) (asked_last m q q.ends) j

-- of the first cycle the nets of the condition are asked too
abbrev pub with_condition : Question → ℕ → Asked → Asked
with_condition q zero a = record { nets = condition_nets q.condition ++ a.nets; states = a.states }
with_condition q (suc i) a = a

-- what is asked of cycle i, counted from 0, and what is reached in it
abbrev pub asked_of : MachineData → Question → ℕ → Asked
asked_of m q i = with_condition q i (asked_back m q (q.after - i))

abbrev pub nets_of : MachineData → Question → ℕ → List ℕ
nets_of m q i = reached_nets m q.cut (asked_of m q i)

abbrev pub states_of : MachineData → Question → ℕ → ℕ → Bool
states_of m q i = reached_states m q.cut (asked_of m q i)

-- what is reached in the last cycle with other bits
abbrev pub other_nets : MachineData → Question → List ℕ
other_nets m q = reached_nets m q.cut (asked_other m q q.ends)

abbrev pub other_states : MachineData → Question → ℕ → Bool
other_states m q = reached_states m q.cut (asked_other m q q.ends)
