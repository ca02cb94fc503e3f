-- The cycles of a question, as the program lays them.
use Rattle.std.specs.Prelude.{◌≡◌, ℕ, true, List, length, slice_index_or}
use Rattle.cg_cell.specs.Domain.{AreValid, Keeps, Seen}
use Rattle.cg_aig.specs.Aig.{aig_ops}
use Rattle.cg_net.specs.NetSets.{is_in}
use Rattle.cg_machine.specs.Machine.{MachineData}
use Rattle.cg_claim.specs.Build.{aig_values}
use Rattle.cg_claim.specs.Tables.{SameOn}
use Rattle.cg_claim.specs.form.Build.{Cycle}
use Rattle.cg_hint_laws.specs.Build.{cycle_at, lay_next}
use Rattle.cg_hint_laws.specs.Leaves.{leaves_of}
use Rattle.cg_hint_laws.specs.Question.{Question}
use Rattle.cg_hint_laws.specs.Reach.{nets_of, states_of}
use Rattle.cg_unroll.specs.Building.{table_of}
use Rattle.cg_unroll.specs.declared.tables.CopyTables.{CopyTables}
use Rattle.cg_unroll_cycles.specs.Asking.{AsksThere, question_of}
use Rattle.cg_unroll_cycles.specs.declared.cycle.Unrolling.{Unrolling}
use Rattle.cg_unroll_cycles.specs.inner.Reached.{IsReached}

-- the question that is unrolled
abbrev pub asked_by : Unrolling → Question
asked_by unrolling = question_of unrolling.question.now

-- it is one of the machine, with what it reaches there
pub record IsUnrolling (unrolling : Unrolling) : Type 0 where
  pub asked : AsksThere unrolling.machine.now (asked_by unrolling)
  pub reached : IsReached unrolling.machine.now (asked_by unrolling) unrolling.reached.now

-- a cycle that tables hold, with a list
abbrev pub cycle_of : CopyTables → Seen → Cycle
cycle_of copy s =
    record {
      states = λ r. slice_index_or copy.states r 0;
      nets = λ x. slice_index_or copy.nets x 0;
      domain = s;
    }

-- cycle i of a question, built from a list that has its leaves
abbrev pub built_cycle : MachineData → Question → Seen → ℕ → Cycle
built_cycle m q s i = cycle_at aig_values m q (leaves_of m q) s i

-- tables have the literals of a cycle, where it is reached
pub record AgreesWith (m : MachineData) (q : Question) (i : ℕ) (c : Cycle) (copy : CopyTables) : Type 0 where
  pub nets : (y : ℕ) → is_in (nets_of m q i) y ≡ true → slice_index_or copy.nets y 0 ≡ c.nets y
  pub states : (r : ℕ) → states_of m q i r ≡ true → slice_index_or copy.states r 0 ≡ c.states r

-- cycle i was laid, from the list s that has the leaves: the list is now t
pub record HoldsCycle (m : MachineData) (q : Question) (s : Seen) (i : ℕ) (t : Seen) (copy : CopyTables) : Type 0 where
  pub domain : t ≡ (built_cycle m q s i).domain
  pub agrees : AgreesWith m q i (built_cycle m q s i) copy

-- the next bits of these registers were laid
pub record LaysNext (m : MachineData) (c : Cycle) (registers : List ℕ) (s t : Seen) (old new : List ℕ) : Type 0 where
  pub same : SameOn (λ _. true) (table_of t new) (lay_next aig_values m c registers (table_of s old))
  pub keeps : Keeps aig_ops s t
  pub valid : AreValid aig_ops t new
  pub long : length new ≡ length old

-- they are being laid: those that are left lead from here to where all lead from the start
pub record IsLayingNext (m : MachineData) (c : Cycle) (all left : List ℕ) (s t : Seen) (old now : List ℕ) : Type 0 where
  pub leads : SameOn (λ _. true) (lay_next aig_values m c left (table_of t now)) (lay_next aig_values m c all (table_of s old))
  pub keeps : Keeps aig_ops s t
  pub valid : AreValid aig_ops t now
  pub long : length now ≡ length old
