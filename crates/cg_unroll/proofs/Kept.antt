-- What the program's tables keep from stage to stage.
use Rattle.std.proofs.Common.{ℕ, ◌<◌, Bool, List, length, arith}
use Rattle.std.specs.List.{All, filter}
use Rattle.cg_cell.specs.Domain.{Keeps, Seen}
use Rattle.cg_cell.proofs.Building.{keeps_then}
use Rattle.cg_cell.proofs.Evals.{valid_then}
use Rattle.cg_aig.specs.Aig.{aig_ops}
use Rattle.cg_net.proofs.Members.{All-from_members}
use Rattle.cg_netlist_cone.specs.declared.cone.Cone.{Cone}
use Rattle.cg_machine.specs.Machine.{MachineData}
use Rattle.cg_machine.proofs.Lists.{below_range}
use Rattle.cg_claim.specs.Reach.{registers_of}
use Rattle.cg_unroll.specs.declared.tables.Tables.{Tables}
use Rattle.cg_claim.specs.declared.leaf.Leaf.{Leaf}
use Rattle.cg_unroll.specs.inner.Copying.{AreTables, Starts}
use Rattle.cg_unroll.specs.Laid.{LaysCopy}
use Rattle.cg_unroll.specs.Placing.{IsLiteralTable}
use Rattle.cg_unroll.specs.inner.States.{Carries, LaysStates}
use Rattle.cg_unroll.proofs.Sides.{table_later}
use Rattle.cg_netlist.proofs.Filtered.{in_filter}

-- registers that pass a test are there
pub registers_there : (m : MachineData) (test : ℕ → Bool) → All (λ r. r < length m.circuit.registers) (filter test (registers_of m))
registers_there m test =
    All-from_members (λ r. r < length m.circuit.registers) (filter test (registers_of m)) (λ r among.
    let below = below_range (length m.circuit.registers) 0 r (in_filter test (registers_of m) r among).0 in omega (arith, below))

-- the tables of each stage
module _ (m : MachineData) (leaves : List Leaf) (s : Seen) (start : Tables) (starts : Starts m leaves s start)
    (s1 : Seen) (before : Cone) (nets0 : List ℕ) (lays0 : LaysCopy m before start.before.states s s1 start.before.nets nets0) where
  pub own_table : IsLiteralTable (length m.circuit.registers) s1 start.before.states
  own_table = table_later (length m.circuit.registers) s s1 start.before.states lays0.keeps starts.before_states.table

  pub free_table : IsLiteralTable (length m.circuit.registers) s1 start.free
  free_table = table_later (length m.circuit.registers) s s1 start.free lays0.keeps starts.free.table

  pub zero_table : IsLiteralTable (length m.circuit.registers) s1 start.after.states
  zero_table = table_later (length m.circuit.registers) s s1 start.after.states lays0.keeps starts.after_states

  module _ (nets own free : ℕ → ℕ) (registers : List ℕ) (s2 : Seen) (states1 : List ℕ) (lays1 : LaysStates m nets own free registers s1 s2 start.after.states states1) where
    two : Keeps aig_ops s s2
    two = keeps_then aig_ops s s1 s2 lays0.keeps lays1.keeps

    pub states_table : IsLiteralTable (length m.circuit.registers) s2 states1
    states_table = record { valid = lays1.valid; long = omega (arith, lays1.long, starts.after_states.long) }

    pub after_table : IsLiteralTable (length m.circuit.names) s2 start.after.nets
    after_table = table_later (length m.circuit.names) s s2 start.after.nets two starts.after_nets.table

    module _ (after : Cone) (s3 : Seen) (nets1 : List ℕ) (lays2 : LaysCopy m after states1 s2 s3 start.after.nets nets1) (states2 : List ℕ) (carries : Carries registers states1 start.changed.states states2) where
      three : Keeps aig_ops s s3
      three = keeps_then aig_ops s s2 s3 two lays2.keeps

      pub others_table : IsLiteralTable (length m.circuit.registers) s3 states2
      others_table = record {
        valid = carries.valid s3 (valid_then aig_ops s2 s3 states1 lays2.keeps lays1.valid) (valid_then aig_ops s s3 start.changed.states three starts.changed_states.table.valid);
        long = omega (arith, carries.long, starts.changed_states.table.long);
      }

      pub changed_table : IsLiteralTable (length m.circuit.names) s3 start.changed.nets
      changed_table = table_later (length m.circuit.names) s s3 start.changed.nets three starts.changed_nets.table

      module _ (changed : Cone) (s4 : Seen) (nets2 : List ℕ) (lays3 : LaysCopy m changed states2 s3 s4 start.changed.nets nets2) where
        pub four : Keeps aig_ops s s4
        four = keeps_then aig_ops s s3 s4 three lays3.keeps

        rest : Keeps aig_ops s2 s4
        rest = keeps_then aig_ops s2 s3 s4 lays2.keeps lays3.keeps

        pub all_tables : AreTables m s4 (record {
          before = record { nets = nets0; states = start.before.states };
          after = record { nets = nets1; states = states1 };
          changed = record { nets = nets2; states = states2 };
          free = start.free;
        })
        all_tables = record {
          before = record {
            nets = table_later (length m.circuit.names) s1 s4 nets0 (keeps_then aig_ops s1 s2 s4 lays1.keeps rest) lays0.table;
            states = table_later (length m.circuit.registers) s s4 start.before.states four starts.before_states.table;
          };
          after = record {
            nets = table_later (length m.circuit.names) s3 s4 nets1 lays3.keeps lays2.table;
            states = table_later (length m.circuit.registers) s2 s4 states1 rest states_table;
          };
          changed = record {
            nets = lays3.table;
            states = table_later (length m.circuit.registers) s3 s4 states2 lays3.keeps others_table;
          };
        }
