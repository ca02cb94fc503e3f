-- The sides of a goal, as the program shows them.
use Rattle.std.proofs.Common.{◌≡◌, ℕ, List, Some, length, slice_index_or, refl, ◌∙◌, ap}
use Rattle.cg_cell.specs.Build.{Run, build_and, build_xor, chain}
use Rattle.cg_cell.specs.Domain.{Keeps, Seen}
use Rattle.cg_cell.proofs.Evals.{valid_then}
use Rattle.cg_cell.proofs.RunsGrow.{Grows, grows_and, grows_then, grows_xor}
use Rattle.cg_aig.specs.Aig.{aig_ops, inverse}
use Rattle.cg_aig.proofs.RunsFit.{aig_growing}
use Rattle.cg_machine.specs.Claims.{Literal}
use Rattle.cg_machine.specs.Machine.{MachineData}
use Rattle.cg_claim.specs.Build.{aig_values, goal_of, nets_in, part_run, side_run, states_in}
use Rattle.cg_claim.specs.Question.{CopyPart, Question}
use Rattle.cg_claim.proofs.WholeLists.{part_grows}
use Rattle.cg_claim_reach.specs.declared.asked.Frame.{Frame}
use Rattle.cg_claim_reach.specs.declared.asked.Frame.TheVariants.{Before, After, Changed}
use Rattle.cg_claim_reach.specs.declared.asked.Side.{Side}
use Rattle.cg_unroll.specs.declared.tables.CopyTables.{CopyTables}
use Rattle.cg_unroll.specs.declared.tables.Tables.{Tables}
use Rattle.cg_claim_reach.specs.Asking.{copy_of, part_of, side_of}
use Rattle.cg_unroll.specs.inner.Copying.{AreTables, copies_of, copy_tables, shown_run, sides_run}
use Rattle.cg_unroll.specs.Placing.{IsCopy, IsLiteralTable}

-- a table is one of each later list
pub table_later : (n : ℕ) (s t : Seen) (values : List ℕ) → Keeps aig_ops s t → IsLiteralTable n s values → IsLiteralTable n t values
table_later n s t values k table = record { valid = valid_then aig_ops s t values k table.valid; long = table.long }

pub copy_later : (m : MachineData) (s t : Seen) (copy : CopyTables) → Keeps aig_ops s t → IsCopy m s copy → IsCopy m t copy
copy_later m s t copy k c = record { nets = table_later (length m.circuit.names) s t copy.nets k c.nets; states = table_later (length m.circuit.registers) s t copy.states k c.states }

pub tables_later : (m : MachineData) (s t : Seen) (tables : Tables) → Keeps aig_ops s t → AreTables m s tables → AreTables m t tables
tables_later m s t tables k all = record {
  before = copy_later m s t tables.before k all.before;
  after = copy_later m s t tables.after k all.after;
  changed = copy_later m s t tables.changed k all.changed;
}

pub copy_fits : (m : MachineData) (s : Seen) (tables : Tables) (frame : Frame) → AreTables m s tables → IsCopy m s (copy_tables tables frame)
copy_fits m s tables Before all = all.before
copy_fits m s tables After all = all.after
copy_fits m s tables Changed all = all.changed

module _ (m : MachineData) (E : List Literal) (tables : Tables) where
  shown_grows : (side : Side) (s : Seen) → Grows aig_ops s (shown_run m E tables side s)
  shown_grows side s = part_grows m E (λ x. slice_index_or (copy_tables tables side.frame).nets x 0) (λ r. slice_index_or (copy_tables tables side.frame).states r 0) (part_of side.part) s

  -- what joins two sides only lets the list grow
  pub joined_grows : (joined a b : ℕ) (u : Seen) → Grows aig_ops u (chain (build_xor aig_ops a b u) (λ x v. build_and aig_ops (inverse joined) x v))
  joined_grows joined a b u =
      let x = build_xor aig_ops a b u in
      grows_then aig_ops aig_growing u x (λ x v. build_and aig_ops (inverse joined) x v) (grows_xor aig_ops aig_growing u a b) (grows_and aig_ops aig_growing x.domain (inverse joined) x.answer)

  -- and so does the second side with that
  pub second_grows : (joined a : ℕ) (other : Side) (t : Seen) → Grows aig_ops t (chain (shown_run m E tables other t) (λ b u. chain (build_xor aig_ops a b u) (λ x v. build_and aig_ops (inverse joined) x v)))
  second_grows joined a other t =
      let r = shown_run m E tables other t in
      grows_then aig_ops aig_growing t r (λ b u. chain (build_xor aig_ops a b u) (λ x v. build_and aig_ops (inverse joined) x v)) (shown_grows other t) (joined_grows joined a r.answer r.domain)

module _ (m : MachineData) (q : Question) (tables : Tables) (first : Seen) where
  side_at : (frame : Frame) (part : CopyPart) (s : Seen)
      → part_run aig_values m q.enables (λ x. slice_index_or (copy_tables tables frame).nets x 0) (λ r. slice_index_or (copy_tables tables frame).states r 0) part s
      ≡ part_run aig_values m q.enables (nets_in (copies_of tables first) (copy_of frame)) (states_in (copies_of tables first) (copy_of frame)) part s
  side_at Before part s = refl
  side_at After part s = refl
  side_at Changed part s = refl

  side_is : (side : Side) (s : Seen) → shown_run m q.enables tables side s ≡ side_run aig_values m q (copies_of tables first) (side_of side) s
  side_is side s = side_at side.frame (part_of side.part) s

  -- the sides as the program builds them are those of the goal
  pub sides_are : (one other : Side) (e : ℕ) (s : Seen) → sides_run m q.enables tables e one other s ≡ goal_of aig_values m q (copies_of tables first) (Some (side_of one, side_of other)) e s
  sides_are one other e s =
      let r : Run = side_run aig_values m q (copies_of tables first) (side_of one) s in
      ap (λ (z : Run). chain z (λ a t. chain (shown_run m q.enables tables other t) (λ b u. chain (build_xor aig_ops a b u) (λ x v. build_and aig_ops (inverse e) x v)))) (side_is one s)
      ∙ ap (λ (z : Run). chain r (λ a t. chain z (λ b u. chain (build_xor aig_ops a b u) (λ x v. build_and aig_ops (inverse e) x v)))) (side_is other r.domain)
