-- The list of a claim has as many leaves as the claim.
use Rattle.std.proofs.Common.{◌≡◌, ℕ, List, [], ◌∷◌, map, refl, ◌∙◌}
use Rattle.std.specs.List.{filter}
use Rattle.cg_aig.proofs.RunsFit.{aig_growing}
use Rattle.cg_aig.specs.Aig.{aig_ops}
use Rattle.cg_cell.proofs.RunsGrow.{Grows, grows_term}
use Rattle.cg_claim.proofs.WholeLists.{goal_grows, state_grows}
use Rattle.cg_claim.specs.Build.{Table, after_state_table, after_table, aig_values, before_table, cell_run, changed_state}
use Rattle.cg_claim.specs.Build.{claim_run, copies, function_term, lay, lay_states, leaf_list, leaf_value, put_run, reached_cells}
use Rattle.cg_claim.specs.Build.{start_nets, state_run}
use Rattle.cg_claim.specs.Leaves.{leaves_of, width_of}
use Rattle.cg_claim.specs.Question.{After, Before, Question}
use Rattle.cg_claim.specs.Reach.{after_nets, after_states, before_nets, changed_nets, registers_of}
use Rattle.cg_claim.specs.declared.leaf.LeafSource.TheVariants.{Input as InputOf, Register as RegisterOf}
use Rattle.cg_machine.specs.Machine.{MachineData}
use Rattle.cg_netlist.specs.Circuit.{LogicCell}

lay_number : (cells : List (LogicCell ℕ)) (t : Table) → (lay aig_values cells t).domain.number ≡ t.domain.number
lay_number [] t = refl
lay_number (cell ∷ cells) t =
    let r = cell_run aig_values cell t in
    let g : Grows aig_ops t.domain r = grows_term aig_ops aig_growing (function_term cell.function) (map t.at cell.inputs) t.domain in
    lay_number cells (put_run t cell.output r) ∙ g.number

states_number : (m : MachineData) (q : Question) (nets states free : ℕ → ℕ) (rs : List ℕ) (t : Table) → (lay_states aig_values m q nets states free rs t).domain.number ≡ t.domain.number
states_number m q nets states free [] t = refl
states_number m q nets states free (r ∷ rs) t =
    let run = state_run aig_values m q nets states free r t.domain in
    let g : Grows aig_ops t.domain run = state_grows m q nets states free r t.domain in
    states_number m q nets states free rs (put_run t r run) ∙ g.number

pub claim_number : (m : MachineData) (q : Question) → (claim_run m q).domain.number ≡ width_of m q
claim_number m q =
    let leaves = leaves_of m q in
    let s = leaf_list (width_of m q) in
    let t0 = before_table aig_values m q leaves s in
    let u1 = after_state_table aig_values m q leaves t0 in
    let t1 = after_table aig_values m q leaves u1 in
    let g = goal_grows m q (copies aig_values m q leaves s) in
    g.number
    ∙ (lay_number (reached_cells m (changed_nets m q)) (record { domain = t1.domain; at = start_nets aig_values m (λ y. leaf_value aig_values leaves After (InputOf y)) (changed_state aig_values q leaves u1.at) })
    ∙ (lay_number (reached_cells m (after_nets m q)) (record { domain = u1.domain; at = start_nets aig_values m (λ y. leaf_value aig_values leaves After (InputOf y)) u1.at })
    ∙ (states_number m q t0.at (λ r. leaf_value aig_values leaves Before (RegisterOf r)) (λ r. leaf_value aig_values leaves After (RegisterOf r)) (filter (after_states m q) (registers_of m)) (record { domain = t0.domain; at = λ r. 0 })
    ∙ lay_number (reached_cells m (before_nets m q)) (record { domain = s; at = start_nets aig_values m (λ y. leaf_value aig_values leaves Before (InputOf y)) (λ r. leaf_value aig_values leaves Before (RegisterOf r)) }))))
