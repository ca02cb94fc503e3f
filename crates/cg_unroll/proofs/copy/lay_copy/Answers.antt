use Rattle.std.proofs.Common.{ℕ, List, slice_index_or, subst, arith}
use Rattle.std.specs.List.{flat_map}
use Rattle.cg_cell.specs.Domain.{AreValid, Seen}
use Rattle.cg_aig.specs.Aig.{aig_ops}
use Rattle.cg_netlist.specs.Moment.{values_at}
use Rattle.cg_netlist_cone.specs.declared.cone.Cone.{Cone}
use Rattle.cg_machine.specs.Machine.{MachineData}
use Rattle.cg_claim.specs.Build.{aig_values, lay}
use Rattle.cg_unroll.specs.Building.{LaysCells, MayFail, table_of}
use Rattle.cg_unroll.specs.inner.Filling.{AgreesWithAll, Puts, nets_shown}
use Rattle.cg_unroll.proofs.Building.{if_err, if_ok}
use Rattle.cg_unroll.proofs.CopyLaid.{copy_fails, copy_is}
use Rattle.cg_unroll.proofs.copy.lay_copy.Goals as goal

pub lay_cells-requires-clause-valid : goal.lay_cells-requires-clause-valid
lay_cells-requires-clause-valid c = c.in_ok-put_registers.ensures.put.valid c.args.aig.now c.requires.states.valid c.requires.nets.valid

pub returns-clause-laid : goal.returns-clause-laid
returns-clause-laid c =
    let m : MachineData = c.args.machine.now in
    let cone : Cone = c.args.cone.now in
    let s : Seen = c.args.aig.now in
    let states : List ℕ = c.args.states.now in
    let old : List ℕ = c.args.nets.now in
    let mid : List ℕ = c.put_registers.new.literals in
    let put : Puts (AgreesWithAll m (λ r. slice_index_or states r 0)) (λ u. AreValid aig_ops u states) (flat_map (nets_shown m) cone.registers) old mid =
    subst (λ rs. Puts (AgreesWithAll m (λ r. slice_index_or states r 0)) (λ u. AreValid aig_ops u states) (flat_map (nets_shown m) rs) old mid) c.as_slice.ensures.parts c.in_ok-put_registers.ensures.put in
    if_ok _ _ c.lay_cells.result (λ done laid.
    let lays : LaysCells (values_at m.circuit.cells cone.cells) s c.lay_cells.new.aig mid c.lay_cells.new.literals = subst (λ ids. LaysCells (values_at m.circuit.cells ids) s c.lay_cells.new.aig mid c.lay_cells.new.literals) c.as_slice-2.ensures.parts laid in
    record {
      same = λ roots inputs stands holds. copy_is m c.netlist-netlist.ensures.machine roots cone stands inputs states old mid holds put s c.lay_cells.new.aig c.lay_cells.new.literals lays;
      keeps = lays.keeps;
      table = record { valid = lays.valid; long = omega (arith, lays.long, put.long, c.requires.nets.long) };
    }) c.lay_cells.ensures.laid

pub returns-clause-failed : goal.returns-clause-failed
returns-clause-failed c =
    let m : MachineData = c.args.machine.now in
    let cone : Cone = c.args.cone.now in
    let s : Seen = c.args.aig.now in
    let states : List ℕ = c.args.states.now in
    let old : List ℕ = c.args.nets.now in
    let mid : List ℕ = c.put_registers.new.literals in
    let put : Puts (AgreesWithAll m (λ r. slice_index_or states r 0)) (λ u. AreValid aig_ops u states) (flat_map (nets_shown m) cone.registers) old mid =
    subst (λ rs. Puts (AgreesWithAll m (λ r. slice_index_or states r 0)) (λ u. AreValid aig_ops u states) (flat_map (nets_shown m) rs) old mid) c.as_slice.ensures.parts c.in_ok-put_registers.ensures.put in
    if_err _ _ c.lay_cells.result (λ fault h roots inputs stands holds.
    copy_fails m c.netlist-netlist.ensures.machine roots cone stands inputs states old mid holds put s fault
    (subst (λ ids. MayFail (lay aig_values (values_at m.circuit.cells ids) (table_of s mid)).domain fault) c.as_slice-2.ensures.parts h)) c.lay_cells.ensures.failed
