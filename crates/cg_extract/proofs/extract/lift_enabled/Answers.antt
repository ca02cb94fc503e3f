use Rattle.std.proofs.Common.{refl, ap, ◌∙◌, sym}
use Rattle.cg_machine.specs.Machine.{MachineData}
use Rattle.cg_machine.specs.Run.{with_enables}
use Rattle.cg_extract.proofs.Extracted.{enabled, free, nets, registers}
use Rattle.cg_extract.specs.inner.Taking.{entry_at, table_enables}
use Rattle.cg_extract.proofs.extract.lift_enabled.Goals as goal

pub set_enables-requires-clause-nets : goal.set_enables-requires-clause-nets
set_enables-requires-clause-nets c net enable is =
    let old : MachineData = c.args.machine.now in
    nets c.args.netlist.now old.prefix c.requires.can old refl c.lift.new.machine c.in_ok-enables.ensures.machine c.in_ok-enables.enables.items c.in_ok-enables.ensures.enables net enable (ap (λ t. entry_at t net) (sym c.deref.ensures.value) ∙ is)

pub set_enables-requires-clause-registers : goal.set_enables-requires-clause-registers
set_enables-requires-clause-registers c =
    let old : MachineData = c.args.machine.now in
    registers c.args.netlist.now old.prefix c.requires.can old refl c.lift.new.machine c.in_ok-enables.ensures.machine c.in_ok-enables.enables.items c.in_ok-enables.ensures.enables

pub set_enables-requires-clause-free : goal.set_enables-requires-clause-free
set_enables-requires-clause-free c =
    let old : MachineData = c.args.machine.now in
    free c.args.netlist.now old.prefix c.requires.can old refl c.lift.new.machine c.in_ok-enables.ensures.machine c.in_ok-enables.enables.items c.in_ok-enables.ensures.enables

pub returns : goal.returns
returns c =
    let netlist = c.args.netlist.now in
    let old : MachineData = c.args.machine.now in
    c.set_enables.ensures ∙ (ap (λ t. with_enables c.lift.new.machine (table_enables t netlist.registers)) c.deref.ensures.value
    ∙ enabled netlist old.prefix c.requires.can old refl c.lift.new.machine c.in_ok-enables.ensures.machine c.in_ok-enables.enables.items c.in_ok-enables.ensures.enables)
