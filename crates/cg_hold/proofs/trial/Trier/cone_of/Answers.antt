use Rattle.std.proofs.Common.{◌≡◌, ◌≤◌, Some, List, ℕ, length, slice_get, sym, subst}
use Rattle.cg_claim_reach.proofs.ConesFound.{found_cone}
use Rattle.cg_claim_reach.specs.Reached.{IsConeOf}
use Rattle.cg_hold.proofs.OfRegister.{own_shorter}
use Rattle.cg_machine.specs.Machine.{walk_of}
use Rattle.cg_net.proofs.FoundNets.{take_some}
use Rattle.cg_netlist.proofs.RegisterNext.{register_inputs_within}
use Rattle.cg_netlist.specs.Circuit.{Circuit}
use Rattle.cg_netlist.specs.View.{register_seen}
use Rattle.cg_netlist_cone.specs.Cone.{cone_of}
use Rattle.cg_stage_groups.proofs.FrontShows.{inputs_are}
use Rattle.cg_hold.proofs.trial.Trier.cone_of.Goals as goal

pub find-requires : goal.find-requires
find-requires c =
    let m = c.args.machine.now in
    register_inputs_within c.netlist-netlist.result.now c.registers-registers.ensures.netlist.well_formed c.args.reg (register_seen c.register.result) c.register.ensures (length m.circuit.names)
    (subst (λ (n : Circuit). length n.names ≤ length m.circuit.names) (sym c.netlist-netlist.ensures.netlist) (own_shorter m))

pub returns : goal.returns
returns c =
    let m = c.args.machine.now in
    let cell = register_seen c.register.result in
    let at : slice_get m.circuit.registers c.args.reg ≡ Some cell = take_some m.own_registers m.circuit.registers c.args.reg cell (subst (λ (n : Circuit). slice_get n.registers c.args.reg ≡ Some cell) c.netlist-netlist.ensures.netlist c.register.ensures) in
    subst (λ (roots : List ℕ). IsConeOf m (cone_of (walk_of m) roots) c.in_ok-cone.cone) (inputs_are m c.args.reg cell at) (found_cone m c.netlist-netlist.ensures.machine cell.inputs c.in_ok-cone.cone c.in_ok-cone.ensures)
