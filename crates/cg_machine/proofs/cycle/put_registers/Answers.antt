use Rattle.std.proofs.Common.{◌≡◌, ◌+◌, ℕ, Bool, false, List, Some, drop, get_or, slice_get, sym, ◌∙◌, ap, arith}
use Rattle.std.specs.List.{flat_map}
use Rattle.std.proofs.lemmas.Option.{slice_get-get_or}
use Rattle.cg_netlist.specs.Circuit.{RegisterCell, shown_nets}
use Rattle.cg_netlist.specs.Moment.{register_bits}
use Rattle.cg_netlist.specs.View.{register_seen}
use Rattle.cg_netlist.proofs.DriverTable.{register_net_within}
use Rattle.cg_machine.specs.inner.Putting.{put_bits}
use Rattle.cg_machine.proofs.PutBits.{put_register}
use Rattle.cg_machine.proofs.cycle.put_registers.Goals as goal

pub put_outputs-requires : goal.put_outputs-requires
put_outputs-requires c = λ k d below.
    let outputs : List (ℕ × Bool) = c.register-register.result.outputs.now in
    let small = register_net_within c.args.netlist.now c.registers-r-end.ensures.netlist.well_formed.driven c.new.result (register_seen c.register-register.result) k (get_or outputs k d).0 (get_or outputs k d).1 c.register-register.ensures (slice_get-get_or outputs k d below) in
    omega (arith, small, c.requires.values, c.loop-r.auto.values)

pub loop-r-preserved : goal.loop-r-preserved
loop-r-preserved c =
    let rs : List (RegisterCell ℕ ℕ) = c.args.netlist.now.registers in
    let state : List Bool = c.args.state.now in
    let r : ℕ = c.loop-r.r in
    let at : slice_get rs r ≡ Some (register_seen c.register-register.result) = ap (slice_get rs) (sym c.new.ensures) ∙ c.register-register.ensures in
    let shown : slice_get state r ≡ Some (get_or state r false) = slice_get-get_or state r false (omega (arith, c.loop-r-test.true, c.registers-r-end.ensures.count, c.requires.state)) in
    ap (put_bits (flat_map shown_nets (drop (r + 1) rs)) (register_bits (drop (r + 1) rs) (drop (r + 1) state))) c.put_outputs.ensures
    ∙ (sym (put_register rs state c.loop-r.values r (register_seen c.register-register.result) (get_or state r false) at shown) ∙ c.loop-r.invariant)
