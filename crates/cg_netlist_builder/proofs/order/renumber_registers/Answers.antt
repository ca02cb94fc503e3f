use Rattle.std.proofs.Common.{◌≡◌, Some, get_or, ◌∙◌, ap, arith}
use Rattle.std.specs.List.{slice_get, slice_set}
use Rattle.std.proofs.lemmas.Option.{slice_get-get_or}
use Rattle.cg_netlist.specs.Wiring.{map_register}
use Rattle.cg_netlist_builder.specs.inner.Renumbering.{number_in}
use Rattle.cg_netlist_builder.proofs.InPlace.{change_next}
use Rattle.cg_netlist_builder.proofs.order.renumber_registers.Goals as goal

pub loop-register-preserved : goal.loop-register-preserved
loop-register-preserved c =
    let now = c.loop-register.registers in
    let i = c.loop-register.register-index in
    let x = get_or now i c.register-item.result in
    let at : slice_get now i ≡ Some x = slice_get-get_or now i c.register-item.result (omega arith) in
    ap (slice_set now i) c.renumber_register.ensures ∙ change_next (map_register (number_in c.args.places.now)) c.args.registers.now now i x c.loop-register.invariant at
