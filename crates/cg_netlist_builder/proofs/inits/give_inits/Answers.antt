use Rattle.std.proofs.Common.{◌≡◌, Some, get_or, ◌∙◌, ap, arith}
use Rattle.std.specs.List.{slice_get, slice_set}
use Rattle.std.proofs.lemmas.Option.{slice_get-get_or}
use Rattle.cg_net.specs.Names.{net_name}
use Rattle.cg_netlist_builder.specs.Inits.{init_given, with_init}
use Rattle.cg_netlist_builder.proofs.InPlace.{change_next}
use Rattle.cg_netlist_builder.proofs.inits.give_inits.Goals as goal

pub loop-register-preserved : goal.loop-register-preserved
loop-register-preserved c =
    let now = c.loop-register.registers in
    let i = c.loop-register.register-index in
    let x = get_or now i c.register-item.result in
    let at : slice_get now i ≡ Some x = slice_get-get_or now i c.register-item.result (omega arith) in
    ap (slice_set now i) c.give_init.ensures ∙ change_next (with_init (λ net. init_given c.args.nets.now c.args.inits.now (net_name c.args.names.now net))) c.args.registers.now now i x c.loop-register.invariant at
