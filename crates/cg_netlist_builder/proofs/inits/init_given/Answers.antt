use Rattle.std.proofs.Common.{◌∙◌, sym, arith}
use Rattle.std.proofs.lemmas.Option.{slice_get-get_or, slice_get_within}
use Rattle.cg_netlist_builder.proofs.InitsGiven.{given_at}
use Rattle.cg_netlist_builder.proofs.inits.init_given.Goals as goal

pub returns-in-Some : goal.returns-in-Some
returns-in-Some c =
    let nets = c.args.nets.now in
    let inits = c.args.inits.now in
    let i = c.in-Some.number in
    let within = slice_get_within nets i c.args.net.now c.in-Some.ensures in
    sym (given_at nets inits c.args.net.now i c.len-different.ensures.different c.in-Some.ensures ∙ slice_get-get_or inits i 0 (omega (arith, within, c.requires)))
