use Rattle.std.proofs.Common.{sym, ◌∙◌, arith}
use Rattle.cg_extract.proofs.NetPlaces.{number_high, number_low}
use Rattle.cg_extract.proofs.extract.number.Goals as goal

pub overflow_sub-number : goal.overflow_sub-number
overflow_sub-number c =
    let high = number_high c.args.netlist.now c.gaters-gaters.ensures.netlist c.args.net c.requires (omega (arith, c.if-number-first_gater_output.false, c.number.ensures.number, c.first_gater_output.ensures)) in
    omega (arith, high.0, c.gaters-gaters.ensures.count, c.number-else-number-first_gater_output.ensures.number)

pub returns-then-number-first_gater_output : goal.returns-then-number-first_gater_output
returns-then-number-first_gater_output c = sym (number_low c.args.netlist.now c.gaters-gaters.ensures.netlist c.args.net c.requires (omega (arith, c.if-number-first_gater_output.true, c.number.ensures.number, c.first_gater_output.ensures)))

pub returns-else-number-first_gater_output : goal.returns-else-number-first_gater_output
returns-else-number-first_gater_output c =
    let high = number_high c.args.netlist.now c.gaters-gaters.ensures.netlist c.args.net c.requires (omega (arith, c.if-number-first_gater_output.false, c.number.ensures.number, c.first_gater_output.ensures)) in
    c.new.ensures ∙ (omega (arith, high.1, c.gaters-gaters.ensures.count, c.number-else-number-first_gater_output.ensures.number))
