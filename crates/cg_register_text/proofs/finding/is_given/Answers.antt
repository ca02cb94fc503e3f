use Rattle.std.proofs.Common.{◌∙◌, ap, sym, Some}
use Rattle.cg_register_text.proofs.GivenRegisters.{given_by_clock, given_off_clock}
use Rattle.cg_register_text.proofs.finding.is_given.Goals as goal

pub returns-in-Some : goal.returns-in-Some
returns-in-Some c =
    given_by_clock c.args.netlist.now c.nets-nets.ensures.netlist.well_formed c.args.reg _ c.register-clock.ensures c.number.result c.number-in-Some.result
    (sym c.clock.ensures ∙ (c.in-Some.is ∙ ap (λ n. Some n) (sym c.number.ensures.number))) c.number-in-Some.ensures.number

pub returns-in-None : goal.returns-in-None
returns-in-None c =
    given_off_clock c.args.netlist.now c.nets-nets.ensures.netlist.well_formed c.args.reg _ c.register-clock.ensures (sym c.clock.ensures ∙ c.in-None.is)
