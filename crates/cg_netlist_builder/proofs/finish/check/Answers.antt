use Rattle.std.proofs.Common.{sym, ◌∙◌, inr}
use Rattle.std.proofs.lemmas.Result.{err_from_is_err_and}
use Rattle.cg_netlist_builder.proofs.FirstFaults.{clock_fault, cycle_fault, driver_fault, no_clock_fault, no_fault_left, use_fault}
use Rattle.cg_netlist_builder.proofs.finish.check.Goals as goal

pub returns-in_err-check_drivers : goal.returns-in_err-check_drivers
returns-in_err-check_drivers c =
    let p = err_from_is_err_and c.from_residual-in_err-check_drivers.result c.from_residual-in_err-check_drivers.ensures.1 in
    rw (p.1, p.2) (λ parts same. driver_fault parts c.args.told.now c.requires.numbers same c.in_err-check_drivers.field-0.0 c.in_err-check_drivers.ensures)

pub returns-in_err-check_uses : goal.returns-in_err-check_uses
returns-in_err-check_uses c =
    let p = err_from_is_err_and c.from_residual-in_err-check_uses.result c.from_residual-in_err-check_uses.ensures.1 in
    rw (p.1, p.2) (λ parts same. use_fault parts c.args.told.now c.requires.numbers same c.in_ok-check_drivers.ensures c.in_err-check_uses.field-0.0 c.in_err-check_uses.ensures)

pub returns-in_err-check_cycles : goal.returns-in_err-check_cycles
returns-in_err-check_cycles c =
    let p = err_from_is_err_and c.from_residual-in_err-check_cycles.result c.from_residual-in_err-check_cycles.ensures.1 in
    rw (p.1, p.2) (λ parts same. cycle_fault parts c.args.told.now c.requires.numbers same c.in_ok-check_drivers.ensures c.in_ok-check_uses.ensures c.in_err-check_cycles.field-0.0 c.in_err-check_cycles.ensures)

pub returns-in_err-check_clocks : goal.returns-in_err-check_clocks
returns-in_err-check_clocks c =
    let p = err_from_is_err_and c.from_residual-in_err-check_clocks.result c.from_residual-in_err-check_clocks.ensures.1 in
    rw (p.1, p.2) (λ parts same. clock_fault parts c.args.told.now c.requires.numbers same c.in_ok-check_drivers.ensures c.in_ok-check_uses.ensures c.in_ok-check_cycles.ensures c.in_err-check_clocks.field-0.0 c.in_err-check_clocks.ensures)

pub returns-then-lacks_clock : goal.returns-then-lacks_clock
returns-then-lacks_clock c = λ parts same. inr (no_clock_fault parts c.args.told.now c.requires.numbers same c.in_ok-check_drivers.ensures c.in_ok-check_uses.ensures c.in_ok-check_cycles.ensures c.in_ok-check_clocks.ensures (sym c.lacks_clock.ensures ∙ c.if-lacks_clock.true))

pub returns : goal.returns
returns c = λ parts same. no_fault_left parts c.args.told.now c.requires.numbers same c.in_ok-check_drivers.ensures c.in_ok-check_uses.ensures c.in_ok-check_cycles.ensures c.in_ok-check_clocks.ensures (sym c.lacks_clock.ensures ∙ c.if-lacks_clock.false)
