use Rattle.std.proofs.Common.{◌∙◌, refl, arith}
use Rattle.std.proofs.lemmas.Bool.{eq-eqb}
use Rattle.cg_odc.proofs.Shown.{shows_own}
use Rattle.cg_odc.proofs.guard.guard_of.Goals as goal

pub enable-requires : goal.enable-requires
enable-requires c =
    let own = c.netlist-netlist.ensures.machine.own_registers in
    omega (arith, own, c.requires)

pub enable-requires-2 : goal.enable-requires-2
enable-requires-2 c =
    let m = c.args.machine.now in
    let own = c.netlist-netlist.ensures.machine.own_registers in
    let q = c.in-Some-shown_at.guard in
    let below = shows_own m q c.in-Some.enable (c.in-Some-shown_at.ensures q ∙ eq-eqb q q refl) in
    omega (arith, own, below)

pub taken_net-requires : goal.taken_net-requires
taken_net-requires c =
    let m = c.args.machine.now in
    let q = c.in-Some-shown_at.guard in
    shows_own m q c.in-Some.enable (c.in-Some-shown_at.ensures q ∙ eq-eqb q q refl)
