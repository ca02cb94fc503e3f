use Rattle.std.proofs.Common.{◌∙◌, sym, subst}
use Rattle.cg_extract.proofs.Bare.{bare_starts}
use Rattle.cg_extract.proofs.BareOfUngated.{bare_same}
use Rattle.cg_extract.proofs.LiftedOfUngated.{lifted_same}
use Rattle.cg_extract.proofs.extract.of_ungated.Goals as goal
use Rattle.cg_machine.specs.Start.{CanStart}

pub of-requires : goal.of-requires
of-requires c =
    let d = c.args.netlist in
    let can = c.requires.can in
    subst (λ k. CanStart k c.args.prefix.now) (bare_same d can.netlist c.requires.none can.outputs_once) (bare_starts d c.args.prefix.now can)

pub returns-clause-machine : goal.returns-clause-machine
returns-clause-machine c =
    let can = c.requires.can in
    c.in_ok-machine.ensures ∙ sym (lifted_same c.args.netlist can.netlist c.requires.none c.args.prefix.now can.outputs_once)

pub returns-clause-kept : goal.returns-clause-kept
returns-clause-kept c = let can = c.requires.can in bare_same c.args.netlist can.netlist c.requires.none can.outputs_once
