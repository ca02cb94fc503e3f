use Rattle.std.proofs.Common.{◌≡◌, Option, Some, rules, sym, subst}
use Rattle.std.specs.Option.{option_copied}
use Rattle.cg_register_text.specs.Rises.{RisesWhere}
use Rattle.cg_register_text.specs.declared.rises.BothRises.{BothRises}
use Rattle.cg_stimulus.specs.Inputs.{Rows}
use Rattle.cg_gate.proofs.RisesSummed.{rise_somehow}
use Rattle.cg_gate.proofs.registers.have_rises.Goals as goal

pub returns-in-Some : goal.returns-in-Some
returns-in-Some c =
    let read = c.args.read.now in
    let written = c.args.written.now in
    let stimulus : Rows = c.in-Some.stimulus.now in
    let same : option_copied c.args.stimulus ≡ Some stimulus = search rules in
    subst (λ s. (rises : Option BothRises) × RisesWhere s read written rises) (sym same)
    (rise_somehow read written stimulus c.one_played_history.ensures.some c.one_played_history-in-Some.ensures.some)
