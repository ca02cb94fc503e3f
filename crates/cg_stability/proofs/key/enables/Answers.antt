use Rattle.std.proofs.Common.{◌≡◌, Some, slice_get, refl, ap, sym, ◌∙◌}
use Rattle.std.proofs.lemmas.Option.{slice_get_read}
use Rattle.cg_net.proofs.Members.{member_at}
use Rattle.cg_stability.proofs.Keyed.{other_enable}
use Rattle.cg_stage_groups.proofs.Listed.{enables_none, enables_some}
use Rattle.cg_stability.proofs.key.enables.Goals as goal
use Rattle.cg_stability.proofs.key.enables.Goals.{in-Some+in_ok-push, in_default}

pub other_enable-requires : goal.other_enable-requires
other_enable-requires c =
    c.requires c.other-item.result (member_at c.args.registers.now c.loop-other.other-index c.other-item.result (slice_get_read c.args.registers.now _ c.loop-other.other-index c.other-item.result refl c.loop-other-test.true c.other-item.is))

pub loop-other-preserved : goal.loop-other-preserved
loop-other-preserved c =
    let regs = c.args.registers.now in
    let i = c.loop-other.other-index in
    let k = c.other-item.result in
    let at : slice_get regs i ≡ Some k = slice_get_read regs _ i k refl c.loop-other-test.true c.other-item.is in
    elim c.match-other_enable.branch [
      | in-Some+in_ok-push w ↦ enables_some (other_enable c.args.machine.now c.args.reg) regs i k w.in-Some.enable c.loop-other.enables.items _ at c.loop-other.invariant (sym c.other_enable.ensures ∙ w.in-Some.is) (ap (λ b. b.items) w.enables-is ∙ w.in_ok-push.ensures.items)
      | in_default w ↦ enables_none (other_enable c.args.machine.now c.args.reg) regs i k c.loop-other.enables.items _ at c.loop-other.invariant (sym c.other_enable.ensures ∙ w.in_default.is) (ap (λ b. b.items) w.enables-is)
    ]
