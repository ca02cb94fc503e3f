use Rattle.std.proofs.Common.{◌≡◌, Some, slice_get, ap, sym, ◌∙◌}
use Rattle.std.proofs.lemmas.Option.{slice_get-get_or}
use Rattle.cg_stage_groups.proofs.Listed.{enables_none, enables_some}
use Rattle.cg_stage_list_laws.specs.UnseenList.{taken_at}
use Rattle.cg_net.proofs.Members.{member_at}
use Rattle.cg_odc.proofs.candidates.taken_nets.Goals as goal
use Rattle.cg_odc.proofs.candidates.taken_nets.Goals.{in-Some+in_ok-push, in_default}

pub taken_net-requires : goal.taken_net-requires
taken_net-requires c =
    let guards = c.args.guards.now in
    let i = c.loop-guard.guard-index in
    c.requires c.new.result (member_at guards i c.new.result (slice_get-get_or guards i 0 c.loop-guard-test.true ∙ ap Some (sym c.new.ensures)))

pub loop-guard-preserved : goal.loop-guard-preserved
loop-guard-preserved c =
    let guards = c.args.guards.now in
    let i = c.loop-guard.guard-index in
    let k = c.new.result in
    let at : slice_get guards i ≡ Some k = slice_get-get_or guards i 0 c.loop-guard-test.true ∙ ap Some (sym c.new.ensures) in
    elim c.match-taken_net.branch [
      | in-Some+in_ok-push w ↦ enables_some (taken_at c.args.machine.now) guards i k w.number.result c.loop-guard.nets.items _ at c.loop-guard.invariant (sym c.taken_net.ensures ∙ (w.in-Some.is ∙ ap Some (sym w.number.ensures.number))) (ap (λ b. b.items) w.nets-is ∙ w.in_ok-push.ensures.items)
      | in_default w ↦ enables_none (taken_at c.args.machine.now) guards i k c.loop-guard.nets.items _ at c.loop-guard.invariant (sym c.taken_net.ensures ∙ w.in_default.is) (ap (λ b. b.items) w.nets-is)
    ]
