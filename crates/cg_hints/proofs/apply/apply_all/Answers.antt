use Rattle.std.proofs.Common.{sym, subst}
use Rattle.cg_machine.specs.Machine.{MachineData}
use Rattle.cg_hint_laws.specs.Answers.{Reported}
use Rattle.cg_hints.proofs.Drafting.{applied_safe}
use Rattle.cg_hints.specs.Applying.{AreApplied, reported}
use Rattle.cg_hints.specs.inner.Drafting.{drafted}
use Rattle.cg_hints.proofs.apply.apply_all.Goals as goal

pub returns-in-Ok-clause-safe : goal.returns-in-Ok-clause-safe
returns-in-Ok-clause-safe c =
    let library = c.args.rules.now.library.now in
    let w = c.args.rules.now.width in
    let proof = c.args.rules.now.proof in
    let m = c.args.machine in
    let hs = c.args.hints.now in
    let r : Reported = reported c.into_applied.result in
    let applied : AreApplied library w proof m hs r = subst (AreApplied library w proof m hs) (sym c.into_applied.ensures)
    (subst (λ (n : MachineData). AreApplied library w proof n hs (drafted c.try_all-result.new.self)) c.new-draft.ensures.machine c.in-Ok.ensures.applied) in
    applied_safe c.hint_laws.ensures.all_safe library w proof m hs r c.netlist-netlist.ensures.machine c.requires applied
