use Rattle.std.proofs.Common.{◌≡◌, ℕ, [], List, Some, slice_get, refl, ◌∙◌, ap}
use Rattle.std.proofs.lemmas.Option.{slice_get_read}
use Rattle.cg_net.specs.NetSets.{is_in}
use Rattle.cg_claim_reach.proofs.Filtering.{filter_on}
use Rattle.cg_claim_reach.proofs.sources.inside.Goals as goal

pub loop-reg-preserved : goal.loop-reg-preserved
loop-reg-preserved c =
    let regs : List ℕ = c.args.regs.now in
    let at : slice_get regs c.loop-reg.reg-index ≡ Some c.reg-item.result = slice_get_read regs _ c.loop-reg.reg-index c.reg-item.result refl c.loop-reg-test.true c.reg-item.is in
    filter_on (is_in c.args.set.now.keys) regs [] c.loop-reg.some.items c.push_reg_if.new.regs.items c.loop-reg.reg-index c.reg-item.result _ at (c.contains.ensures ∙ ap (is_in c.args.set.now.keys) c.number.ensures.number) c.in_ok-push_reg_if.ensures c.loop-reg.invariant
