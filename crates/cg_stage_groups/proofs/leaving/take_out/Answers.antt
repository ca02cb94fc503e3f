use Rattle.std.proofs.Common.{◌≡◌, ℕ, List, if◌then◌else◌, Some, slice_get, take, refl, sym, ◌∙◌, ap}
use Rattle.std.proofs.lemmas.List.{take_all}
use Rattle.std.proofs.lemmas.Option.{slice_get_read}
use Rattle.cg_net.specs.NetSets.{is_in}
use Rattle.cg_stage_groups.specs.Keys.{key_at, key_seen}
use Rattle.cg_stage_groups.specs.Leaving.{without}
use Rattle.cg_stage_groups.proofs.Left.{one_more}
use Rattle.cg_stage_groups.proofs.leaving.take_out.Goals as goal

pub loop-reg-preserved : goal.loop-reg-preserved
loop-reg-preserved c = λ r.
    let regs = c.args.regs.now in
    let at : slice_get regs c.loop-reg.reg-index ≡ Some c.number.result = slice_get_read regs _ c.loop-reg.reg-index c.reg-item.result refl c.loop-reg-test.true c.reg-item.is ∙ ap (λ n. Some n) (sym c.number.ensures.number) in
    one_more c.args.inserted (key_seen c.args.tried.now) regs c.loop-reg.reg-index c.number.result r (key_at c.args.keys.now r) (key_at c.loop-reg.keys r) (key_at c.clear.new.keys r) at (c.loop-reg.invariant r) (c.clear.ensures r)

pub returns : goal.returns
returns c = λ r.
    let all : take c.loop-reg.reg-index c.args.regs.now ≡ c.args.regs.now = take_all c.loop-reg.reg-index c.args.regs.now c.loop-reg-test.false in
    c.loop-reg.invariant r ∙ ap (λ (l : List ℕ). if is_in l r then without c.args.inserted (key_seen c.args.tried.now) (key_at c.args.keys.now r) else key_at c.args.keys.now r) all
