use Rattle.std.proofs.Common.{◌+◌, length, ◌∙◌, ap}
use Rattle.std.specs.Option.{option_map}
use Rattle.cg_stage_groups.proofs.Listed.{length_push, push_key}
use Rattle.cg_stage_groups.specs.Keys.{key_at}
use Rattle.cg_stage_list_laws.specs.UnseenList.{unseen_key}
use Rattle.cg_odc.specs.inner.Guarding.{guard_key}
use Rattle.cg_odc.proofs.key.keys_of.Goals as goal

pub loop-reg-preserved : goal.loop-reg-preserved
loop-reg-preserved c =
    let m = c.args.machine.now in
    let pushed = c.in_ok-push.ensures.items in
    record {
      count = ap length pushed ∙ (length_push c.loop-reg.keys.items c.in_ok-key.key ∙ ap (λ n. n + 1) c.loop-reg.invariant.count);
      each = λ r below. ap (λ l. key_at l r) pushed ∙ push_key (λ q. option_map guard_key (unseen_key m q)) c.loop-reg.keys.items c.in_ok-key.key c.loop-reg.reg c.loop-reg.invariant.count c.loop-reg.invariant.each (c.in_ok-key.ensures ∙ ap (λ q. option_map guard_key (unseen_key m q)) c.new.ensures) r below;
    }
