use Rattle.std.proofs.Common.{◌≡◌, ◌+◌, length, ◌∙◌, ap, arith}
use Rattle.cg_netlist.specs.Circuit.{Circuit}
use Rattle.cg_stage_groups.specs.Keys.{key_at}
use Rattle.cg_stage_list_laws.specs.StableList.{stable_key}
use Rattle.cg_stage_groups.proofs.Listed.{length_push, own_count, push_key}
use Rattle.cg_stability.proofs.key.keys_of.Goals as goal

pub key_of-requires : goal.key_of-requires
key_of-requires c =
    let m = c.args.machine.now in
    let count : c.registers-reg-end.result ≡ m.own_registers = c.registers-reg-end.ensures.count ∙ (ap (λ (n : Circuit). length n.registers) c.netlist-netlist.ensures.netlist ∙ own_count m c.netlist-netlist.ensures.machine) in
    omega (arith, count, c.new.ensures, c.loop-reg-test.true)

pub loop-reg-preserved : goal.loop-reg-preserved
loop-reg-preserved c =
    let m = c.args.machine.now in
    let pushed = c.in_ok-push.ensures.items in
    record {
      count = ap length pushed ∙ (length_push c.loop-reg.keys.items c.in_ok-key.key ∙ ap (λ n. n + 1) c.loop-reg.invariant.count);
      each = λ r below. ap (λ l. key_at l r) pushed ∙ push_key (stable_key m) c.loop-reg.keys.items c.in_ok-key.key c.loop-reg.reg c.loop-reg.invariant.count c.loop-reg.invariant.each (c.in_ok-key.ensures ∙ ap (stable_key m) c.new.ensures) r below;
    }

pub returns : goal.returns
returns c =
    let m = c.args.machine.now in
    let count : c.registers-reg-end.result ≡ m.own_registers = c.registers-reg-end.ensures.count ∙ (ap (λ (n : Circuit). length n.registers) c.netlist-netlist.ensures.netlist ∙ own_count m c.netlist-netlist.ensures.machine) in
    record {
      count = omega (arith, count, c.loop-reg.invariant.count, c.loop-reg-test.false, c.loop-reg.auto.reg-end);
      each = λ r below. c.loop-reg.invariant.each r (omega (arith, below, count, c.loop-reg-test.false));
    }
