use Rattle.std.proofs.Common.{◌≡◌, [], sym, ◌∙◌, ap, subst, arith}
use Rattle.cg_net.specs.NetSets.{with_nets}
use Rattle.cg_stage_groups.specs.inner.Reaching.{IsReached}
use Rattle.cg_stage_groups.proofs.Reached.{reached_all, reached_first}
use Rattle.cg_stage_groups.proofs.cone.cone.Goals as goal

pub loop-next-init : goal.loop-next-init
loop-next-init c =
    let is : c.extend.new.self ≡ with_nets [] c.args.roots.now = c.in_ok-extend.ensures ∙ ap (λ l. with_nets l c.args.roots.now) c.requires.empty in
    subst (IsReached c.args.machine.now c.args.roots.now 0) (sym is) (reached_first c.args.machine.now c.netlist-netlist.ensures.machine c.args.roots.now c.requires.own)

pub returns-clause-cone : goal.returns-clause-cone
returns-clause-cone c = reached_all c.args.machine.now c.netlist-netlist.ensures.machine c.args.roots.now c.loop-next.found c.loop-next.next (omega (arith, c.loop-next-test.false, c.len.ensures)) c.loop-next.invariant
