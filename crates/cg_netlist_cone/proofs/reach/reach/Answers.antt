use Rattle.std.proofs.Common.{◌≡◌, ◌<◌, ℕ, [], List, length, take, sym, ◌∙◌, ap, subst, arith}
use Rattle.std.proofs.lemmas.List.{take_all}
use Rattle.cg_netlist_cone.specs.declared.edge.Edge.{Edge}
use Rattle.cg_netlist_cone.specs.inner.Reaching.{IsEdge, IsReached}
use Rattle.cg_net.specs.NetSets.{with_nets}
use Rattle.cg_netlist_cone.proofs.ConeEdge.{edge_first}
use Rattle.cg_netlist_cone.proofs.ConeWalk.{reached_all, reached_first}
use Rattle.cg_net.proofs.Members.{All-member}
use Rattle.cg_netlist_cone.proofs.reach.reach.Goals as goal

pub loop-next-init : goal.loop-next-init
loop-next-init g c =
    let n = g.W.Wiring.circuit c.args.wiring.now in
    let is : c.extend.new.self ≡ with_nets [] c.args.roots.now = c.in_ok-extend.ensures ∙ ap (λ l. with_nets l c.args.roots.now) c.requires.empty in
    let order : List ℕ = g.W.Wiring.order c.args.wiring.now in
    record {
      reached = subst (IsReached n c.args.roots.now 0) (sym is)
          (reached_first n c.net_count-nets.ensures.wired.well_formed c.args.roots.now (λ y among. All-member (λ net. net < length n.names) c.args.roots.now y c.requires.roots among));
      edge = subst (λ (e : Edge). IsEdge n order [] e.cells e.inputs e.registers) (sym c.new-edge.ensures) (edge_first n c.net_count-nets.ensures.wired.well_formed.driven order);
    }

pub returns-clause-cone : goal.returns-clause-cone
returns-clause-cone g c =
    let n = g.W.Wiring.circuit c.args.wiring.now in
    let wired = c.net_count-nets.ensures.wired in
    reached_all n wired.well_formed c.args.roots.now _ wired.walk c.loop-next.found c.loop-next.next (omega (arith, c.loop-next-test.false, c.len.ensures)) c.loop-next.invariant.reached

pub returns-clause-edge : goal.returns-clause-edge
returns-clause-edge g c =
    let found : List ℕ = c.loop-next.found in
    let all : take c.loop-next.next found ≡ found = take_all c.loop-next.next found (omega (arith, c.loop-next-test.false, c.len.ensures)) in
    subst (λ l. IsEdge (g.W.Wiring.circuit c.args.wiring.now) (g.W.Wiring.order c.args.wiring.now) l c.loop-next.edge.cells c.loop-next.edge.inputs c.loop-next.edge.registers) all c.loop-next.invariant.edge
