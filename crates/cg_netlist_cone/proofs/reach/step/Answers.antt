use Rattle.std.proofs.Common.{◌≡◌, ℕ, ◌+◌, ◌∷◌, ◌++◌, suc, [], List, take, sym, ◌∙◌, ap, subst, arith}
use Rattle.std.proofs.lemmas.Option.{same_Some}
use Rattle.cg_net.proofs.Members.{member_at}
use Rattle.cg_net.proofs.TableLemmas.{take_end}
use Rattle.cg_netlist.specs.Drivers.{IsDriver}
use Rattle.cg_netlist_cone.specs.inner.Reaching.{IsEdge}
use Rattle.cg_netlist_cone.proofs.ConeEdge.{ok_then}
use Rattle.cg_netlist_cone.proofs.reach.step.Goals as goal

pub net_driver-driver-requires : goal.net_driver-driver-requires
net_driver-driver-requires g c = c.requires.within c.net-net.result (member_at c.args.found.now c.args.next c.net-net.result c.net-net.ensures)

pub spread-requires-clause-drives : goal.spread-requires-clause-drives
spread-requires-clause-drives g c net at =
    subst (λ y. IsDriver (g.W.Wiring.circuit c.args.wiring.now) y c.net_driver-driver.result) (same_Some c.net-net.result net (sym c.net-net.ensures ∙ at)) c.net_driver-driver.ensures

pub returns-clause-edge : goal.returns-clause-edge
returns-clause-edge g c =
    let found : List ℕ = c.args.found.now in
    let next : ℕ = c.args.next in
    let e : next + 1 ≡ suc next = omega arith in
    let more : take (next + 1) found ≡ take next found ++ c.net-net.result ∷ [] = ap (λ n. take n found) e ∙ take_end found next c.net-net.result c.net-net.ensures in
    ok_then c.spread.result c.spread.ensures.kept (λ kept edge.
    subst (λ l. IsEdge (g.W.Wiring.circuit c.args.wiring.now) (g.W.Wiring.order c.args.wiring.now) l c.meet.new.edge.cells c.meet.new.edge.inputs c.meet.new.edge.registers) (sym (kept ∙ more))
    (c.in_ok-meet.ensures (take next found) edge))
