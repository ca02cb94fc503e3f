use Rattle.std.proofs.Common.{sym, ◌∙◌, ap, subst}
use Rattle.cg_netlist.specs.Chains.{chain}
use Rattle.cg_netlist.specs.inner.Walking.{IsLevelled}
use Rattle.cg_netlist.proofs.WalkLawsHold.{chain_levelled}
use Rattle.cg_netlist.proofs.netlist.Netlist.gater_order.Goals as goal

pub walk_order-requires : goal.walk_order-requires
walk_order-requires c =
    subst (IsLevelled c.nets.result) (sym (c.deref.ensures.value ∙ (c.in_ok-chain.ensures ∙ ap chain c.gating.ensures))) (chain_levelled c.args.self.now c.nets.ensures.netlist c.nets.result c.nets.ensures.count)
