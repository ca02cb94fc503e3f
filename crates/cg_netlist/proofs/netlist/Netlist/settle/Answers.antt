use Rattle.std.proofs.Common.{ap, ◌∙◌}
use Rattle.cg_netlist.specs.Moment.{function_value}
use Rattle.cg_netlist.specs.Nets.{walk_order}
use Rattle.cg_netlist.proofs.Walks.{pure_may_walk, walked_puts}
use Rattle.cg_netlist.proofs.netlist.Netlist.settle.Goals as goal

pub walk-requires-clause-callable : goal.walk-requires-clause-callable
walk-requires-clause-callable c =
    pure_may_walk _ c.args.self.now (record { 0 = c.args.self }) c.nets-nets.ensures.netlist (walk_order c.args.self.now.cells) c.args.bits.now c.requires.bits (λ k shown call. call)
    (λ k xs y f' called. ap (λ n. record { 0 = n }) called.called.met.1.0)

pub returns : goal.returns
returns c =
    walked_puts _ c.args.self.now.cells (record { 0 = c.args.self }) (walk_order c.args.self.now.cells) c.args.bits.now c.walk.ensures.0 c.walk.new.values c.walk.ensures.1
    (λ k cell xs y f' at called. (called.called.met.1.1 cell at ∙ ap (function_value cell.function) called.shows, ap (λ n. record { 0 = n }) called.called.met.1.0))
