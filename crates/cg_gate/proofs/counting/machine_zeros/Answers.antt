use Rattle.std.proofs.Common.{◌<◌, IfSome, length, sym, ◌∙◌, subst, List, Option, ℕ}
use Rattle.std.specs.List.{All}
use Rattle.cg_gate.proofs.Counted.{origins_within}
use Rattle.cg_gate.proofs.counting.machine_zeros.Goals as goal

pub origin_zeros-requires-clause-origin : goal.origin_zeros-requires-clause-origin
origin_zeros-requires-clause-origin c =
    subst (λ (os : List (Option ℕ)). All (λ o. IfSome o (λ net. net < length c.args.netlist.now.names)) os) (sym (c.deref.ensures.value ∙ c.in_ok-origin.ensures))
    (origins_within c.args.netlist.now c.nets-nets.ensures.netlist c.args.machine.now)
