use Rattle.std.proofs.Common.{◌≡◌, ◌∷◌, subst}
use Rattle.cg_netlist_placed.specs.Within.{AreNets}
use Rattle.cg_verilog_out.proofs.names.push_nets.Goals as goal

pub push_first_nets-requires : goal.push_first_nets-requires
push_first_nets-requires c =
    let split = c.in-Some.ensures.cases in
    let e : c.args.nets.now ≡ c.in-Some.first.now ∷ c.in-Some.more.now = cc split.0 in
    subst (AreNets c.args.netlist.now) e c.requires
