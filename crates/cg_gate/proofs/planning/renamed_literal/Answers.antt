use Rattle.std.proofs.Common.{◌≡◌, ℕ, true, ap, subst, sym}
use Rattle.cg_extract.proofs.Kept.{kept_of}
use Rattle.cg_extract.specs.Lifted.{kept_nets}
use Rattle.cg_gate.proofs.planning.renamed_literal.Goals as goal
use Rattle.cg_machine.specs.Claims.{Literal}
use Rattle.cg_net.specs.NetSets.{is_in}

pub number-requires : goal.number-requires
number-requires c =
    subst (λ (x : ℕ). is_in (kept_nets c.args.netlist.now) x ≡ true) (sym (ap (λ (l : Literal). l.0) c.literal.view_is))
    (kept_of c.args.netlist.now c.nets-nets.ensures.netlist c.args.literal.0 c.requires.below c.requires.ungated)
