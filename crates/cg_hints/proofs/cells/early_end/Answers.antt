use Rattle.std.proofs.Common.{◌<◌, length, sym, subst}
use Rattle.std.specs.List.{All}
use Rattle.cg_net.proofs.Members.{All-from_members}
use Rattle.cg_hint_laws.proofs.HintSafe.{registers_below}
use Rattle.cg_hints.proofs.cells.early_end.Goals as goal

pub first_taken-requires : goal.first_taken-requires
first_taken-requires c =
    let m = c.args.machine.now in
    let h = c.args.hint.now in
    subst (All (λ r. r < length m.circuit.registers)) (sym c.as_slice.ensures.parts)
    (All-from_members (λ r. r < length m.circuit.registers) h.regs (registers_below m h c.netlist-netlist.ensures.machine c.requires))
