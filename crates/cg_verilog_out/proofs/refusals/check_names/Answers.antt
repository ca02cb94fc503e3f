use Rattle.std.proofs.Common.{◌∷◌, subst, sym, Err}
use Rattle.std.specs.List.{flat_map}
use Rattle.cg_verilog_text.specs.HasText.{names_in}
use Rattle.cg_verilog_out.specs.Refusing.{AreLookedAt}
use Rattle.cg_verilog_out.specs.Writing.{parts_items}
use Rattle.cg_verilog_out.proofs.LookedAt.{looked_behind, looked_front}
use Rattle.cg_verilog_out.proofs.WholeText.{names_are}
use Rattle.cg_verilog_out.proofs.refusals.check_names.Goals as goal

pub returns-in-Ok : goal.returns-in-Ok
returns-in-Ok c =
    let n = c.args.netlist.now in
    subst (λ ns. AreLookedAt ns c.check_parts.result) (sym (names_are n c.requires)) (looked_behind (n.model ∷ n.names) (flat_map names_in (parts_items n)) c.check_parts.result c.in-Ok.ensures c.check_parts.ensures)

pub returns-in-Err : goal.returns-in-Err
returns-in-Err c =
    let n = c.args.netlist.now in
    subst (λ ns. AreLookedAt ns (Err c.in-Err.fault)) (sym (names_are n c.requires)) (looked_front (n.model ∷ n.names) (flat_map names_in (parts_items n)) c.in-Err.fault c.in-Err.ensures)
