use Rattle.std.proofs.Common.{◌<◌, List, ℕ, length, ap, subst, sym, ◌∙◌}
use Rattle.std.specs.List.{All}
use Rattle.cg_netlist.specs.Circuit.{Circuit}
use Rattle.cg_report.proofs.SaidRows.{outputs_within}
use Rattle.cg_report.proofs.rows.push_outputs.Goals as goal

pub push_word-requires : goal.push_word-requires
push_word-requires c =
    let P : List ℕ → Type 0 = λ xs. All (λ net. net < length c.nets-2.result.now) xs in
    subst P (sym c.outputs.ensures)
    (outputs_within c.netlist-netlist.result.now c.nets.ensures.netlist.well_formed (length c.nets-2.result.now) (c.nets-2.ensures.long ∙ ap (λ (d : Circuit). length d.names) (sym c.netlist-netlist.ensures)))
