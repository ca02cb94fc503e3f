use Rattle.std.proofs.Common.{◌≡◌, ℕ, Some, slice_get, ap, sym, ◌∙◌, subst, arith}
use Rattle.std.specs.Option.{option_to_list}
use Rattle.cg_netlist.proofs.Values.{element_at}
use Rattle.cg_netlist_telling.proofs.ToldParts.{may_at, told_at}
use Rattle.cg_netlist_telling.specs.NamedParts.{cell_part, cell_parts}
use Rattle.cg_netlist_telling.specs.Telling.{MayTell, told}
use Rattle.cg_netlist_telling.proofs.parts.tell_cells.Goals as goal

pub tell_cell-requires-clause-part : goal.tell_cell-requires-clause-part
tell_cell-requires-clause-part c =
    let cells = c.args.netlist.now.cells in
    let n : ℕ = c.loop-number.number in
    let names = c.args.names.now in
    let at = element_at cells n (omega (arith, c.loop-number-test.true, c.cells-number-end.ensures.count)) in
    let same : slice_get cells c.new.result ≡ Some at.0 = ap (slice_get cells) c.new.ensures ∙ at.1 in
    subst (MayTell c.loop-number.builder) (sym (ap (λ o. cell_parts names (option_to_list o)) same)) (may_at (cell_part names) c.args.builder.now c.loop-number.builder cells n at.0 at.1 c.requires c.loop-number.invariant)

pub loop-number-preserved : goal.loop-number-preserved
loop-number-preserved c =
    let cells = c.args.netlist.now.cells in
    let n : ℕ = c.loop-number.number in
    let names = c.args.names.now in
    let at = element_at cells n (omega (arith, c.loop-number-test.true, c.cells-number-end.ensures.count)) in
    let same : slice_get cells c.new.result ≡ Some at.0 = ap (slice_get cells) c.new.ensures ∙ at.1 in
    told_at (cell_part names) c.args.builder.now c.loop-number.builder c.tell_cell.new.builder cells n at.0 at.1 c.loop-number.invariant (c.in_ok-tell_cell.ensures ∙ ap (λ o. told c.loop-number.builder (cell_parts names (option_to_list o))) same)
