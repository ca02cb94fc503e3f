use Rattle.std.proofs.Common.{◌≡◌, ◌++◌, not, length, sym, ◌∙◌, ap, subst}
use Rattle.std.specs.List.{filter}
use Rattle.cg_net.specs.NetSets.{is_in}
use Rattle.cg_net.specs.Marks.{AreMarksOf, is_marked}
use Rattle.cg_netlist_builder.specs.inner.Numbers.{Numbers}
use Rattle.cg_netlist.specs.Wiring.{driven_by_cells, driven_by_gaters, driven_by_registers}
use Rattle.cg_netlist_builder.proofs.ToldNets.{left_of}
use Rattle.cg_netlist_builder.proofs.parts.order.Goals as goal

pub returns : goal.returns
returns c =
    let n : Numbers = c.args.told.now in
    let inputs = c.in_ok-nets.ensures ∙ ap (λ d. d.inputs) c.told.view_is in
    let table : AreMarksOf c.deref-2.result.now (length n.names) (is_in n.inputs) =
    subst (λ m. AreMarksOf c.deref-2.result.now m (is_in n.inputs)) (c.len.ensures.count ∙ ap (λ d. length d.names) c.told.view_is)
    (subst (λ xs. AreMarksOf c.deref-2.result.now c.len.result (is_in xs)) (c.deref.ensures.value ∙ inputs) (subst (λ ms. AreMarksOf ms c.len.result (is_in c.deref.result.now)) (sym c.deref-2.ensures.value) c.in_ok-inputs.ensures)) in
    let free = filter (λ net. not (is_in n.inputs net)) c.args.clocks.now in
    let first : c.add_unmarked.new.nets.items ≡ n.inputs ++ free =
    c.in_ok-add_unmarked.ensures ∙ (ap (λ xs. xs ++ filter (λ net. not (is_marked c.deref-2.result.now net)) c.args.clocks.now) inputs ∙ ap (λ xs. n.inputs ++ xs) (left_of c.deref-2.result.now (length n.names) n.inputs c.args.clocks.now table c.requires.clocks)) in
    let second = c.in_ok-add_cell_outputs.ensures ∙ (ap (λ xs. xs ++ driven_by_cells c.deref-3.result.now) first ∙ ap (λ ks. (n.inputs ++ free) ++ driven_by_cells ks) (c.deref-3.ensures.value ∙ ap (λ d. d.cells) c.told.view_is)) in
    let third = c.in_ok-add_gater_outputs.ensures ∙ (ap (λ xs. xs ++ driven_by_gaters c.deref-4.result.now) second ∙ ap (λ gs. (n.inputs ++ free ++ driven_by_cells n.cells) ++ driven_by_gaters gs) (c.deref-4.ensures.value ∙ ap (λ d. d.gaters) c.told.view_is)) in
    c.in_ok-add_register_outputs.ensures ∙ (ap (λ xs. xs ++ driven_by_registers c.deref-5.result.now) third ∙ ap (λ rs. (n.inputs ++ free ++ driven_by_cells n.cells ++ driven_by_gaters n.gaters) ++ driven_by_registers rs) (c.deref-5.ensures.value ∙ ap (λ d. d.registers) c.told.view_is))
