use Rattle.std.proofs.Common.{◌++◌, not, length, sym, ◌∙◌, ap, subst}
use Rattle.std.specs.List.{filter}
use Rattle.cg_net.specs.NetSets.{is_in}
use Rattle.cg_net.specs.Marks.{AreMarksOf, is_marked}
use Rattle.cg_netlist_builder.specs.inner.Numbers.{gated, pins_by}
use Rattle.cg_netlist_builder.proofs.ToldNets.{asked_of, left_of, pins_within}
use Rattle.cg_netlist_builder.proofs.parts.clock_roots.Goals as goal

pub add_unmarked-requires : goal.add_unmarked-requires
add_unmarked-requires c =
    let n = c.args.told.now in
    asked_of n c.requires (pins_by n.gaters n.registers) c.deref-2.result.now (length c.deref.result.now) (ap length c.deref.ensures.value ∙ c.in_ok-gated.ensures.fits) (c.deref-2.ensures.value ∙ c.in_ok-pins.ensures) (pins_within n c.requires)

pub returns : goal.returns
returns c =
    let n = c.args.told.now in
    let table : AreMarksOf c.deref.result.now (length n.names) (is_in (gated n)) = subst (λ ms. AreMarksOf ms (length n.names) (is_in (gated n))) (sym c.deref.ensures.value) c.in_ok-gated.ensures in
    let pins = pins_by n.gaters n.registers in
    c.in_ok-add_unmarked.ensures
    ∙ (ap (λ xs. xs ++ filter (λ net. not (is_marked c.deref.result.now net)) c.deref-2.result.now) (c.in_ok-nets.ensures ∙ ap (λ d. d.clocks) c.told.view_is)
    ∙ (ap (λ ps. n.clocks ++ filter (λ net. not (is_marked c.deref.result.now net)) ps) (c.deref-2.ensures.value ∙ c.in_ok-pins.ensures)
    ∙ ap (λ xs. n.clocks ++ xs) (left_of c.deref.result.now (length n.names) (gated n) pins table (pins_within n c.requires))))
