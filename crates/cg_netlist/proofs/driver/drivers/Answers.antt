use Rattle.std.proofs.Common.{◌≡◌, length, replicate, sym, ◌∙◌, ap, subst}
use Rattle.cg_netlist.specs.Circuit.{Circuit}
use Rattle.cg_netlist.specs.declared.driver.Driver.TheVariants.{Input}
use Rattle.cg_netlist.specs.inner.Driving.{IsTold, all_but_inputs}
use Rattle.cg_netlist.proofs.DriverTable.{listed_first}
use Rattle.cg_netlist.proofs.driver.drivers.Goals as goal

pub tell_cells-requires-clause-told : goal.tell_cells-requires-clause-told
tell_cells-requires-clause-told c =
    let parts : Circuit = c.args.parts.now in
    let count : c.len.result ≡ length parts.names = c.len.ensures.count ∙ ap (λ (p : Circuit). length p.names) c.parts.view_is in
    let table : c.deref_mut.result.now ≡ replicate (length parts.names) Input = c.deref_mut.ensures.value ∙ (c.in_ok-drivers.ensures ∙ ap (λ n. replicate n Input) count) in
    subst (IsTold parts (all_but_inputs parts)) (sym table) (listed_first parts c.requires.well_formed.driven)
