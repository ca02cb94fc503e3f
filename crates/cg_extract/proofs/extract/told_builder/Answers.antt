use Rattle.std.proofs.Common.{List, ℕ, ap, sym, ◌∙◌, subst}
use Rattle.cg_netlist_builder.specs.Building.{Building, fresh}
use Rattle.cg_netlist_telling.specs.Telling.{MayTell, told}
use Rattle.cg_extract.proofs.BareParts.{may_tell}
use Rattle.cg_extract.specs.inner.BareParts.{bare_parts}
use Rattle.cg_extract.proofs.extract.told_builder.Goals as goal

pub tell-requires : goal.tell-requires
tell-requires c =
    let d = c.args.netlist.now in
    subst (λ (ns : List (List ℕ)). MayTell c.in_ok-builder.builder (bare_parts ns d)) (sym c.of_netlist-names.ensures)
    (subst (λ (b : Building). MayTell b (bare_parts d.names d)) (sym (c.in_ok-builder.ensures ∙ ap fresh c.model.ensures)) (may_tell d c.nets-nets.ensures.netlist c.requires))

pub returns-in-Ok : goal.returns-in-Ok
returns-in-Ok c =
    let d = c.args.netlist.now in
    c.in-Ok.ensures ∙ (ap (λ (b : Building). told b (bare_parts c.of_netlist-names.result d)) (c.in_ok-builder.ensures ∙ ap fresh c.model.ensures) ∙ ap (λ (ns : List (List ℕ)). told (fresh d.model) (bare_parts ns d)) c.of_netlist-names.ensures)
