use Rattle.std.proofs.Common.{◌≡◌, IfOk, subst}
use Rattle.cg_netlist_builder.specs.Building.{Building, fresh}
use Rattle.cg_netlist_telling.specs.Telling.{told}
use Rattle.cg_extract.specs.inner.BareParts.{bare_parts}
use Rattle.cg_extract.proofs.BareParts.{finished, mapped}
use Rattle.cg_extract.proofs.extract.bare.Goals as goal

pub returns : goal.returns
returns c =
    let d = c.args.netlist.now in
    let is = subst (λ r. IfOk r (λ (b : Building). b ≡ told (fresh d.model) (bare_parts d.names d))) c.in_ok-builder.was (mapped _ _ c.told_builder.result c.map_err.result c.map_err.ensures.cases c.told_builder.ensures) in
    finished d c.nets-nets.ensures.netlist c.requires _ c.in_ok-builder.builder c.finish.result c.map_err-2.result is c.finish.ensures c.map_err-2.ensures.cases
