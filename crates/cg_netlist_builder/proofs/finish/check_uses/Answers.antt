use Rattle.std.proofs.Common.{◌&&◌, not, Some, None, length, inr, ◌∙◌, ap, subst}
use Rattle.cg_net.specs.NetSets.{is_in}
use Rattle.cg_netlist_builder.specs.inner.FirstNet.{IsFirst}
use Rattle.cg_netlist_parts.specs.declared.fault.NetFault.TheVariants.{NoDriver}
use Rattle.cg_netlist_builder.specs.inner.Numbers.{driving, used}
use Rattle.cg_netlist_builder.proofs.Checks.{undriven_found}
use Rattle.cg_netlist_builder.proofs.ToldNets.{asked_of, order_within}
use Rattle.cg_netlist_builder.proofs.finish.check_uses.Goals as goal

pub marks-requires : goal.marks-requires
marks-requires c =
    let n = c.args.told.now in
    asked_of n c.requires.numbers (driving n) c.args.drivers.now c.len.result (c.len.ensures.count ∙ ap (λ d. length d.names) c.told.view_is) c.requires.drivers (order_within n c.requires.numbers n.clocks c.requires.numbers.clocks)

pub returns-in-None : goal.returns-in-None
returns-in-None c =
    let n = c.args.told.now in
    subst (λ ds. IsFirst (length n.names) (λ net. is_in (used n) net && not (is_in ds net)) None) c.requires.drivers
    (undriven_found c.args.used.now c.in_ok-driven.driven.items c.deref.result.now (length n.names) c.len.result (used n) c.args.drivers.now None c.deref.ensures.value (c.len.ensures.count ∙ ap (λ d. length d.names) c.told.view_is) c.requires.used c.in_ok-driven.ensures c.in-None.ensures)

pub returns : goal.returns
returns c =
    let n = c.args.told.now in
    inr (
      c.in-Some.net,
      ap (λ m. NoDriver m) c.in_ok-name_of-in-Some.ensures,
      subst (λ ds. IsFirst (length n.names) (λ net. is_in (used n) net && not (is_in ds net)) (Some c.in-Some.net)) c.requires.drivers
          (undriven_found c.args.used.now c.in_ok-driven.driven.items c.deref.result.now (length n.names) c.len.result (used n) c.args.drivers.now (Some c.in-Some.net) c.deref.ensures.value (c.len.ensures.count ∙ ap (λ d. length d.names) c.told.view_is) c.requires.used c.in_ok-driven.ensures c.in-Some.ensures),
    )
