use Rattle.std.proofs.Common.{nat_eq, nat_lt, Some, None, length, inr, ◌∙◌, ap, subst}
use Rattle.std.specs.List.{count_by}
use Rattle.cg_netlist_builder.specs.inner.FirstNet.{IsFirst}
use Rattle.cg_netlist_parts.specs.declared.fault.NetFault.TheVariants.{TwoDrivers}
use Rattle.cg_netlist_builder.specs.inner.Numbers.{driving}
use Rattle.cg_netlist_builder.proofs.Checks.{marked_first}
use Rattle.cg_netlist_builder.proofs.ToldNets.{asked_of, order_within}
use Rattle.cg_netlist_builder.proofs.finish.check_drivers.Goals as goal

pub repeated-requires : goal.repeated-requires
repeated-requires c =
    let n = c.args.told.now in
    asked_of n c.requires.numbers (driving n) c.args.drivers.now c.len.result (c.len.ensures.count ∙ ap (λ d. length d.names) c.told.view_is) c.requires.drivers (order_within n c.requires.numbers n.clocks c.requires.numbers.clocks)

pub returns-in-None : goal.returns-in-None
returns-in-None c =
    let n = c.args.told.now in
    subst (λ ds. IsFirst (length n.names) (λ net. nat_lt 1 (count_by (nat_eq net) ds)) None) c.requires.drivers
    (marked_first c.in_ok-twice.twice.items c.deref.result.now c.len.result (length n.names) (λ net. nat_lt 1 (count_by (nat_eq net) c.args.drivers.now)) None c.deref.ensures.value (c.len.ensures.count ∙ ap (λ d. length d.names) c.told.view_is) c.in_ok-twice.ensures c.in-None.ensures)

pub returns : goal.returns
returns c =
    let n = c.args.told.now in
    inr (
      c.in-Some.net,
      ap (λ m. TwoDrivers m) c.in_ok-name_of-in-Some.ensures,
      subst (λ ds. IsFirst (length n.names) (λ net. nat_lt 1 (count_by (nat_eq net) ds)) (Some c.in-Some.net)) c.requires.drivers
          (marked_first c.in_ok-twice.twice.items c.deref.result.now c.len.result (length n.names) (λ net. nat_lt 1 (count_by (nat_eq net) c.args.drivers.now)) (Some c.in-Some.net) c.deref.ensures.value (c.len.ensures.count ∙ ap (λ d. length d.names) c.told.view_is) c.in_ok-twice.ensures c.in-Some.ensures),
    )
