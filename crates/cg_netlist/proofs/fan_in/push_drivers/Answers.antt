use Rattle.std.proofs.Common.{◌≡◌, ◌++◌, Some, refl, ◌∙◌, ap}
use Rattle.std.specs.Option.{option_to_list}
use Rattle.std.specs.List.{slice_get}
use Rattle.std.proofs.lemmas.Option.{slice_get_read}
use Rattle.cg_netlist.specs.inner.Ranking.{entry}
use Rattle.cg_netlist.proofs.FanInLemmas.{driver_more}
use Rattle.cg_netlist.proofs.fan_in.push_drivers.Goals as goal

pub loop-net-preserved : goal.loop-net-preserved
loop-net-preserved c =
    let at : slice_get c.args.nets.now c.loop-net.net-index ≡ Some c.net-item.result = slice_get_read c.args.nets.now _ c.loop-net.net-index c.net-item.result refl c.loop-net-test.true c.net-item.is in
    driver_more c.args.drivers.now c.args.nets.now c.loop-net.net-index c.net-item.result c.loop-net.above.items c.push_driver.new.above.items c.args.above.now.items at c.loop-net.invariant
    (c.in_ok-push_driver.ensures ∙ ap (λ o. c.loop-net.above.items ++ option_to_list o) (c.entry.ensures ∙ ap (entry c.args.drivers.now) c.number.ensures.number))
