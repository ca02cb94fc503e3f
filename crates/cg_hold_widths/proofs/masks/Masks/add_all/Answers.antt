use Rattle.std.proofs.Common.{◌≡◌, Some, slice_get, refl}
use Rattle.std.proofs.lemmas.Option.{slice_get_read}
use Rattle.cg_hold_widths.specs.inner.Masks.{mask_at}
use Rattle.cg_hold_widths.proofs.Touching.{nets_more}
use Rattle.cg_hold_widths.proofs.masks.Masks.add_all.Goals as goal

pub loop-net-preserved : goal.loop-net-preserved
loop-net-preserved c = λ i y.
    let nets = c.args.nets.now in
    let place = c.loop-net.net-index in
    let at : slice_get nets place ≡ Some c.net-item.result = slice_get_read nets _ place c.net-item.result refl c.loop-net-test.true c.net-item.is in
    nets_more i y c.args.bits (mask_at c.args.self.now y) (mask_at c.loop-net.self y) (mask_at c.add.new.self y) c.net-item.result place nets at (c.in_ok-add.ensures y) (c.loop-net.invariant i y)
