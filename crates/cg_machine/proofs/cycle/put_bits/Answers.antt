use Rattle.std.proofs.Common.{◌≡◌, ℕ, Bool, false, List, Some, get_or, slice_get, refl, sym, ◌∙◌, ap, arith}
use Rattle.std.proofs.lemmas.Option.{slice_get-get_or, slice_get_read}
use Rattle.cg_machine.proofs.PutBits.{put_bits-drop}
use Rattle.cg_machine.proofs.cycle.put_bits.Goals as goal

pub loop-k-preserved : goal.loop-k-preserved
loop-k-preserved c =
    let nets : List ℕ = c.args.nets.now in
    let bits : List Bool = c.args.bits.now in
    let k : ℕ = c.loop-k.k in
    let at : slice_get nets k ≡ Some c.number.result = slice_get_read nets _ k c.index-nets-k.result refl c.loop-k-test.true c.index-nets-k.is ∙ ap Some (sym c.number.ensures.number) in
    let shown : slice_get bits k ≡ Some (get_or bits k false) = slice_get-get_or bits k false (omega (arith, c.loop-k-test.true, c.requires.bits)) in
    sym (put_bits-drop nets bits c.loop-k.values k c.number.result (get_or bits k false) at shown) ∙ c.loop-k.invariant
