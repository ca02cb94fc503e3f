use Rattle.std.proofs.Common.{◌≡◌, ◌+◌, ℕ, Bool, false, List, Some, drop, get_or, map, set, slice_get, sym, ◌∙◌}
use Rattle.std.proofs.Common.{ap, arith}
use Rattle.std.proofs.lemmas.Option.{slice_get-get_or}
use Rattle.cg_machine.specs.inner.Putting.{put_bits}
use Rattle.cg_machine.proofs.PutBits.{put_mapped}
use Rattle.cg_machine.proofs.delays.Delays.put.Goals as goal

pub loop-number-preserved : goal.loop-number-preserved
loop-number-preserved c =
    let xs : List (ℕ × ℕ) = c.args.self.now in
    let state : List Bool = c.args.state.now in
    let k : ℕ = c.loop-number.number in
    let shown : slice_get state k ≡ Some (get_or state k false) = slice_get-get_or state k false (omega (arith, c.loop-number-test.true, c.len-number-end.ensures, c.requires.state)) in
    ap (λ n. put_bits (map (λ (d : ℕ × ℕ). d.1) (drop (k + 1) xs)) (drop (k + 1) state) (set c.loop-number.values n (get_or state k false))) c.number.ensures.number
    ∙ (sym (put_mapped (λ (d : ℕ × ℕ). d.1) xs state c.loop-number.values k (c.delay-output.result.0, c.delay-output.result.1) (get_or state k false) c.delay-output.ensures shown) ∙ c.loop-number.invariant)
