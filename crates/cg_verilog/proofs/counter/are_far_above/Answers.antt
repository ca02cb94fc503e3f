use Rattle.std.proofs.Common.{◌≡◌, ◌+◌, ◌-◌, ◌*◌, ◌≤◌, ℕ, List, length, drop, get_or, arith, subst}
use Rattle.std.proofs.lemmas.Bool.Decides.{nat_tests}
use Rattle.cg_verilog.specs.Counters.{value_of}
use Rattle.cg_verilog.proofs.CounterLemmas.{digits_below}
use Rattle.cg_verilog.proofs.FarApart.{digit_fits, far_drop, gap_next, no_longer, nothing_behind}
use Rattle.cg_verilog.proofs.counter.are_far_above.Goals as goal

pub places-init : goal.places-init
places-init c =
    let ds : List ℕ = c.args.digits.now in
    let os : List ℕ = c.args.others.now in
    let long : length os ≤ length ds = no_longer ds os c.requires.digits c.requires.others c.requires.order in
    let here = nothing_behind ds (length ds - 0) (omega arith) in
    let there = nothing_behind os (length ds - 0) (omega (arith, long)) in
    record { gap = omega (arith, here, there); near = c.requires.some }

pub overflow_sub-above : goal.overflow_sub-above
overflow_sub-above c =
    let ds : List ℕ = c.args.digits.now in
    let os : List ℕ = c.args.others.now in
    let at : ℕ = length ds - 1 - c.places.place in
    let fits : get_or os at 0 ≤ 10 * c.places.above + get_or ds at 0 =
    digit_fits ds os (length ds - c.places.place) at c.places.above (digits_below ds c.requires.digits) c.requires.order (omega arith) c.places.invariant.gap in
    omega (arith, fits, c.digit_at.ensures.digit, c.digit_at-in-places.ensures.digit)

pub returns-then-gap-above : goal.returns-then-gap-above
returns-then-gap-above c =
    let ds : List ℕ = c.args.digits.now in
    let os : List ℕ = c.args.others.now in
    let at : ℕ = length ds - 1 - c.places.place in
    let next = gap_next ds os (length ds - c.places.place) at c.places.above (digits_below ds c.requires.digits) c.requires.order (omega arith) c.places.invariant.gap in
    let far : value_of (drop at os) + c.args.gap ≤ value_of (drop at ds) = omega (arith, next, c.digit_at.ensures.digit, c.digit_at-in-places.ensures.digit, c.if-gap-above.true) in
    let all : value_of os + c.args.gap ≤ value_of ds = far_drop ds os at c.args.gap (digits_below os c.requires.others) c.requires.some far in
    grind (arith, nat_tests, all)

pub places-preserved : goal.places-preserved
places-preserved c =
    let ds : List ℕ = c.args.digits.now in
    let os : List ℕ = c.args.others.now in
    let at : ℕ = length ds - 1 - c.places.place in
    let next = gap_next ds os (length ds - c.places.place) at c.places.above (digits_below ds c.requires.digits) c.requires.order (omega arith) c.places.invariant.gap in
    let same : at ≡ length ds - (c.places.place + 1) = omega arith in
    let gap : value_of (drop at os) + (10 * c.places.above + c.digit_at.result - c.digit_at-in-places.result) ≡ value_of (drop at ds) =
    omega (arith, next, c.digit_at.ensures.digit, c.digit_at-in-places.ensures.digit) in
    record {
      gap = subst (λ k. value_of (drop k os) + (10 * c.places.above + c.digit_at.result - c.digit_at-in-places.result) ≡ value_of (drop k ds)) same gap;
      near = omega (arith, c.if-gap-above.false);
    }
