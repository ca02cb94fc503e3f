use Rattle.std.proofs.Common.{◌≡◌, ◌<◌, ◌++◌, ◌∙◌, ℕ, List, Some, length, map, refl, ap, arith}
use Rattle.std.specs.List.{slice_get}
use Rattle.std.specs.Option.{option_map}
use Rattle.std.proofs.lemmas.Option.{slice_get-map, slice_get_read}
use Rattle.cg_report.specs.ClockLines.{clock_text, lines_text}
use Rattle.cg_report.specs.declared.clock_count.ClockNet.{ClockNet}
use Rattle.cg_report.specs.inner.ClockCounting.{line_of}
use Rattle.cg_report.proofs.ClockCounting.{lines_go}
use Rattle.cg_report.proofs.clock_count.push_lines.Goals as goal

pub loop-place-preserved : goal.loop-place-preserved
loop-place-preserved c =
    let clocks = c.args.clocks.now in
    let i = c.loop-place.place in
    let clock = c.index-clocks-place.result in
    let f : ClockNet → List ℕ = λ (clock : ClockNet). clock_text (line_of clock) in
    let below : i < length clocks = omega (arith, c.loop-place-test.true) in
    let here : slice_get clocks i ≡ Some clock = slice_get_read clocks (length clocks) i clock refl below c.index-clocks-place.is in
    lines_go c.loop-place.text.items c.push_break.new.text.items c.push_line.new.text.items (c.args.text.now.items ++ lines_text (map f clocks)) i (map f clocks) (f clock) (slice_get-map f clocks i ∙ ap (option_map f) here)
    c.in_ok-push_break.ensures c.in_ok-push_line.ensures c.loop-place.invariant
