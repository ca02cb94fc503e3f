use Rattle.std.proofs.Common.{◌+◌, ℕ, length, ap, ◌∙◌, arith}
use Rattle.std.specs.Option.{option_copied}
use Rattle.std.specs.Prelude.{unwrap_or}
use Rattle.cg_netlist.specs.Circuit.{Circuit}
use Rattle.cg_insert.proofs.ClockedPlaces.{gater_stands, gaters_long}
use Rattle.cg_netlist_telling.proofs.ToldParts.{end_at, may_at, told_at}
use Rattle.cg_insert.specs.Insert.{fitting}
use Rattle.cg_insert.specs.inner.GatedParts.{gated_gaters}
use Rattle.cg_netlist_telling.specs.NamedParts.{gater_part}
use Rattle.cg_insert.proofs.clocked.tell_gaters.Goals as goal

pub overflow_cast-number : goal.overflow_cast-number
overflow_cast-number c = omega (arith, c.loop-number-test.true, c.len-number-end.ensures, ap length c.requires.enables, c.first_gater_output-first.ensures.fits)

pub overflow_add-first : goal.overflow_add-first
overflow_add-first c = omega (arith, c.loop-number-test.true, c.len-number-end.ensures, ap length c.requires.enables, c.first_gater_output-first.ensures.fits)

pub tell_gater-requires : goal.tell_gater-requires
tell_gater-requires c =
    let test = option_copied c.args.gating.now.test in
    let m = c.args.gating.now.machine.now in
    let library = c.args.gating.now.library.now in
    let n : ℕ = c.loop-number.number in
    let clock_is = c.clock_or_first-clock.ensures ∙ ap (λ (d : Circuit). unwrap_or d.clock 0) c.netlist.ensures.netlist in
    let cell = c.fitting-cell.ensures ∙ ap (fitting library) c.gating_kind-kind.ensures in
    let out = c.new-output.ensures ∙ ap (λ k. k + n) c.first_gater_output-first.ensures.first in
    may_at (gater_part c.args.names.now) c.args.builder.now c.loop-number.builder (gated_gaters library test m) n _ (gater_stands library test m c.args.gating.now.enables.now c.requires.enables n c.net.result c.clock_or_first-clock.result c.new-output.result c.test_net-test_pin.result c.fitting-cell.result.now c.net.ensures clock_is c.test_net-test_pin.ensures out cell) c.requires.parts c.loop-number.invariant

pub loop-number-preserved : goal.loop-number-preserved
loop-number-preserved c =
    let test = option_copied c.args.gating.now.test in
    let m = c.args.gating.now.machine.now in
    let library = c.args.gating.now.library.now in
    let n : ℕ = c.loop-number.number in
    let clock_is = c.clock_or_first-clock.ensures ∙ ap (λ (d : Circuit). unwrap_or d.clock 0) c.netlist.ensures.netlist in
    let cell = c.fitting-cell.ensures ∙ ap (fitting library) c.gating_kind-kind.ensures in
    let out = c.new-output.ensures ∙ ap (λ k. k + n) c.first_gater_output-first.ensures.first in
    told_at (gater_part c.args.names.now) c.args.builder.now c.loop-number.builder c.tell_gater.new.builder (gated_gaters library test m) n _ (gater_stands library test m c.args.gating.now.enables.now c.requires.enables n c.net.result c.clock_or_first-clock.result c.new-output.result c.test_net-test_pin.result c.fitting-cell.result.now c.net.ensures clock_is c.test_net-test_pin.ensures out cell) c.loop-number.invariant c.in_ok-tell_gater.ensures

pub returns : goal.returns
returns c =
    let test = option_copied c.args.gating.now.test in
    let m = c.args.gating.now.machine.now in
    let library = c.args.gating.now.library.now in
    end_at (gater_part c.args.names.now) c.args.builder.now c.loop-number.builder (gated_gaters library test m) c.loop-number.number (omega (arith, gaters_long library test m, c.loop-number-test.false, c.len-number-end.ensures, ap length c.requires.enables)) c.loop-number.invariant
