use Rattle.std.proofs.Common.{◌≡◌, ℕ, Some, map, ap, ◌∙◌}
use Rattle.std.specs.List.{find}
use Rattle.std.specs.Option.{option_map}
use Rattle.std.proofs.lemmas.Option.{slice_get-map}
use Rattle.cg_cell.specs.Cell.{CellData}
use Rattle.cg_cell.specs.Fit.{is_fit}
use Rattle.cg_machine.specs.Gates.{AddedGate}
use Rattle.cg_machine.specs.View.{gate_seen}
use Rattle.cg_netlist_telling.proofs.ToldParts.{may_at, told_at}
use Rattle.cg_insert.specs.Insert.{placed_gate}
use Rattle.cg_netlist_telling.specs.NamedParts.{cell_part}
use Rattle.cg_insert.proofs.logic.tell_gates.Goals as goal
use Rattle.cg_machine.proofs.Lists.{all_at}

pub tell_gate-requires-clause-fits : goal.tell_gate-requires-clause-fits
tell_gate-requires-clause-fits c = all_at (λ (gate : AddedGate). (cell : CellData) × (find (is_fit gate.kind) c.args.library.now ≡ Some cell)) c.args.machine.now.gates c.loop-number.number (gate_seen c.gate.result) c.requires.fits c.gate.ensures

pub tell_gate-requires-clause-parts : goal.tell_gate-requires-clause-parts
tell_gate-requires-clause-parts c =
    let place = placed_gate c.args.library.now in
    let gates = c.args.machine.now.gates in
    let n : ℕ = c.loop-number.number in
    may_at (cell_part c.args.names.now) c.args.builder.now c.loop-number.builder (map place gates) n (place (gate_seen c.gate.result)) (slice_get-map place gates n ∙ ap (option_map place) c.gate.ensures) c.requires.parts c.loop-number.invariant

pub loop-number-preserved : goal.loop-number-preserved
loop-number-preserved c =
    let place = placed_gate c.args.library.now in
    let gates = c.args.machine.now.gates in
    let n : ℕ = c.loop-number.number in
    told_at (cell_part c.args.names.now) c.args.builder.now c.loop-number.builder c.tell_gate.new.builder (map place gates) n (place (gate_seen c.gate.result)) (slice_get-map place gates n ∙ ap (option_map place) c.gate.ensures) c.loop-number.invariant c.in_ok-tell_gate.ensures
