use Rattle.std.proofs.Common.{◌≡◌, refl, ap, sym, ◌∙◌, subst}
use Rattle.cg_netlist_builder.specs.Building.{Building}
use Rattle.cg_netlist_telling.proofs.ToldParts.{call_may, call_tells, call_told}
use Rattle.cg_netlist_telling.specs.NamedParts.{cell_parts, clock_parts, clocked_parts, input_parts, output_parts}
use Rattle.cg_netlist_telling.specs.Telling.{MayTell, told}
use Rattle.cg_extract.proofs.ToldBare.{may_cells, may_clock, may_inputs, may_outputs, to_cells, to_clock, to_inputs, to_outputs}
use Rattle.cg_extract.specs.Lifted.{ungated}
use Rattle.cg_extract.proofs.extract.tell.Goals as goal

pub tell_inputs-requires : goal.tell_inputs-requires
tell_inputs-requires c =
    let names = c.args.names.now in
    let d = c.args.netlist.now in
    let b : Building = c.args.builder.now in
    subst (MayTell b) (sym (ap (input_parts names) c.inputs.ensures)) (may_inputs names d b c.requires)

pub tell_outputs-requires : goal.tell_outputs-requires
tell_outputs-requires c =
    let names = c.args.names.now in
    let d = c.args.netlist.now in
    let b : Building = c.args.builder.now in
    let t1 : c.tell_inputs.new.builder ≡ told b (to_inputs names d) = c.in_ok-tell_inputs.ensures ∙ ap (λ xs. told b (input_parts names xs)) c.inputs.ensures in
    call_may b c.tell_inputs.new.builder (to_inputs names d) (output_parts names d.outputs) (output_parts names c.outputs.result.now) (may_outputs names d b c.requires) t1 (ap (output_parts names) c.outputs.ensures)

pub tell_clock-requires : goal.tell_clock-requires
tell_clock-requires c =
    let names = c.args.names.now in
    let d = c.args.netlist.now in
    let b : Building = c.args.builder.now in
    let t1 : c.tell_inputs.new.builder ≡ told b (to_inputs names d) = c.in_ok-tell_inputs.ensures ∙ ap (λ xs. told b (input_parts names xs)) c.inputs.ensures in
    let t2 = call_told b c.tell_inputs.new.builder c.tell_outputs.new.builder (to_inputs names d) (output_parts names d.outputs) (output_parts names c.outputs.result.now) t1 (ap (output_parts names) c.outputs.ensures) c.in_ok-tell_outputs.ensures in
    call_may b c.tell_outputs.new.builder (to_outputs names d) (clock_parts names d.clock) (clock_parts names c.clock.result) (may_clock names d b c.requires) t2 (ap (clock_parts names) c.clock.ensures)

pub tell_cells-requires : goal.tell_cells-requires
tell_cells-requires c =
    let names = c.args.names.now in
    let d = c.args.netlist.now in
    let b : Building = c.args.builder.now in
    let t1 : c.tell_inputs.new.builder ≡ told b (to_inputs names d) = c.in_ok-tell_inputs.ensures ∙ ap (λ xs. told b (input_parts names xs)) c.inputs.ensures in
    let t2 = call_told b c.tell_inputs.new.builder c.tell_outputs.new.builder (to_inputs names d) (output_parts names d.outputs) (output_parts names c.outputs.result.now) t1 (ap (output_parts names) c.outputs.ensures) c.in_ok-tell_outputs.ensures in
    let t3 = call_told b c.tell_outputs.new.builder c.tell_clock.new.builder (to_outputs names d) (clock_parts names d.clock) (clock_parts names c.clock.result) t2 (ap (clock_parts names) c.clock.ensures) c.in_ok-tell_clock.ensures in
    call_may b c.tell_clock.new.builder (to_clock names d) (cell_parts names d.cells) (cell_parts names d.cells) (may_cells names d b c.requires) t3 refl

pub tell_registers-requires : goal.tell_registers-requires
tell_registers-requires c =
    let names = c.args.names.now in
    let d = c.args.netlist.now in
    let b : Building = c.args.builder.now in
    let t1 : c.tell_inputs.new.builder ≡ told b (to_inputs names d) = c.in_ok-tell_inputs.ensures ∙ ap (λ xs. told b (input_parts names xs)) c.inputs.ensures in
    let t2 = call_told b c.tell_inputs.new.builder c.tell_outputs.new.builder (to_inputs names d) (output_parts names d.outputs) (output_parts names c.outputs.result.now) t1 (ap (output_parts names) c.outputs.ensures) c.in_ok-tell_outputs.ensures in
    let t3 = call_told b c.tell_outputs.new.builder c.tell_clock.new.builder (to_outputs names d) (clock_parts names d.clock) (clock_parts names c.clock.result) t2 (ap (clock_parts names) c.clock.ensures) c.in_ok-tell_clock.ensures in
    let t4 = call_told b c.tell_clock.new.builder c.tell_cells.new.builder (to_clock names d) (cell_parts names d.cells) (cell_parts names d.cells) t3 refl c.in_ok-tell_cells.ensures in
    call_may b c.tell_cells.new.builder (to_cells names d) (clocked_parts names (ungated d).registers) (clocked_parts names (ungated d).registers) c.requires t4 refl

pub returns : goal.returns
returns c =
    let names = c.args.names.now in
    let d = c.args.netlist.now in
    let b : Building = c.args.builder.now in
    let t1 : c.tell_inputs.new.builder ≡ told b (to_inputs names d) = c.in_ok-tell_inputs.ensures ∙ ap (λ xs. told b (input_parts names xs)) c.inputs.ensures in
    let t2 = call_told b c.tell_inputs.new.builder c.tell_outputs.new.builder (to_inputs names d) (output_parts names d.outputs) (output_parts names c.outputs.result.now) t1 (ap (output_parts names) c.outputs.ensures) c.in_ok-tell_outputs.ensures in
    let t3 = call_told b c.tell_outputs.new.builder c.tell_clock.new.builder (to_outputs names d) (clock_parts names d.clock) (clock_parts names c.clock.result) t2 (ap (clock_parts names) c.clock.ensures) c.in_ok-tell_clock.ensures in
    let t4 = call_told b c.tell_clock.new.builder c.tell_cells.new.builder (to_clock names d) (cell_parts names d.cells) (cell_parts names d.cells) t3 refl c.in_ok-tell_cells.ensures in
    call_tells b c.tell_cells.new.builder c.tell_registers.new.builder (to_cells names d) (clocked_parts names (ungated d).registers) (clocked_parts names (ungated d).registers) t4 refl c.tell_registers.result c.tell_registers.ensures
