use Rattle.std.proofs.Common.{◌≡◌, refl, ap, sym, ◌∙◌, subst}
use Rattle.std.specs.Option.{option_copied, option_to_list}
use Rattle.cg_netlist.specs.Circuit.{Circuit}
use Rattle.cg_netlist_builder.specs.Building.{Building}
use Rattle.cg_insert.proofs.ToldGroups.{may_cells, may_clock, may_gaters, may_gates, may_inputs, may_outputs, may_registers}
use Rattle.cg_insert.proofs.ToldGroups.{may_test, the_cells, the_clock, the_gaters, the_gates, the_outputs, the_registers, the_test}
use Rattle.cg_insert.proofs.ToldGroups.{to_cells, to_clock, to_gaters, to_gates, to_inputs, to_outputs, to_test}
use Rattle.cg_netlist_telling.proofs.ToldParts.{call_may, call_tells, call_told}
use Rattle.cg_netlist_telling.specs.NamedParts.{cell_parts, clock_parts, input_parts, output_parts}
use Rattle.cg_netlist_telling.specs.Telling.{MayTell, told}
use Rattle.cg_insert.proofs.insert.tell.Goals as goal

pub tell_inputs-requires : goal.tell_inputs-requires
tell_inputs-requires c =
    let names = c.args.names.now in
    let m = c.args.gating.now.machine.now in
    let library = c.args.gating.now.library.now in
    let test = option_copied c.args.gating.now.test in
    let b : Building = c.args.builder.now in
    subst (MayTell b) (sym (ap (input_parts names) (c.inputs.ensures ∙ ap (λ (d : Circuit). d.inputs) c.netlist-netlist.ensures.netlist))) (may_inputs names library test m b c.requires.parts)

pub tell_test-requires : goal.tell_test-requires
tell_test-requires c =
    let names = c.args.names.now in
    let m = c.args.gating.now.machine.now in
    let library = c.args.gating.now.library.now in
    let test = option_copied c.args.gating.now.test in
    let b : Building = c.args.builder.now in
    let t1 : c.tell_inputs.new.builder ≡ told b (to_inputs names library test m) = c.in_ok-tell_inputs.ensures ∙ ap (told b) (ap (input_parts names) (c.inputs.ensures ∙ ap (λ (d : Circuit). d.inputs) c.netlist-netlist.ensures.netlist)) in
    call_may b c.tell_inputs.new.builder (to_inputs names library test m) (the_test names library test m) (input_parts names (option_to_list c.test_net.result)) (may_test names library test m b c.requires.parts) t1 (ap (λ o. input_parts names (option_to_list o)) c.test_net.ensures)

pub tell_outputs-requires : goal.tell_outputs-requires
tell_outputs-requires c =
    let names = c.args.names.now in
    let m = c.args.gating.now.machine.now in
    let library = c.args.gating.now.library.now in
    let test = option_copied c.args.gating.now.test in
    let b : Building = c.args.builder.now in
    let t1 : c.tell_inputs.new.builder ≡ told b (to_inputs names library test m) = c.in_ok-tell_inputs.ensures ∙ ap (told b) (ap (input_parts names) (c.inputs.ensures ∙ ap (λ (d : Circuit). d.inputs) c.netlist-netlist.ensures.netlist)) in
    let t2 = call_told b c.tell_inputs.new.builder c.tell_test.new.builder (to_inputs names library test m) (the_test names library test m) (input_parts names (option_to_list c.test_net.result)) t1 (ap (λ o. input_parts names (option_to_list o)) c.test_net.ensures) c.in_ok-tell_test.ensures in
    call_may b c.tell_test.new.builder (to_test names library test m) (the_outputs names library test m) (output_parts names c.outputs.result.now) (may_outputs names library test m b c.requires.parts) t2 (ap (output_parts names) (c.outputs.ensures ∙ ap (λ (d : Circuit). d.outputs) c.netlist-netlist.ensures.netlist))

pub tell_clock-requires : goal.tell_clock-requires
tell_clock-requires c =
    let names = c.args.names.now in
    let m = c.args.gating.now.machine.now in
    let library = c.args.gating.now.library.now in
    let test = option_copied c.args.gating.now.test in
    let b : Building = c.args.builder.now in
    let t1 : c.tell_inputs.new.builder ≡ told b (to_inputs names library test m) = c.in_ok-tell_inputs.ensures ∙ ap (told b) (ap (input_parts names) (c.inputs.ensures ∙ ap (λ (d : Circuit). d.inputs) c.netlist-netlist.ensures.netlist)) in
    let t2 = call_told b c.tell_inputs.new.builder c.tell_test.new.builder (to_inputs names library test m) (the_test names library test m) (input_parts names (option_to_list c.test_net.result)) t1 (ap (λ o. input_parts names (option_to_list o)) c.test_net.ensures) c.in_ok-tell_test.ensures in
    let t3 = call_told b c.tell_test.new.builder c.tell_outputs.new.builder (to_test names library test m) (the_outputs names library test m) (output_parts names c.outputs.result.now) t2 (ap (output_parts names) (c.outputs.ensures ∙ ap (λ (d : Circuit). d.outputs) c.netlist-netlist.ensures.netlist)) c.in_ok-tell_outputs.ensures in
    call_may b c.tell_outputs.new.builder (to_outputs names library test m) (the_clock names library test m) (clock_parts names c.clock.result) (may_clock names library test m b c.requires.parts) t3 (ap (clock_parts names) (c.clock.ensures ∙ ap (λ (d : Circuit). d.clock) c.netlist-netlist.ensures.netlist))

pub tell_cells-requires : goal.tell_cells-requires
tell_cells-requires c =
    let names = c.args.names.now in
    let m = c.args.gating.now.machine.now in
    let library = c.args.gating.now.library.now in
    let test = option_copied c.args.gating.now.test in
    let b : Building = c.args.builder.now in
    let t1 : c.tell_inputs.new.builder ≡ told b (to_inputs names library test m) = c.in_ok-tell_inputs.ensures ∙ ap (told b) (ap (input_parts names) (c.inputs.ensures ∙ ap (λ (d : Circuit). d.inputs) c.netlist-netlist.ensures.netlist)) in
    let t2 = call_told b c.tell_inputs.new.builder c.tell_test.new.builder (to_inputs names library test m) (the_test names library test m) (input_parts names (option_to_list c.test_net.result)) t1 (ap (λ o. input_parts names (option_to_list o)) c.test_net.ensures) c.in_ok-tell_test.ensures in
    let t3 = call_told b c.tell_test.new.builder c.tell_outputs.new.builder (to_test names library test m) (the_outputs names library test m) (output_parts names c.outputs.result.now) t2 (ap (output_parts names) (c.outputs.ensures ∙ ap (λ (d : Circuit). d.outputs) c.netlist-netlist.ensures.netlist)) c.in_ok-tell_outputs.ensures in
    let t4 = call_told b c.tell_outputs.new.builder c.tell_clock.new.builder (to_outputs names library test m) (the_clock names library test m) (clock_parts names c.clock.result) t3 (ap (clock_parts names) (c.clock.ensures ∙ ap (λ (d : Circuit). d.clock) c.netlist-netlist.ensures.netlist)) c.in_ok-tell_clock.ensures in
    call_may b c.tell_clock.new.builder (to_clock names library test m) (the_cells names library test m) (cell_parts names c.netlist-netlist.result.now.cells) (may_cells names library test m b c.requires.parts) t4 (ap (λ (d : Circuit). cell_parts names d.cells) c.netlist-netlist.ensures.netlist)

pub tell_gates-requires-clause-parts : goal.tell_gates-requires-clause-parts
tell_gates-requires-clause-parts c =
    let names = c.args.names.now in
    let m = c.args.gating.now.machine.now in
    let library = c.args.gating.now.library.now in
    let test = option_copied c.args.gating.now.test in
    let b : Building = c.args.builder.now in
    let t1 : c.tell_inputs.new.builder ≡ told b (to_inputs names library test m) = c.in_ok-tell_inputs.ensures ∙ ap (told b) (ap (input_parts names) (c.inputs.ensures ∙ ap (λ (d : Circuit). d.inputs) c.netlist-netlist.ensures.netlist)) in
    let t2 = call_told b c.tell_inputs.new.builder c.tell_test.new.builder (to_inputs names library test m) (the_test names library test m) (input_parts names (option_to_list c.test_net.result)) t1 (ap (λ o. input_parts names (option_to_list o)) c.test_net.ensures) c.in_ok-tell_test.ensures in
    let t3 = call_told b c.tell_test.new.builder c.tell_outputs.new.builder (to_test names library test m) (the_outputs names library test m) (output_parts names c.outputs.result.now) t2 (ap (output_parts names) (c.outputs.ensures ∙ ap (λ (d : Circuit). d.outputs) c.netlist-netlist.ensures.netlist)) c.in_ok-tell_outputs.ensures in
    let t4 = call_told b c.tell_outputs.new.builder c.tell_clock.new.builder (to_outputs names library test m) (the_clock names library test m) (clock_parts names c.clock.result) t3 (ap (clock_parts names) (c.clock.ensures ∙ ap (λ (d : Circuit). d.clock) c.netlist-netlist.ensures.netlist)) c.in_ok-tell_clock.ensures in
    let t5 = call_told b c.tell_clock.new.builder c.tell_cells.new.builder (to_clock names library test m) (the_cells names library test m) (cell_parts names c.netlist-netlist.result.now.cells) t4 (ap (λ (d : Circuit). cell_parts names d.cells) c.netlist-netlist.ensures.netlist) c.in_ok-tell_cells.ensures in
    call_may b c.tell_cells.new.builder (to_cells names library test m) (the_gates names library test m) (the_gates names library test m) (may_gates names library test m b c.requires.parts) t5 (refl)

pub tell_gaters-requires-clause-parts : goal.tell_gaters-requires-clause-parts
tell_gaters-requires-clause-parts c =
    let names = c.args.names.now in
    let m = c.args.gating.now.machine.now in
    let library = c.args.gating.now.library.now in
    let test = option_copied c.args.gating.now.test in
    let b : Building = c.args.builder.now in
    let t1 : c.tell_inputs.new.builder ≡ told b (to_inputs names library test m) = c.in_ok-tell_inputs.ensures ∙ ap (told b) (ap (input_parts names) (c.inputs.ensures ∙ ap (λ (d : Circuit). d.inputs) c.netlist-netlist.ensures.netlist)) in
    let t2 = call_told b c.tell_inputs.new.builder c.tell_test.new.builder (to_inputs names library test m) (the_test names library test m) (input_parts names (option_to_list c.test_net.result)) t1 (ap (λ o. input_parts names (option_to_list o)) c.test_net.ensures) c.in_ok-tell_test.ensures in
    let t3 = call_told b c.tell_test.new.builder c.tell_outputs.new.builder (to_test names library test m) (the_outputs names library test m) (output_parts names c.outputs.result.now) t2 (ap (output_parts names) (c.outputs.ensures ∙ ap (λ (d : Circuit). d.outputs) c.netlist-netlist.ensures.netlist)) c.in_ok-tell_outputs.ensures in
    let t4 = call_told b c.tell_outputs.new.builder c.tell_clock.new.builder (to_outputs names library test m) (the_clock names library test m) (clock_parts names c.clock.result) t3 (ap (clock_parts names) (c.clock.ensures ∙ ap (λ (d : Circuit). d.clock) c.netlist-netlist.ensures.netlist)) c.in_ok-tell_clock.ensures in
    let t5 = call_told b c.tell_clock.new.builder c.tell_cells.new.builder (to_clock names library test m) (the_cells names library test m) (cell_parts names c.netlist-netlist.result.now.cells) t4 (ap (λ (d : Circuit). cell_parts names d.cells) c.netlist-netlist.ensures.netlist) c.in_ok-tell_cells.ensures in
    let t6 = call_told b c.tell_cells.new.builder c.tell_gates.new.builder (to_cells names library test m) (the_gates names library test m) (the_gates names library test m) t5 (refl) c.in_ok-tell_gates.ensures in
    call_may b c.tell_gates.new.builder (to_gates names library test m) (the_gaters names library test m) (the_gaters names library test m) (may_gaters names library test m b c.requires.parts) t6 (refl)

pub tell_registers-requires-clause-parts : goal.tell_registers-requires-clause-parts
tell_registers-requires-clause-parts c =
    let names = c.args.names.now in
    let m = c.args.gating.now.machine.now in
    let library = c.args.gating.now.library.now in
    let test = option_copied c.args.gating.now.test in
    let b : Building = c.args.builder.now in
    let t1 : c.tell_inputs.new.builder ≡ told b (to_inputs names library test m) = c.in_ok-tell_inputs.ensures ∙ ap (told b) (ap (input_parts names) (c.inputs.ensures ∙ ap (λ (d : Circuit). d.inputs) c.netlist-netlist.ensures.netlist)) in
    let t2 = call_told b c.tell_inputs.new.builder c.tell_test.new.builder (to_inputs names library test m) (the_test names library test m) (input_parts names (option_to_list c.test_net.result)) t1 (ap (λ o. input_parts names (option_to_list o)) c.test_net.ensures) c.in_ok-tell_test.ensures in
    let t3 = call_told b c.tell_test.new.builder c.tell_outputs.new.builder (to_test names library test m) (the_outputs names library test m) (output_parts names c.outputs.result.now) t2 (ap (output_parts names) (c.outputs.ensures ∙ ap (λ (d : Circuit). d.outputs) c.netlist-netlist.ensures.netlist)) c.in_ok-tell_outputs.ensures in
    let t4 = call_told b c.tell_outputs.new.builder c.tell_clock.new.builder (to_outputs names library test m) (the_clock names library test m) (clock_parts names c.clock.result) t3 (ap (clock_parts names) (c.clock.ensures ∙ ap (λ (d : Circuit). d.clock) c.netlist-netlist.ensures.netlist)) c.in_ok-tell_clock.ensures in
    let t5 = call_told b c.tell_clock.new.builder c.tell_cells.new.builder (to_clock names library test m) (the_cells names library test m) (cell_parts names c.netlist-netlist.result.now.cells) t4 (ap (λ (d : Circuit). cell_parts names d.cells) c.netlist-netlist.ensures.netlist) c.in_ok-tell_cells.ensures in
    let t6 = call_told b c.tell_cells.new.builder c.tell_gates.new.builder (to_cells names library test m) (the_gates names library test m) (the_gates names library test m) t5 (refl) c.in_ok-tell_gates.ensures in
    let t7 = call_told b c.tell_gates.new.builder c.tell_gaters.new.builder (to_gates names library test m) (the_gaters names library test m) (the_gaters names library test m) t6 (refl) c.in_ok-tell_gaters.ensures in
    call_may b c.tell_gaters.new.builder (to_gaters names library test m) (the_registers names library test m) (the_registers names library test m) (may_registers names library test m b c.requires.parts) t7 (refl)

pub returns : goal.returns
returns c =
    let names = c.args.names.now in
    let m = c.args.gating.now.machine.now in
    let library = c.args.gating.now.library.now in
    let test = option_copied c.args.gating.now.test in
    let b : Building = c.args.builder.now in
    let t1 : c.tell_inputs.new.builder ≡ told b (to_inputs names library test m) = c.in_ok-tell_inputs.ensures ∙ ap (told b) (ap (input_parts names) (c.inputs.ensures ∙ ap (λ (d : Circuit). d.inputs) c.netlist-netlist.ensures.netlist)) in
    let t2 = call_told b c.tell_inputs.new.builder c.tell_test.new.builder (to_inputs names library test m) (the_test names library test m) (input_parts names (option_to_list c.test_net.result)) t1 (ap (λ o. input_parts names (option_to_list o)) c.test_net.ensures) c.in_ok-tell_test.ensures in
    let t3 = call_told b c.tell_test.new.builder c.tell_outputs.new.builder (to_test names library test m) (the_outputs names library test m) (output_parts names c.outputs.result.now) t2 (ap (output_parts names) (c.outputs.ensures ∙ ap (λ (d : Circuit). d.outputs) c.netlist-netlist.ensures.netlist)) c.in_ok-tell_outputs.ensures in
    let t4 = call_told b c.tell_outputs.new.builder c.tell_clock.new.builder (to_outputs names library test m) (the_clock names library test m) (clock_parts names c.clock.result) t3 (ap (clock_parts names) (c.clock.ensures ∙ ap (λ (d : Circuit). d.clock) c.netlist-netlist.ensures.netlist)) c.in_ok-tell_clock.ensures in
    let t5 = call_told b c.tell_clock.new.builder c.tell_cells.new.builder (to_clock names library test m) (the_cells names library test m) (cell_parts names c.netlist-netlist.result.now.cells) t4 (ap (λ (d : Circuit). cell_parts names d.cells) c.netlist-netlist.ensures.netlist) c.in_ok-tell_cells.ensures in
    let t6 = call_told b c.tell_cells.new.builder c.tell_gates.new.builder (to_cells names library test m) (the_gates names library test m) (the_gates names library test m) t5 (refl) c.in_ok-tell_gates.ensures in
    let t7 = call_told b c.tell_gates.new.builder c.tell_gaters.new.builder (to_gates names library test m) (the_gaters names library test m) (the_gaters names library test m) t6 (refl) c.in_ok-tell_gaters.ensures in
    call_tells b c.tell_gaters.new.builder c.tell_registers.new.builder (to_gaters names library test m) (the_registers names library test m) (the_registers names library test m) t7 refl c.tell_registers.result c.tell_registers.ensures
