use Rattle.std.proofs.Common.{◌≡◌, ◌<◌, ℕ, length, map, sym, ◌∙◌, ap, subst}
use Rattle.std.specs.List.{All}
use Rattle.std.specs.Option.{option_map}
use Rattle.std.proofs.lemmas.List.{length-map, with_items_is}
use Rattle.cg_netlist_builder.specs.inner.Renumbering.{number_in}
use Rattle.cg_netlist_builder.specs.inner.Numbers.{clock_number, on_number, wired_numbers}
use Rattle.cg_netlist.specs.Wiring.{map_cell, map_gater, map_register}
use Rattle.cg_net.specs.Names.{net_name}
use Rattle.cg_netlist_builder.proofs.ToldNets.{cells_asked, clock_asked, registers_asked}
use Rattle.cg_netlist_builder.proofs.order.renumbered.Goals as goal

pub renumber_cells-requires : goal.renumber_cells-requires
renumber_cells-requires c = cells_asked c.args.told c.requires.ready.numbers c.deref_mut-3.result.now (length c.args.places.now) c.requires.places (c.deref_mut-3.ensures.value ∙ ap (λ d. d.cells) c.told.view_is)

pub renumber_registers-requires : goal.renumber_registers-requires
renumber_registers-requires c =
    let n = c.args.told in
    registers_asked n c.requires.ready.numbers c.requires.ready.clocked c.deref_mut-5.result.now (length c.args.places.now) c.requires.places
    (c.deref_mut-5.ensures.value ∙ (c.in_ok-registers.ensures ∙ (ap (λ k. map (on_number k) c.told.inside.registers.items) c.requires.clock ∙ ap (λ d. map (on_number (clock_number n)) d.registers) c.told.view_is)))

pub renumbered_given-requires : goal.renumbered_given-requires
renumbered_given-requires c = clock_asked c.args.told c.requires.ready.numbers c.args.clock (length c.args.places.now) c.requires.places c.requires.clock

pub new-requires-clause-nets : goal.new-requires-clause-nets
new-requires-clause-nets c = subst (λ ns. All (λ net. net < length ns) c.args.order.items) (sym (ap (λ d. d.names) c.told.view_is)) c.requires.nets

pub returns : goal.returns
returns c =
    let n = c.args.told in
    let num : ℕ → ℕ = number_in c.args.places.now in
    let inputs : c.renumber.new.nets ≡ map num n.inputs = c.renumber.ensures ∙ ap (map num) (c.deref_mut.ensures.value ∙ (c.into_vec-inputs.ensures ∙ ap (λ d. d.inputs) c.told.view_is)) in
    let outputs : c.renumber-2.new.nets ≡ map num n.outputs = c.renumber-2.ensures ∙ ap (map num) (c.deref_mut-2.ensures.value ∙ (c.into_vec-outputs.ensures ∙ ap (λ d. d.outputs) c.told.view_is)) in
    let cells : c.renumber_cells.new.cells ≡ map (map_cell num) n.cells = c.renumber_cells.ensures ∙ ap (map (map_cell num)) (c.deref_mut-3.ensures.value ∙ ap (λ d. d.cells) c.told.view_is) in
    let gaters : c.renumber_gaters.new.gaters ≡ map (map_gater num) n.gaters = c.renumber_gaters.ensures ∙ ap (map (map_gater num)) (c.deref_mut-4.ensures.value ∙ ap (λ d. d.gaters) c.told.view_is) in
    let registers : c.renumber_registers.new.registers ≡ map (map_register num) (wired_numbers n).registers = c.renumber_registers.ensures ∙ ap (map (map_register num)) (c.deref_mut-5.ensures.value ∙ (c.in_ok-registers.ensures ∙ (ap (λ k. map (on_number k) c.told.inside.registers.items) c.requires.clock ∙ ap (λ d. map (on_number (clock_number n)) d.registers) c.told.view_is))) in
    let clock : c.renumbered_given.result ≡ option_map num (clock_number n) = c.renumbered_given.ensures ∙ ap (option_map num) c.requires.clock in
    let inputs_put = with_items_is c.into_vec-inputs.result c.renumber.new.nets (ap length c.renumber.ensures ∙ (length-map c.deref_mut.result.now num ∙ c.deref_mut.ensures.len)) ∙ inputs in
    let outputs_put = with_items_is c.into_vec-outputs.result c.renumber-2.new.nets (ap length c.renumber-2.ensures ∙ (length-map c.deref_mut-2.result.now num ∙ c.deref_mut-2.ensures.len)) ∙ outputs in
    let cells_put = with_items_is c.told.inside.cells c.renumber_cells.new.cells (ap length c.renumber_cells.ensures ∙ (length-map c.deref_mut-3.result.now (map_cell num) ∙ c.deref_mut-3.ensures.len)) ∙ cells in
    let gaters_put = with_items_is c.told.inside.gaters c.renumber_gaters.new.gaters (ap length c.renumber_gaters.ensures ∙ (length-map c.deref_mut-4.result.now (map_gater num) ∙ c.deref_mut-4.ensures.len)) ∙ gaters in
    let registers_put = with_items_is c.in_ok-registers.registers c.renumber_registers.new.registers (ap length c.renumber_registers.ensures ∙ (length-map c.deref_mut-5.result.now (map_register num) ∙ c.deref_mut-5.ensures.len)) ∙ registers in
    let names_put = c.in_ok-names.ensures ∙ ap (λ d. map (net_name d.names) c.args.order.items) c.told.view_is in
    λ i. record { model = c.args.model; names = names_put i; inputs = inputs_put i; clock = clock i; outputs = outputs_put i; cells = cells_put i; gaters = gaters_put i; registers = registers_put i }
