use Rattle.std.proofs.Common.{◌≡◌, ℕ, length, List, Bor, IsTrue, Option, Some, Ok, refl, slice_get, map, sym, ap, ◌∙◌, subst}
use Rattle.std.specs.List.{AllByRecursion}
use Rattle.std.specs.Option.{option_copied, option_to_list}
use Rattle.cg_cell.specs.Name.{is_name}
use Rattle.cg_cell.specs.Pins.{is_clock, is_enable, is_output, is_test}
use Rattle.cg_cell.specs.declared.cell.CellKind.TheVariants.{Gater as GaterKind}
use Rattle.cg_netlist_builder.specs.Calls.{gater_of}
use Rattle.cg_netlist_parts.specs.Part.{GaterPart, mentioned}
use Rattle.cg_netlist_placed.specs.Placed.{at_role, nets_at, part_or, placed_part}
use Rattle.cg_netlist_placed.proofs.AddingLemmas.{first_net, gater_named, gater_said, gater_test, no_clock, no_enable, no_output}
use Rattle.cg_netlist_placed.proofs.AddingLemmas.{one_at, told_part}
use Rattle.cg_netlist_placed.proofs.adding.add_gater.Goals as goal

abbrev bytes : List (Bor (List ℕ)) → List (List ℕ)
bytes nets = map (λ (net : Bor (List ℕ)). net.now) nets

-- src/adding.rt:120:9
pub returns-then-len-ne1 : goal.returns-then-len-ne1
returns-then-len-ne1 c =
    let nets = nets_at c.args.cell.now.pins c.args.words.now in
    let k = at_role is_clock c.args.cell.now.pins nets in
    let e = at_role is_enable c.args.cell.now.pins nets in
    let t = at_role is_test c.args.cell.now.pins nets in
    let o = at_role is_output c.args.cell.now.pins nets in (
      elim c.then-len-ne1.branch [
        | goal.then-len-ne1-via-then-len-ne1 w ↦ no_clock c.args.cell.now k e t o c.in_ok-clocks.clocks.items c.in_ok-clocks.ensures.nets (λ one. w.if-len-ne1.true (c.len.ensures ∙ c.in_ok-clocks.clocks.ok.0 ∙ one))
        | goal.then-len-ne1-via-else-len-ne1+then-len-ne1-2 w ↦ no_enable c.args.cell.now k e t o c.in_ok-enables.enables.items c.in_ok-enables.ensures.nets (λ one. w.if-len-ne1-2.true (w.len-else-len-ne1.ensures ∙ c.in_ok-enables.enables.ok.0 ∙ one))
        | goal.then-len-ne1-via-else-len-ne1+else-len-ne1-2+then-len-ne1-3 w ↦ no_output c.args.cell.now k e t o c.in_ok-outputs.outputs.items c.in_ok-outputs.ensures.nets (λ one. w.if-len-ne1-3.true (w.len-else-len-ne1-2.ensures ∙ c.in_ok-outputs.outputs.ok.0 ∙ one))
      ],
      refl,
    )

-- src/adding.rt:123:11
pub gater-requires-clause-test : goal.gater-requires-clause-test
gater-requires-clause-test c =
    let nets = nets_at c.args.cell.now.pins c.args.words.now in
    let one_clock : length c.in_ok-clocks.clocks.items ≡ 1 = sym c.in_ok-clocks.clocks.ok.0 ∙ sym c.len.ensures ∙ c.if-len-ne1.false in
    let one_enable : length c.in_ok-enables.enables.items ≡ 1 = sym c.in_ok-enables.enables.ok.0 ∙ sym c.len-else-len-ne1.ensures ∙ c.if-len-ne1-2.false in
    let one_output : length c.in_ok-outputs.outputs.items ≡ 1 = sym c.in_ok-outputs.outputs.ok.0 ∙ sym c.len-else-len-ne1-2.ensures ∙ c.if-len-ne1-3.false in
    let k = one_at (at_role is_clock c.args.cell.now.pins nets) c.in_ok-clocks.clocks.items c.index.result.now c.in_ok-clocks.ensures.nets one_clock c.index.ensures in
    let e = one_at (at_role is_enable c.args.cell.now.pins nets) c.in_ok-enables.enables.items c.index-2.result.now c.in_ok-enables.ensures.nets one_enable c.index-2.ensures in
    let o = one_at (at_role is_output c.args.cell.now.pins nets) c.in_ok-outputs.outputs.items c.index-3.result.now c.in_ok-outputs.ensures.nets one_output c.index-3.ensures in
    let first : option_copied c.copied-test.result ≡ slice_get (bytes c.deref.result.now) 0 = first_net c.deref.result.now c.copied-test.result (c.copied-test.ensures ∙ c.first.ensures.value) in
    let t : Some (bytes c.deref.result.now) ≡ at_role is_test c.args.cell.now.pins nets = ap (λ xs. Some (bytes xs)) c.deref.ensures.value ∙ sym c.in_ok-tests.ensures.nets in
    gater_test c.args.cell.now c.args.words.now c.all_at.ensures.cell c.requires.words c.requires.kind c.index.result.now.now c.index-2.result.now.now c.index-3.result.now.now (bytes c.deref.result.now) k e t o ∙ ap (λ (net : Option (List ℕ)). length (option_to_list net)) (sym first)

-- src/adding.rt:123:11
pub gater-requires-clause-nets : goal.gater-requires-clause-nets
gater-requires-clause-nets c =
    let nets = nets_at c.args.cell.now.pins c.args.words.now in
    let one_clock : length c.in_ok-clocks.clocks.items ≡ 1 = sym c.in_ok-clocks.clocks.ok.0 ∙ sym c.len.ensures ∙ c.if-len-ne1.false in
    let one_enable : length c.in_ok-enables.enables.items ≡ 1 = sym c.in_ok-enables.enables.ok.0 ∙ sym c.len-else-len-ne1.ensures ∙ c.if-len-ne1-2.false in
    let one_output : length c.in_ok-outputs.outputs.items ≡ 1 = sym c.in_ok-outputs.outputs.ok.0 ∙ sym c.len-else-len-ne1-2.ensures ∙ c.if-len-ne1-3.false in
    let k = one_at (at_role is_clock c.args.cell.now.pins nets) c.in_ok-clocks.clocks.items c.index.result.now c.in_ok-clocks.ensures.nets one_clock c.index.ensures in
    let e = one_at (at_role is_enable c.args.cell.now.pins nets) c.in_ok-enables.enables.items c.index-2.result.now c.in_ok-enables.ensures.nets one_enable c.index-2.ensures in
    let o = one_at (at_role is_output c.args.cell.now.pins nets) c.in_ok-outputs.outputs.items c.index-3.result.now c.in_ok-outputs.ensures.nets one_output c.index-3.ensures in
    let first : option_copied c.copied-test.result ≡ slice_get (bytes c.deref.result.now) 0 = first_net c.deref.result.now c.copied-test.result (c.copied-test.ensures ∙ c.first.ensures.value) in
    let t : Some (bytes c.deref.result.now) ≡ at_role is_test c.args.cell.now.pins nets = ap (λ xs. Some (bytes xs)) c.deref.ensures.value ∙ sym c.in_ok-tests.ensures.nets in
    subst (λ (net : Option (List ℕ)). AllByRecursion (λ name. IsTrue (is_name name)) (mentioned (GaterPart (gater_of c.args.cell.now c.index.result.now.now c.index-2.result.now.now net c.index-3.result.now.now)))) (sym first) (gater_named c.args.cell.now c.args.words.now c.all_at.ensures.cell c.requires.words c.requires.kind c.index.result.now.now c.index-2.result.now.now c.index-3.result.now.now (bytes c.deref.result.now) k e t o)

-- src/adding.rt:103:1
pub returns : goal.returns
returns c =
    let nets = nets_at c.args.cell.now.pins c.args.words.now in
    let one_clock : length c.in_ok-clocks.clocks.items ≡ 1 = sym c.in_ok-clocks.clocks.ok.0 ∙ sym c.len.ensures ∙ c.if-len-ne1.false in
    let one_enable : length c.in_ok-enables.enables.items ≡ 1 = sym c.in_ok-enables.enables.ok.0 ∙ sym c.len-else-len-ne1.ensures ∙ c.if-len-ne1-2.false in
    let one_output : length c.in_ok-outputs.outputs.items ≡ 1 = sym c.in_ok-outputs.outputs.ok.0 ∙ sym c.len-else-len-ne1-2.ensures ∙ c.if-len-ne1-3.false in
    let k = one_at (at_role is_clock c.args.cell.now.pins nets) c.in_ok-clocks.clocks.items c.index.result.now c.in_ok-clocks.ensures.nets one_clock c.index.ensures in
    let e = one_at (at_role is_enable c.args.cell.now.pins nets) c.in_ok-enables.enables.items c.index-2.result.now c.in_ok-enables.ensures.nets one_enable c.index-2.ensures in
    let o = one_at (at_role is_output c.args.cell.now.pins nets) c.in_ok-outputs.outputs.items c.index-3.result.now c.in_ok-outputs.ensures.nets one_output c.index-3.ensures in
    let first : option_copied c.copied-test.result ≡ slice_get (bytes c.deref.result.now) 0 = first_net c.deref.result.now c.copied-test.result (c.copied-test.ensures ∙ c.first.ensures.value) in
    let t : Some (bytes c.deref.result.now) ≡ at_role is_test c.args.cell.now.pins nets = ap (λ xs. Some (bytes xs)) c.deref.ensures.value ∙ sym c.in_ok-tests.ensures.nets in
    let said = gater_said c.args.cell.now c.args.words.now c.all_at.ensures.cell c.requires.words c.requires.kind c.index.result.now.now c.index-2.result.now.now c.index-3.result.now.now (bytes c.deref.result.now) k e t o ∙ ap (λ (net : Option (List ℕ)). Ok (GaterPart (gater_of c.args.cell.now c.index.result.now.now c.index-2.result.now.now net c.index-3.result.now.now))) (sym first) in
    told_part c.args.builder.now c.gater.new.self (GaterPart (gater_of c.args.cell.now c.index.result.now.now c.index-2.result.now.now (option_copied c.copied-test.result) c.index-3.result.now.now)) (part_or (placed_part GaterKind c.args.cell.now nets)) c.gater.result c.told.result said c.gater.ensures c.told.ensures
