-- The whole text, piece by piece.
use Rattle.std.proofs.Common.{[], ◌≡◌, ℕ, Bool, true, false, List, ◌∷◌, ◌++◌, map, length, refl, ap, sym, ◌∙◌, append_assoc, append-nil}
use Rattle.std.proofs.Common.{Option, None, Some, Ok, Err, subst}
use Rattle.std.specs.List.{AllByRecursion, flat_map}
use Rattle.std.proofs.lemmas.Grind.{flat_map-append}
use Rattle.std.proofs.lemmas.List.{map-append}
use Rattle.cg_net.specs.Names.{NetName, net_name}
use Rattle.cg_netlist.specs.Circuit.{Circuit, RegisterCell}
use Rattle.cg_netlist.specs.Netlist.{IsNetlist}
use Rattle.cg_netlist.specs.Wiring.{map_cell, map_gater, map_register, named}
use Rattle.cg_netlist.specs.declared.parts.RegisterKind.{RegisterKind}
use Rattle.cg_netlist.specs.declared.parts.RegisterKind.TheVariants.{Plain, Flop}
use Rattle.cg_netlist.proofs.Each.{each_together}
use Rattle.cg_netlist_parts.proofs.ToldByNames.{wiring_within}
use Rattle.cg_verilog_text.specs.HasText.{names_in, names_of}
use Rattle.cg_verilog_text.specs.Items.{Item}
use Rattle.cg_verilog_text.specs.Kept.{inputs_and_clock}
use Rattle.cg_verilog_text.specs.Written.{item_line, module_end, module_line, verilog}
use Rattle.cg_verilog_text.specs.WrittenItems.{cell_item, declared_items, gater_item, input_item, inputs_with_clock, kind_declared, labelled}
use Rattle.cg_verilog_text.specs.WrittenItems.{labels, most_placed, output_item, register_items, wiring_items}
use Rattle.cg_verilog_text.proofs.NamedKept.{clock_too}
use Rattle.cg_verilog_out.specs.Writing.{cell_items, declaration_lines, flop_items, gater_items, head_text, input_line, output_line, parts_items}
use Rattle.cg_verilog_out.specs.Writing.{Writes, parts_text}
use Rattle.cg_verilog_out.proofs.Lines.{IsUnplaced, labelled_behind, writes_both}

-- lists of lists
under_map : {X Y A : Type 0} (f : Y → List A) (g : X → Y) (xs : List X) → flat_map f (map g xs) ≡ flat_map (λ x. f (g x)) xs
under_map f g [] = refl
under_map f g (x ∷ xs) = ap (λ later. f (g x) ++ later) (under_map f g xs)

one_by_one : {X Y Z : Type 0} (f : Y → Z) (g : X → Y) (xs : List X) → map f (map g xs) ≡ flat_map (λ x. f (g x) ∷ []) xs
one_by_one f g [] = refl
one_by_one f g (x ∷ xs) = ap (λ later. f (g x) ∷ later) (one_by_one f g xs)

lines_of : {X : Type 0} (f : X → List Item) (xs : List X) → flat_map item_line (flat_map f xs) ≡ flat_map (λ x. flat_map item_line (f x)) xs
lines_of f [] = refl
lines_of f (x ∷ xs) = flat_map-append item_line (f x) (flat_map f xs) ∙ ap (λ later. flat_map item_line (f x) ++ later) (lines_of f xs)

-- inputs, outputs and declarations place no cell
inputs_place_none : (nets : List NetName) → AllByRecursion IsUnplaced (map input_item nets)
inputs_place_none [] = tt
inputs_place_none (net ∷ nets) = (refl, inputs_place_none nets)

outputs_place_none : (nets : List NetName) → AllByRecursion IsUnplaced (map output_item nets)
outputs_place_none [] = tt
outputs_place_none (net ∷ nets) = (refl, outputs_place_none nets)

declarations_place_none : (rs : List (RegisterCell NetName NetName)) → AllByRecursion IsUnplaced (flat_map declared_items rs)
declarations_place_none [] = tt
declarations_place_none (r ∷ rs) = each_together IsUnplaced (declared_items r) (flat_map declared_items rs) (go r.kind) (declarations_place_none rs)
  where
    go : (kind : RegisterKind) → AllByRecursion IsUnplaced (kind_declared r kind)
    go Plain = (refl, tt)
    go (Flop cell) = tt

module _ (c : Circuit) (is : IsNetlist c) where
  abbrev name : ℕ → NetName
  name = net_name c.names

  abbrev nets : List ℕ
  nets = inputs_and_clock c.inputs c.clock

  inputs_are : inputs_with_clock (named c) ≡ map name nets
  inputs_are =
      let within = wiring_within c is.well_formed is.in_order in
      sym (map-append name c.inputs _ ∙ ap (λ l. map name c.inputs ++ l) (clock_too c is.well_formed is.in_order c.inputs c.clock within.inputs within.clock))

  abbrev i1 : List Item
  i1 = map input_item (map name nets)

  abbrev i2 : List Item
  i2 = map output_item (map name c.outputs)

  abbrev i3 : List Item
  i3 = flat_map declared_items (map (map_register name) c.registers)

  front_unplaced : AllByRecursion IsUnplaced (i1 ++ i2 ++ i3)
  front_unplaced =
      each_together IsUnplaced (i1 ++ i2) i3 (each_together IsUnplaced i1 i2 (inputs_place_none (map name nets)) (outputs_place_none (map name c.outputs)))
      (declarations_place_none (map (map_register name) c.registers))

  cells_are : map cell_item (map (map_cell name) c.cells) ≡ flat_map (cell_items c.names) c.cells
  cells_are = one_by_one cell_item (map_cell name) c.cells

  gaters_are : map gater_item (map (map_gater name) c.gaters) ≡ flat_map (gater_items c.names) c.gaters
  gaters_are = one_by_one gater_item (map_gater name) c.gaters

  registers_are : flat_map register_items (map (map_register name) c.registers) ≡ flat_map (flop_items c.names) c.registers
  registers_are = under_map register_items (map_register name) c.registers

  items_are : wiring_items (named c) ≡ (i1 ++ i2 ++ i3) ++ parts_items c
  items_are =
      let p4 = map cell_item (map (map_cell name) c.cells) in
      let p5 = map gater_item (map (map_gater name) c.gaters) in
      let p6 = flat_map register_items (map (map_register name) c.registers) in
      ap (λ ins. map input_item ins ++ i2 ++ i3 ++ p4 ++ p5 ++ p6) inputs_are
      ∙ (let e : ((((i1 ++ i2) ++ i3) ++ p4) ++ p5) ++ p6 ≡ ((i1 ++ i2) ++ i3) ++ (p4 ++ (p5 ++ p6)) = simp append_assoc in e)
      ∙ (ap (λ l. ((i1 ++ i2) ++ i3) ++ (l ++ (p5 ++ p6))) cells_are
      ∙ (ap (λ l. ((i1 ++ i2) ++ i3) ++ (flat_map (cell_items c.names) c.cells ++ (l ++ p6))) gaters_are
      ∙ ap (λ l. ((i1 ++ i2) ++ i3) ++ (flat_map (cell_items c.names) c.cells ++ (flat_map (gater_items c.names) c.gaters ++ l))) registers_are))

  abbrev texts : List (List ℕ)
  texts = labels c.names (most_placed (named c))

  front_lines : flat_map item_line (i1 ++ i2 ++ i3) ≡ flat_map (input_line c.names) nets ++ (flat_map (output_line c.names) c.outputs ++ flat_map (declaration_lines c.names) c.registers)
  front_lines =
      flat_map-append item_line (i1 ++ i2) i3
      ∙ (ap (λ l. l ++ flat_map item_line i3) (flat_map-append item_line i1 i2)
      ∙ (append_assoc (flat_map item_line i1) (flat_map item_line i2) (flat_map item_line i3)
      ∙ (ap (λ l. l ++ (flat_map item_line i2 ++ flat_map item_line i3)) (under_map item_line input_item (map name nets) ∙ under_map (λ n. item_line (input_item n)) name nets)
      ∙ (ap (λ l. flat_map (input_line c.names) nets ++ (l ++ flat_map item_line i3)) (under_map item_line output_item (map name c.outputs) ∙ under_map (λ n. item_line (output_item n)) name c.outputs)
      ∙ ap (λ l. flat_map (input_line c.names) nets ++ (flat_map (output_line c.names) c.outputs ++ l)) (lines_of declared_items (map (map_register name) c.registers) ∙ under_map (λ r. flat_map item_line (declared_items r)) (map_register name) c.registers)))))

  pub whole_text : verilog c ≡ head_text c ++ (parts_text c ++ module_end)
  whole_text =
      let m = module_line c.model (map name (nets ++ c.outputs)) in
      let front = i1 ++ i2 ++ i3 in
      let ports : module_line c.model (inputs_with_clock (named c) ++ map name c.outputs) ≡ m = ap (λ l. module_line c.model l) (ap (λ l. l ++ map name c.outputs) inputs_are ∙ sym (map-append name nets c.outputs)) in
      let body : flat_map item_line (labelled texts (wiring_items (named c))) ≡ flat_map item_line front ++ parts_text c =
      ap (λ is. flat_map item_line (labelled texts is)) items_are ∙ (ap (flat_map item_line) (labelled_behind texts front (parts_items c) front_unplaced) ∙ flat_map-append item_line front (labelled texts (parts_items c))) in
      ap (λ l. l ++ flat_map item_line (labelled texts (wiring_items (named c))) ++ module_end) ports
      ∙ (ap (λ l. m ++ l ++ module_end) (body ∙ ap (λ l. l ++ parts_text c) front_lines)
      ∙ out m (flat_map (input_line c.names) nets) (flat_map (output_line c.names) c.outputs) (flat_map (declaration_lines c.names) c.registers) (parts_text c))
    where
      out : (m a b d p : List ℕ) → m ++ ((a ++ (b ++ d)) ++ p) ++ module_end ≡ (m ++ (a ++ (b ++ d))) ++ (p ++ module_end)
      out m a b d p = simp append_assoc

  -- the names of the netlist are those of its model, of its nets, and of its parts
  inputs_name_none : (nets : List NetName) → flat_map names_in (map input_item nets) ≡ []
  inputs_name_none [] = refl
  inputs_name_none (net ∷ nets) = inputs_name_none nets

  outputs_name_none : (nets : List NetName) → flat_map names_in (map output_item nets) ≡ []
  outputs_name_none [] = refl
  outputs_name_none (net ∷ nets) = outputs_name_none nets

  declarations_name_none : (rs : List (RegisterCell NetName NetName)) → flat_map names_in (flat_map declared_items rs) ≡ []
  declarations_name_none [] = refl
  declarations_name_none (r ∷ rs) = flat_map-append names_in (declared_items r) (flat_map declared_items rs) ∙ (ap (λ l. l ++ flat_map names_in (flat_map declared_items rs)) (go r.kind) ∙ declarations_name_none rs)
    where
      go : (kind : RegisterKind) → flat_map names_in (kind_declared r kind) ≡ []
      go Plain = refl
      go (Flop cell) = refl

  front_names : flat_map names_in (i1 ++ i2 ++ i3) ≡ []
  front_names =
      flat_map-append names_in (i1 ++ i2) i3
      ∙ (ap (λ l. l ++ flat_map names_in i3) (flat_map-append names_in i1 i2 ∙ (ap (λ l. l ++ flat_map names_in i2) (inputs_name_none (map name nets)) ∙ outputs_name_none (map name c.outputs)))
      ∙ declarations_name_none (map (map_register name) c.registers))

  pub names_are : names_of c ≡ (c.model ∷ c.names) ++ flat_map names_in (parts_items c)
  names_are =
      ap (λ is. c.model ∷ (c.names ++ flat_map names_in is)) items_are
      ∙ ap (λ l. c.model ∷ (c.names ++ l)) (flat_map-append names_in (i1 ++ i2 ++ i3) (parts_items c) ∙ ap (λ l. l ++ flat_map names_in (parts_items c)) front_names)

  -- the text that is written, piece by piece
  pub all_written : (empty front before new : List ℕ) → empty ≡ [] → front ≡ empty ++ head_text c → before ≡ front ++ parts_text c → new ≡ before ++ module_end → new ≡ verilog c
  all_written empty front before new none head parts end =
      end ∙ (ap (λ l. l ++ module_end) (parts ∙ ap (λ l. l ++ parts_text c) (head ∙ ap (λ l. l ++ head_text c) none))
      ∙ (append_assoc (head_text c) (parts_text c) module_end ∙ sym whole_text))

pub parts_written : (c : Circuit) (a b d e : List ℕ) (l m n o : List (List ℕ)) → l ≡ labels c.names (most_placed (named c)) → Writes (flat_map (cell_items c.names) c.cells) a b l m → Writes (flat_map (gater_items c.names) c.gaters) b d m n
    → Writes (flat_map (flop_items c.names) c.registers) d e n o → e ≡ a ++ parts_text c
parts_written c a b d e l m n o texts cells gaters registers =
    let rest = writes_both (flat_map (gater_items c.names) c.gaters) (flat_map (flop_items c.names) c.registers) b d e m n o gaters registers in
    let all = writes_both (flat_map (cell_items c.names) c.cells) (flat_map (gater_items c.names) c.gaters ++ flat_map (flop_items c.names) c.registers) a b e l m o cells rest in
    all.text ∙ ap (λ t. a ++ flat_map item_line (labelled t (parts_items c))) texts

pub ruleset pieces = (append_assoc)
