-- The nets of a cell's pins go into words and come back.
use Rattle.std.specs.Prelude.{◌≡◌, ◌+◌, Bool, true, false, not, if◌then◌else◌, List, [], ◌∷◌, map, length, count_by, slice_get}
use Rattle.std.specs.Prelude.{Option, None, Some}
use Rattle.std.proofs.Common.{refl, ap, ◌∙◌, sym, subst, arith, cond}
use Rattle.std.specs.List.{filter, find}
use Rattle.std.specs.Option.{option_and_then, option_to_list}
use Rattle.std.specs.Str.{bytes_eq}
use Rattle.std.proofs.lemmas.Bool.{and_parts, both_ways, false_from_ne_true, or_parts}
use Rattle.std.proofs.lemmas.List.{length-map}
use Rattle.std.proofs.lemmas.List.Sums.{sum_by-cons}
use Rattle.cg_cell.specs.Cell.{HasGaterPins, HasPins}
use Rattle.cg_cell.specs.Name.{are_distinct}
use Rattle.cg_cell.specs.Pins.{PinData, is_clock, is_enable, is_output, is_test}
use Rattle.cg_cell.specs.declared.cell.CellKind.TheVariants.{Gater as GaterKind}
use Rattle.cg_cell.specs.declared.cell.Role.{Role}
use Rattle.cg_cell.specs.declared.cell.Role.TheVariants.{Clock, Enable, Test, Output}
use Rattle.cg_net.specs.Names.{NetName, is_known}
use Rattle.cg_netlist.specs.Circuit.{GatingCell}
use Rattle.cg_netlist_parts.specs.Part.{GaterPart}
use Rattle.cg_netlist_parts.specs.Says.{GaterFits}
use Rattle.cg_netlist_parts.proofs.KnownNames.{itself, same_word}
use Rattle.cg_netlist_placed.specs.PinsOf.{gater_net}
use Rattle.cg_netlist_placed.specs.PinNets.{PinNet}
use Rattle.cg_netlist_placed.specs.Placed.{at_role, gater_part, given, nets_at, placed_part, put_net}
use Rattle.cg_netlist_placed.specs.PinsOf.{pin_pairs}

-- the nets at the pins of a gating cell
abbrev pub gater_nets : GatingCell NetName → List PinData → List (Option NetName)
gater_nets g pins = map (gater_net g) pins

abbrev pub names : List PinData → List NetName
names pins = map (λ pin. pin.name) pins

-- words of other pins give a pin nothing
unnamed : (pin : PinData) (pins : List PinData) (nets : List (Option NetName)) → is_known (names pins) pin.name ≡ false → given (pin_pairs pins nets) pin ≡ None
unnamed pin [] nets none = refl
unnamed pin (p ∷ pins) [] none = refl
unnamed pin (p ∷ pins) (None ∷ nets) none = unnamed pin pins nets (or_parts (bytes_eq pin.name p.name) (is_known (names pins) pin.name) none).1
unnamed pin (p ∷ pins) (Some net ∷ nets) none =
    let parts = or_parts (bytes_eq pin.name p.name) (is_known (names pins) pin.name) none in
    ap (λ b. option_and_then (λ (word : PinNet). word.net) (if b then Some (record { pin = p.name; net = Some net }) else find (λ (word : PinNet). bytes_eq pin.name word.pin) (pin_pairs pins nets))) parts.0 ∙ unnamed pin pins nets parts.1

-- a word of another pin is passed over
passed : (key net : NetName) (words : List PinNet) (pins : List PinData) → is_known (names pins) key ≡ false → nets_at pins (record { pin = key; net = Some net } ∷ words) ≡ nets_at pins words
passed key net words [] none = refl
passed key net words (p ∷ pins) none =
    let parts = or_parts (bytes_eq key p.name) (is_known (names pins) key) none in
    let other : bytes_eq p.name key ≡ false = false_from_ne_true (bytes_eq p.name key) (λ same. both_ways (bytes_eq key p.name) parts.0 (ap (bytes_eq key) (same_word p.name key same) ∙ itself key)) in
    ap (λ b. option_and_then (λ (word : PinNet). word.net) (if b then Some (record { pin = key; net = Some net }) else find (λ (word : PinNet). bytes_eq p.name word.pin) words) ∷ nets_at pins (record { pin = key; net = Some net } ∷ words)) other
    ∙ ap (λ os. given words p ∷ os) (passed key net words pins parts.1)

pub nets_back : (pins : List PinData) (nets : List (Option NetName)) → are_distinct (names pins) ≡ true → length nets ≡ length pins → nets_at pins (pin_pairs pins nets) ≡ nets
nets_back [] [] distinct long = refl
nets_back [] (net ∷ nets) distinct long = absurd (omega arith)
nets_back (p ∷ pins) [] distinct long = absurd (omega arith)
nets_back (p ∷ pins) (net ∷ nets) distinct long = go net
    (and_parts (not (is_known (names pins) p.name)) (are_distinct (names pins)) distinct).0
    (nets_back pins nets (and_parts (not (is_known (names pins) p.name)) (are_distinct (names pins)) distinct).1 (omega (arith, long)))
  where
    unknown : (b : Bool) → not b ≡ true → b ≡ false
    unknown true is = absurd (both_ways false refl is)
    unknown false is = refl

    go : (o : Option NetName) → not (is_known (names pins) p.name) ≡ true → nets_at pins (pin_pairs pins nets) ≡ nets → nets_at (p ∷ pins) (pin_pairs (p ∷ pins) (o ∷ nets)) ≡ o ∷ nets
    go None none rest = ap (λ x. x ∷ nets_at pins (pin_pairs pins nets)) (unnamed p pins nets (unknown (is_known (names pins) p.name) none)) ∙ ap (λ xs. None ∷ xs) rest
    go (Some x) none rest =
        ap (λ b. option_and_then (λ (word : PinNet). word.net) (if b then Some (record { pin = p.name; net = Some x }) else find (λ (word : PinNet). bytes_eq p.name word.pin) (pin_pairs pins nets)) ∷ nets_at pins (record { pin = p.name; net = Some x } ∷ pin_pairs pins nets)) (itself p.name)
        ∙ ap (λ xs. Some x ∷ xs) (passed p.name x (pin_pairs pins nets) pins (unknown (is_known (names pins) p.name) none) ∙ rest)

-- the nets at the pins of a role that all have one net
role_of_one : (role : PinData → Bool) (f : PinData → Option NetName) (x : NetName) → ((pin : PinData) → role pin ≡ true → f pin ≡ Some x) → (pins : List PinData) → at_role role pins (map f pins) ≡ Some (map (λ pin. x) (filter role pins))
role_of_one role f x has [] = refl
role_of_one role f x has (p ∷ pins) = go (role p) refl (role_of_one role f x has pins)
  where
    go : (b : Bool) → role p ≡ b → at_role role pins (map f pins) ≡ Some (map (λ pin. x) (filter role pins))
        → (if b then put_net (f p) (at_role role pins (map f pins)) else at_role role pins (map f pins)) ≡ Some (map (λ pin. x) (if b then p ∷ filter role pins else filter role pins))
    go true e rest = ap (λ o. put_net o (at_role role pins (map f pins))) (has p e) ∙ ap (put_net (Some x)) rest
    go false e rest = rest

pub counted : (role : PinData → Bool) (pins : List PinData) → count_by role pins ≡ length (filter role pins)
counted role [] = refl
counted role (p ∷ pins) = sum_by-cons (λ z. cond (role z) 1 0) p pins ∙ go (role p) (counted role pins)
  where
    go : (b : Bool) → count_by role pins ≡ length (filter role pins) → cond b 1 0 + count_by role pins ≡ length (if b then p ∷ filter role pins else filter role pins)
    go true rest = omega (arith, rest)
    go false rest = omega (arith, rest)

pub one_left : (x : NetName) (pins : List PinData) → length pins ≡ 1 → map (λ (pin : PinData). x) pins ≡ x ∷ []
one_left x [] long = absurd (omega arith)
one_left x (p ∷ []) long = refl
one_left x (p ∷ q ∷ pins) long = absurd (omega arith)

none_left : (x : NetName) (pins : List PinData) → length pins ≡ 0 → map (λ (pin : PinData). x) pins ≡ []
none_left x [] long = refl
none_left x (p ∷ pins) long = absurd (omega arith)

one_role : (role : PinData → Bool) (f : PinData → Option NetName) (x : NetName) (pins : List PinData) → ((pin : PinData) → role pin ≡ true → f pin ≡ Some x) → count_by role pins ≡ 1 → at_role role pins (map f pins) ≡ Some (x ∷ [])
one_role role f x pins has one = role_of_one role f x has pins ∙ ap (λ xs. Some xs) (one_left x (filter role pins) (sym (counted role pins) ∙ one))

no_role : (role : PinData → Bool) (nets : List (Option NetName)) (pins : List PinData) → length nets ≡ length pins → length (filter role pins) ≡ 0 → at_role role pins nets ≡ Some []
no_role role [] [] long none = refl
no_role role (net ∷ nets) [] long none = absurd (omega arith)
no_role role [] (p ∷ pins) long none = absurd (omega arith)
no_role role (net ∷ nets) (p ∷ pins) long none = go (role p) none (λ none'. no_role role nets pins (omega (arith, long)) none')
  where
    go : (b : Bool) → length (if b then p ∷ filter role pins else filter role pins) ≡ 0 → (length (filter role pins) ≡ 0 → at_role role pins nets ≡ Some []) → (if b then put_net net (at_role role pins nets) else at_role role pins nets) ≡ Some []
    go true none' rest = absurd (omega arith)
    go false none' rest = rest none'

module _ (g : GatingCell NetName) where
  abbrev pin_of : NetName → Role → PinData
  pin_of name role = record { name = name; role = role }

  clock_net : (name : NetName) (role : Role) → is_clock (pin_of name role) ≡ true → gater_net g (pin_of name role) ≡ Some g.clock
  clock_net name Clock is = refl
  clock_net name role is = absurd (both_ways false refl is)

  enable_net : (name : NetName) (role : Role) → is_enable (pin_of name role) ≡ true → gater_net g (pin_of name role) ≡ Some g.enable
  enable_net name Enable is = refl
  enable_net name role is = absurd (both_ways false refl is)

  test_net : (name : NetName) (role : Role) → is_test (pin_of name role) ≡ true → gater_net g (pin_of name role) ≡ g.test
  test_net name Test is = refl
  test_net name role is = absurd (both_ways false refl is)

  output_net : (name : NetName) (role : Role) → is_output (pin_of name role) ≡ true → gater_net g (pin_of name role) ≡ Some g.output
  output_net name Output is = refl
  output_net name role is = absurd (both_ways false refl is)

  tests_back : (o : Option NetName) → g.test ≡ o → length (option_to_list g.test) ≡ count_by is_test g.cell.pins → at_role is_test g.cell.pins (gater_nets g g.cell.pins) ≡ Some (option_to_list o)
  tests_back None is count = no_role is_test (gater_nets g g.cell.pins) g.cell.pins (length-map g.cell.pins (gater_net g)) (sym (counted is_test g.cell.pins) ∙ (sym count ∙ ap (λ t. length (option_to_list t)) is))
  tests_back (Some t) is count = one_role is_test (gater_net g) t g.cell.pins (λ pin role. test_net pin.name pin.role role ∙ is) (sym count ∙ ap (λ o. length (option_to_list o)) is)

  first_of : (o : Option NetName) → slice_get (option_to_list o) 0 ≡ o
  first_of None = refl
  first_of (Some x) = refl

  pub gater_back : GaterFits g → placed_part GaterKind g.cell (gater_nets g g.cell.pins) ≡ Some (GaterPart g)
  gater_back fits =
      let pins : HasGaterPins g.cell.pins = subst (λ k. HasPins k g.cell.pins) fits.1 fits.0.roles in
      let c : at_role is_clock g.cell.pins (gater_nets g g.cell.pins) ≡ Some (g.clock ∷ []) = one_role is_clock (gater_net g) g.clock g.cell.pins (λ pin role. clock_net pin.name pin.role role) pins.clock in
      let e : at_role is_enable g.cell.pins (gater_nets g g.cell.pins) ≡ Some (g.enable ∷ []) = one_role is_enable (gater_net g) g.enable g.cell.pins (λ pin role. enable_net pin.name pin.role role) pins.enable in
      let t : at_role is_test g.cell.pins (gater_nets g g.cell.pins) ≡ Some (option_to_list g.test) = tests_back g.test refl (sym fits.2) in
      let o : at_role is_output g.cell.pins (gater_nets g g.cell.pins) ≡ Some (g.output ∷ []) = one_role is_output (gater_net g) g.output g.cell.pins (λ pin role. output_net pin.name pin.role role) pins.output in
      ap (λ x. gater_part g.cell x (at_role is_enable g.cell.pins (gater_nets g g.cell.pins)) (at_role is_test g.cell.pins (gater_nets g g.cell.pins)) (at_role is_output g.cell.pins (gater_nets g g.cell.pins))) c
      ∙ (ap (λ x. gater_part g.cell (Some (g.clock ∷ [])) x (at_role is_test g.cell.pins (gater_nets g g.cell.pins)) (at_role is_output g.cell.pins (gater_nets g g.cell.pins))) e
      ∙ (ap (λ x. gater_part g.cell (Some (g.clock ∷ [])) (Some (g.enable ∷ [])) x (at_role is_output g.cell.pins (gater_nets g g.cell.pins))) t
      ∙ (ap (λ x. gater_part g.cell (Some (g.clock ∷ [])) (Some (g.enable ∷ [])) (Some (option_to_list g.test)) x) o
      ∙ ap (λ t. Some (GaterPart (record { clock = g.clock; enable = g.enable; test = t; output = g.output; cell = g.cell }))) (first_of g.test))))
