-- Names that are looked at one after another.
use Rattle.std.proofs.Common.{[], ◌≡◌, ℕ, ◌+◌, ◌<◌, ◌≤◌, Bool, true, false, not, List, ◌∷◌, ◌++◌, map, length, take, drop, cond}
use Rattle.std.proofs.Common.{refl, ap, sym, ◌∙◌, subst, Option, None, Some, Result, Ok, Err, append_assoc, slice_get}
use Rattle.std.specs.List.{find, flat_map}
use Rattle.std.proofs.lemmas.Grind.{flat_map-append}
use Rattle.std.proofs.lemmas.List.{take-append-drop, take_all}
use Rattle.std.proofs.lemmas.Option.{same_Some}
use Rattle.cg_cell.specs.Cell.{CellData}
use Rattle.cg_net.specs.Names.{NetName, net_name}
use Rattle.cg_netlist.specs.Circuit.{RegisterCell}
use Rattle.cg_netlist.specs.Wiring.{map_register}
use Rattle.cg_netlist.specs.declared.parts.RegisterKind.TheVariants.{Flop}
use Rattle.cg_netlist_placed.specs.PinNets.{PinNet}
use Rattle.cg_verilog_text.specs.WrittenItems.{kind_items}
use Rattle.cg_verilog_out.specs.Writing.{flop_items}
use Rattle.cg_verilog_text.specs.HasText.{is_ascii, names_in}
use Rattle.cg_verilog_text.specs.Items.{Item}
use Rattle.cg_verilog_out.specs.Refusing.{AreLookedAt}
use Rattle.cg_verilog_out.specs.declared.fault.VerilogOutFault.{VerilogOutFault}
use Rattle.cg_verilog_out.specs.declared.fault.VerilogOutFault.TheVariants.{BadName, PortTwice, NoMemory}
use Rattle.cg_verilog_out.proofs.Lines.{slice_get-not_none, up_to_next}

abbrev Names : Type 0
Names = List (List ℕ)

abbrev bad : List ℕ → Bool
bad name = not (is_ascii name)

find_skip : {X : Type 0} (p : X → Bool) (xs ys : List X) → find p xs ≡ None → find p (xs ++ ys) ≡ find p ys
find_skip p [] ys none = refl
find_skip {X} p (x ∷ xs) ys none = go (p x) none (find_skip p xs ys)
  where
    go : (b : Bool) → cond b (Some x) (find p xs) ≡ None → (find p xs ≡ None → find p (xs ++ ys) ≡ find p ys) → cond b (Some x) (find p (xs ++ ys)) ≡ find p ys
    go true e rest = absurd (cc)
    go false e rest = rest e

find_front : {X : Type 0} (p : X → Bool) (xs ys : List X) (x : X) → find p xs ≡ Some x → find p (xs ++ ys) ≡ Some x
find_front p [] ys x is = absurd (cc)
find_front p (y ∷ xs) ys x is = go (p y) is (find_front p xs ys x)
  where
    go : (b : Bool) → cond b (Some y) (find p xs) ≡ Some x → (find p xs ≡ Some x → find p (xs ++ ys) ≡ Some x) → cond b (Some y) (find p (xs ++ ys)) ≡ Some x
    go true e rest = e
    go false e rest = rest e

-- names behind others that are ASCII
pub looked_behind : (xs ys : List (List ℕ)) (r : Result (Unit {0}) VerilogOutFault) → find bad xs ≡ None → AreLookedAt ys r → AreLookedAt (xs ++ ys) r
looked_behind xs ys (Ok done) none is = find_skip bad xs ys none ∙ is
looked_behind xs ys (Err (BadName name)) none is = find_skip bad xs ys none ∙ is
looked_behind xs ys (Err (PortTwice net)) none is = is
looked_behind xs ys (Err NoMemory) none is = tt

-- a fault of the names in front is the first of all
pub looked_front : (xs ys : List (List ℕ)) (e : VerilogOutFault) → AreLookedAt xs (Err e) → AreLookedAt (xs ++ ys) (Err e)
looked_front xs ys (BadName name) is = find_front bad xs ys name is
looked_front xs ys (PortTwice net) is = is
looked_front xs ys NoMemory is = tt

module _ {Part : Type 0} (f : Part → List (List ℕ)) where
  -- one part more
  pub looked_next : (parts : List Part) (k : ℕ) (part : Part) → slice_get parts k ≡ Some part → find bad (flat_map f (take k parts)) ≡ None → find bad (f part) ≡ None → find bad (flat_map f (take (k + 1) parts)) ≡ None
  looked_next parts k part at so_far here = ap (find bad) (up_to_next f parts k part at) ∙ (find_skip bad (flat_map f (take k parts)) (f part) so_far ∙ here)

  -- the part at which a fault is found
  pub looked_at : (parts : List Part) (k : ℕ) (part : Part) (e : VerilogOutFault) → slice_get parts k ≡ Some part → find bad (flat_map f (take k parts)) ≡ None → AreLookedAt (f part) (Err e) → AreLookedAt (flat_map f parts) (Err e)
  looked_at parts k part e at so_far here =
      let split : parts ≡ take (k + 1) parts ++ drop (k + 1) parts = sym (take-append-drop (k + 1) parts) in
      let all : flat_map f parts ≡ flat_map f (take k parts) ++ (f part ++ flat_map f (drop (k + 1) parts)) =
      ap (flat_map f) split ∙ (flat_map-append f (take (k + 1) parts) (drop (k + 1) parts)
      ∙ (ap (λ l. l ++ flat_map f (drop (k + 1) parts)) (up_to_next f parts k part at) ∙ append_assoc (flat_map f (take k parts)) (f part) (flat_map f (drop (k + 1) parts)))) in
      subst (λ names. AreLookedAt names (Err e)) (sym all)
      (looked_behind (flat_map f (take k parts)) (f part ++ flat_map f (drop (k + 1) parts)) (Err e) so_far (looked_front (f part) (flat_map f (drop (k + 1) parts)) e here))

-- the names of items of parts
pub item_names : {Part : Type 0} (f : Part → List Item) (parts : List Part) → flat_map names_in (flat_map f parts) ≡ flat_map (λ part. flat_map names_in (f part)) parts
item_names f [] = refl
item_names f (p ∷ ps) = flat_map-append names_in (f p) (flat_map f ps) ∙ ap (λ l. flat_map names_in (f p) ++ l) (item_names f ps)

abbrev at_item : {Part : Type 0} → (Part → List Item) → Part → List (List ℕ)
at_item f part = flat_map names_in (f part)

pub parts_fault : {Part : Type 0} (f : Part → List Item) (parts : List Part) (k id : ℕ) (e : VerilogOutFault) → k < length parts → id ≡ k → find bad (flat_map (λ part. flat_map names_in (f part)) (take k parts)) ≡ None
    → ((part : Part) → slice_get parts id ≡ Some part → AreLookedAt (flat_map names_in (f part)) (Err e)) → AreLookedAt (flat_map names_in (flat_map f parts)) (Err e)
parts_fault {Part = Part} f parts k id e below same so_far here = go (slice_get parts k) refl
  where
    go : (o : Option Part) → slice_get parts k ≡ o → AreLookedAt (flat_map names_in (flat_map f parts)) (Err e)
    go None none = absurd (slice_get-not_none parts k below none)
    go (Some part) at = subst (λ names. AreLookedAt names (Err e)) (sym (item_names f parts)) (looked_at (at_item f) parts k part e at so_far (here part (ap (slice_get parts) same ∙ at)))

pub parts_next : {Part : Type 0} (f : Part → List Item) (parts : List Part) (k id : ℕ) → k < length parts → id ≡ k → find bad (flat_map (λ part. flat_map names_in (f part)) (take k parts)) ≡ None
    → ((part : Part) → slice_get parts id ≡ Some part → find bad (flat_map names_in (f part)) ≡ None) → find bad (flat_map (λ part. flat_map names_in (f part)) (take (k + 1) parts)) ≡ None
parts_next {Part = Part} f parts k id below same so_far here = go (slice_get parts k) refl
  where
    go : (o : Option Part) → slice_get parts k ≡ o → find bad (flat_map (λ part. flat_map names_in (f part)) (take (k + 1) parts)) ≡ None
    go None none = absurd (slice_get-not_none parts k below none)
    go (Some part) at = looked_next (at_item f) parts k part at so_far (here part (ap (slice_get parts) same ∙ at))

pub parts_done : {Part : Type 0} (f : Part → List Item) (parts : List Part) (k : ℕ) → length parts ≤ k → find bad (flat_map (λ part. flat_map names_in (f part)) (take k parts)) ≡ None → find bad (flat_map names_in (flat_map f parts)) ≡ None
parts_done f parts k all none = ap (find bad) (item_names f parts) ∙ (ap (λ ps. find bad (flat_map (at_item f) ps)) (sym (take_all k parts all)) ∙ none)

-- names by themselves, and the names of pins
singles : (names : List (List ℕ)) → flat_map (λ name. name ∷ []) names ≡ names
singles [] = refl
singles (n ∷ ns) = ap (λ l. n ∷ l) (singles ns)

pub names_fault : (names : List (List ℕ)) (k : ℕ) (name : List ℕ) (e : VerilogOutFault) → slice_get names k ≡ Some name → find bad (flat_map (λ name. name ∷ []) (take k names)) ≡ None → AreLookedAt (name ∷ []) (Err e) → AreLookedAt names (Err e)
names_fault names k name e at so_far here = subst (λ ns. AreLookedAt ns (Err e)) (singles names) (looked_at (λ name. name ∷ []) names k name e at so_far here)

pub names_next : (names : List (List ℕ)) (k : ℕ) (name : List ℕ) → slice_get names k ≡ Some name → find bad (flat_map (λ name. name ∷ []) (take k names)) ≡ None → find bad (name ∷ []) ≡ None → find bad (flat_map (λ name. name ∷ []) (take (k + 1) names)) ≡ None
names_next names k name at so_far here = looked_next (λ name. name ∷ []) names k name at so_far here

pub names_done : (names : List (List ℕ)) (k : ℕ) → length names ≤ k → find bad (flat_map (λ name. name ∷ []) (take k names)) ≡ None → find bad names ≡ None
names_done names k all none = ap (find bad) (sym (singles names)) ∙ (ap (λ ns. find bad (flat_map (λ name. name ∷ []) ns)) (sym (take_all k names all)) ∙ none)

pins_single : (pins : List PinNet) → flat_map (λ (pin : PinNet). pin.pin ∷ []) pins ≡ map (λ (pin : PinNet). pin.pin) pins
pins_single [] = refl
pins_single (p ∷ ps) = ap (λ l. p.pin ∷ l) (pins_single ps)

pub pins_fault : (pins : List PinNet) (k : ℕ) (pin : PinNet) (e : VerilogOutFault) → slice_get pins k ≡ Some pin → find bad (flat_map (λ (pin : PinNet). pin.pin ∷ []) (take k pins)) ≡ None → AreLookedAt (pin.pin ∷ []) (Err e) → AreLookedAt (map (λ (pin : PinNet). pin.pin) pins) (Err e)
pins_fault pins k pin e at so_far here = subst (λ ns. AreLookedAt ns (Err e)) (pins_single pins) (looked_at (λ (pin : PinNet). pin.pin ∷ []) pins k pin e at so_far here)

pub pins_next : (pins : List PinNet) (k : ℕ) (pin : PinNet) → slice_get pins k ≡ Some pin → find bad (flat_map (λ (pin : PinNet). pin.pin ∷ []) (take k pins)) ≡ None → find bad (pin.pin ∷ []) ≡ None → find bad (flat_map (λ (pin : PinNet). pin.pin ∷ []) (take (k + 1) pins)) ≡ None
pins_next pins k pin at so_far here = looked_next (λ (pin : PinNet). pin.pin ∷ []) pins k pin at so_far here

pub pins_done : (pins : List PinNet) (k : ℕ) → length pins ≤ k → find bad (flat_map (λ (pin : PinNet). pin.pin ∷ []) (take k pins)) ≡ None → find bad (map (λ (pin : PinNet). pin.pin) pins) ≡ None
pins_done pins k all none = ap (find bad) (sym (pins_single pins)) ∙ (ap (λ ps. find bad (flat_map (λ (pin : PinNet). pin.pin ∷ []) ps)) (sym (take_all k pins all)) ∙ none)

-- items one after another
pub items_behind : (xs ys : List Item) (r : Result (Unit {0}) VerilogOutFault) → find bad (flat_map names_in xs) ≡ None → AreLookedAt (flat_map names_in ys) r → AreLookedAt (flat_map names_in (xs ++ ys)) r
items_behind xs ys r none is = subst (λ ns. AreLookedAt ns r) (sym (flat_map-append names_in xs ys)) (looked_behind (flat_map names_in xs) (flat_map names_in ys) r none is)

pub items_front : (xs ys : List Item) (e : VerilogOutFault) → AreLookedAt (flat_map names_in xs) (Err e) → AreLookedAt (flat_map names_in (xs ++ ys)) (Err e)
items_front xs ys e is = subst (λ ns. AreLookedAt ns (Err e)) (sym (flat_map-append names_in xs ys)) (looked_front (flat_map names_in xs) (flat_map names_in ys) e is)

-- what is said of one register is said of each at its place
pub flop_looked : (names : List NetName) (registers : List (RegisterCell ℕ ℕ)) (id : ℕ) (seen : RegisterCell ℕ ℕ) (placed : CellData) (r : Result (Unit {0}) VerilogOutFault) → slice_get registers id ≡ Some seen → seen.kind ≡ Flop placed
    → AreLookedAt (flat_map names_in (kind_items (map_register (net_name names) seen) (Flop placed))) r → (register : RegisterCell ℕ ℕ) → slice_get registers id ≡ Some register → AreLookedAt (flat_map names_in (flop_items names register)) r
flop_looked names registers id seen placed r at kind looked register here =
    let same : seen ≡ register = same_Some seen register (sym at ∙ here) in
    subst (λ k. AreLookedAt (flat_map names_in (flop_items names k)) r) same
    (subst (λ k. AreLookedAt (flat_map names_in (kind_items (map_register (net_name names) seen) k)) r) (sym kind) looked)
