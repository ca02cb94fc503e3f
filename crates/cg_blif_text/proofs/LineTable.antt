-- The first fault of a command by the table is the one that is told of it.
use Rattle.std.proofs.Common.{◌≡◌, ℕ, ◌+◌, ◌-◌, nat_lt, Bool, true, false, ◌==◌, ◌&&◌, ◌||◌, not, if◌then◌else◌, List, [], ◌∷◌}
use Rattle.std.proofs.Common.{length, map, slice_index, Option, None, Some, Result, Ok, Err, refl, sym, ap, ◌∙◌, arith}
use Rattle.std.specs.Prelude.{is_none, is_some}
use Rattle.std.specs.List.{fold}
use Rattle.std.specs.Option.{option_map_or}
use Rattle.std.proofs.lemmas.Bool.{lt-ltb, ltb-true}
use Rattle.cg_limit.specs.declared.Limit.TheVariants.{Nets, Registers, CoverInputs}
use Rattle.cg_limit.specs.declared.TheConstants.{MOST_COVER_INPUTS}
use Rattle.cg_cell.specs.Cell.{CellData}
use Rattle.cg_cell.specs.declared.cell.CellKind.{CellKind}
use Rattle.cg_cell.specs.declared.cell.CellKind.TheVariants.{Logic as LogicKind, Flop as FlopKind, Gater as GaterKind, Unusable}
use Rattle.cg_netlist_parts.specs.Part.{Part, Input, Output, Clock, mentioned}
use Rattle.cg_net.specs.Names.{NetName, with_names}
use Rattle.cg_netlist_parts.specs.Said.{Said, limit_of, with_part}
use Rattle.cg_netlist_parts.specs.Writable.{cell_named}
use Rattle.cg_blif_text.specs.declared.statement.Command.{Command}
use Rattle.cg_blif_text.specs.declared.statement.Command.TheVariants as commands
use Rattle.cg_blif_text.specs.declared.fault.LineFault.{LineFault}
use Rattle.cg_blif_text.specs.declared.fault.LineFault.TheVariants.{BadLine, BadCover, BadLatch, Placed, SecondModel, Limit as Passed}
use Rattle.cg_netlist_placed.specs.declared.fault.PlacedFault.TheVariants.{UnknownCell, UnusableCell, PinFault}
use Rattle.cg_netlist_placed.specs.Placed.{are_for_pins, nets_at, of_usable, part_or, placed_part, usable_as}
use Rattle.cg_blif_text.specs.declared.statement.Place.{Place}
use Rattle.cg_blif_text.specs.declared.statement.Place.TheVariants.{First, Unnamed, Named, Ended}
use Rattle.cg_blif_text.specs.declared.statement.Statement.{Statement}
use Rattle.cg_blif_text.specs.declared.statement.Statement.TheVariants.{Names, Latch}
use Rattle.cg_blif_text.specs.Latches.{control_of, latch_line, latch_with}
use Rattle.cg_blif_text.specs.LineFaults.{OpenRows, Order, Standing, first_of, form_faults, gives_pins, is_init, is_no_kind}
use Rattle.cg_blif_text.specs.LineFaults.{is_register, is_rising, parts_meant, parts_or_none}
use Rattle.cg_blif_text.specs.Meaning.{behind, front, last}
use Rattle.cg_netlist_placed.specs.PinNets.{PinNet}
use Rattle.cg_blif_text.specs.PinWords.{pin_net}
use Rattle.cg_blif_text.specs.Placing.{gate_at, gate_part, give_nets, one_part}
use Rattle.cg_blif_text.specs.Telling.{meant_at, no_rows, said_by, unless, with_parts, with_said}
use Rattle.cg_blif_text.proofs.WithinLimits.{more_names}

-- the fault of what was made, if it has one
abbrev pub err_of : {T : Type 0} → Result T LineFault → Option LineFault
err_of (Ok x) = None
err_of (Err cause) = Some cause

abbrev pub on_meant : Result Statement LineFault → (Statement → Result Said LineFault) → Result Said LineFault
on_meant (Ok statement) later = later statement
on_meant (Err cause) later = Err cause

-- Limits

abbrev capped : Said → Result Said LineFault
capped t = unless (limit_of t) (Ok t)

abbrev over : Said → Bool
over t = nat_lt 1048576 (length t.nets)

abbrev crowded : Said → Bool
crowded t = nat_lt 65536 (length t.registers)

two_limits : (t : Said) → first_of ((Passed Nets, over t) ∷ (Passed Registers, crowded t) ∷ []) ≡ err_of (capped t)
two_limits t = go (over t) (crowded t)
  where
    go : (a b : Bool) → first_of ((Passed Nets, a) ∷ (Passed Registers, b) ∷ []) ≡ err_of (unless (if a then Some Nets else if b then Some Registers else None) (Ok t))
    go true b = refl
    go false true = refl
    go false false = refl

few_nets : (t : Said) → limit_of t ≡ None → over t ≡ false
few_nets t none = go (over t) (crowded t) none
  where
    go : (a b : Bool) → (if a then Some Nets else if b then Some Registers else None) ≡ None → a ≡ false
    go true b e = absurd (cc)
    go false b e = refl

few_registers : (t : Said) → limit_of t ≡ None → crowded t ≡ false
few_registers t none = go (over t) (crowded t) none
  where
    go : (a b : Bool) → (if a then Some Nets else if b then Some Registers else None) ≡ None → b ≡ false
    go true b e = absurd (cc)
    go false true e = absurd (cc)
    go false false e = refl

limit_nets : (t : Said) → over t ≡ true → limit_of t ≡ Some Nets
limit_nets t is = ap (λ b. if b then Some Nets else if crowded t then Some Registers else None) is

limit_none : (t : Said) → over t ≡ false → crowded t ≡ false → limit_of t ≡ None
limit_none t few rare = ap (λ b. if b then Some Nets else if crowded t then Some Registers else None) few ∙ ap (λ b. if b then Some Registers else None) rare

-- parts that are no registers: the limits of all of them together are those that are passed on the way
module _ (wrap : NetName → Part) (keeps : (s : Said) (net : NetName) → (with_part s (wrap net)).registers ≡ s.registers) where
  over_more : (nets : List NetName) (t : Said) → over t ≡ true → over (fold with_part t (map wrap nets)) ≡ true
  over_more [] t is = is
  over_more (net ∷ nets) t is =
      let more = ltb-true 1048576 (length t.nets) is in
      let some = more_names t.nets (mentioned (wrap net)) in
      over_more nets (with_part t (wrap net)) (lt-ltb 1048576 (length (with_names t.nets (mentioned (wrap net)))) (omega (arith, more, some)))

  quiet : (nets : List NetName) (s : Said) → over s ≡ false → crowded s ≡ false → with_parts (map wrap nets) s ≡ capped (fold with_part s (map wrap nets))
  quiet [] s few rare = sym (ap (λ l. unless l (Ok s)) (limit_none s few rare))
  quiet (net ∷ nets) s few rare =
      let rare_still : crowded (with_part s (wrap net)) ≡ false = ap (λ rs. nat_lt 65536 (length rs)) (keeps s net) ∙ rare in
      go (over (with_part s (wrap net))) refl rare_still (λ is. quiet nets (with_part s (wrap net)) is rare_still)
    where
      go : (b : Bool) → over (with_part s (wrap net)) ≡ b → crowded (with_part s (wrap net)) ≡ false
          → (over (with_part s (wrap net)) ≡ false → with_parts (map wrap nets) (with_part s (wrap net)) ≡ capped (fold with_part (with_part s (wrap net)) (map wrap nets)))
          → unless (limit_of (with_part s (wrap net))) (with_parts (map wrap nets) (with_part s (wrap net))) ≡ capped (fold with_part (with_part s (wrap net)) (map wrap nets))
      go false is rare_still rest = ap (λ l. unless l (with_parts (map wrap nets) (with_part s (wrap net)))) (limit_none (with_part s (wrap net)) is rare_still) ∙ rest is
      go true is rare_still rest =
          ap (λ l. unless l (with_parts (map wrap nets) (with_part s (wrap net)))) (limit_nets (with_part s (wrap net)) is)
          ∙ sym (ap (λ l. unless l (Ok (fold with_part (with_part s (wrap net)) (map wrap nets)))) (limit_nets (fold with_part (with_part s (wrap net)) (map wrap nets)) (over_more nets (with_part s (wrap net)) is)))

-- Registers: what is said of a `.latch` line whose words are a register, and of one whose words are none, holds of each line

pub latch_cases : (P : Bool → Result Statement LineFault → Type 0) → ((input output : List ℕ) (clock : Option (List ℕ)) (init : ℕ) → P true (Ok (Latch input output clock init))) → P false (Err BadLatch)
    → (words : List (List ℕ)) → P (is_register words) (latch_line words)
latch_cases P good bad [] = bad
latch_cases P good bad (i ∷ []) = bad
latch_cases P good bad (i ∷ o ∷ []) = good i o None 3
latch_cases P good bad (i ∷ o ∷ x ∷ []) = go (is_init x) (slice_index x 0 - 48)
  where
    go : (b : Bool) (n : ℕ) → P b (latch_with i o None (if b then Some n else None))
    go true n = good i o None n
    go false n = bad
latch_cases P good bad (i ∷ o ∷ t ∷ k ∷ []) = go (is_rising t) (control_of k)
  where
    go : (b : Bool) (clock : Option (List ℕ)) → P b (if b then latch_with i o clock (Some 3) else Err BadLatch)
    go true clock = good i o clock 3
    go false clock = bad
latch_cases P good bad (i ∷ o ∷ t ∷ k ∷ x ∷ []) = go (is_rising t) (is_init x) (control_of k) (slice_index x 0 - 48)
  where
    go : (a b : Bool) (clock : Option (List ℕ)) (n : ℕ) → P (a && b) (if a then latch_with i o clock (if b then Some n else None) else Err BadLatch)
    go true true clock n = good i o clock n
    go true false clock n = bad
    go false b clock n = bad
latch_cases P good bad (i ∷ o ∷ t ∷ k ∷ x ∷ y ∷ ws) = bad

-- Commands

module _ (library : List CellData) (rows : Option OpenRows) (s : Said) (none : limit_of s ≡ None) where
  abbrev here : Place → Standing
  here place = record { place = place; rows = rows; said = s }

  -- what a command makes of what was said before it
  abbrev made_of : Result Statement LineFault → Result Said LineFault
  made_of meaning = on_meant meaning (λ statement. with_said s (said_by library no_rows statement))

  abbrev by_table : Place → Command → List (List ℕ) → Option LineFault
  by_table place command words = first_of (form_faults library (here place) true (Order command words))

  abbrev by_telling : Place → Command → List (List ℕ) → Option LineFault
  by_telling place command words = err_of (made_of (meant_at place (behind command words)))

  -- the table with these answers
  abbrev answers : Bool → Bool → Bool → Bool → Bool → Bool → Bool → Said → List (LineFault × Bool)
  answers line latch unknown unusable pins model inputs t =
      (BadLine, line) ∷ (BadCover, false) ∷ (BadLatch, latch) ∷ (Placed UnknownCell, unknown) ∷ (Placed UnusableCell, unusable) ∷ (Placed PinFault, pins) ∷ (SecondModel, model)
      ∷ (Passed CoverInputs, inputs) ∷ (Passed Nets, over t) ∷ (Passed Registers, crowded t) ∷ []

  pub nothing : first_of ((Passed Nets, over s) ∷ (Passed Registers, crowded s) ∷ []) ≡ None
  nothing = two_limits s ∙ ap (λ l. err_of (unless l (Ok s))) none

  models : (words : List (List ℕ)) (place : Place) → by_table place commands.Model words ≡ by_telling place commands.Model words
  models [] First = refl
  models [] Unnamed = refl
  models [] Named = refl
  models [] Ended = refl
  models (name ∷ []) First = nothing
  models (name ∷ []) Unnamed = refl
  models (name ∷ []) Named = refl
  models (name ∷ []) Ended = refl
  models (a ∷ b ∷ ws) First = refl
  models (a ∷ b ∷ ws) Unnamed = refl
  models (a ∷ b ∷ ws) Named = refl
  models (a ∷ b ∷ ws) Ended = refl

  lists : (wrap : NetName → Part) (keeps : (s : Said) (net : NetName) → (with_part s (wrap net)).registers ≡ s.registers) (nets : List NetName)
      → first_of ((Passed Nets, over (fold with_part s (map wrap nets))) ∷ (Passed Registers, crowded (fold with_part s (map wrap nets))) ∷ []) ≡ err_of (with_parts (map wrap nets) s)
  lists wrap keeps nets = two_limits (fold with_part s (map wrap nets)) ∙ ap err_of (sym (quiet wrap keeps nets s (few_nets s none) (few_registers s none)))

  inputs : (words : List (List ℕ)) (place : Place) → by_table place commands.Inputs words ≡ by_telling place commands.Inputs words
  inputs words First = lists (λ net. Input net) (λ t net. refl) words
  inputs words Unnamed = lists (λ net. Input net) (λ t net. refl) words
  inputs words Named = lists (λ net. Input net) (λ t net. refl) words
  inputs words Ended = refl

  outputs : (words : List (List ℕ)) (place : Place) → by_table place commands.Outputs words ≡ by_telling place commands.Outputs words
  outputs words First = lists (λ net. Output net) (λ t net. refl) words
  outputs words Unnamed = lists (λ net. Output net) (λ t net. refl) words
  outputs words Named = lists (λ net. Output net) (λ t net. refl) words
  outputs words Ended = refl

  clocks : (words : List (List ℕ)) (place : Place) → by_table place commands.Clocks words ≡ by_telling place commands.Clocks words
  clocks words First = lists (λ net. Clock net) (λ t net. refl) words
  clocks words Unnamed = lists (λ net. Clock net) (λ t net. refl) words
  clocks words Named = lists (λ net. Clock net) (λ t net. refl) words
  clocks words Ended = refl

  abbrev said_so : Bool → Bool → List (List ℕ) → List ℕ → Result Statement LineFault
  said_so a b ins out = if a then Err BadLine else (if b then Err (Passed CoverInputs) else Ok (Names ins out))

  abbrev cover_answers : Bool → Bool → Bool → List (List ℕ) → List ℕ → List (LineFault × Bool)
  cover_answers line a b ins out = answers (a || line || false) false false false false false b (fold with_part s (parts_meant library (said_so a b ins out)))

  names : (words : List (List ℕ)) (place : Place) → by_table place commands.Names words ≡ by_telling place commands.Names words
  names words First = go (length words == 0) (nat_lt (1 + MOST_COVER_INPUTS) (length words)) (front words) (last words)
    where
      go : (a b : Bool) (ins : List (List ℕ)) (out : List ℕ) → first_of (cover_answers false a b ins out) ≡ err_of (made_of (meant_at First (said_so a b ins out)))
      go true b ins out = refl
      go false true ins out = refl
      go false false ins out = two_limits (fold with_part s (parts_meant library (Ok (Names ins out))))
  names words Unnamed = go (length words == 0) (nat_lt (1 + MOST_COVER_INPUTS) (length words)) (front words) (last words)
    where
      go : (a b : Bool) (ins : List (List ℕ)) (out : List ℕ) → first_of (cover_answers false a b ins out) ≡ err_of (made_of (meant_at Unnamed (said_so a b ins out)))
      go true b ins out = refl
      go false true ins out = refl
      go false false ins out = two_limits (fold with_part s (parts_meant library (Ok (Names ins out))))
  names words Named = go (length words == 0) (nat_lt (1 + MOST_COVER_INPUTS) (length words)) (front words) (last words)
    where
      go : (a b : Bool) (ins : List (List ℕ)) (out : List ℕ) → first_of (cover_answers false a b ins out) ≡ err_of (made_of (meant_at Named (said_so a b ins out)))
      go true b ins out = refl
      go false true ins out = refl
      go false false ins out = two_limits (fold with_part s (parts_meant library (Ok (Names ins out))))
  names words Ended = go (length words == 0) (nat_lt (1 + MOST_COVER_INPUTS) (length words)) (front words) (last words)
    where
      go : (a b : Bool) (ins : List (List ℕ)) (out : List ℕ) → first_of (cover_answers true a b ins out) ≡ err_of (made_of (meant_at Ended (said_so a b ins out)))
      go true b ins out = refl
      go false true ins out = refl
      go false false ins out = refl

  -- registers
  abbrev IsLatch : Place → Bool → Bool → Result Statement LineFault → Type 0
  IsLatch place line b m = first_of (answers (line || false) (not b) false false false false false (fold with_part s (parts_meant library m))) ≡ err_of (made_of (meant_at place m))

  latches : (words : List (List ℕ)) (place : Place) → by_table place commands.Latch words ≡ by_telling place commands.Latch words
  latches words First = latch_cases (IsLatch First false) (λ i o c n. two_limits (fold with_part s (parts_meant library (Ok (Latch i o c n))))) refl words
  latches words Unnamed = latch_cases (IsLatch Unnamed false) (λ i o c n. two_limits (fold with_part s (parts_meant library (Ok (Latch i o c n))))) refl words
  latches words Named = latch_cases (IsLatch Named false) (λ i o c n. two_limits (fold with_part s (parts_meant library (Ok (Latch i o c n))))) refl words
  latches words Ended = latch_cases (IsLatch Ended true) (λ i o c n. refl) refl words

  -- placed cells
  abbrev part_at : Bool → Bool → Option Part → Result (List Part) LineFault
  part_at given own part = one_part (if given then (if own then part_or part else Err PinFault) else Err PinFault)

  fits : (given own : Bool) (part : Option Part)
      → first_of (answers false false false false (not (given && own && is_some part)) false false (fold with_part s (parts_or_none (part_at given own part)))) ≡ err_of (with_said s (part_at given own part))
  fits true true None = refl
  fits true true (Some part) = two_limits (with_part s part)
  fits true false part = refl
  fits false own part = refl

  kinds : (kind : CellKind) (cell : CellData) (words : List PinNet)
      → first_of (answers false false false (is_no_kind kind) (not (gives_pins cell words)) false false (fold with_part s (parts_or_none (one_part (of_usable (usable_as kind cell) (gate_at words))))))
      ≡ err_of (with_said s (one_part (of_usable (usable_as kind cell) (gate_at words))))
  kinds LogicKind cell words = fits (give_nets words) (are_for_pins cell.pins words) (placed_part cell.kind cell (nets_at cell.pins words))
  kinds FlopKind cell words = fits (give_nets words) (are_for_pins cell.pins words) (placed_part cell.kind cell (nets_at cell.pins words))
  kinds GaterKind cell words = fits (give_nets words) (are_for_pins cell.pins words) (placed_part cell.kind cell (nets_at cell.pins words))
  kinds Unusable cell words = refl

  found : (o : Option CellData) (words : List PinNet)
      → first_of (answers false false (is_none o) (option_map_or (λ c. is_no_kind c.kind) o false) (option_map_or (λ c. not (gives_pins c words)) o false) false false (fold with_part s (parts_or_none (one_part (gate_part o words)))))
      ≡ err_of (with_said s (one_part (gate_part o words)))
  found None words = refl
  found (Some cell) words = kinds cell.kind cell words

  gates : (words : List (List ℕ)) (place : Place) → by_table place commands.Gate words ≡ by_telling place commands.Gate words
  gates [] First = refl
  gates [] Unnamed = refl
  gates [] Named = refl
  gates [] Ended = refl
  gates (cell ∷ words) First = found (cell_named library cell) (map pin_net words)
  gates (cell ∷ words) Unnamed = found (cell_named library cell) (map pin_net words)
  gates (cell ∷ words) Named = found (cell_named library cell) (map pin_net words)
  gates (cell ∷ words) Ended = refl

  ends : (words : List (List ℕ)) (place : Place) → by_table place commands.End words ≡ by_telling place commands.End words
  ends [] First = nothing
  ends [] Unnamed = nothing
  ends [] Named = nothing
  ends [] Ended = refl
  ends (word ∷ words) First = refl
  ends (word ∷ words) Unnamed = refl
  ends (word ∷ words) Named = refl
  ends (word ∷ words) Ended = refl

  -- the fault of a command by the table is the fault that is told of it
  pub same_fault : (command : Command) (words : List (List ℕ)) (place : Place) → by_table place command words ≡ by_telling place command words
  same_fault commands.Model words place = models words place
  same_fault commands.Inputs words place = inputs words place
  same_fault commands.Outputs words place = outputs words place
  same_fault commands.Clocks words place = clocks words place
  same_fault commands.Names words place = names words place
  same_fault commands.Latch words place = latches words place
  same_fault commands.Gate words place = gates words place
  same_fault commands.Skipped words First = nothing
  same_fault commands.Skipped words Unnamed = nothing
  same_fault commands.Skipped words Named = nothing
  same_fault commands.Skipped words Ended = refl
  same_fault commands.End words place = ends words place
  same_fault commands.Other words First = refl
  same_fault commands.Other words Unnamed = refl
  same_fault commands.Other words Named = refl
  same_fault commands.Other words Ended = refl
