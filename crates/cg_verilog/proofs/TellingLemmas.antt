-- What a reader was told of an item, as a summary.
use Rattle.std.proofs.Common.{◌≡◌, ℕ, Bool, true, false, ◌||◌, List, [], ◌∷◌, refl, ap, sym, ◌∙◌, Option, None, Some, Result, Ok, Err}
use Rattle.std.specs.List.{fold}
use Rattle.std.proofs.lemmas.Bool.{both_ways}
use Rattle.cg_cell.specs.Cell.{CellData}
use Rattle.cg_limit.specs.declared.Limit.{Limit}
use Rattle.cg_net.specs.Names.{NetName, with_names}
use Rattle.cg_netlist.specs.declared.fault.AddFault.{AddFault}
use Rattle.cg_netlist.specs.declared.fault.AddFault.TheVariants as adds
use Rattle.cg_netlist_builder.specs.Building.{Building}
use Rattle.cg_netlist_parts.specs.Part.{Part}
use Rattle.cg_netlist_parts.specs.Said.{Said}
use Rattle.cg_netlist_placed.specs.declared.fault.PlacedFault.{PlacedFault}
use Rattle.cg_verilog_text.specs.Items.{Item as ItemSeen}
use Rattle.cg_verilog_text.specs.Meaning.{Init, inits_in, placed_parts, said_by, updated_in}
use Rattle.cg_verilog_text.specs.Telling.{with_parts}
use Rattle.cg_verilog_text.specs.declared.fault.ItemFault.{ItemFault}
use Rattle.cg_verilog_text.specs.declared.fault.ItemFault.TheVariants.{BadText, Placed, Limit as Passed}
use Rattle.cg_verilog.specs.GivenInits.{GivenInits, with_init}
use Rattle.cg_verilog.specs.Hearing.{Hears, HearsItem, IsPlacedAs, built_by, built_said, heard}
use Rattle.cg_verilog.specs.Summary.{Summary, put, put_fault, put_parts, put_result, put_said, without_built}
use Rattle.cg_verilog.specs.Tellings.{IsAnswered, IsSound, built_of, is_limit, noted, placed_alone, summed, with_fault}
use Rattle.cg_verilog.specs.declared.refusal.Refusal.{Refusal}
use Rattle.cg_verilog.specs.declared.refusal.Refusal.TheVariants.{Item, NoMemory}
use Rattle.cg_verilog.specs.declared.telling.Telling.{Telling}

-- inits and registers do not change what parts make
pub moved : (s : Summary) (inits : GivenInits) (updated : List NetName) (line : ℕ) (parts : Result (List Part) ItemFault)
    → put_result (record s { inits = inits; updated = updated }) line parts ≡ record (put_result s line parts) { inits = inits; updated = updated }
moved s inits updated line (Err cause) = refl
moved s inits updated line (Ok parts) = go s.built
  where
    passed : (b : Building) (r : Result Said Limit) → put_said (record s { inits = inits; updated = updated }) line b r ≡ record (put_said s line b r) { inits = inits; updated = updated }
    passed b (Ok said) = refl
    passed b (Err limit) = refl

    go : (o : Option Building) → put_parts (record s { inits = inits; updated = updated }) line o parts ≡ record (put_parts s line o parts) { inits = inits; updated = updated }
    go None = refl
    go (Some b) = passed b (with_parts parts b.said)

-- an item without inits and registers
pub plain_put : (library : List CellData) (s : Summary) (line : ℕ) (item : ItemSeen) → inits_in item ≡ [] → updated_in item ≡ [] → put library s (record { line = line; item = item }) ≡ put_result s line (said_by library [] item)
plain_put library s line item none unchanged =
    ap (λ (l : List Init). record (put_result s line (said_by library [] item)) { inits = fold with_init s.inits l; updated = with_names s.updated (updated_in item) }) none
    ∙ (ap (λ (l : List NetName). record (put_result s line (said_by library [] item)) { inits = s.inits; updated = with_names s.updated l }) unchanged
    ∙ sym (moved s s.inits s.updated line (said_by library [] item)))

pub nothing : (s : Summary) (line : ℕ) → put_result s line (Ok []) ≡ s
nothing s line = go s.built refl
  where
    go : (o : Option Building) → s.built ≡ o → put_parts s line o [] ≡ s
    go None is = refl
    go (Some b) is = ap (λ o. record s { built = o }) (sym is)

-- what a builder makes of an item
abbrev put_built : Summary → ℕ → Result Building ItemFault → Summary
put_built s line (Ok b) = record s { built = Some b }
put_built s line (Err cause) = record (put_fault s line cause) { built = without_built cause s.built }

result_built : (s : Summary) (b : Building) (line : ℕ) (parts : Result (List Part) ItemFault) → s.built ≡ Some b → put_result s line parts ≡ put_built s line (built_by b parts)
result_built s b line (Err cause) is = refl
result_built s b line (Ok parts) is = ap (λ o. put_parts s line o parts) is ∙ go (with_parts parts b.said)
  where
    go : (r : Result Said Limit) → put_said s line b r ≡ put_built s line (built_said b r)
    go (Ok said) = refl
    go (Err limit) = refl

kept_refused : (b new : Building) (parts : Result (List Part) ItemFault) → built_by b parts ≡ Ok new → new.refused ≡ b.refused
kept_refused b new (Err cause) is = absurd (cc)
kept_refused b new (Ok parts) is = go (with_parts parts b.said) is
  where
    go : (r : Result Said Limit) → built_said b r ≡ Ok new → new.refused ≡ b.refused
    go (Ok said) e = let same : record b { said = said } ≡ new = cc in ap (λ (b : Building). b.refused) (sym same)
    go (Err limit) e = absurd (cc)

-- one fault more
pub sum_fault : (t : Telling) (line : ℕ) (cause : ItemFault) → summed (with_fault line cause t) ≡ record (put_fault (summed t) line cause) { built = without_built cause (summed t).built }
sum_fault t line cause = ap (λ o. record (put_fault (summed t) line cause) { built = o }) (go t.over cause)
  where
    go : (over : Bool) (cause : ItemFault) → built_of (over || is_limit cause) t.builder ≡ without_built cause (built_of over t.builder)
    go true BadText = refl
    go true (Placed fault) = refl
    go true (Passed limit) = refl
    go false BadText = refl
    go false (Placed fault) = refl
    go false (Passed limit) = refl

pub sound_fault : (t : Telling) (line : ℕ) (cause : ItemFault) → IsSound t → IsSound (with_fault line cause t)
sound_fault t line cause sound = go t.over refl
  where
    go : (over : Bool) → t.over ≡ over → (over || is_limit cause) ≡ false → t.builder.refused ≡ None
    go true is open' = absurd (cc)
    go false is open' = sound is

-- an answer to an item, as long as no limit was passed
pub answered : (t : Telling) (new : Building) (line : ℕ) (parts : Result (List Part) ItemFault) (answer : Result (Unit {0}) Refusal) → IsSound t → t.over ≡ false → HearsItem t.builder new parts answer → IsAnswered answer
    → IsSound (noted line answer (record t { builder = new })) × (summed (noted line answer (record t { builder = new })) ≡ put_result (summed t) line parts)
answered t new line parts (Ok taken) sound going hears given =
    let built : (summed t).built ≡ Some t.builder = ap (λ over. built_of over t.builder) going in (
      λ _. kept_refused t.builder new parts hears ∙ sound going,
      ap (λ over. record (summed t) { built = built_of over new }) going ∙ (ap (put_built (summed t) line) (sym hears) ∙ sym (result_built (summed t) t.builder line parts built)),
    )
answered t new line parts (Err (Item BadText)) sound going hears given = absurd hears
answered t new line parts (Err (Item (Placed fault))) sound going hears given =
    let built : (summed t).built ≡ Some t.builder = ap (λ over. built_of over t.builder) going in (
      sound_fault (record t { builder = new }) line (Placed fault) (λ over. ap (λ (b : Building). b.refused) hears.1 ∙ sound over),
      sum_fault (record t { builder = new }) line (Placed fault)
          ∙ (ap (λ b. record (put_fault (summed t) line (Placed fault)) { built = built_of t.over b }) hears.1
          ∙ (ap (put_built (summed t) line) (sym hears.0) ∙ sym (result_built (summed t) t.builder line parts built))),
    )
answered t new line parts (Err (Item (Passed limit))) sound going hears given =
    let built : (summed t).built ≡ Some t.builder = ap (λ over. built_of over t.builder) going in (
      limit_sound t.over,
      sum_fault (record t { builder = new }) line (Passed limit)
          ∙ (ap (put_built (summed t) line) (sym hears) ∙ sym (result_built (summed t) t.builder line parts built)),
    )
  where
    limit_sound : (over : Bool) → (over || true) ≡ false → new.refused ≡ None
    limit_sound true is = absurd (cc)
    limit_sound false is = absurd (cc)
answered t new line parts (Err NoMemory) sound going hears given = absurd given

-- the answer to parts, as one to an item
pub heard_item : (old new : Building) (parts : List Part) (answer : Result (Unit {0}) AddFault) → Hears old new (with_parts parts old.said) answer → HearsItem old new (Ok parts) (heard answer)
heard_item old new parts (Ok taken) hears = ap (built_said old) hears.0 ∙ ap (λ (b : Building). Ok b) (sym hears.1)
heard_item old new parts (Err (adds.Limit limit)) hears = ap (built_said old) hears
heard_item old new parts (Err adds.NoMemory) hears = tt

-- behind a limit parts are not counted any more
pub over_parts : (t : Telling) (line : ℕ) (parts : List Part) → t.over ≡ true → summed t ≡ put_result (summed t) line (Ok parts)
over_parts t line parts over = ap (λ o. put_parts (summed t) line (built_of o t.builder) parts) (sym over)

pub over_fault : (t : Telling) (line : ℕ) (cause : ItemFault) → summed (with_fault line cause t) ≡ put_result (summed t) line (Err cause)
over_fault t line cause = sum_fault t line cause

pub over_placed : (t : Telling) (new : Building) (line : ℕ) (made : Result Part PlacedFault) (answer : Result (Unit {0}) Refusal) → t.over ≡ true → IsPlacedAs made answer → IsAnswered (placed_alone answer)
    → IsSound (noted line (placed_alone answer) (record t { builder = new })) × (summed (noted line (placed_alone answer) (record t { builder = new })) ≡ put_result (summed t) line (placed_parts made))
over_placed t new line made answer over placed given = go answer placed given
  where
    now : Telling
    now = record t { builder = new }

    unsound : IsSound (record t { builder = new })
    unsound going = absurd (both_ways t.over going over)

    same : summed (record t { builder = new }) ≡ summed t
    same = ap (λ o. record (summed t) { built = built_of o new }) over ∙ ap (λ o. record (summed t) { built = built_of o t.builder }) (sym over)

    part_is : (part : Part) → made ≡ Ok part → summed (record t { builder = new }) ≡ put_result (summed t) line (placed_parts made)
    part_is part is = same ∙ (over_parts t line (part ∷ []) over ∙ ap (λ m. put_result (summed t) line (placed_parts m)) (sym is))

    go : (answer : Result (Unit {0}) Refusal) → IsPlacedAs made answer → IsAnswered (placed_alone answer) → IsSound (noted line (placed_alone answer) (record t { builder = new })) × (summed (noted line (placed_alone answer) (record t { builder = new })) ≡ put_result (summed t) line (placed_parts made))
    go (Ok taken) is given = (unsound, part_is is.0 is.1)
    go (Err (Item BadText)) is given = absurd is
    go (Err (Item (Placed fault))) is given = (
      sound_fault (record t { builder = new }) line (Placed fault) unsound,
      over_fault (record t { builder = new }) line (Placed fault) ∙ (ap (λ s. put_result s line (Err (Placed fault))) same ∙ ap (λ m. put_result (summed t) line (placed_parts m)) (sym is)),
    )
    go (Err (Item (Passed limit))) is given = (unsound, part_is is.0 is.1)
    go (Err NoMemory) is given = absurd given
