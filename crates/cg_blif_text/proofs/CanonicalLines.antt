-- The canonical lines of parts tell the parts.
use Rattle.std.proofs.Common.{◌≡◌, ℕ, ◌+◌, ◌≤◌, Bool, true, false, if◌then◌else◌, IsTrue, List, [], ◌∷◌, ◌++◌, map, length, Option}
use Rattle.std.proofs.Common.{None, Some, Result, Ok, Err, refl, ap, ◌∙◌, arith, codes}
use Rattle.std.specs.List.{AllByRecursion, flat_map}
use Rattle.std.specs.Option.{option_to_list}
use Rattle.std.proofs.lemmas.List.{append-nil}
use Rattle.cg_limit.specs.declared.TheConstants.{MOST_COVER_INPUTS}
use Rattle.cg_cell.specs.Cell.{CellData, IsCell}
use Rattle.cg_cell.specs.Cover.{CoverData, CoverFits, IsCover}
use Rattle.cg_cell.specs.Name.{is_name}
use Rattle.cg_text.specs.declared.lines.Line.{Line}
use Rattle.cg_text.specs.Written.{numbered}
use Rattle.cg_netlist.specs.declared.parts.LogicFunction.TheVariants.{Cover}
use Rattle.cg_netlist_parts.specs.Part.{Part, Input, Output, Clock, Logic, Register}
use Rattle.cg_netlist_parts.specs.Writable.{cell_named}
use Rattle.cg_netlist.proofs.Each.{each_together}
use Rattle.cg_blif_text.specs.declared.fault.LineFault.TheVariants.{BadLine}
use Rattle.cg_blif_text.specs.declared.statement.Statement.{Statement}
use Rattle.cg_blif_text.specs.declared.statement.Statement.TheVariants.{Inputs, Outputs, Clocks, Names, Latch, Gate as Placed}
use Rattle.cg_blif_text.specs.Blocks.{cut, put_in}
use Rattle.cg_blif_text.specs.Canonical.{gate_statement, plain_statement, row_words, statement_line}
use Rattle.cg_blif_text.specs.Commands.{are_row, command_of}
use Rattle.cg_blif_text.specs.Latches.{control_of, latch_with}
use Rattle.cg_blif_text.specs.Meaning.{behind, meant}
use Rattle.cg_blif_text.specs.PinWords.{pin_net}
use Rattle.cg_netlist_placed.specs.declared.fault.PlacedFault.{PlacedFault}
use Rattle.cg_netlist_placed.specs.declared.fault.PlacedFault.TheVariants.{PinFault}
use Rattle.cg_netlist_placed.specs.PinNets.{PinNet}
use Rattle.cg_netlist_placed.specs.Placed.{of_usable, placed_at, placed_by, usable}
use Rattle.cg_cell.specs.Pins.{PinData}
use Rattle.cg_blif_text.specs.Placing.{gate_at, gate_part, give_nets, one_part}
use Rattle.cg_blif_text.specs.Telling.{go_on, latch_register, meant_at, no_rows, tell_blocks, tell_statement}
use Rattle.cg_blif_text.proofs.CanonicalWords.{all_named, init_back, init_named, names_back, pin_words_named, row_named, row_row}
use Rattle.cg_blif_text.proofs.CanonicalWords.{rows_back}
use Rattle.cg_blif_text.proofs.LinesTell.{Says, Tell, command_told, line_tells, tell_both, tell_none}
use Rattle.cg_netlist_placed.specs.PinsOf.{pin_pairs}
use Rattle.cg_blif_text.proofs.PinPairs.{Word, pairs_of_words, pin_words}
use Rattle.cg_netlist_placed.proofs.WordsForPins.{IsNamed}
use Rattle.cg_netlist_placed.proofs.WordsForPins.{AreNamed}
use Rattle.cg_blif_text.proofs.WrittenLines.{IsWritten}

-- the lines are written as names, and tell the parts
pub record Tells (library : List CellData) (lines : List (List Word)) (parts : List Part) : Type 0 where
  pub tell : Tell library lines parts
  pub written : AllByRecursion IsWritten lines

pub written_both : (xs ys : List (List Word)) → AllByRecursion IsWritten xs → AllByRecursion IsWritten ys → AllByRecursion IsWritten (xs ++ ys)
written_both [] ys x y = y
written_both (w ∷ ws) ys x y = (x.0, written_both ws ys x.1 y)

module _ (library : List CellData) where
  pub both_tell : (xs ys : List (List Word)) (ps qs : List Part) → Tells library xs ps → Tells library ys qs → Tells library (xs ++ ys) (ps ++ qs)
  both_tell xs ys ps qs first second = record { tell = tell_both library xs ys ps qs first.tell second.tell; written = written_both xs ys first.written second.written }

  pub each_tells : {X : Type 0} (lines : X → List (List Word)) (parts : X → Part) (xs : List X) → AllByRecursion (λ x. Tells library (lines x) (parts x ∷ [])) xs → Tells library (flat_map lines xs) (map parts xs)
  each_tells lines parts [] all = record { tell = tell_none library; written = tt }
  each_tells lines parts (x ∷ xs) all = both_tell (lines x) (flat_map lines xs) (parts x ∷ []) (map parts xs) all.0 (each_tells lines parts xs all.1)

  pub each_line_tells : {X : Type 0} (line : X → List Word) (parts : X → Part) (xs : List X) → AllByRecursion (λ x. Tells library (line x ∷ []) (parts x ∷ [])) xs → Tells library (map line xs) (map parts xs)
  each_line_tells line parts [] all = record { tell = tell_none library; written = tt }
  each_line_tells line parts (x ∷ xs) all = both_tell (line x ∷ []) (map line xs) (parts x ∷ []) (map parts xs) all.0 (each_line_tells line parts xs all.1)

  one_line : (words : List Word) (statement : Statement) (parts : List Part) → 1 ≤ length words → AllByRecursion IsNamed words → Says library words statement no_rows [] parts → Tells library (words ∷ []) parts
  one_line words statement parts some named says = record { tell = line_tells library words statement no_rows parts says; written = ((some, named), tt) }

  means_as : (first : Word) (words : List Word) → AllByRecursion IsNamed (first ∷ words) → meant (first ∷ words) ≡ behind (command_of first) words
  means_as first words named = ap (λ b. if b then behind (command_of first) words else Err BadLine) (all_named (first ∷ words) named)

  -- inputs, outputs, clocks

  pub inputs_tell : (nets : List Word) → AllByRecursion IsNamed nets → Tells library ((codes ".inputs" ∷ nets) ∷ []) (map (λ net. Input net) nets)
  inputs_tell nets named =
      one_line (codes ".inputs" ∷ nets) (Inputs nets) (map (λ net. Input net) nets) (omega arith) (refl, named)
      (record { command = refl; means = means_as (codes ".inputs") nets (refl, named); stands = refl; goes_on = refl; keeps = λ model. refl; covers = refl; tells = refl })

  pub outputs_tell : (nets : List Word) → AllByRecursion IsNamed nets → Tells library ((codes ".outputs" ∷ nets) ∷ []) (map (λ net. Output net) nets)
  outputs_tell nets named =
      one_line (codes ".outputs" ∷ nets) (Outputs nets) (map (λ net. Output net) nets) (omega arith) (refl, named)
      (record { command = refl; means = means_as (codes ".outputs") nets (refl, named); stands = refl; goes_on = refl; keeps = λ model. refl; covers = refl; tells = refl })

  pub clock_tells : (clock : Option Word) → AllByRecursion IsNamed (option_to_list clock) → Tells library (map (λ net. codes ".clock" ∷ net ∷ []) (option_to_list clock)) (map (λ net. Clock net) (option_to_list clock))
  clock_tells None named = record { tell = tell_none library; written = tt }
  clock_tells (Some net) named =
      one_line (codes ".clock" ∷ net ∷ []) (Clocks (net ∷ [])) (Clock net ∷ []) (omega arith) (refl, named)
      (record { command = refl; means = means_as (codes ".clock") (net ∷ []) (refl, named); stands = refl; goes_on = refl; keeps = λ model. refl; covers = refl; tells = refl })

  -- covers

  rows_cut : (lines : List (List Word)) (number : ℕ) (more : List Line) → AllByRecursion (λ ws. are_row ws ≡ true) lines → cut (numbered number lines ++ more) ≡ record { rows = numbered number lines ++ (cut more).rows; blocks = (cut more).blocks }
  rows_cut [] number more rows = refl
  rows_cut (line ∷ lines) number more rows =
      ap (λ b. put_in b (record { number = number; words = line }) (cut (numbered (number + 1) lines ++ more))) rows.0
      ∙ ap (put_in true (record { number = number; words = line })) (rows_cut lines (number + 1) more rows.1)

  all_rows : (on : Bool) (rows : List (List (Option Bool))) → AllByRecursion (λ ws. are_row ws ≡ true) (map (row_words on) rows)
  all_rows on [] = tt
  all_rows on (row ∷ rows) = (row_row on row, all_rows on rows)

  row_written : (on : Bool) (row : List (Option Bool)) → 1 ≤ length (row_words on row)
  row_written on [] = omega arith
  row_written on (p ∷ ps) = omega arith

  rows_written : (on : Bool) (rows : List (List (Option Bool))) → AllByRecursion IsWritten (map (row_words on) rows)
  rows_written on [] = tt
  rows_written on (row ∷ rows) = ((row_written on row, row_named on row), rows_written on rows)

  pub cover_tells : (inputs : List Word) (output : Word) (cover : CoverData) → AllByRecursion IsNamed inputs → IsNamed output → length inputs ≤ MOST_COVER_INPUTS → IsCover cover → CoverFits (length inputs) cover
      → Tells library (statement_line (Names inputs output) ∷ map (row_words cover.on) cover.rows) (Logic (record { inputs = inputs; output = output; function = Cover cover }) ∷ [])
  cover_tells inputs output cover ins out few is fits = record { tell = tell; written = ((omega arith, named), rows_written cover.on cover.rows) }
    where
      named : AllByRecursion IsNamed (codes ".names" ∷ (inputs ++ output ∷ []))
      named = (refl, each_together IsNamed inputs (output ∷ []) ins (out, tt))

      tell : Tell library (statement_line (Names inputs output) ∷ map (row_words cover.on) cover.rows) (Logic (record { inputs = inputs; output = output; function = Cover cover }) ∷ [])
      tell number more told t unrowed place said =
          let part = Logic (record { inputs = inputs; output = output; function = Cover cover }) in
          let words : List Word = codes ".names" ∷ (inputs ++ output ∷ []) in
          let rows = numbered (number + 1) (map (row_words cover.on) cover.rows) in
          let split : cut (numbered number (statement_line (Names inputs output) ∷ map (row_words cover.on) cover.rows) ++ more) ≡ record { rows = []; blocks = record { head = record { number = number; words = words }; rows = rows ++ (cut more).rows } ∷ (cut more).blocks } =
          ap (put_in false (record { number = number; words = words })) (rows_cut (map (row_words cover.on) cover.rows) (number + 1) more (all_rows cover.on cover.rows)) in
          let own : rows ++ (cut more).rows ≡ rows = ap (λ rs. rows ++ rs) unrowed ∙ append-nil rows in
          let says : Says library words (Names inputs output) cover rows (part ∷ []) = record {
            command = refl;
            means = means_as (codes ".names") (inputs ++ output ∷ []) named ∙ names_back inputs output few;
            stands = refl;
            goes_on = refl;
            keeps = λ model. refl;
            covers = rows_back (length inputs) cover (number + 1) is fits;
            tells = refl;
          } in (
            ap (λ c. c.rows) split,
            ap (λ c. tell_blocks library c.blocks told) split
                ∙ (ap (λ rs. go_on (tell_statement library told number rs (meant_at told.place (meant words))) (tell_blocks library (cut more).blocks)) own
                ∙ ap (λ r. go_on r (tell_blocks library (cut more).blocks)) (command_told library number words (Names inputs output) cover rows (part ∷ []) told t says place said)),
          )

  -- placed cells

  pairs_give : (pins : List PinData) (nets : List (Option Word)) → give_nets (pin_pairs pins nets) ≡ true
  pairs_give [] nets = refl
  pairs_give (p ∷ pins) [] = refl
  pairs_give (p ∷ pins) (None ∷ nets) = pairs_give pins nets
  pairs_give (p ∷ pins) (Some net ∷ nets) = pairs_give pins nets

  gate_so : (o : Option CellData) (words : List PinNet) (part : Part) → give_nets words ≡ true → placed_by o words ≡ Ok part → gate_part o words ≡ Ok part
  gate_so o words part give is = go (usable o) is
    where
      go : (u : Result CellData PlacedFault) → of_usable u (λ c. placed_at c words) ≡ Ok part → of_usable u (gate_at words) ≡ Ok part
      go (Ok cell) e = ap (λ b. if b then placed_at cell words else Err PinFault) give ∙ e
      go (Err fault) e = absurd (cc)

  pub gate_tells : (cell : CellData) (nets : List (Option Word)) (part : Part) → IsCell cell → IsNamed cell.name → AllByRecursion (λ pin. IsTrue (is_name pin.name)) cell.pins → AreNamed nets
      → placed_by (cell_named library cell.name) (pin_pairs cell.pins nets) ≡ Ok part → Tells library (statement_line (gate_statement cell nets) ∷ []) (part ∷ [])
  gate_tells cell nets part is name pins named said =
      let words : AllByRecursion IsNamed (statement_line (gate_statement cell nets)) = (refl, (name, pin_words_named cell.pins nets pins named)) in
      one_line (statement_line (gate_statement cell nets)) (Placed cell.name (map pin_net (pin_words cell.pins nets))) (part ∷ []) (omega arith) words
      (record {
        command = refl;
        means = means_as (codes ".gate") (cell.name ∷ pin_words cell.pins nets) words;
        stands = refl;
        goes_on = refl;
        keeps = λ model. refl;
        covers = refl;
        tells = ap (λ ws. one_part (gate_part (cell_named library cell.name) ws)) (pairs_of_words cell.pins nets is.unsplit) ∙ ap one_part (gate_so (cell_named library cell.name) (pin_pairs cell.pins nets) part (pairs_give cell.pins nets) said);
      })

  -- plain registers

  pub latch_tells : (input output clock : Word) (init : ℕ) → IsNamed input → IsNamed output → IsNamed clock → init ≤ 3
      → Tells library (statement_line (plain_statement (input ∷ []) ((output, false) ∷ []) clock init) ∷ []) (Register (latch_register input output (control_of clock) init) ∷ [])
  latch_tells input output clock init i o c small =
      let words : List Word = input ∷ output ∷ codes "re" ∷ clock ∷ ((48 + init) ∷ []) ∷ [] in
      let named : AllByRecursion IsNamed (codes ".latch" ∷ words) = (refl, (i, (o, (refl, (c, (init_named init small, tt)))))) in
      one_line (codes ".latch" ∷ words) (Latch input output (control_of clock) init) (Register (latch_register input output (control_of clock) init) ∷ []) (omega arith) named
      (record {
        command = refl;
        means = means_as (codes ".latch") words named ∙ ap (latch_with input output (control_of clock)) (init_back init small);
        stands = refl;
        goes_on = refl;
        keeps = λ model. refl;
        covers = refl;
        tells = refl;
      })
