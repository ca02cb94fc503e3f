-- What the watcher says of a stimulus that is played is read as that stimulus.
use Rattle.std.proofs.Common.{◌≡◌, ℕ, ◌+◌, ◌*◌, ◌^◌, ◌<◌, ◌≤◌, Bool, true, false, List, [], ◌∷◌, ◌++◌, length, map, Option, Some, None, Ok, slice_get}
use Rattle.std.proofs.Common.{append_assoc, nat_eq, refl, sym, ap, ◌∙◌, arith, subst, inl, inr, unwrap_or}
use Rattle.std.specs.List.{AllByRecursion}
use Rattle.std.proofs.lemmas.Bool.{eqb-true, or_cases, both_ways}
use Rattle.std.proofs.lemmas.List.{append-nil, append_cancel_right, length-map}
use Rattle.std.proofs.lemmas.List.Elements.{recursion_from_All}
use Rattle.std.proofs.lemmas.Option.{slice_get-get_or, unwrap_or-slice_get}
use Rattle.cg_limit.specs.declared.TheConstants.{MOST_ROWS}
use Rattle.cg_cell.specs.Name.{is_name}
use Rattle.cg_net.specs.Names.{net_name}
use Rattle.cg_net.specs.NetSets.{is_in}
use Rattle.cg_net.proofs.Members.{All-member, is_in_cases, is_in_left, is_in_right, in_alone, member_at}
use Rattle.cg_netlist.specs.Circuit.{Circuit, data_inputs}
use Rattle.cg_netlist.specs.History.{LawfulFrom, Moment, Tick}
use Rattle.cg_netlist.specs.Netlist.{IsNetlist}
use Rattle.cg_netlist.proofs.Given.{clock_given, driver_within, given_driver}
use Rattle.cg_report.specs.Place.{played_moments, shown_from}
use Rattle.cg_report.specs.Shown.{Shown}
use Rattle.cg_stimulus.specs.Inputs.{IsFor, IsStimulus, Rows, input_names}
use Rattle.cg_stimulus.specs.Played.{IsPlayed, played_start, played_wave, wave_from}
use Rattle.cg_stimulus.specs.Reading.{column_of}
use Rattle.cg_stimulus.proofs.Columns.{found_column}
use Rattle.cg_stimulus.proofs.InputsNamed.{inputs_within}
use Rattle.cg_text.specs.Lines.{end_line, kept_lines}
use Rattle.cg_text.specs.Spots.{Spot, spots_of}
use Rattle.cg_text.specs.Words.{lines}
use Rattle.cg_text.specs.Written.{numbered, open_text, text_of}
use Rattle.cg_text.proofs.Written.{lines-open, text_lines-text, text_of-open}
use Rattle.cg_vcd.specs.Changes.{Free, told}
use Rattle.cg_vcd.specs.Commands.{definitions}
use Rattle.cg_vcd.specs.Dumped.{dump_lines, dump_text}
use Rattle.cg_vcd.specs.Identifiers.{id_of}
use Rattle.cg_vcd.specs.ReadBack.{NothingIsNamedEnd, IsSaidOf}
use Rattle.cg_vcd.specs.Rows.{rows_of_changes}
use Rattle.cg_vcd.specs.Variables.{Declared, nothing_declared}
use Rattle.cg_vcd.specs.VcdFaults.{◌>>=◌}
use Rattle.cg_vcd.specs.VcdText.{clock_name, rows_behind, vcd_rows, wire}
use Rattle.cg_vcd.specs.VcdWords.{is_end, layout, vcd_words}
use Rattle.cg_vcd.specs.inner.Sampled.{PlayedBits}
use Rattle.cg_vcd.proofs.DumpLines.{alone, dump_lines_read, dump_text_of, dump_words, ending_words, nets_words, scope_words, upscope_words}
use Rattle.cg_vcd.proofs.HeaderRead.{Declares, header_read, ids_apart}
use Rattle.cg_vcd.proofs.MomentsReread.{all_told, lined_alone}
use Rattle.cg_vcd.proofs.PlayedBack.{played_bits}
use Rattle.cg_vcd.proofs.SampledBack.{rows_rose, rows_shown}
use Rattle.cg_vcd.proofs.DumpReadBack.{lined}

-- the moments as they are shown

nets_shown : (c : Circuit) (start : List Bool) (before : Option Moment) (wave : List Tick) (history : List Moment) → LawfulFrom c start before wave history
    → map (λ m. m.nets) (shown_from c before wave history) ≡ map (λ m. m.nets) history
nets_shown c start before [] [] lawful = refl
nets_shown c start before [] (now ∷ history) lawful = absurd lawful
nets_shown c start before (tick ∷ wave) [] lawful = absurd lawful
nets_shown c start before (tick ∷ wave) (now ∷ history) lawful = ap (λ later. now.nets ∷ later) (nets_shown c start (Some now) wave history lawful.1)

shown_long : (c : Circuit) (start : List Bool) (before : Option Moment) (wave : List Tick) (history : List Moment) → LawfulFrom c start before wave history
    → AllByRecursion (λ m. length m.nets ≡ length c.names) (shown_from c before wave history)
shown_long c start before [] [] lawful = tt
shown_long c start before [] (now ∷ history) lawful = absurd lawful
shown_long c start before (tick ∷ wave) [] lawful = absurd lawful
shown_long c start before (tick ∷ wave) (now ∷ history) lawful = ((lawful.0).nets.long, shown_long c start (Some now) wave history lawful.1)

shown_few : (c : Circuit) (before : Option Moment) (wave : List Tick) (history : List Moment) → length (shown_from c before wave history) ≤ length wave
shown_few c before [] history = omega arith
shown_few c before (tick ∷ wave) [] = omega arith
shown_few c before (tick ∷ wave) (now ∷ history) = let later : length (shown_from c (Some now) wave history) ≤ length wave = shown_few c (Some now) wave history in omega arith

wave_long : (width : ℕ) (before : List Bool) (rows : List (List Bool)) → length (wave_from width before rows) ≡ 2 * length rows + 1
wave_long width before [] = refl
wave_long width before (row ∷ rows) = let later : length (wave_from width row rows) ≡ 2 * length rows + 1 = wave_long width row rows in omega arith

moments_few : (c : Circuit) (stimulus : Rows) → IsStimulus stimulus → (history : List Moment) → length (played_moments c stimulus.rows history) < 2 ^ 64
moments_few c stimulus is history =
    let shown : length (played_moments c stimulus.rows history) ≤ length (played_wave c stimulus.rows) = shown_few c None (played_wave c stimulus.rows) history in
    let long : length (played_wave c stimulus.rows) ≡ 2 * length stimulus.rows + 1 = wave_long (length (data_inputs c)) [] stimulus.rows in
    let few : length stimulus.rows ≤ MOST_ROWS = is.few in
    omega arith

-- the nets of the first of some names

record FrontNets (names : List (List ℕ)) (nets : List ℕ) (first : List (List ℕ)) : Type 0 where
  pub front : List ℕ
  pub extra : List ℕ
  pub split : nets ≡ front ++ extra
  pub named : map (net_name names) front ≡ first

front_nets : (names : List (List ℕ)) (nets : List ℕ) (first extra : List (List ℕ)) → map (net_name names) nets ≡ first ++ extra → FrontNets names nets first
front_nets names nets [] extra same = record { front = []; extra = nets; split = refl; named = refl }
front_nets names [] (name ∷ first) extra same = absurd (cc)
front_nets names (net ∷ nets) (name ∷ first) extra same =
    let here : net_name names net ≡ name = cc in
    let rest : map (net_name names) nets ≡ first ++ extra = cc in
    let later = front_nets names nets first extra rest in
    record {
      front = net ∷ later.front;
      extra = later.extra;
      split = ap (λ more. net ∷ more) later.split;
      named = ap (λ n. n ∷ map (net_name names) later.front) here ∙ ap (λ more. name ∷ more) later.named;
    }

name_there : (names : List (List ℕ)) (net : ℕ) → net < length names → slice_get names net ≡ Some (net_name names net)
name_there names net small = slice_get-get_or names net [] small ∙ ap Some (sym (unwrap_or-slice_get names net []))

names_there : (names : List (List ℕ)) (nets : List ℕ) → AllByRecursion (λ net. net < length names) nets
    → AllByRecursion (λ name. (j : ℕ) × (slice_get names j ≡ Some name)) (map (net_name names) nets)
names_there names [] within = tt
names_there names (net ∷ nets) within = ((net, name_there names net within.0), names_there names nets within.1)

all_behind : {X : Type 0} (P : X → Type 0) (xs ys : List X) → AllByRecursion P xs → AllByRecursion P ys → AllByRecursion P (xs ++ ys)
all_behind P [] ys first later = later
all_behind P (x ∷ xs) ys first later = (first.0, all_behind P xs ys first.1 later)

all_front : {X : Type 0} (P : X → Type 0) (xs ys : List X) → AllByRecursion P (xs ++ ys) → AllByRecursion P xs
all_front P [] ys all = tt
all_front P (x ∷ xs) ys all = (all.0, all_front P xs ys all.1)

among_front : (all xs before : List ℕ) → all ≡ before ++ xs → AllByRecursion (λ id. is_in all id ≡ true) xs
among_front all [] before split = tt
among_front all (x ∷ xs) before split = (
  subst (λ nets. is_in nets x ≡ true) (sym split) (is_in_right before (x ∷ xs) x (member_at (x ∷ xs) 0 x refl)),
  among_front all xs (before ++ x ∷ []) (split ∙ sym (append_assoc before (x ∷ []) xs)),
)

-- the wires of names that are declared
wires_named : (names : List (List ℕ)) (d : Declared) (nets : List ℕ) → Declares names d → AllByRecursion (λ net. net < length names) nets
    → map (wire d.variables) (map (net_name names) nets) ≡ nets
wires_named names d [] so within = refl
wires_named names d (net ∷ nets) so within =
    let here : wire d.variables (net_name names net) ≡ net = ap (λ w. unwrap_or w 0) (so.wires net (net_name names net) (name_there names net within.0)) in
    ap (λ w. w ∷ map (wire d.variables) (map (net_name names) nets)) here ∙ ap (λ later. net ∷ later) (wires_named names d nets so within.1)

-- the rows of the lines of moments on which they were played
moments_rows : (ins : List ℕ) (clock : ℕ) (ids : List (List ℕ)) (end n line : ℕ) (known : (net : ℕ) → net < n → column_of ids (id_of net) ≡ Some net)
    (below : (id : ℕ) → is_in (ins ++ clock ∷ []) id ≡ true → id < n) (rows : List (List Bool)) (moments : List Shown)
    → PlayedBits ins clock rows (map (λ m. m.nets) moments) → AllByRecursion (λ m. length m.nets ≡ n) moments → length moments < 2 ^ 64 → length rows ≤ MOST_ROWS
    → rows_of_changes ins clock (told ids (ins ++ clock ∷ []) end Free None (lined line (dump_lines 0 None moments))) ≡ Ok rows
moments_rows ins clock ids end n line known below [] [] played wide few small = absurd played
moments_rows ins clock ids end n line known below (row ∷ rows) [] played wide few small = absurd played
moments_rows ins clock ids end n line known below rows (first ∷ later) played wide few small =
    let used = ins ++ clock ∷ [] in
    let nows = map (λ m. m.nets) later in
    let all = all_told used ids end n known below line first later (omega arith) wide.0 wide.1 in
    let rose = rows_rose ins clock rows first.nets nows played in
    let inside : AllByRecursion (λ id. is_in used id ≡ true) ins = all_front (λ id. is_in used id ≡ true) ins (clock ∷ []) (among_front used used [] refl) in
    let clock_inside : is_in used clock ≡ true = is_in_right ins (clock ∷ []) clock (in_alone clock) in
    ap (rows_of_changes ins clock) all.told_is
    ∙ (ap (λ r. r >>= Ok) (rows_shown ins used clock inside clock_inside 0 all.changes first.nets all.steps nows all.values all.shown (omega (arith, ap length rose, small)))
    ∙ ap Ok rose)

-- what is behind the definitions, for the wires that they have
wires_so : (ids : List (List ℕ)) (end : ℕ) (ins wires : List ℕ) (clock wire : ℕ) (ws vs : List Spot) → wires ≡ ins → wire ≡ clock → ws ≡ vs
    → rows_of_changes wires wire (told ids (wires ++ wire ∷ []) end Free None ws) ≡ rows_of_changes ins clock (told ids (ins ++ clock ∷ []) end Free None vs)
wires_so ids end ins wires clock wire ws vs ins_are clock_is words =
    ap (λ x. rows_of_changes x wire (told ids (x ++ wire ∷ []) end Free None ws)) ins_are
    ∙ (ap (λ x. rows_of_changes ins x (told ids (ins ++ x ∷ []) end Free None ws)) clock_is ∙ ap (λ x. rows_of_changes ins clock (told ids (ins ++ clock ∷ []) end Free None x)) words)

module _ (c : Circuit) (stimulus : Rows) (good : IsNetlist c) (no_end : NothingIsNamedEnd c) (is_for : IsFor c stimulus) (is : IsStimulus stimulus) where
  abbrev front : FrontNets c.names (data_inputs c) stimulus.inputs
  front = front_nets c.names (data_inputs c) stimulus.inputs is_for.0 is_for.1

  abbrev ins : List ℕ
  ins = front.front

  all_within : AllByRecursion (λ x. x < length c.names) (ins ++ front.extra)
  all_within = subst (AllByRecursion (λ x. x < length c.names)) front.split (recursion_from_All (λ x. x < length c.names) (data_inputs c) (inputs_within c good))

  ins_within : AllByRecursion (λ x. x < length c.names) ins
  ins_within = all_front (λ x. x < length c.names) ins front.extra all_within

  module _ (clock : ℕ) (is_clock : c.clock ≡ Some clock) where
    clock_within : clock < length c.names
    clock_within = driver_within c good.well_formed.driven clock (given_driver c clock (clock_given c clock is_clock))

    abbrev wanted : List (List ℕ)
    wanted = stimulus.inputs ++ net_name c.names clock ∷ []

    wanted_there : AllByRecursion (λ name. (j : ℕ) × (slice_get c.names j ≡ Some name)) wanted
    wanted_there =
        all_behind (λ name. (j : ℕ) × (slice_get c.names j ≡ Some name)) stimulus.inputs (net_name c.names clock ∷ [])
        (subst (AllByRecursion (λ name. (j : ℕ) × (slice_get c.names j ≡ Some name))) front.named (names_there c.names ins ins_within))
        ((clock, name_there c.names clock clock_within), tt)

    below : (id : ℕ) → is_in (ins ++ clock ∷ []) id ≡ true → id < length c.names
    below id among = elim (is_in_cases ins (clock ∷ []) id among) [
      | inl input ↦ All-member (λ x. x < length c.names) (data_inputs c) id (inputs_within c good)
          (subst (λ nets. is_in nets id ≡ true) (sym front.split) (is_in_left ins front.extra id input))
      | inr last ↦ elim (or_cases (nat_eq id clock) false last) [
        | inl same ↦ let e : id ≡ clock = eqb-true id clock same in let w : clock < length c.names = clock_within in omega arith
        | inr neither ↦ absurd (both_ways false refl neither)
      ]
    ]

    module _ (end : ℕ) (d : Declared) (so : Declares c.names d) where
      declared_known : (net : ℕ) → net < length c.names → column_of d.ids (id_of net) ≡ Some net
      declared_known net small = sym (found_column d.ids (id_of net) (Some net) (ids_apart d.ids (length c.names) so.count so.ids) (so.ids net small))

      rows_declared : (line : ℕ) (moments : List Shown) → PlayedBits ins clock stimulus.rows (map (λ m. m.nets) moments) → AllByRecursion (λ m. length m.nets ≡ length c.names) moments
          → length moments < 2 ^ 64
          → rows_behind stimulus.inputs (net_name c.names clock) end (record { declared = d; rest = spots_of (numbered line (alone (dump_lines 0 None moments))) }) ≡ Ok stimulus.rows
      rows_declared line moments played wide few =
          wires_so d.ids end ins (map (wire d.variables) stimulus.inputs) clock (wire d.variables (net_name c.names clock))
          (spots_of (numbered line (alone (dump_lines 0 None moments)))) (lined line (dump_lines 0 None moments))
          (ap (map (wire d.variables)) (sym front.named) ∙ wires_named c.names d ins so ins_within)
          (ap (λ w. unwrap_or w 0) (so.wires clock (net_name c.names clock) (name_there c.names clock clock_within)))
          (lined_alone line (dump_lines 0 None moments))
          ∙ moments_rows ins clock d.ids end (length c.names) line declared_known below stimulus.rows moments played wide few is.few

    -- a text of moments on which the rows were played
    text_read : (end : ℕ) (moments : List Shown) → PlayedBits ins clock stimulus.rows (map (λ m. m.nets) moments) → AllByRecursion (λ m. length m.nets ≡ length c.names) moments
        → length moments < 2 ^ 64
        → ◌>>=◌ {B = List (List Bool)} (definitions wanted end nothing_declared [] (vcd_words (dump_text c moments ++ 10 ∷ []))) (rows_behind stimulus.inputs (net_name c.names clock) end) ≡ Ok stimulus.rows
    text_read end moments played wide few =
        let named = recursion_from_All (λ name. is_name name ≡ true) c.names good.well_formed.names in
        let plain = recursion_from_All (λ name. is_end name ≡ false) c.names no_end.names in
        let words : vcd_words (dump_text c moments ++ 10 ∷ []) ≡ spots_of (numbered 1 (dump_words c moments)) =
        ap vcd_words (dump_text_of c moments) ∙ ap spots_of (text_lines-text layout (dump_words c moments) (dump_lines_read c moments good.well_formed.model named few)) in
        let header = header_read wanted c.names end c.model (alone (dump_lines 0 None moments)) no_end.model good.well_formed.different plain good.nets wanted_there in
        ap (λ ws. ◌>>=◌ {B = List (List Bool)} (definitions wanted end nothing_declared [] ws) (rows_behind stimulus.inputs (net_name c.names clock) end)) words
        ∙ (ap (λ r. ◌>>=◌ {B = List (List Bool)} r (rows_behind stimulus.inputs (net_name c.names clock) end)) header.read
        ∙ rows_declared end header.behind header.declares header.line moments played wide few)

  rows_wide : (rows : List (List Bool)) → AllByRecursion (λ row. length row ≡ length stimulus.inputs) rows → AllByRecursion (λ row. length row ≡ length ins) rows
  rows_wide [] wide = tt
  rows_wide (row ∷ rows) wide =
      let same : length stimulus.inputs ≡ length ins = ap length (sym front.named) ∙ length-map ins (net_name c.names) in
      (wide.0 ∙ same, rows_wide rows wide.1)

  -- what is said of a played history is read as what was played
  text_rows : (clock : ℕ) (history : List Moment) → c.clock ≡ Some clock → IsPlayed c stimulus.rows history
      → vcd_rows stimulus.inputs (Some (net_name c.names clock)) (dump_text c (played_moments c stimulus.rows history) ++ 10 ∷ []) ≡ Ok stimulus.rows
  text_rows clock history is_clock played =
      let wave = played_wave c stimulus.rows in
      let moments = played_moments c stimulus.rows history in
      let bits : PlayedBits ins clock stimulus.rows (map (λ m. m.nets) moments) =
      subst (PlayedBits ins clock stimulus.rows) (sym (nets_shown c (played_start c) None wave history played))
      (played_bits c (played_start c) clock is_clock ins front.extra front.split all_within (length (data_inputs c)) None [] stimulus.rows history (rows_wide stimulus.rows is.wide) played) in
      text_read clock is_clock (end_line (dump_text c moments ++ 10 ∷ [])) moments bits (shown_long c (played_start c) None wave history played) (moments_few c stimulus is history)

-- only the lines of a text matter
rows_by_lines : (inputs : List (List ℕ)) (clock : List ℕ) (text other : List ℕ) → lines text ≡ lines other → vcd_rows inputs (Some clock) text ≡ vcd_rows inputs (Some clock) other
rows_by_lines inputs clock text other same =
    ap (λ ls. ◌>>=◌ {B = List (List Bool)} (definitions (inputs ++ clock ∷ []) (1 + length ls) nothing_declared [] (spots_of (kept_lines layout 1 ls))) (rows_behind inputs clock (1 + length ls))) same

-- the end of the last line is not needed
lines_ended : (c : Circuit) (moments : List Shown) → IsNetlist c → length moments < 2 ^ 64 → lines (dump_text c moments) ≡ lines (dump_text c moments ++ 10 ∷ [])
lines_ended c moments good few =
    let named = recursion_from_All (λ name. is_name name ≡ true) c.names good.well_formed.names in
    let whole : dump_text c moments ++ 10 ∷ [] ≡ text_of (dump_words c moments) = dump_text_of c moments in
    let open_so : dump_text c moments ≡ open_text (dump_words c moments) = append_cancel_right (dump_text c moments) (open_text (dump_words c moments)) (10 ∷ [])
    (whole ∙ text_of-open (scope_words c.model) (nets_words 0 c.names ++ upscope_words ∷ ending_words ∷ alone (dump_lines 0 None moments))) in
    ap lines open_so ∙ (lines-open layout (dump_words c moments) (dump_lines_read c moments good.well_formed.model named few) ∙ ap lines (sym whole))

-- the rows that are read of a text that was said of a stimulus are those of the stimulus
pub read_back : (reader : Circuit) (stimulus : Rows) (text : List ℕ) → IsSaidOf reader stimulus text → vcd_rows (input_names reader) (clock_name reader) text ≡ Ok stimulus.rows
read_back reader stimulus text of =
    ap (λ names. vcd_rows names (clock_name reader) text) of.same_inputs
    ∙ (ap (λ name. vcd_rows stimulus.inputs name text) of.same_clock ∙ (ended ∙ text_rows of.played stimulus of.netlist of.no_end of.is_for of.is_stimulus of.clock of.history of.clocked of.is_played))
  where
    ended : vcd_rows stimulus.inputs (Some (net_name of.played.names of.clock)) text
        ≡ vcd_rows stimulus.inputs (Some (net_name of.played.names of.clock)) (dump_text of.played (played_moments of.played stimulus.rows of.history) ++ 10 ∷ [])
    ended = elim of.is_ending [
      | inl none ↦
          ap (vcd_rows stimulus.inputs (Some (net_name of.played.names of.clock))) (of.said ∙ (ap (λ x. dump_text of.played (played_moments of.played stimulus.rows of.history) ++ x) none ∙ append-nil (dump_text of.played (played_moments of.played stimulus.rows of.history))))
          ∙ rows_by_lines stimulus.inputs (net_name of.played.names of.clock) (dump_text of.played (played_moments of.played stimulus.rows of.history))
          (dump_text of.played (played_moments of.played stimulus.rows of.history) ++ 10 ∷ [])
          (lines_ended of.played (played_moments of.played stimulus.rows of.history) of.netlist (moments_few of.played stimulus of.is_stimulus of.history))
      | inr feed ↦
          ap (vcd_rows stimulus.inputs (Some (net_name of.played.names of.clock))) (of.said ∙ ap (λ x. dump_text of.played (played_moments of.played stimulus.rows of.history) ++ x) feed)
    ]
