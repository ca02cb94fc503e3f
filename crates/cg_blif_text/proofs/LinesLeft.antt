-- What the lines that are left tell, line by line.
use Rattle.std.proofs.Common.{◌≡◌, ℕ, Bool, true, false, if◌then◌else◌, List, [], ◌∷◌, ◌++◌, length, unwrap_or, Option, None, Some}
use Rattle.std.proofs.Common.{Result, Ok, Err, refl, sym, ap, ◌∙◌, append_assoc, append-nil}
use Rattle.std.specs.List.{list_all}
use Rattle.std.proofs.lemmas.Bool.{both_ways}
use Rattle.cg_cell.specs.Cell.{CellData}
use Rattle.cg_cell.specs.Cover.{CoverData}
use Rattle.cg_cell.specs.Name.{is_name}
use Rattle.cg_limit.specs.declared.Limit.{Limit}
use Rattle.cg_text.specs.declared.lines.Line.{Line}
use Rattle.cg_netlist.specs.declared.parts.LogicFunction.TheVariants.{Cover}
use Rattle.cg_netlist_parts.specs.Part.{Part, Logic}
use Rattle.cg_netlist_parts.specs.Said.{Said, limit_of, with_part}
use Rattle.cg_blif_text.specs.declared.fault.BlifFault.{BlifFault}
use Rattle.cg_blif_text.specs.declared.fault.BlifFault.TheVariants as faults
use Rattle.cg_blif_text.specs.declared.fault.LineFault.{LineFault}
use Rattle.cg_blif_text.specs.declared.fault.LineFault.TheVariants.{BadLine, Limit as Passed}
use Rattle.cg_blif_text.specs.declared.statement.Place.{Place}
use Rattle.cg_blif_text.specs.declared.statement.Place.TheVariants.{First, Unnamed, Named, Ended}
use Rattle.cg_blif_text.specs.declared.statement.Statement.{Statement}
use Rattle.cg_blif_text.specs.declared.statement.Statement.TheVariants.{Model, Inputs, Outputs, Clocks, Names, Latch, Gate, Skipped}
use Rattle.cg_blif_text.specs.declared.statement.Statement.TheVariants.{End}
use Rattle.cg_blif_text.specs.Blocks.{cut, put_in}
use Rattle.cg_blif_text.specs.Commands.{are_row, command_of}
use Rattle.cg_blif_text.specs.Meaning.{behind, meant}
use Rattle.cg_blif_text.specs.Rows.{Row, cover_from, keeps_value, put_places, put_row, row_of}
use Rattle.cg_blif_text.specs.Telling.{LinesSaid, at, cover_or_none, go_on, meant_at, next_model, next_place, no_rows, rows_behind}
use Rattle.cg_blif_text.specs.Telling.{said_by, tell_blocks, tell_cut, tell_parts, tell_statement, unless, with_parts, with_said}
use Rattle.cg_blif_text.specs.LinesLeft.{close_with, closed, closed_said, cover_part, covered, opened, put_rows, resume}
use Rattle.cg_blif_text.specs.LinesLeft.{said_at_once}
use Rattle.cg_blif_text.specs.OpenCovers.{CoverSoFar, cover_so_far, with_row}

abbrev logic_of : List (List ℕ) → List ℕ → CoverData → Part
logic_of inputs output cover = Logic (record { inputs = inputs; output = output; function = Cover cover })

abbrev behind_of : List ℕ → List (List ℕ) → Result Statement LineFault
behind_of w ws = behind (command_of w) ws

-- rows behind a statement that is no `.names` line
abbrev pub lone : List Line → Result CoverData BlifFault
lone [] = Ok no_rows
lone (row ∷ rows) = Err (faults.BadLine row.number)

-- Lines

row_cut : (line : Line) (later : List Line) → are_row line.words ≡ true → cut (line ∷ later) ≡ record { rows = line ∷ (cut later).rows; blocks = (cut later).blocks }
row_cut line later is = ap (λ b. put_in b line (cut later)) is

command_cut : (line : Line) (later : List Line) → are_row line.words ≡ false → cut (line ∷ later) ≡ record { rows = []; blocks = record { head = line; rows = (cut later).rows } ∷ (cut later).blocks }
command_cut line later is = ap (λ b. put_in b line (cut later)) is

-- a cover that gets no more rows is the cover of the rows so far
put_none : (o : CoverSoFar) → covered o [] ≡ Ok (cover_so_far o)
put_none o = ap (λ rows. Ok (record { rows = rows; on = unwrap_or o.on true })) (append-nil o.rows)

module _ (library : List CellData) where
  -- a line that is a command, behind an open cover or not
  on_block : Line → List Line → LinesSaid → Result LinesSaid BlifFault
  on_block line later told = go_on (tell_statement library told line.number (cut later).rows (meant_at told.place (meant line.words))) (tell_blocks library (cut later).blocks)

  pub at_command : (told : LinesSaid) (cover : Option CoverSoFar) (line : Line) (later : List Line) → are_row line.words ≡ false
      → resume library told cover (line ∷ later) ≡ go_on (closed told cover) (λ t. go_on (tell_statement library t line.number (cut later).rows (meant_at t.place (meant line.words))) (tell_blocks library (cut later).blocks))
  at_command told None line later is = ap (λ c. tell_cut library c.rows c.blocks told) (command_cut line later is)
  at_command told (Some o) line later is =
      ap (λ c. go_on (close_with told o (covered o c.rows)) (tell_blocks library c.blocks)) (command_cut line later is)
      ∙ ap (λ c. go_on (close_with told o c) (λ t. go_on (tell_statement library t line.number (cut later).rows (meant_at t.place (meant line.words))) (tell_blocks library (cut later).blocks))) (put_none o)

  pub at_end : (told : LinesSaid) (cover : Option CoverSoFar) → resume library told cover [] ≡ closed told cover
  at_end told None = refl
  at_end told (Some o) = ap (λ c. go_on (close_with told o c) (λ t. Ok t)) (put_none o) ∙ same (closed told (Some o))
    where
      same : (r : Result LinesSaid BlifFault) → go_on r (λ t. Ok t) ≡ r
      same (Ok t) = refl
      same (Err fault) = refl

  -- a row without a `.names` line
  pub at_lone_row : (told : LinesSaid) (line : Line) (later : List Line) → are_row line.words ≡ true → resume library told None (line ∷ later) ≡ Err (faults.BadLine line.number)
  at_lone_row told line later is = ap (λ c. tell_cut library c.rows c.blocks told) (row_cut line later is)

  -- a row of an open cover
  more_rows : (rows : List (List (Option Bool))) (places : List (Option Bool)) (r : Result CoverData BlifFault) → put_rows rows (put_places places r) ≡ put_rows (rows ++ places ∷ []) r
  more_rows rows places (Ok cover) = ap (λ all. Ok (record { rows = all; on = cover.on })) (sym (append_assoc rows (places ∷ []) cover.rows))
  more_rows rows places (Err fault) = refl

  row_covered : (o next : CoverSoFar) (line : Line) (rows : List Line) → list_all is_name line.words ≡ true → with_row o (row_of (length o.inputs) line.words) ≡ Some next → covered o (line ∷ rows) ≡ covered next rows
  row_covered o next line rows named is =
      ap (λ b. put_rows o.rows (if b then put_row line.number o.on (row_of (length o.inputs) line.words) (cover_from (length o.inputs) rows) else Err (faults.BadLine line.number))) named
      ∙ go (row_of (length o.inputs) line.words) is
    where
      kept : (row : Row) (b : Bool) → (if b then Some (record o { rows = o.rows ++ row.places ∷ []; on = Some row.value }) else None) ≡ Some next
          → put_rows o.rows (if b then put_places row.places (cover_from (length o.inputs) rows (Some row.value)) else Err (faults.BadCover line.number)) ≡ covered next rows
      kept row true e =
          let same : record o { rows = o.rows ++ row.places ∷ []; on = Some row.value } ≡ next = cc in
          more_rows o.rows row.places (cover_from (length o.inputs) rows (Some row.value)) ∙ ap (λ p. covered p rows) same
      kept row false e = absurd (cc)

      go : (r : Option Row) → with_row o r ≡ Some next → put_rows o.rows (put_row line.number o.on r (cover_from (length o.inputs) rows)) ≡ covered next rows
      go None e = absurd (cc)
      go (Some row) e = kept row (keeps_value o.on row.value) e

  row_refused : (o : CoverSoFar) (line : Line) (rows : List Line) → list_all is_name line.words ≡ true → with_row o (row_of (length o.inputs) line.words) ≡ None → covered o (line ∷ rows) ≡ Err (faults.BadCover line.number)
  row_refused o line rows named is =
      ap (λ b. put_rows o.rows (if b then put_row line.number o.on (row_of (length o.inputs) line.words) (cover_from (length o.inputs) rows) else Err (faults.BadLine line.number))) named
      ∙ go (row_of (length o.inputs) line.words) is
    where
      kept : (row : Row) (b : Bool) → (if b then Some (record o { rows = o.rows ++ row.places ∷ []; on = Some row.value }) else None) ≡ None
          → put_rows o.rows (if b then put_places row.places (cover_from (length o.inputs) rows (Some row.value)) else Err (faults.BadCover line.number)) ≡ Err (faults.BadCover line.number)
      kept row true e = absurd (cc)
      kept row false e = refl

      go : (r : Option Row) → with_row o r ≡ None → put_rows o.rows (put_row line.number o.on r (cover_from (length o.inputs) rows)) ≡ Err (faults.BadCover line.number)
      go None e = refl
      go (Some row) e = kept row (keeps_value o.on row.value) e

  next_keeps : (o next : CoverSoFar) (r : Option Row) → with_row o r ≡ Some next → (next.inputs ≡ o.inputs) × (next.output ≡ o.output)
  next_keeps o next None e = absurd (cc)
  next_keeps o next (Some row) e = go (keeps_value o.on row.value) e
    where
      go : (b : Bool) → (if b then Some (record o { rows = o.rows ++ row.places ∷ []; on = Some row.value }) else None) ≡ Some next → (next.inputs ≡ o.inputs) × (next.output ≡ o.output)
      go true q = let same : record o { rows = o.rows ++ row.places ∷ []; on = Some row.value } ≡ next = cc in (ap (λ (p : CoverSoFar). p.inputs) (sym same), ap (λ (p : CoverSoFar). p.output) (sym same))
      go false q = absurd (cc)

  pub at_row : (told : LinesSaid) (o next : CoverSoFar) (line : Line) (later : List Line) → are_row line.words ≡ true → list_all is_name line.words ≡ true → with_row o (row_of (length o.inputs) line.words) ≡ Some next
      → resume library told (Some o) (line ∷ later) ≡ resume library told (Some next) later
  at_row told o next line later is named with =
      let keeps = next_keeps o next (row_of (length o.inputs) line.words) with in
      ap (λ c. go_on (close_with told o (covered o c.rows)) (tell_blocks library c.blocks)) (row_cut line later is)
      ∙ (ap (λ c. go_on (close_with told o c) (tell_blocks library (cut later).blocks)) (row_covered o next line (cut later).rows named with)
      ∙ ap (λ r. go_on r (tell_blocks library (cut later).blocks)) (alike (covered next (cut later).rows) (sym keeps.0) (sym keeps.1)))
    where
      alike : (c : Result CoverData BlifFault) → o.inputs ≡ next.inputs → o.output ≡ next.output → close_with told o c ≡ close_with told next c
      alike c i q =
          ap (λ ins. tell_parts told 0 (Names ins o.output) c (with_parts (logic_of ins o.output (cover_or_none c) ∷ []) told.said)) i
          ∙ ap (λ out. tell_parts told 0 (Names next.inputs out) c (with_parts (logic_of next.inputs out (cover_or_none c) ∷ []) told.said)) q

  -- a cover with a fault: that of its logic cell first, which does not depend on its rows
  faulty : (told : LinesSaid) (o : CoverSoFar) (fault : BlifFault) → close_with told o (Err fault) ≡ go_on (closed told (Some o)) (λ t. Err fault)
  faulty told o fault = go (limit_of (with_part told.said (cover_part o (cover_so_far o))))
    where
      go : (l : Option Limit) → tell_parts told 0 (Names o.inputs o.output) (Err fault) (unless l (Ok (with_part told.said (cover_part o no_rows))))
          ≡ go_on (tell_parts told 0 (Names o.inputs o.output) (Ok (cover_so_far o)) (unless l (Ok (with_part told.said (cover_part o (cover_so_far o)))))) (λ t. Err fault)
      go None = refl
      go (Some limit) = refl

  faulty_rows : (told : LinesSaid) (o : CoverSoFar) (line : Line) (later : List Line) (fault : BlifFault) → are_row line.words ≡ true → covered o (line ∷ (cut later).rows) ≡ Err fault
      → resume library told (Some o) (line ∷ later) ≡ go_on (closed told (Some o)) (λ t. Err fault)
  faulty_rows told o line later fault is e =
      ap (λ c. go_on (close_with told o (covered o c.rows)) (tell_blocks library c.blocks)) (row_cut line later is)
      ∙ (ap (λ c. go_on (close_with told o c) (tell_blocks library (cut later).blocks)) e
      ∙ (ap (λ r. go_on r (tell_blocks library (cut later).blocks)) (faulty told o fault) ∙ stops (closed told (Some o))))
    where
      stops : (r : Result LinesSaid BlifFault) → go_on (go_on r (λ t. Err fault)) (tell_blocks library (cut later).blocks) ≡ go_on r (λ t. Err fault)
      stops (Ok t) = refl
      stops (Err f) = refl

  pub at_bad_row : (told : LinesSaid) (o : CoverSoFar) (line : Line) (later : List Line) → are_row line.words ≡ true → list_all is_name line.words ≡ true → with_row o (row_of (length o.inputs) line.words) ≡ None
      → resume library told (Some o) (line ∷ later) ≡ go_on (closed told (Some o)) (λ t. Err (faults.BadCover line.number))
  at_bad_row told o line later is named without = faulty_rows told o line later (faults.BadCover line.number) is (row_refused o line (cut later).rows named without)

  -- a line with a word that is no name
  unnamed_meaning : (place : Place) (words : List (List ℕ)) → list_all is_name words ≡ false → meant_at place (meant words) ≡ Err BadLine
  unnamed_meaning place [] no_name = absurd (both_ways true no_name refl)
  unnamed_meaning place (w ∷ ws) no_name = ap (λ b. meant_at place (if b then behind_of w ws else Err BadLine)) no_name ∙ anywhere place
    where
      anywhere : (p : Place) → meant_at p (Err BadLine) ≡ Err BadLine
      anywhere First = refl
      anywhere Unnamed = refl
      anywhere Named = refl
      anywhere Ended = refl

  pub at_unnamed : (told : LinesSaid) (cover : Option CoverSoFar) (line : Line) (later : List Line) → list_all is_name line.words ≡ false → resume library told cover (line ∷ later) ≡ go_on (closed told cover) (λ t. Err (faults.BadLine line.number))
  at_unnamed told cover line later no_name = go (are_row line.words) refl cover
    where
      go : (b : Bool) → are_row line.words ≡ b → (cover : Option CoverSoFar) → resume library told cover (line ∷ later) ≡ go_on (closed told cover) (λ t. Err (faults.BadLine line.number))
      go false is cover =
          at_command told cover line later is
          ∙ under (closed told cover)
        where
          under : (r : Result LinesSaid BlifFault) → go_on r (λ t. go_on (tell_statement library t line.number (cut later).rows (meant_at t.place (meant line.words))) (tell_blocks library (cut later).blocks)) ≡ go_on r (λ t. Err (faults.BadLine line.number))
          under (Ok t) = ap (λ m. go_on (tell_statement library t line.number (cut later).rows m) (tell_blocks library (cut later).blocks)) (unnamed_meaning t.place line.words no_name)
          under (Err f) = refl
      go true is None = at_lone_row told line later is
      go true is (Some o) =
          faulty_rows told o line later (faults.BadLine line.number) is
          (ap (λ b. put_rows o.rows (if b then put_row line.number o.on (row_of (length o.inputs) line.words) (cover_from (length o.inputs) (cut later).rows) else Err (faults.BadLine line.number))) no_name)

  -- a statement that is no `.names` line leaves no cover open
  pub at_statement : (told : LinesSaid) (number : ℕ) (later : List Line) (statement : Statement) (s : Said) → ((rows : List Line) → rows_behind statement rows ≡ lone rows) → with_said told.said (said_by library no_rows statement) ≡ Ok s
      → go_on (tell_statement library told number (cut later).rows (Ok statement)) (tell_blocks library (cut later).blocks)
      ≡ resume library (record { place = next_place told.place statement; model = next_model told.model statement; said = s }) None later
  at_statement told number later statement s lone_is said_is = go (cut later).rows
    where
      next : LinesSaid
      next = record { place = next_place told.place statement; model = next_model told.model statement; said = s }

      go : (rows : List Line) → go_on (tell_statement library told number rows (Ok statement)) (tell_blocks library (cut later).blocks) ≡ tell_cut library rows (cut later).blocks (record { place = next_place told.place statement; model = next_model told.model statement; said = s })
      go [] =
          ap (λ r. go_on (tell_parts told number statement r (with_said told.said (said_by library (cover_or_none r) statement))) (tell_blocks library (cut later).blocks)) (lone_is [])
          ∙ ap (λ r. go_on (tell_parts told number statement (Ok no_rows) r) (tell_blocks library (cut later).blocks)) said_is
      go (row ∷ rows) =
          ap (λ r. go_on (tell_parts told number statement r (with_said told.said (said_by library (cover_or_none r) statement))) (tell_blocks library (cut later).blocks)) (lone_is (row ∷ rows))
          ∙ ap (λ r. go_on (tell_parts told number statement (Err (faults.BadLine row.number)) r) (tell_blocks library (cut later).blocks)) said_is

  pub at_fault : (told : LinesSaid) (number : ℕ) (later : List Line) (statement : Statement) (cause : LineFault) → ((rows : List Line) → rows_behind statement rows ≡ lone rows) → with_said told.said (said_by library no_rows statement) ≡ Err cause
      → go_on (tell_statement library told number (cut later).rows (Ok statement)) (tell_blocks library (cut later).blocks) ≡ Err (at number cause)
  at_fault told number later statement cause lone_is said_is = go (cut later).rows
    where
      go : (rows : List Line) → go_on (tell_statement library told number rows (Ok statement)) (tell_blocks library (cut later).blocks) ≡ Err (at number cause)
      go [] =
          ap (λ r. go_on (tell_parts told number statement r (with_said told.said (said_by library (cover_or_none r) statement))) (tell_blocks library (cut later).blocks)) (lone_is [])
          ∙ ap (λ r. go_on (tell_parts told number statement (Ok no_rows) r) (tell_blocks library (cut later).blocks)) said_is
      go (row ∷ rows) =
          ap (λ r. go_on (tell_parts told number statement r (with_said told.said (said_by library (cover_or_none r) statement))) (tell_blocks library (cut later).blocks)) (lone_is (row ∷ rows))
          ∙ ap (λ r. go_on (tell_parts told number statement (Err (faults.BadLine row.number)) r) (tell_blocks library (cut later).blocks)) said_is

  -- a `.names` line leaves its cover open
  pub at_names : (told : LinesSaid) (number : ℕ) (later : List Line) (inputs : List (List ℕ)) (output : List ℕ)
      → go_on (tell_statement library told number (cut later).rows (Ok (Names inputs output))) (tell_blocks library (cut later).blocks)
      ≡ resume library (record { place = next_place told.place (Names inputs output); model = told.model; said = told.said }) (Some (record { inputs = inputs; output = output; rows = []; on = None })) later
  at_names told number later inputs output = ap (λ r. go_on r (tell_blocks library (cut later).blocks)) (go (cover_from (length inputs) (cut later).rows None))
    where
      place_again : (p : Place) → next_place (next_place p (Names inputs output)) (Names inputs output) ≡ next_place p (Names inputs output)
      place_again First = refl
      place_again Unnamed = refl
      place_again Named = refl
      place_again Ended = refl

      limits : (l : Option Limit) (c : Result CoverData BlifFault) (s : Said)
          → tell_parts told number (Names inputs output) c (unless l (Ok s))
          ≡ tell_parts (record { place = next_place told.place (Names inputs output); model = told.model; said = told.said }) 0 (Names inputs output) c (unless l (Ok s))
      limits None (Ok cover) s = ap (λ p. Ok (record { place = p; model = told.model; said = s })) (sym (place_again told.place))
      limits None (Err fault) s = refl
      limits (Some limit) c s = refl

      no_more : (c : Result CoverData BlifFault) → put_rows [] c ≡ c
      no_more (Ok cover) = refl
      no_more (Err fault) = refl

      go : (c : Result CoverData BlifFault) → tell_parts told number (Names inputs output) c (with_parts (logic_of inputs output (cover_or_none c) ∷ []) told.said)
          ≡ close_with (record { place = next_place told.place (Names inputs output); model = told.model; said = told.said }) (record { inputs = inputs; output = output; rows = []; on = None }) (put_rows [] c)
      go c = limits (limit_of (with_part told.said (logic_of inputs output (cover_or_none c)))) c (with_part told.said (logic_of inputs output (cover_or_none c)))
          ∙ ap (λ d. close_with (record { place = next_place told.place (Names inputs output); model = told.model; said = told.said }) (record { inputs = inputs; output = output; rows = []; on = None }) d) (sym (no_more c))

-- a builder that closed a cover was told what is told behind it
pub closed_told : (place : Place) (model : List ℕ) (s t : Said) (cover : Option CoverSoFar) → ((o : CoverSoFar) → cover ≡ Some o → next_place place (Names o.inputs o.output) ≡ place) → closed_said s cover ≡ Ok t
    → closed (record { place = place; model = model; said = s }) cover ≡ Ok (record { place = place; model = model; said = t })
closed_told place model s t None stays is = let same : s ≡ t = cc in ap (λ u. Ok (record { place = place; model = model; said = u })) same
closed_told place model s t (Some o) stays is =
    ap (λ r. tell_parts (record { place = place; model = model; said = s }) 0 (Names o.inputs o.output) (Ok (cover_so_far o)) r) is
    ∙ ap (λ p. Ok (record { place = p; model = model; said = t })) (stays o refl)

pub closed_fault : (told : LinesSaid) (cover : Option CoverSoFar) (cause : LineFault) (number : ℕ) → closed_said told.said cover ≡ Err cause → closed told cover ≡ Err (at number cause)
closed_fault told None cause number is = absurd (cc)
closed_fault told (Some o) cause number is = go (limit_of (with_part told.said (cover_part o (cover_so_far o)))) is
  where
    go : (l : Option Limit) → unless l (Ok (with_part told.said (cover_part o (cover_so_far o)))) ≡ Err cause
        → tell_parts told 0 (Names o.inputs o.output) (Ok (cover_so_far o)) (unless l (Ok (with_part told.said (cover_part o (cover_so_far o))))) ≡ Err (at number cause)
    go None e = absurd (cc)
    go (Some limit) e = let same : Passed limit ≡ cause = cc in ap (λ k. Err (at number k)) same

-- Statements

module _ (library : List CellData) where
  abbrev pub on_statement : LinesSaid → ℕ → List Line → Result Statement LineFault → Result LinesSaid BlifFault
  on_statement told number later meaning = go_on (tell_statement library told number (cut later).rows meaning) (tell_blocks library (cut later).blocks)

  abbrev pub next : LinesSaid → Statement → Said → LinesSaid
  next told statement s = record { place = next_place told.place statement; model = next_model told.model statement; said = s }

  pub took : (told : LinesSaid) (number : ℕ) (later : List Line) (statement : Statement) (s : Said) → said_at_once library told.said statement ≡ Ok s → on_statement told number later (Ok statement) ≡ resume library (next told statement s) (opened statement) later
  took told number later (Names inputs output) s is =
      let same : told.said ≡ s = cc in
      at_names library told number later inputs output ∙ ap (λ t. resume library (next told (Names inputs output) t) (opened (Names inputs output)) later) same
  took told number later (Model name) s is = at_statement library told number later (Model name) s rows is
    where
      rows : (ls : List Line) → rows_behind (Model name) ls ≡ lone ls
      rows [] = refl
      rows (l ∷ ls) = refl
  took told number later (Inputs nets) s is = at_statement library told number later (Inputs nets) s rows is
    where
      rows : (ls : List Line) → rows_behind (Inputs nets) ls ≡ lone ls
      rows [] = refl
      rows (l ∷ ls) = refl
  took told number later (Outputs nets) s is = at_statement library told number later (Outputs nets) s rows is
    where
      rows : (ls : List Line) → rows_behind (Outputs nets) ls ≡ lone ls
      rows [] = refl
      rows (l ∷ ls) = refl
  took told number later (Clocks nets) s is = at_statement library told number later (Clocks nets) s rows is
    where
      rows : (ls : List Line) → rows_behind (Clocks nets) ls ≡ lone ls
      rows [] = refl
      rows (l ∷ ls) = refl
  took told number later (Latch input output clock init) s is = at_statement library told number later (Latch input output clock init) s rows is
    where
      rows : (ls : List Line) → rows_behind (Latch input output clock init) ls ≡ lone ls
      rows [] = refl
      rows (l ∷ ls) = refl
  took told number later (Gate cell pins) s is = at_statement library told number later (Gate cell pins) s rows is
    where
      rows : (ls : List Line) → rows_behind (Gate cell pins) ls ≡ lone ls
      rows [] = refl
      rows (l ∷ ls) = refl
  took told number later Skipped s is = at_statement library told number later Skipped s rows is
    where
      rows : (ls : List Line) → rows_behind Skipped ls ≡ lone ls
      rows [] = refl
      rows (l ∷ ls) = refl
  took told number later End s is = at_statement library told number later End s rows is
    where
      rows : (ls : List Line) → rows_behind End ls ≡ lone ls
      rows [] = refl
      rows (l ∷ ls) = refl

  pub refused : (told : LinesSaid) (number : ℕ) (later : List Line) (statement : Statement) (cause : LineFault) → said_at_once library told.said statement ≡ Err cause → on_statement told number later (Ok statement) ≡ Err (at number cause)
  refused told number later (Names inputs output) cause is = absurd (cc)
  refused told number later (Model name) cause is = absurd (cc)
  refused told number later Skipped cause is = absurd (cc)
  refused told number later End cause is = absurd (cc)
  refused told number later (Inputs nets) cause is = at_fault library told number later (Inputs nets) cause rows is
    where
      rows : (ls : List Line) → rows_behind (Inputs nets) ls ≡ lone ls
      rows [] = refl
      rows (l ∷ ls) = refl
  refused told number later (Outputs nets) cause is = at_fault library told number later (Outputs nets) cause rows is
    where
      rows : (ls : List Line) → rows_behind (Outputs nets) ls ≡ lone ls
      rows [] = refl
      rows (l ∷ ls) = refl
  refused told number later (Clocks nets) cause is = at_fault library told number later (Clocks nets) cause rows is
    where
      rows : (ls : List Line) → rows_behind (Clocks nets) ls ≡ lone ls
      rows [] = refl
      rows (l ∷ ls) = refl
  refused told number later (Latch input output clock init) cause is = at_fault library told number later (Latch input output clock init) cause rows is
    where
      rows : (ls : List Line) → rows_behind (Latch input output clock init) ls ≡ lone ls
      rows [] = refl
      rows (l ∷ ls) = refl
  refused told number later (Gate cell pins) cause is = at_fault library told number later (Gate cell pins) cause rows is
    where
      rows : (ls : List Line) → rows_behind (Gate cell pins) ls ≡ lone ls
      rows [] = refl
      rows (l ∷ ls) = refl
