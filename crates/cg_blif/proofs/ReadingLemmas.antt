-- What a reader makes of a line.
use Rattle.std.proofs.Common.{◌≡◌, ◌<◌, ℕ, true, false, List, [], ◌∷◌, length, Option, None, Some, Result, Ok, Err, refl, sym, ap}
use Rattle.std.proofs.Common.{◌∙◌, subst, arith}
use Rattle.std.specs.List.{list_all}
use Rattle.std.proofs.lemmas.Bool.{both_ways}
use Rattle.cg_cell.specs.Cell.{CellData}
use Rattle.cg_cell.specs.Name.{is_name}
use Rattle.cg_text.specs.declared.lines.Line.{Line}
use Rattle.cg_netlist_builder.specs.Building.{Building}
use Rattle.cg_netlist_parts.specs.Part.{Clock}
use Rattle.cg_netlist_parts.specs.Said.{Said, nothing_said}
use Rattle.cg_blif_text.specs.declared.fault.BlifFault.{BlifFault}
use Rattle.cg_blif_text.specs.declared.fault.BlifFault.TheVariants as faults
use Rattle.cg_blif_text.specs.declared.fault.LineFault.{LineFault}
use Rattle.cg_blif_text.specs.declared.fault.LineFault.TheVariants.{BadLine, BadCover, BadLatch, Placed, SecondModel, Limit}
use Rattle.cg_netlist_placed.specs.declared.fault.PlacedFault.TheVariants.{UnknownCell, UnusableCell, PinFault}
use Rattle.cg_blif_text.specs.declared.statement.Place.{Place}
use Rattle.cg_blif_text.specs.declared.statement.Place.TheVariants.{First, Unnamed, Named, Ended}
use Rattle.cg_blif_text.specs.declared.statement.Statement.{Statement}
use Rattle.cg_blif_text.specs.declared.statement.Statement.TheVariants.{Model, Names, Latch, End}
use Rattle.cg_blif_text.specs.Commands.{are_row}
use Rattle.cg_blif_text.specs.Meaning.{meant}
use Rattle.cg_blif_text.specs.Rows.{row_of}
use Rattle.cg_blif_text.specs.Telling.{LinesSaid, at, go_on, meant_at, next_model, next_place, tell_clock, tell_more, with_parts}
use Rattle.cg_blif_text.proofs.MeantNames.{IsMade, meant_made}
use Rattle.cg_blif.specs.Hearing.{Hears, at_line}
use Rattle.cg_blif.specs.Joining.{IsUnnamed, IsUnnamedLine}
use Rattle.cg_blif_text.specs.OpenCovers.{CoverSoFar, with_row}
use Rattle.cg_blif_text.specs.LinesLeft.{closed, closed_said, opened, resume, said_at_once}
use Rattle.cg_blif.specs.Resuming.{HasBounds, IsAt, IsFaultOf, IsFresh, Resumes, TakesStatement, is_model, left_of, misplaced}
use Rattle.cg_blif.specs.Resuming.{told_of}
use Rattle.cg_blif.specs.declared.fault.Refusal.{Refusal}
use Rattle.cg_blif.specs.declared.fault.Refusal.TheVariants.{Line as AtLine, NoMemory as NoRoom}
use Rattle.cg_blif.specs.declared.reader.Reading.{Reading}
use Rattle.cg_blif_text.proofs.LinesLeft.{at_bad_row, at_command, at_end, at_lone_row, at_row, at_unnamed, closed_fault}
use Rattle.cg_blif_text.proofs.LinesLeft.{closed_told, next, on_statement, refused, took}

-- a line that is a command has words
pub some_words : (words : List (List ℕ)) → are_row words ≡ false → 0 < length words
some_words [] is = absurd (both_ways true is refl)
some_words (word ∷ words) is = omega arith

-- Places

pub in_place : (place : Place) (meaning : Result Statement LineFault) → misplaced place (is_model meaning) ≡ None → meant_at place meaning ≡ meaning
in_place First meaning is = refl
in_place Unnamed (Ok (Model name)) is = absurd (cc)
in_place Unnamed (Ok statement) is = refl
in_place Unnamed (Err cause) is = refl
in_place Named (Ok (Model name)) is = absurd (cc)
in_place Named (Ok statement) is = refl
in_place Named (Err cause) is = refl
in_place Ended (Ok (Model name)) is = absurd (cc)
in_place Ended (Ok statement) is = absurd (cc)
in_place Ended (Err cause) is = absurd (cc)

pub out_of_place : (place : Place) (meaning : Result Statement LineFault) (cause : LineFault) → misplaced place (is_model meaning) ≡ Some cause → meant_at place meaning ≡ Err cause
out_of_place First meaning cause is = absurd (cc)
out_of_place Unnamed (Ok (Model name)) cause is = let same : BadLine ≡ cause = cc in ap (λ c. Err c) same
out_of_place Unnamed (Ok statement) cause is = absurd (cc)
out_of_place Unnamed (Err other) cause is = absurd (cc)
out_of_place Named (Ok (Model name)) cause is = let same : SecondModel ≡ cause = cc in ap (λ c. Err c) same
out_of_place Named (Ok statement) cause is = absurd (cc)
out_of_place Named (Err other) cause is = absurd (cc)
out_of_place Ended (Ok (Model name)) cause is = let same : SecondModel ≡ cause = cc in ap (λ c. Err c) same
out_of_place Ended (Ok statement) cause is = let same : BadLine ≡ cause = cc in ap (λ c. Err c) same
out_of_place Ended (Err other) cause is = let same : BadLine ≡ cause = cc in ap (λ c. Err c) same

-- a line that is a model stands first, so nothing was said before it
pub model_first : (place : Place) (b : Building) (cover : Option CoverSoFar) (meaning : Result Statement LineFault) → IsFresh place b cover → misplaced place (is_model meaning) ≡ None → is_model meaning ≡ true → b.said ≡ nothing_said
model_first First b cover meaning fresh is model = fresh.0
model_first Unnamed b cover meaning fresh is model = let no : misplaced Unnamed true ≡ None = ap (misplaced Unnamed) (sym model) ∙ is in absurd (cc)
model_first Named b cover meaning fresh is model = let no : misplaced Named true ≡ None = ap (misplaced Named) (sym model) ∙ is in absurd (cc)
model_first Ended b cover meaning fresh is model = let no : misplaced Ended true ≡ None = ap (misplaced Ended) (sym model) ∙ is in absurd (cc)

-- behind a line
pub fresh_behind : (place : Place) (statement : Statement) (b : Building) (cover : Option CoverSoFar) → IsFresh (next_place place statement) b cover
fresh_behind First (Model name) b cover = tt
fresh_behind First End b cover = tt
fresh_behind First statement b cover = tt
fresh_behind Unnamed (Model name) b cover = tt
fresh_behind Unnamed End b cover = tt
fresh_behind Unnamed statement b cover = tt
fresh_behind Named (Model name) b cover = tt
fresh_behind Named End b cover = tt
fresh_behind Named statement b cover = tt
fresh_behind Ended (Model name) b cover = tt
fresh_behind Ended End b cover = tt
fresh_behind Ended statement b cover = tt

pub fresh_row : (place : Place) (b c : Building) (o : CoverSoFar) (cover : Option CoverSoFar) → IsFresh place b (Some o) → IsFresh place c cover
fresh_row First b c o cover fresh = let no : ◌≡◌ {A = Option CoverSoFar} (Some o) None = fresh.1 in absurd (cc)
fresh_row Unnamed b c o cover fresh = tt
fresh_row Named b c o cover fresh = tt
fresh_row Ended b c o cover fresh = tt

stays : (place : Place) (b : Building) (cover : Option CoverSoFar) → IsFresh place b cover → (o : CoverSoFar) → cover ≡ Some o → next_place place (Names o.inputs o.output) ≡ place
stays First b cover fresh o is = absurd (let no : ◌≡◌ {A = Option CoverSoFar} (Some o) None = sym is ∙ fresh.1 in cc)
stays Unnamed b cover fresh o is = refl
stays Named b cover fresh o is = refl
stays Ended b cover fresh o is = refl

module _ (library : List CellData) where
  -- a reader between lines, and a line of these words
  module _ (r : Reading) (is : IsAt r) (words : List (List ℕ)) (number : ℕ) (later : List Line) where
    abbrev told : LinesSaid
    told = told_of r.place r.builder

    abbrev line : Line
    line = record { number = number; words = words }

    abbrev told_closed : Said → LinesSaid
    told_closed t = record { place = r.place; model = r.builder.model; said = t }

    closes : (t : Said) → closed_said r.builder.said r.cover ≡ Ok t → closed told r.cover ≡ Ok (told_closed t)
    closes t said = closed_told r.place r.builder.model r.builder.said t r.cover (stays r.place r.builder r.cover is.1) said

    module _ (command : are_row words ≡ false) where
      behind_cover : (t : Said) → closed_said r.builder.said r.cover ≡ Ok t → left_of library r (line ∷ later) ≡ on_statement library (told_closed t) number later (meant_at r.place (meant words))
      behind_cover t said =
          at_command library told r.cover line later command
          ∙ ap (λ c. go_on c (λ u. on_statement library u number later (meant_at u.place (meant words)))) (closes t said)

      pub cover_fails : (cause : LineFault) → closed_said r.builder.said r.cover ≡ Err cause → left_of library r (line ∷ later) ≡ Err (at number cause)
      cover_fails cause said =
          at_command library told r.cover line later command
          ∙ ap (λ c. go_on c (λ u. on_statement library u number later (meant_at u.place (meant words)))) (closed_fault told r.cover cause number said)

      pub line_fails : (t : Said) (cause : LineFault) → closed_said r.builder.said r.cover ≡ Ok t → meant_at r.place (meant words) ≡ Err cause → left_of library r (line ∷ later) ≡ Err (at number cause)
      line_fails t cause said means = behind_cover t said ∙ ap (on_statement library (told_closed t) number later) means

      pub statement_fails : (t : Said) (statement : Statement) (cause : LineFault) → closed_said r.builder.said r.cover ≡ Ok t → meant_at r.place (meant words) ≡ Ok statement → said_at_once library t statement ≡ Err cause → left_of library r (line ∷ later) ≡ Err (at number cause)
      statement_fails t statement cause said means fails = behind_cover t said ∙ (ap (on_statement library (told_closed t) number later) means ∙ refused library (told_closed t) number later statement cause fails)

      pub statement_taken : (t s : Said) (statement : Statement) → closed_said r.builder.said r.cover ≡ Ok t → meant_at r.place (meant words) ≡ Ok statement → said_at_once library t statement ≡ Ok s
          → resume library (next library (told_closed t) statement s) (opened statement) later ≡ left_of library r (line ∷ later)
      statement_taken t s statement said means taken = sym (behind_cover t said ∙ (ap (on_statement library (told_closed t) number later) means ∙ took library (told_closed t) number later statement s taken))

    module _ (row : are_row words ≡ true) where
      pub row_alone : r.cover ≡ None → left_of library r (line ∷ later) ≡ Err (at number BadLine)
      row_alone none = ap (λ c. resume library told c (line ∷ later)) none ∙ at_lone_row library told line later row

      pub row_taken : (o p : CoverSoFar) → r.cover ≡ Some o → list_all is_name words ≡ true → with_row o (row_of (length o.inputs) words) ≡ Some p → resume library told (Some p) later ≡ left_of library r (line ∷ later)
      row_taken o p some named with = sym (ap (λ c. resume library told c (line ∷ later)) some ∙ at_row library told o p line later row named with)

      at_bad : (o : CoverSoFar) → r.cover ≡ Some o → list_all is_name words ≡ true → with_row o (row_of (length o.inputs) words) ≡ None → left_of library r (line ∷ later) ≡ go_on (closed told r.cover) (λ t. Err (faults.BadCover number))
      at_bad o some named without =
          ap (λ c. resume library told c (line ∷ later)) some ∙ (at_bad_row library told o line later row named without
          ∙ ap (λ c. go_on (closed told c) (λ t. Err (faults.BadCover number))) (sym some))

      pub row_fails : (o : CoverSoFar) (t : Said) → r.cover ≡ Some o → list_all is_name words ≡ true → with_row o (row_of (length o.inputs) words) ≡ None → closed_said r.builder.said (Some o) ≡ Ok t → left_of library r (line ∷ later) ≡ Err (at number BadCover)
      row_fails o t some named without said =
          at_bad o some named without ∙ ap (λ c. go_on c (λ t. Err (faults.BadCover number))) (closes t (ap (closed_said r.builder.said) some ∙ said))

      pub row_cover_fails : (o : CoverSoFar) (cause : LineFault) → r.cover ≡ Some o → list_all is_name words ≡ true → with_row o (row_of (length o.inputs) words) ≡ None → closed_said r.builder.said (Some o) ≡ Err cause → left_of library r (line ∷ later) ≡ Err (at number cause)
      row_cover_fails o cause some named without said =
          at_bad o some named without ∙ ap (λ c. go_on c (λ t. Err (faults.BadCover number))) (closed_fault told r.cover cause number (ap (closed_said r.builder.said) some ∙ said))

-- Faults

pub is_line_fault : {T : Type 0} (made : Result T BlifFault) (number : ℕ) (cause : LineFault) → made ≡ Err (at number cause) → IsFaultOf made (at number cause)
is_line_fault made number BadLine is = is
is_line_fault made number BadCover is = is
is_line_fault made number BadLatch is = is
is_line_fault made number (Placed UnknownCell) is = is
is_line_fault made number (Placed UnusableCell) is = is
is_line_fault made number (Placed PinFault) is = is
is_line_fault made number SecondModel is = is
is_line_fault made number (Limit limit) is = is

pub fault_along : (made other : Result LinesSaid BlifFault) (fault : BlifFault) → made ≡ other → IsFaultOf made fault → IsFaultOf other fault
fault_along made other fault same is = let P : Result LinesSaid BlifFault → Type 0 = λ r. IsFaultOf r fault in subst P same is

module _ (library : List CellData) (r : Reading) (is : IsAt r) where
  unnamed_so : (number : ℕ) (lines : List Line) → IsUnnamed lines number → left_of library r lines ≡ go_on (closed (told_of r.place r.builder) r.cover) (λ t. Err (faults.BadLine number))
  unnamed_so number lines line = ap (left_of library r) line.next ∙ at_unnamed library (told_of r.place r.builder) r.cover (record { number = number; words = line.words }) line.later line.unnamed

  pub unnamed_fails : (t : Said) (number : ℕ) (lines : List Line) → closed_said r.builder.said r.cover ≡ Ok t → IsUnnamed lines number → left_of library r lines ≡ Err (faults.BadLine number)
  unnamed_fails t number lines said line = unnamed_so number lines line ∙ ap (λ c. go_on c (λ t. Err (faults.BadLine number))) (closed_told r.place r.builder.model r.builder.said t r.cover (stays r.place r.builder r.cover is.1) said)

  pub unnamed_cover_fails : (number : ℕ) (lines : List Line) (cause : LineFault) → closed_said r.builder.said r.cover ≡ Err cause → IsUnnamed lines number → left_of library r lines ≡ Err (at 0 cause)
  unnamed_cover_fails number lines cause said line = unnamed_so number lines line ∙ ap (λ c. go_on c (λ t. Err (faults.BadLine number))) (closed_fault (told_of r.place r.builder) r.cover cause 0 said)

  -- no line is left
  pub end_told : (t : Said) → closed_said r.builder.said r.cover ≡ Ok t → left_of library r [] ≡ Ok (record { place = r.place; model = r.builder.model; said = t })
  end_told t said = at_end library (told_of r.place r.builder) r.cover ∙ closed_told r.place r.builder.model r.builder.said t r.cover (stays r.place r.builder r.cover is.1) said

  pub end_fails : (cause : LineFault) → closed_said r.builder.said r.cover ≡ Err cause → left_of library r [] ≡ Err (at 0 cause)
  end_fails cause said = at_end library (told_of r.place r.builder) r.cover ∙ closed_fault (told_of r.place r.builder) r.cover cause 0 said

-- the bounds of a statement that words mean
pub bounded : (statement : Statement) → IsMade statement → HasBounds statement
bounded (Names inputs output) made = made.2
bounded (Latch input output clock init) made = made.4
bounded statement made = tt

pub meant_bounded : (words : List (List ℕ)) (statement : Statement) → meant words ≡ Ok statement → HasBounds statement
meant_bounded words statement means = bounded statement (meant_made words statement means)

-- A reader, by what its calls answer

module _ (library : List CellData) (r : Reading) (is : IsAt r) (words : List (List ℕ)) (command : are_row words ≡ false) (b : Building) (model_same : b.model ≡ r.builder.model) (said : closed_said r.builder.said r.cover ≡ Ok b.said)
    (statement : Statement) (means : meant_at r.place (meant words) ≡ Ok statement) (told_more : Building) where
  pub say_taken : (cover : Option CoverSoFar) → TakesStatement library b statement told_more (Ok cover) → Resumes library r (record { place = next_place r.place statement; builder = told_more; cover = cover }) words (Ok tt)
  say_taken cover takes = (
    (takes.0, fresh_behind r.place statement told_more cover),
    λ number later.
        ap (λ c. resume library (told_of (next_place r.place statement) told_more) c later) takes.3
        ∙ (ap (λ m. resume library (record { place = next_place r.place statement; model = m; said = told_more.said }) (opened statement) later) (takes.1 ∙ ap (λ m. next_model m statement) model_same)
        ∙ statement_taken library r is words number later command b.said told_more.said statement said means takes.2),
  )

  pub say_fails : (new : Reading) (refusal : Refusal) → TakesStatement library b statement told_more (Err refusal) → Resumes library r new words (Err refusal)
  say_fails new (AtLine cause) takes = λ number later. statement_fails library r is words number later command b.said statement cause said means takes
  say_fails new NoRoom takes = tt

pub close_fails : (library : List CellData) (r : Reading) (is : IsAt r) (b : Building) (number : ℕ) (lines : List Line) (refusal : Refusal) → Hears r.builder b (closed_said r.builder.said r.cover) (Err refusal) → IsUnnamed lines number → IsFaultOf (left_of library r lines) (at_line 0 refusal)
close_fails library r is b number lines (AtLine cause) hears unnamed = is_line_fault (left_of library r lines) 0 cause (unnamed_cover_fails library r is number lines cause hears unnamed)
close_fails library r is b number lines NoRoom hears unnamed = tt

pub end_refused : (library : List CellData) (r : Reading) (is : IsAt r) (b : Building) (made : Result LinesSaid BlifFault) (refusal : Refusal) → left_of library r [] ≡ made → Hears r.builder b (closed_said r.builder.said r.cover) (Err refusal) → IsFaultOf made (at_line 0 refusal)
end_refused library r is b made (AtLine cause) left hears = is_line_fault made 0 cause (sym left ∙ end_fails library r is cause hears)
end_refused library r is b made NoRoom left hears = tt

pub line_refused : (library : List CellData) (r new : Reading) (words : List (List ℕ)) (number : ℕ) (later lines : List Line) (made : Result LinesSaid BlifFault) (refusal : Refusal) → Resumes library r new words (Err refusal)
    → lines ≡ record { number = number; words = words } ∷ later → left_of library r lines ≡ made → IsFaultOf made (at_line number refusal)
line_refused library r new words number later lines made (AtLine cause) resumes is left = is_line_fault made number cause (sym left ∙ (ap (left_of library r) is ∙ resumes number later))
line_refused library r new words number later lines made NoRoom resumes is left = tt

pub clock_refused : (before : LinesSaid) (net : List ℕ) (b : Building) (old : Building) (refusal : Refusal) → Hears old b (with_parts (Clock net ∷ []) before.said) (Err refusal) → IsFaultOf (tell_clock (Some net) before) (at_line 0 refusal)
clock_refused before net b old (AtLine cause) hears = is_line_fault (tell_clock (Some net) before) 0 cause (ap (tell_more before) hears)
clock_refused before net b old NoRoom hears = tt

pub made_fault : (made : Result LinesSaid BlifFault) (next : LinesSaid → Result LinesSaid BlifFault) (fault : BlifFault) → IsFaultOf made fault → IsFaultOf (go_on made next) fault
made_fault made next faults.NoMemory is = tt
made_fault made next (faults.Net f) is = is
made_fault made next fault is = ap (λ r. go_on r next) is

pub clock_told : (place : Place) (b told_more : Building) (net : List ℕ) → told_more.model ≡ b.model → with_parts (Clock net ∷ []) b.said ≡ Ok told_more.said → tell_clock (Some net) (told_of place b) ≡ Ok (told_of place told_more)
clock_told place b told_more net model said = ap (tell_more (told_of place b)) said ∙ ap (λ m. Ok (record { place = place; model = m; said = told_more.said })) (sym model)

pub unnamed_at : (lines : List Line) (fault : BlifFault) (number : ℕ) → fault ≡ faults.BadLine number → IsUnnamedLine lines fault → IsUnnamed lines number
unnamed_at lines fault number is unnamed = subst (IsUnnamedLine lines) is unnamed
