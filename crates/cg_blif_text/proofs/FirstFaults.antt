-- The fault that is told of lines is the first by the table, of the first line that has one.
use Rattle.std.proofs.Common.{◌≡◌, ◌⊎◌, inl, inr, ℕ, ◌+◌, ◌-◌, ◌==◌, nat_lt, Bool, true, false, if◌then◌else◌, not, List, [], ◌∷◌}
use Rattle.std.proofs.Common.{◌++◌, length, map, Option, None, Some, Result, Ok, Err, refl, sym, ap, ◌∙◌, subst, arith}
use Rattle.std.proofs.Common.{append_assoc, append-nil}
use Rattle.std.specs.List.{list_all}
use Rattle.std.specs.Option.{option_map, option_map_or}
use Rattle.std.proofs.lemmas.List.{length-take-le}
use Rattle.std.proofs.lemmas.List.Sums.{fold-append}
use Rattle.cg_limit.specs.declared.Limit.{Limit}
use Rattle.cg_limit.specs.declared.Limit.TheVariants.{Nets, Registers, CoverInputs}
use Rattle.cg_limit.specs.declared.TheConstants.{MOST_COVER_INPUTS}
use Rattle.cg_cell.specs.Cell.{CellData}
use Rattle.cg_cell.specs.Name.{is_name}
use Rattle.cg_text.specs.declared.lines.Line.{Line}
use Rattle.cg_netlist_parts.specs.Part.{Part}
use Rattle.cg_netlist_parts.specs.Said.{Said, limit_of, with_part}
use Rattle.cg_blif_text.specs.declared.statement.Command.{Command}
use Rattle.cg_blif_text.specs.declared.statement.Command.TheVariants as commands
use Rattle.cg_blif_text.specs.declared.fault.BlifFault.{BlifFault}
use Rattle.cg_blif_text.specs.declared.fault.LineFault.{LineFault}
use Rattle.cg_blif_text.specs.declared.fault.LineFault.TheVariants.{BadLine, BadCover, BadLatch, Placed, SecondModel, Limit as Passed}
use Rattle.cg_netlist_placed.specs.declared.fault.PlacedFault.TheVariants.{UnknownCell, UnusableCell, PinFault}
use Rattle.cg_blif_text.specs.declared.statement.Place.{Place}
use Rattle.cg_blif_text.specs.declared.statement.Place.TheVariants.{First, Unnamed, Named, Ended}
use Rattle.cg_blif_text.specs.declared.statement.Statement.{Statement}
use Rattle.cg_blif_text.specs.declared.statement.Statement.TheVariants.{Model, Inputs, Outputs, Clocks, Names, Latch, Gate, Skipped}
use Rattle.cg_blif_text.specs.declared.statement.Statement.TheVariants.{End}
use Rattle.cg_blif_text.specs.Commands.{are_row, command_of}
use Rattle.cg_blif_text.specs.LineFaults.{Form, IsFirstOfLines, OpenRows, Order, Row, Standing, first_of, begun, form_faults}
use Rattle.cg_blif_text.specs.LineFaults.{form_of, line_fault, place_after, rows_after, standing}
use Rattle.cg_blif_text.specs.LinesLeft.{closed, cover_part, opened, resume, said_at_once}
use Rattle.cg_blif_text.specs.Meaning.{behind, front, last, meant}
use Rattle.cg_blif_text.specs.OpenCovers.{CoverSoFar, cover_so_far, with_row}
use Rattle.cg_blif_text.specs.Rows.{Row as RowData, keeps_value, row_of}
use Rattle.cg_blif_text.specs.Blocks.{cut}
use Rattle.cg_blif_text.specs.PinWords.{pin_net}
use Rattle.cg_blif_text.specs.Telling.{LinesSaid, at, cover_or_none, go_on, meant_at, next_place, no_rows, rows_behind, said_by}
use Rattle.cg_blif_text.specs.Telling.{tell_blocks, tell_lines, tell_parts, unless, untold, with_parts, with_said}
use Rattle.cg_blif_text.proofs.LineTable.{err_of, latch_cases, nothing, on_meant, same_fault}
use Rattle.cg_blif_text.proofs.LinesLeft.{at_bad_row, at_command, at_end, at_lone_row, at_names, at_row, at_unnamed, next}
use Rattle.cg_blif_text.proofs.LinesLeft.{on_statement, refused, took}

-- What a statement leaves open

abbrev open_rows : Option CoverSoFar → Option OpenRows
open_rows cover = option_map (λ o. record { inputs = length o.inputs; on = o.on }) cover

in_place : (place : Place) (m : Result Statement LineFault) (st : Statement) → meant_at place m ≡ Ok st → m ≡ Ok st
in_place First m st is = is
in_place Unnamed (Ok (Model name)) st is = absurd (cc)
in_place Unnamed (Ok other) st is = is
in_place Unnamed (Err cause) st is = is
in_place Named (Ok (Model name)) st is = absurd (cc)
in_place Named (Ok other) st is = is
in_place Named (Err cause) st is = is
in_place Ended (Ok (Model name)) st is = absurd (cc)
in_place Ended (Ok other) st is = absurd (cc)
in_place Ended (Err cause) st is = absurd (cc)

one_short : (words : List (List ℕ)) → length (front words) ≡ length words - 1
one_short words = length-take-le (length words - 1) words (omega arith)

-- a statement of this opens these rows
abbrev Opens : Option OpenRows → Result Statement LineFault → Type 0
Opens rows m = (st : Statement) → m ≡ Ok st → rows ≡ open_rows (opened st)

opens_none : (st : Statement) → opened st ≡ None → Opens None (Ok st)
opens_none st is = λ other e. let same : st ≡ other = cc in ap open_rows (sym is ∙ ap opened same)

opens_error : (rows : Option OpenRows) (cause : LineFault) → Opens rows (Err cause)
opens_error rows cause = λ st e. absurd (cc)

opens : (rows : Option OpenRows) (c : Command) (words : List (List ℕ)) → Opens (rows_after rows (Order c words)) (behind c words)
opens rows commands.Model [] = opens_error None BadLine
opens rows commands.Model (name ∷ []) = opens_none (Model name) refl
opens rows commands.Model (a ∷ b ∷ ws) = opens_error None BadLine
opens rows commands.Inputs words = opens_none (Inputs words) refl
opens rows commands.Outputs words = opens_none (Outputs words) refl
opens rows commands.Clocks words = opens_none (Clocks words) refl
opens rows commands.Names words = go (length words == 0) (nat_lt (1 + MOST_COVER_INPUTS) (length words))
  where
    go : (a b : Bool) → Opens (Some (record { inputs = length words - 1; on = None })) (if a then Err BadLine else (if b then Err (Passed CoverInputs) else Ok (Names (front words) (last words))))
    go true b = opens_error _ BadLine
    go false true = opens_error _ (Passed CoverInputs)
    go false false = λ st e.
        let same : Names (front words) (last words) ≡ st = cc in
        ap (λ n. Some (record { inputs = n; on = None })) (sym (one_short words)) ∙ ap (λ x. open_rows (opened x)) same
opens rows commands.Latch words = latch_cases (λ b m. Opens None m) (λ i o c n. opens_none (Latch i o c n) refl) (opens_error None BadLatch) words
opens rows commands.Gate [] = opens_error None BadLine
opens rows commands.Gate (cell ∷ words) = opens_none (Gate cell _) refl
opens rows commands.Skipped words = opens_none Skipped refl
opens rows commands.End [] = opens_none End refl
opens rows commands.End (word ∷ words) = opens_error None BadLine
opens rows commands.Other words = opens_error None BadLine

-- Places

at_each : (f : Place → Place) → f First ≡ Unnamed → f Unnamed ≡ Unnamed → f Named ≡ Named → f Ended ≡ Ended → (p : Place) → begun p ≡ f p
at_each f a b c d First = sym a
at_each f a b c d Unnamed = sym b
at_each f a b c d Named = sym c
at_each f a b c d Ended = sym d

-- a statement moves the place where its line does
abbrev Moves : Place → Place → Result Statement LineFault → Type 0
Moves p q m = (st : Statement) → m ≡ Ok st → q ≡ next_place p st

moves_so : (p q : Place) (st : Statement) → q ≡ next_place p st → Moves p q (Ok st)
moves_so p q st is = λ other e. let same : st ≡ other = cc in is ∙ ap (next_place p) same

moves_error : (p q : Place) (cause : LineFault) → Moves p q (Err cause)
moves_error p q cause = λ st e. absurd (cc)

moves : (p : Place) (c : Command) (words : List (List ℕ)) → Moves p (place_after p (Order c words)) (behind c words)
moves p commands.Model [] = moves_error p Named BadLine
moves p commands.Model (name ∷ []) = moves_so p Named (Model name) refl
moves p commands.Model (a ∷ b ∷ ws) = moves_error p Named BadLine
moves p commands.Inputs words = moves_so p (begun p) (Inputs words) (at_each (λ q. next_place q (Inputs words)) refl refl refl refl p)
moves p commands.Outputs words = moves_so p (begun p) (Outputs words) (at_each (λ q. next_place q (Outputs words)) refl refl refl refl p)
moves p commands.Clocks words = moves_so p (begun p) (Clocks words) (at_each (λ q. next_place q (Clocks words)) refl refl refl refl p)
moves p commands.Names words = go (length words == 0) (nat_lt (1 + MOST_COVER_INPUTS) (length words))
  where
    go : (a b : Bool) → Moves p (begun p) (if a then Err BadLine else (if b then Err (Passed CoverInputs) else Ok (Names (front words) (last words))))
    go true b = moves_error p (begun p) BadLine
    go false true = moves_error p (begun p) (Passed CoverInputs)
    go false false = moves_so p (begun p) (Names (front words) (last words)) (at_each (λ q. next_place q (Names (front words) (last words))) refl refl refl refl p)
moves p commands.Latch words = latch_cases (λ b m. Moves p (begun p) m) (λ i o c n. moves_so p (begun p) (Latch i o c n) (at_each (λ q. next_place q (Latch i o c n)) refl refl refl refl p)) (moves_error p (begun p) BadLatch) words
moves p commands.Gate [] = moves_error p (begun p) BadLine
moves p commands.Gate (cell ∷ words) = moves_so p (begun p) (Gate cell _) (at_each (λ q. next_place q (Gate cell (map pin_net words))) refl refl refl refl p)
moves p commands.Skipped words = moves_so p (begun p) Skipped (at_each (λ q. next_place q Skipped) refl refl refl refl p)
moves p commands.End [] = moves_so p Ended End refl
moves p commands.End (word ∷ words) = moves_error p Ended BadLine
moves p commands.Other words = moves_error p (begun p) BadLine

place_again : (p : Place) (ins : List (List ℕ)) (out : List ℕ) → next_place p (Names ins out) ≡ next_place (next_place p (Names ins out)) (Names ins out)
place_again First ins out = refl
place_again Unnamed ins out = refl
place_again Named ins out = refl
place_again Ended ins out = refl

-- Limits of what was said

still_few : (parts : List Part) (s t : Said) → limit_of s ≡ None → with_parts parts s ≡ Ok t → limit_of t ≡ None
still_few [] s t none is = let same : s ≡ t = cc in subst (λ u. limit_of u ≡ None) same none
still_few (part ∷ parts) s t none is = go (limit_of (with_part s part)) refl is (λ few rest. still_few parts (with_part s part) t few rest)
  where
    go : (l : Option Limit) → limit_of (with_part s part) ≡ l → unless l (with_parts parts (with_part s part)) ≡ Ok t
        → (limit_of (with_part s part) ≡ None → with_parts parts (with_part s part) ≡ Ok t → limit_of t ≡ None) → limit_of t ≡ None
    go None e rest later = later e rest
    go (Some limit) e rest later = absurd (cc)

few_said : (s t : Said) (parts : Result (List Part) LineFault) → limit_of s ≡ None → with_said s parts ≡ Ok t → limit_of t ≡ None
few_said s t (Ok parts) none is = still_few parts s t none is
few_said s t (Err cause) none is = absurd (cc)

-- Covers that are open

abbrev cover_said : Said → CoverSoFar → Said
cover_said s o = with_part s (cover_part o (cover_so_far o))

closed_few : (told after : LinesSaid) (o : CoverSoFar) → closed told (Some o) ≡ Ok after → limit_of (cover_said told.said o) ≡ None
closed_few told after o is = go (limit_of (cover_said told.said o)) refl is
  where
    go : (l : Option Limit) → limit_of (cover_said told.said o) ≡ l → tell_parts told 0 (Names o.inputs o.output) (Ok (cover_so_far o)) (unless l (Ok (cover_said told.said o))) ≡ Ok after → limit_of (cover_said told.said o) ≡ None
    go None e rest = e
    go (Some limit) e rest = absurd (cc)

abbrev behind_cover : LinesSaid → CoverSoFar → LinesSaid
behind_cover told o = record { place = next_place told.place (Names o.inputs o.output); model = told.model; said = cover_said told.said o }

closes_so : (told : LinesSaid) (o : CoverSoFar) → limit_of (cover_said told.said o) ≡ None → closed told (Some o) ≡ Ok (behind_cover told o)
closes_so told o none = ap (λ l. tell_parts told 0 (Names o.inputs o.output) (Ok (cover_so_far o)) (unless l (Ok (cover_said told.said o)))) none

closed_place : (told after : LinesSaid) (o : CoverSoFar) → closed told (Some o) ≡ Ok after → next_place told.place (Names o.inputs o.output) ≡ after.place
closed_place told after o is = go (limit_of (cover_said told.said o)) is
  where
    go : (l : Option Limit) → tell_parts told 0 (Names o.inputs o.output) (Ok (cover_so_far o)) (unless l (Ok (cover_said told.said o))) ≡ Ok after → next_place told.place (Names o.inputs o.output) ≡ after.place
    go None rest = let same : behind_cover told o ≡ after = cc in ap (λ t. t.place) same
    go (Some limit) rest = absurd (cc)

module _ (library : List CellData) where
  -- these lines told this: what is told of them and of later lines
  record IsAfter (lines : List Line) (told : LinesSaid) : Type 0 where
    pub base : LinesSaid
    pub cover : Option CoverSoFar
    pub goes_on : (later : List Line) → tell_lines library (lines ++ later) ≡ resume library base cover later
    pub closes : closed base cover ≡ Ok told
    pub place : (standing lines told).place ≡ told.place
    pub rows : (standing lines told).rows ≡ open_rows cover
    pub few : limit_of told.said ≡ None

  start : IsAfter [] untold
  start = record { base = untold; cover = None; goes_on = λ later. refl; closes = refl; place = refl; rows = refl; few = refl }

  tells : (lines : List Line) (told : LinesSaid) → IsAfter lines told → tell_lines library lines ≡ Ok told
  tells lines told after = ap (tell_lines library) (sym (append-nil lines)) ∙ (after.goes_on [] ∙ (at_end library after.base after.cover ∙ after.closes))

  module _ (lines : List Line) (told : LinesSaid) (after : IsAfter lines told) (line : Line) where
    -- the line has this fault
    record Fails : Type 0 where
      pub cause : LineFault
      pub first : line_fault library (standing lines told) line.words ≡ Some cause
      pub fails : (later : List Line) → tell_lines library (lines ++ line ∷ later) ≡ Err (at line.number cause)

    -- the line has no fault
    record Goes : Type 0 where
      pub told_more : LinesSaid
      pub faultless : line_fault library (standing lines told) line.words ≡ None
      pub after_more : IsAfter (lines ++ line ∷ []) told_more

    abbrev here : Option OpenRows → Standing
    here rows = record { place = told.place; rows = rows; said = told.said }

    abbrev fault_in : Bool → Form → Option OpenRows → Option LineFault
    fault_in named form rows = first_of (form_faults library (here rows) named form)

    fault_is : (named : Bool) (form : Form) (rows : Option OpenRows) → list_all is_name line.words ≡ named → form_of line.words ≡ form → (standing lines told).rows ≡ rows → line_fault library (standing lines told) line.words ≡ fault_in named form rows
    fault_is named form rows n f r =
        ap (λ p. first_of (form_faults library (record { place = p; rows = (standing lines told).rows; said = told.said }) (list_all is_name line.words) (form_of line.words))) after.place
        ∙ (ap (λ b. fault_in b (form_of line.words) (standing lines told).rows) n ∙ (ap (λ g. fault_in named g (standing lines told).rows) f ∙ ap (fault_in named form) r))

    failing : (cause : LineFault) → line_fault library (standing lines told) line.words ≡ Some cause → ((later : List Line) → resume library after.base after.cover (line ∷ later) ≡ Err (at line.number cause)) → Fails ⊎ Goes
    failing cause first fails = inl (record { cause = cause; first = first; fails = λ later. after.goes_on (line ∷ later) ∙ fails later })

    going : (base more : LinesSaid) (cover : Option CoverSoFar) → line_fault library (standing lines told) line.words ≡ None → ((later : List Line) → resume library after.base after.cover (line ∷ later) ≡ resume library base cover later)
        → closed base cover ≡ Ok more → place_after told.place (form_of line.words) ≡ more.place → rows_after (standing lines told).rows (form_of line.words) ≡ open_rows cover → limit_of more.said ≡ None → Fails ⊎ Goes
    going base more cover faultless goes closes place rows few = inr (record {
      told_more = more;
      faultless = faultless;
      after_more = record {
        base = base;
        cover = cover;
        goes_on = λ later. ap (tell_lines library) (append_assoc lines (line ∷ []) later) ∙ (after.goes_on (line ∷ later) ∙ goes later);
        closes = closes;
        place = fold-append (λ p l. place_after p (form_of l.words)) First lines (line ∷ []) ∙ (ap (λ p. place_after p (form_of line.words)) after.place ∙ place);
        rows = fold-append (λ r l. rows_after r (form_of l.words)) None lines (line ∷ []) ∙ rows;
        few = few;
      };
    })

    -- a word that is no name
    unnamed : list_all is_name line.words ≡ false → Fails ⊎ Goes
    unnamed not_named =
        failing BadLine (fault_is false (form_of line.words) (standing lines told).rows not_named refl refl)
        (λ later. at_unnamed library after.base after.cover line later not_named ∙ ap (λ r. go_on r (λ t. Err (at line.number BadLine))) after.closes)

    -- rows
    row_alone : list_all is_name line.words ≡ true → are_row line.words ≡ true → form_of line.words ≡ Row line.words → after.cover ≡ None → Fails ⊎ Goes
    row_alone named row form none =
        failing BadLine (fault_is true (Row line.words) None named form (after.rows ∙ ap open_rows none))
        (λ later. ap (λ c. resume library after.base c (line ∷ later)) none ∙ at_lone_row library after.base line later row)

    module _ (named : list_all is_name line.words ≡ true) (row : are_row line.words ≡ true) (form : form_of line.words ≡ Row line.words) (o : CoverSoFar) (some : after.cover ≡ Some o) where
      abbrev row_answers : Bool → List (LineFault × Bool)
      row_answers bad =
          (BadLine, false) ∷ (BadCover, bad) ∷ (BadLatch, false) ∷ (Placed UnknownCell, false) ∷ (Placed UnusableCell, false) ∷ (Placed PinFault, false) ∷ (SecondModel, false)
          ∷ (Passed CoverInputs, false) ∷ (Passed Nets, nat_lt 1048576 (length told.said.nets)) ∷ (Passed Registers, nat_lt 65536 (length told.said.registers)) ∷ []

      rows_are : (standing lines told).rows ≡ Some (record { inputs = length o.inputs; on = o.on })
      rows_are = after.rows ∙ ap open_rows some

      row_fault : (r : Option RowData) → row_of (length o.inputs) line.words ≡ r → line_fault library (standing lines told) line.words ≡ first_of (row_answers (option_map_or (λ row. not (keeps_value o.on row.value)) r true))
      row_fault r is = fault_is true (Row line.words) (Some (record { inputs = length o.inputs; on = o.on })) named form rows_are ∙ ap (λ q. first_of (row_answers (option_map_or (λ row. not (keeps_value o.on row.value)) q true))) is

      row_fails : line_fault library (standing lines told) line.words ≡ Some BadCover → with_row o (row_of (length o.inputs) line.words) ≡ None → Fails ⊎ Goes
      row_fails first without =
          failing BadCover first
          (λ later. ap (λ c. resume library after.base c (line ∷ later)) some ∙ (at_bad_row library after.base o line later row named without
          ∙ (ap (λ c. go_on (closed after.base c) (λ t. Err (at line.number BadCover))) (sym some) ∙ ap (λ r. go_on r (λ t. Err (at line.number BadCover))) after.closes)))

      abbrev with_it : RowData → CoverSoFar
      with_it r = record o { rows = o.rows ++ r.places ∷ []; on = Some r.value }

      row_goes : (r : RowData) → row_of (length o.inputs) line.words ≡ Some r → keeps_value o.on r.value ≡ true → Fails ⊎ Goes
      row_goes r is keeps =
          let few : limit_of (cover_said after.base.said o) ≡ None = closed_few after.base told o (ap (closed after.base) (sym some) ∙ after.closes) in
          let with : with_row o (row_of (length o.inputs) line.words) ≡ Some (with_it r) = ap (with_row o) is ∙ ap (λ b. if b then Some (with_it r) else None) keeps in
          going after.base (behind_cover after.base (with_it r)) (Some (with_it r))
          (row_fault (Some r) is ∙ (ap (λ b. first_of (row_answers (not b))) keeps ∙ nothing library None told.said after.few))
          (λ later. ap (λ c. resume library after.base c (line ∷ later)) some ∙ at_row library after.base o (with_it r) line later row named with)
          (closes_so after.base (with_it r) few)
          (ap (place_after told.place) form ∙ sym (closed_place after.base told o (ap (closed after.base) (sym some) ∙ after.closes)))
          (ap (λ q. rows_after q (form_of line.words)) rows_are ∙ (ap (rows_after (Some (record { inputs = length o.inputs; on = o.on }))) form
          ∙ ap (λ q. Some (record { inputs = length o.inputs; on = option_map (λ (p : RowData). p.value) q })) is))
          few

      a_row : Fails ⊎ Goes
      a_row = go (row_of (length o.inputs) line.words) refl
        where
          kept : (r : RowData) (b : Bool) → row_of (length o.inputs) line.words ≡ Some r → keeps_value o.on r.value ≡ b → Fails ⊎ Goes
          kept r true is keeps = row_goes r is keeps
          kept r false is keeps = row_fails (row_fault (Some r) is ∙ ap (λ b. first_of (row_answers (not b))) keeps) (ap (with_row o) is ∙ ap (λ b. if b then Some (with_it r) else None) keeps)

          go : (r : Option RowData) → row_of (length o.inputs) line.words ≡ r → Fails ⊎ Goes
          go None is = row_fails (row_fault None is) (ap (with_row o) is)
          go (Some r) is = kept r (keeps_value o.on r.value) is refl

    -- commands
    module _ (c : Command) (words : List (List ℕ)) (named : list_all is_name line.words ≡ true) (not_row : are_row line.words ≡ false) (form : form_of line.words ≡ Order c words) (means : meant line.words ≡ behind c words) where
      abbrev said_of : Statement → Result Said LineFault
      said_of st = with_said told.said (said_by library no_rows st)

      fault_told : line_fault library (standing lines told) line.words ≡ err_of (on_meant (meant_at told.place (behind c words)) said_of)
      fault_told = fault_is true (Order c words) (standing lines told).rows named form refl ∙ same_fault library (standing lines told).rows told.said after.few c words told.place

      on_line : (m : Result Statement LineFault) → meant_at told.place (behind c words) ≡ m → (later : List Line) → resume library after.base after.cover (line ∷ later) ≡ on_statement library told line.number later m
      on_line m is later =
          at_command library after.base after.cover line later not_row
          ∙ (ap (λ r. go_on r (λ t. on_statement library t line.number later (meant_at t.place (meant line.words)))) after.closes
          ∙ (ap (λ x. on_statement library told line.number later (meant_at told.place x)) means ∙ ap (on_statement library told line.number later) is))

      meaningless : (cause : LineFault) → meant_at told.place (behind c words) ≡ Err cause → Fails ⊎ Goes
      meaningless cause is = failing cause (fault_told ∙ ap (λ m. err_of (on_meant m said_of)) is) (on_line (Err cause) is)

      module _ (st : Statement) (is : meant_at told.place (behind c words) ≡ Ok st) where
        fault_said : line_fault library (standing lines told) line.words ≡ err_of (said_of st)
        fault_said = fault_told ∙ ap (λ m. err_of (on_meant m said_of)) is

        place_so : place_after told.place (form_of line.words) ≡ next_place told.place st
        place_so = ap (place_after told.place) form ∙ moves told.place c words st (in_place told.place (behind c words) st is)

        rows_so : rows_after (standing lines told).rows (form_of line.words) ≡ open_rows (opened st)
        rows_so = ap (rows_after (standing lines told).rows) form ∙ opens (standing lines told).rows c words st (in_place told.place (behind c words) st is)

      plain : (st : Statement) → meant_at told.place (behind c words) ≡ Ok st → opened st ≡ None → said_at_once library told.said st ≡ said_of st → Fails ⊎ Goes
      plain st is shut once = go (said_of st) refl
        where
          go : (r : Result Said LineFault) → said_of st ≡ r → Fails ⊎ Goes
          go (Err cause) e = failing cause (fault_said st is ∙ ap err_of e) (λ later. on_line (Ok st) is later ∙ refused library told line.number later st cause (once ∙ e))
          go (Ok s) e =
              going (next library told st s) (next library told st s) None (fault_said st is ∙ ap err_of e)
              (λ later. on_line (Ok st) is later ∙ (took library told line.number later st s (once ∙ e) ∙ ap (λ x. resume library (next library told st s) x later) shut)) refl
              (place_so st is) (rows_so st is ∙ ap open_rows shut) (few_said told.said s (said_by library no_rows st) after.few e)

      cover_opens : (ins : List (List ℕ)) (out : List ℕ) → meant_at told.place (behind c words) ≡ Ok (Names ins out) → Fails ⊎ Goes
      cover_opens ins out is = go (limit_of (cover_said told.said (record { inputs = ins; output = out; rows = []; on = None }))) refl
        where
          o : CoverSoFar
          o = record { inputs = ins; output = out; rows = []; on = None }

          fails_so : (limit : Limit) → limit_of (cover_said told.said (record { inputs = ins; output = out; rows = []; on = None })) ≡ Some limit → (later : List Line) → on_statement library told line.number later (Ok (Names ins out)) ≡ Err (at line.number (Passed limit))
          fails_so limit e later =
              ap (λ l. go_on (tell_parts told line.number (Names ins out) (rows_behind (Names ins out) (cut later).rows)
              (unless l (Ok (with_part told.said (cover_part (record { inputs = ins; output = out; rows = []; on = None }) (cover_or_none (rows_behind (Names ins out) (cut later).rows))))))) (tell_blocks library (cut later).blocks)) e

          go : (l : Option Limit) → limit_of (cover_said told.said (record { inputs = ins; output = out; rows = []; on = None })) ≡ l → Fails ⊎ Goes
          go (Some limit) e =
              failing (Passed limit) (fault_said (Names ins out) is ∙ ap (λ l. err_of (unless l (Ok (cover_said told.said (record { inputs = ins; output = out; rows = []; on = None }))))) e)
              (λ later. on_line (Ok (Names ins out)) is later ∙ fails_so limit e later)
          go None e =
              going (record { place = next_place told.place (Names ins out); model = told.model; said = told.said })
              (behind_cover (record { place = next_place told.place (Names ins out); model = told.model; said = told.said }) (record { inputs = ins; output = out; rows = []; on = None }))
              (Some (record { inputs = ins; output = out; rows = []; on = None }))
              (fault_said (Names ins out) is ∙ ap (λ l. err_of (unless l (Ok (cover_said told.said (record { inputs = ins; output = out; rows = []; on = None }))))) e)
              (λ later. on_line (Ok (Names ins out)) is later ∙ at_names library told line.number later ins out)
              (closes_so (record { place = next_place told.place (Names ins out); model = told.model; said = told.said }) (record { inputs = ins; output = out; rows = []; on = None }) e)
              (place_so (Names ins out) is ∙ place_again told.place ins out) (rows_so (Names ins out) is) e

      of_statement : (st : Statement) → meant_at told.place (behind c words) ≡ Ok st → Fails ⊎ Goes
      of_statement (Model name) is = plain (Model name) is refl refl
      of_statement (Inputs nets) is = plain (Inputs nets) is refl refl
      of_statement (Outputs nets) is = plain (Outputs nets) is refl refl
      of_statement (Clocks nets) is = plain (Clocks nets) is refl refl
      of_statement (Names ins out) is = cover_opens ins out is
      of_statement (Latch i o k n) is = plain (Latch i o k n) is refl refl
      of_statement (Gate cell pins) is = plain (Gate cell pins) is refl refl
      of_statement Skipped is = plain Skipped is refl refl
      of_statement End is = plain End is refl refl

      a_command : Fails ⊎ Goes
      a_command = go (meant_at told.place (behind c words)) refl
        where
          go : (m : Result Statement LineFault) → meant_at told.place (behind c words) ≡ m → Fails ⊎ Goes
          go (Err cause) is = meaningless cause is
          go (Ok st) is = of_statement st is

    -- any line
    of_words : (words : List (List ℕ)) → line.words ≡ words → list_all is_name line.words ≡ true → Fails ⊎ Goes
    of_words [] is named = of_cover after.cover refl
      where
        row : are_row line.words ≡ true
        row = ap are_row is

        form : form_of line.words ≡ Row line.words
        form = ap form_of is ∙ ap (λ w. Row w) (sym is)

        of_cover : (cover : Option CoverSoFar) → after.cover ≡ cover → Fails ⊎ Goes
        of_cover None none = row_alone named row form none
        of_cover (Some o) some = a_row named row form o some
    of_words (first ∷ words) is named = of_kind (are_row line.words) refl
      where
        of_cover : are_row line.words ≡ true → form_of line.words ≡ Row line.words → (cover : Option CoverSoFar) → after.cover ≡ cover → Fails ⊎ Goes
        of_cover row form None none = row_alone named row form none
        of_cover row form (Some o) some = a_row named row form o some

        form_so : (b : Bool) → are_row line.words ≡ b → form_of line.words ≡ (if b then Row line.words else Order (command_of first) words)
        form_so b row = ap form_of is ∙ (ap (λ r. if r then Row (first ∷ words) else Order (command_of first) words) (ap are_row (sym is) ∙ row) ∙ ap (λ w. if b then Row w else Order (command_of first) words) (sym is))

        of_kind : (b : Bool) → are_row line.words ≡ b → Fails ⊎ Goes
        of_kind true row = of_cover row (form_so true row) after.cover refl
        of_kind false row =
            a_command (command_of first) words named row (form_so false row)
            (ap meant is ∙ ap (λ b. if b then behind (command_of first) words else Err BadLine) (ap (list_all is_name) (sym is) ∙ named))

    step : Fails ⊎ Goes
    step = go (list_all is_name line.words) refl
      where
        go : (b : Bool) → list_all is_name line.words ≡ b → Fails ⊎ Goes
        go true named = of_words line.words refl named
        go false not_named = unnamed not_named

  -- lines are read to the first that has a fault, or to the end
  record Stops (lines : List Line) : Type 0 where
    pub fault : BlifFault
    pub first : IsFirstOfLines library lines fault
    pub stops : tell_lines library lines ≡ Err fault

  record Ends (lines : List Line) : Type 0 where
    pub told : LinesSaid
    pub ends : IsAfter lines told

  reads : (lines later : List Line) (told : LinesSaid) → IsAfter lines told → Stops (lines ++ later) ⊎ Ends (lines ++ later)
  reads lines [] told after = inr (record { told = told; ends = subst (λ ls. IsAfter ls told) (sym (append-nil lines)) after })
  reads lines (line ∷ later) told after = elim (step lines told after line) [
    | inl bad ↦ inl (record {
      fault = at line.number bad.cause;
      first = record { front = lines; line = line; later = later; told = told; cause = bad.cause; cut = refl; before = tells lines told after; first = bad.first; fault_is = refl };
      stops = bad.fails later;
    })
    | inr good ↦ subst (λ ls. Stops ls ⊎ Ends ls) (append_assoc lines (line ∷ []) later) (reads (lines ++ line ∷ []) later good.told_more good.after_more)
  ]

  told_or_fault : (told : LinesSaid) (fault : BlifFault) (r : Result LinesSaid BlifFault) → r ≡ Ok told → r ≡ Err fault → ⊥
  told_or_fault told fault r is also = let both_are : Ok told ≡ Err fault = sym is ∙ also in cc

  same_told : (told other : LinesSaid) (r : Result LinesSaid BlifFault) → r ≡ Ok told → r ≡ Ok other → told ≡ other
  same_told told other r is also = let both_are : ◌≡◌ {A = Result LinesSaid BlifFault} (Ok told) (Ok other) = sym is ∙ also in cc

  same_fault_told : (fault other : BlifFault) (r : Result LinesSaid BlifFault) → r ≡ Err fault → r ≡ Err other → fault ≡ other
  same_fault_told fault other r is also = let both_are : ◌≡◌ {A = Result LinesSaid BlifFault} (Err fault) (Err other) = sym is ∙ also in cc

  -- the fault that lines tell is their first
  pub told_is_first : (lines : List Line) (fault : BlifFault) → tell_lines library lines ≡ Err fault → IsFirstOfLines library lines fault
  told_is_first lines fault is = elim (reads [] lines untold start) [
    | inl bad ↦ subst (IsFirstOfLines library lines) (same_fault_told bad.fault fault (tell_lines library lines) bad.stops is) bad.first
    | inr good ↦ absurd (told_or_fault good.told fault (tell_lines library lines) (tells lines good.told good.ends) is)
  ]

  same_cause : (cause other : LineFault) (o : Option LineFault) → o ≡ Some cause → o ≡ Some other → cause ≡ other
  same_cause cause other o is also = let both_are : ◌≡◌ {A = Option LineFault} (Some cause) (Some other) = sym is ∙ also in cc

  some_or_none : (cause : LineFault) (o : Option LineFault) → o ≡ Some cause → o ≡ None → ⊥
  some_or_none cause o is also = let both_are : ◌≡◌ {A = Option LineFault} (Some cause) None = sym is ∙ also in cc

  told_at : (lines : List Line) (fault : BlifFault) (is : IsFirstOfLines library lines fault) → IsAfter is.front is.told → tell_lines library lines ≡ Err fault
  told_at lines fault is after = elim (step is.front is.told after is.line) [
    | inl bad ↦
        ap (tell_lines library) is.cut
        ∙ (bad.fails is.later ∙ (ap (λ cause. Err (at is.line.number cause)) (same_cause bad.cause is.cause (line_fault library (standing is.front is.told) is.line.words) bad.first is.first) ∙ ap (λ f. Err f) (sym is.fault_is)))
    | inr good ↦ absurd (some_or_none is.cause (line_fault library (standing is.front is.told) is.line.words) is.first good.faultless)
  ]

  -- the first fault of lines is what they tell
  pub first_is_told : (lines : List Line) (fault : BlifFault) → IsFirstOfLines library lines fault → tell_lines library lines ≡ Err fault
  first_is_told lines fault is = elim (reads [] is.front untold start) [
    | inl bad ↦ absurd (told_or_fault is.told bad.fault (tell_lines library is.front) is.before bad.stops)
    | inr good ↦ told_at lines fault is (subst (λ t. IsAfter is.front t) (same_told good.told is.told (tell_lines library is.front) (tells is.front good.told good.ends) is.before) good.ends)
  ]
