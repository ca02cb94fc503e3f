-- What is read is in the grammar of stimulus texts, and nothing in it is refused.
use Rattle.std.proofs.Common.{◌≡◌, ℕ, zero, suc, ◌+◌, ◌<◌, ◌≤◌, ◌==◌, Bool, true, false, not, cond, ◌||◌, List, [], ◌∷◌, ◌++◌, map}
use Rattle.std.proofs.Common.{length, slice_get, slice_index_or, nat_eq, nat_lt, Result, Ok, Err, IfOk, Option, Some, None, inl}
use Rattle.std.proofs.Common.{inr, ◌⊎◌, refl, sym, ap, subst, ◌∙◌, codes, append_assoc, arith, if◌then◌else◌}
use Rattle.std.specs.Cmp.Lexicographic.{same_text}
use Rattle.std.specs.List.{AllByRecursion, AllZip, list_all, position_or_len}
use Rattle.std.specs.Str.{bytes_eq}
use Rattle.std.proofs.lemmas.Bool.{and_parts, both_ways, cases_Bool, eq-eqb, eqb-true, or_cases, or_parts}
use Rattle.std.proofs.lemmas.Bool.Decides.{Decides-ltb}
use Rattle.std.proofs.lemmas.Cmp.{nat_list_eq_equiv}
use Rattle.std.proofs.lemmas.List.{append-nil}
use Rattle.std.proofs.lemmas.List.Folds.{list_any-append}
use Rattle.std.proofs.lemmas.List.Quantifiers.{position-Some}
use Rattle.std.proofs.lemmas.Option.{slice_get_within, slice_get-get_or, get_or_from_slice_get}
use Rattle.std.proofs.lemmas.Slice.Eq.{bytes_eq-Decides}
use lib.Pointwise.{pointwise}
use Rattle.cg_limit.specs.declared.TheConstants.{MOST_ROWS}
use Rattle.cg_text.specs.declared.lines.Line.{Line}
use Rattle.cg_limit.specs.Answers.{OrNoMemory}
use Rattle.cg_limit.specs.declared.Limit.TheVariants as limits
use Rattle.cg_net.specs.Names.{is_known}
use Rattle.cg_net.proofs.DifferentNames.{known_at}
use Rattle.cg_stimulus.specs.declared.fault.StimulusFault.{StimulusFault}
use Rattle.cg_stimulus.specs.declared.fault.StimulusFault.TheVariants as faults
use Rattle.cg_stimulus.specs.declared.header.Header.{Header}
use Rattle.cg_stimulus.specs.Lines.{stimulus_lines}
use Rattle.cg_stimulus.specs.Fault.{◌>>=◌}
use Rattle.cg_stimulus.specs.Reading.{column_of, names_from, columns_of, header_of, is_bit_byte, says_row, bits_of, row_of, rows_of}
use Rattle.cg_stimulus.specs.Reading.{rows_in, stimulus}
use Rattle.cg_stimulus.specs.StimText.{bit_byte, StandOnce, ShowsBit, SaysRow, StimText}
use Rattle.std.proofs.lemmas.Bool.{or_from}
use Rattle.cg_net.proofs.NamesInOrder.{known_there}

bind_ok : {A B : Type 0} (r : Result A StimulusFault) (f : A → Result B StimulusFault) (y : B) → ◌>>=◌ {B = B} r f ≡ Ok y
    → (x : A) × (r ≡ Ok x) × (f x ≡ Ok y)
bind_ok (Ok x) f y e = (x, refl, e)
bind_ok (Err d) f y e = absurd (cc)

-- names

abbrev same : List ℕ → List ℕ → Bool
same = pointwise nat_eq

same_sym : (a b : List ℕ) → same a b ≡ false → same b a ≡ false
same_sym a b e = sym (nat_list_eq_equiv.symm a b) ∙ e

same_self : (a : List ℕ) → same a a ≡ true
same_self a = nat_list_eq_equiv.refl a

-- a name that is new goes behind names that stand once
once_more : (before : List (List ℕ)) (w : List ℕ) → StandOnce before → is_known before w ≡ false → StandOnce (before ++ w ∷ [])
once_more [] w once new = (refl, tt)
once_more (b ∷ bs) w once new =
    let apart = or_parts (same w b) (is_known bs w) new in (
      list_any-append (same b) bs (w ∷ []) ∙ or_from (is_known bs b) (same b w || false) once.0 (or_from (same b w) false (same_sym w b apart.0) refl),
      once_more bs w once.1 apart.1,
    )

-- a name among those that stand once is none of those before it
once_before : (before : List (List ℕ)) (w : List ℕ) (ws : List (List ℕ)) → StandOnce (before ++ w ∷ ws) → is_known before w ≡ false
once_before [] w ws once = refl
once_before (b ∷ bs) w ws once =
    let apart = or_parts (is_known bs b) (same b w || is_known ws b) (sym (list_any-append (same b) bs (w ∷ ws)) ∙ once.0) in
    or_from (same w b) (is_known bs w) (same_sym b w (or_parts (same b w) (is_known ws b) apart.1).0) (once_before bs w ws once.1)

record NamesRead (inputs before ws all : List (List ℕ)) : Type 0 where
  pub whole : all ≡ before ++ ws
  pub once : StandOnce all
  pub known : AllByRecursion (λ name. is_known inputs name ≡ true) ws

names_spelled : (line : ℕ) (inputs before ws all : List (List ℕ)) → StandOnce before → names_from line inputs before ws ≡ Ok all → NamesRead inputs before ws all
names_spelled line inputs before [] all once e =
    let is : before ≡ all = cc in
    record { whole = sym is ∙ sym (append-nil before); once = subst StandOnce is once; known = tt }
names_spelled line inputs before (w ∷ ws) all once e = pick (is_known inputs w) (is_known before w) refl refl (names_spelled line inputs (before ++ w ∷ []) ws all) where
  pick : (k b : Bool) → is_known inputs w ≡ k → is_known before w ≡ b
      → (StandOnce (before ++ w ∷ []) → names_from line inputs (before ++ w ∷ []) ws ≡ Ok all → NamesRead inputs (before ++ w ∷ []) ws all) → NamesRead inputs before (w ∷ ws) all
  pick true false f g later =
      let rest = later (once_more before w once g) (sym (rw (f, g) refl) ∙ e) in
      record { whole = rest.whole ∙ append_assoc before (w ∷ []) ws; once = rest.once; known = (f, rest.known) }
  pick true true f g later = let bad : Err (faults.BadName line) ≡ Ok all = rw (f, g) at e in absurd (cc)
  pick false b f g later = let bad : Err (faults.BadName line) ≡ Ok all = rw f at e in absurd (cc)

names_again : (line : ℕ) (inputs before ws : List (List ℕ)) → StandOnce (before ++ ws) → AllByRecursion (λ name. is_known inputs name ≡ true) ws
    → names_from line inputs before ws ≡ Ok (before ++ ws)
names_again line inputs before [] once known = ap Ok (sym (append-nil before))
names_again line inputs before (w ∷ ws) once known =
    let front : before ++ w ∷ [] ++ ws ≡ before ++ w ∷ ws = append_assoc before (w ∷ []) ws in
    rw (known.0, once_before before w ws once) (names_again line inputs (before ++ w ∷ []) ws (subst StandOnce (sym front) once) known.1 ∙ ap Ok front)

-- columns

first_place : (names : List (List ℕ)) (i : ℕ) (name : List ℕ) → StandOnce names → slice_get names i ≡ Some name → position_or_len (same name) names ≡ i
first_place [] i name once at = absurd (cc)
first_place (n ∷ names) zero name once at =
    let is : n ≡ name = cc in
    ap (λ b. cond (not b) (1 + position_or_len (same name) names) 0) (ap (same name) is ∙ same_self name)
first_place (n ∷ names) (suc i) name once at =
    let other : same name n ≡ false = elim (cases_Bool (same name n)) [
      | inl is ↦ absurd (both_ways (is_known names n) once.0 (ap (is_known names) (sym (same_text name n (sym is))) ∙ known_there names i name at))
      | inr no' ↦ no'
    ] in
    ap (λ b. cond (not b) (1 + position_or_len (same name) names) 0) other ∙ (ap (λ m. 1 + m) (first_place names i name once.1 at) ∙ omega arith)

-- a name stands at one place
one_place : (names : List (List ℕ)) (i j : ℕ) (name : List ℕ) → StandOnce names → slice_get names i ≡ Some name → slice_get names j ≡ Some name → i ≡ j
one_place names i j name once at other = sym (first_place names i name once at) ∙ first_place names j name once other

position_within : (names : List (List ℕ)) (name : List ℕ) (i : ℕ) → slice_get names i ≡ Some name → position_or_len (same name) names < length names
position_within [] name i at = absurd (cc)
position_within (n ∷ names) name i at = deeper i at (cases_Bool (same name n)) (position_within names name) where
  deeper : (i : ℕ) → slice_get (n ∷ names) i ≡ Some name → (same name n ≡ true) ⊎ (same name n ≡ false)
      → ((j : ℕ) → slice_get names j ≡ Some name → position_or_len (same name) names < length names) → position_or_len (same name) (n ∷ names) < length (n ∷ names)
  deeper i at (inl here) later =
      let first : position_or_len (same name) (n ∷ names) ≡ 0 = ap (λ b. cond (not b) (1 + position_or_len (same name) names) 0) here in omega (arith, first)
  deeper zero at (inr other) later = let is : n ≡ name = cc in absurd (both_ways (same name n) other (ap (same name) is ∙ same_self name))
  deeper (suc i) at (inr other) later =
      let next : position_or_len (same name) (n ∷ names) ≡ 1 + position_or_len (same name) names = ap (λ b. cond (not b) (1 + position_or_len (same name) names) 0) other in
      omega (arith, next, later i at)

found_at : (names : List (List ℕ)) (name : List ℕ) (i : ℕ) → column_of names name ≡ Some i → slice_get names i ≡ Some name
found_at names name i e =
    let is = position-Some (same name) names i [] e in
    slice_get-get_or names i [] is.0 ∙ ap (λ n. Some n) (sym (same_text name _ (sym is.1)))

no_place : (names : List (List ℕ)) (name : List ℕ) → column_of names name ≡ None → is_known names name ≡ true → ⊥
no_place names name none known =
    let at = known_at names name known in
    let within : position_or_len (same name) names < length names = position_within names name at.0 at.1 in
    let some : column_of names name ≡ Some (position_or_len (same name) names) = rw ((Decides-ltb (position_or_len (same name) names) (length names)).1 within) refl in
    let clash : None ≡ Some (position_or_len (same name) names) = sym none ∙ some in absurd (cc)

abbrev IsColumn : List (List ℕ) → List ℕ → ℕ → Type 0
IsColumn names input column = slice_get names column ≡ Some input

columns_spelled : (names inputs : List (List ℕ)) (columns : List ℕ) → columns_of names inputs ≡ Ok columns → AllZip (IsColumn names) inputs columns
columns_spelled names [] columns e = let none : [] ≡ columns = cc in subst (AllZip (IsColumn names) []) none tt
columns_spelled names (input ∷ inputs) columns e = pick (column_of names input) refl (columns_spelled names inputs) where
  pick : (o : Option ℕ) → column_of names input ≡ o → ((columns : List ℕ) → columns_of names inputs ≡ Ok columns → AllZip (IsColumn names) inputs columns)
      → AllZip (IsColumn names) (input ∷ inputs) columns
  pick None f later = let bad : Err (faults.MissingInput input) ≡ Ok columns = rw f at e in absurd (cc)
  pick (Some column) f later =
      let read = bind_ok (columns_of names inputs) (λ columns. Ok (column ∷ columns)) columns (rw f at e) in
      let all : column ∷ read.0 ≡ columns = cc in
      subst (AllZip (IsColumn names) (input ∷ inputs)) all (found_at names input column f, later read.0 read.1)

columns_again : (names inputs : List (List ℕ)) → AllByRecursion (λ input. is_known names input ≡ true) inputs
    → (columns : List ℕ) × (columns_of names inputs ≡ Ok columns)
columns_again names [] all = ([], refl)
columns_again names (input ∷ inputs) all = pick (column_of names input) refl (columns_again names inputs all.1) where
  pick : (o : Option ℕ) → column_of names input ≡ o → (columns : List ℕ) × (columns_of names inputs ≡ Ok columns)
      → (columns : List ℕ) × (columns_of names (input ∷ inputs) ≡ Ok columns)
  pick (Some column) f later = (column ∷ later.0, rw (f, later.1) refl)
  pick None f later = absurd (no_place names input f all.0)

all_known : (names inputs : List (List ℕ)) (columns : List ℕ) → AllZip (IsColumn names) inputs columns → AllByRecursion (λ input. is_known names input ≡ true) inputs
all_known names [] [] zip = tt
all_known names (input ∷ inputs) (column ∷ columns) zip = (known_there names column input zip.0, all_known names inputs columns zip.1)
all_known names [] (column ∷ columns) zip = absurd zip
all_known names (input ∷ inputs) [] zip = absurd zip

-- rows

bit_again : (b : Bool) → (bit_byte b == 49) ≡ b
bit_again true = refl
bit_again false = refl

byte_again : (b : ℕ) → is_bit_byte b ≡ true → b ≡ bit_byte (b == 49)
byte_again b e = elim (or_cases (b == 48) (b == 49) e) [
  | inl zero' ↦ let is : b ≡ 48 = eqb-true b 48 zero' in rw is refl
  | inr one' ↦ let is : b ≡ 49 = eqb-true b 49 one' in rw is refl
]

byte_at : (word : List ℕ) (i : ℕ) → list_all is_bit_byte word ≡ true → i < length word
    → slice_get word i ≡ Some (bit_byte (slice_index_or word i 0 == 49))
byte_at [] i bytes within = let none : ⊥ = omega arith in absurd none
byte_at (b ∷ word) zero bytes within = ap (λ n. Some n) (byte_again b (and_parts (is_bit_byte b) (list_all is_bit_byte word) bytes).0)
byte_at (b ∷ word) (suc i) bytes within = byte_at word i (and_parts (is_bit_byte b) (list_all is_bit_byte word) bytes).1 (omega arith)

bits_shown : (names inputs : List (List ℕ)) (columns word : List ℕ) → length word ≡ length names → list_all is_bit_byte word ≡ true
    → AllZip (IsColumn names) inputs columns → AllZip (ShowsBit names word) inputs (map (λ column. slice_index_or word column 0 == 49) columns)
bits_shown names [] [] word long bytes zip = tt
bits_shown names (input ∷ inputs) (column ∷ columns) word long bytes zip =
    let within : column < length word = omega (arith, slice_get_within names column input zip.0) in
    (record { place = column; named = zip.0; shown = byte_at word column bytes within }, bits_shown names inputs columns word long bytes zip.1)
bits_shown names [] (column ∷ columns) word long bytes zip = absurd zip
bits_shown names (input ∷ inputs) [] word long bytes zip = absurd zip

bits_again : (names inputs : List (List ℕ)) (columns word : List ℕ) (row : List Bool) → StandOnce names
    → AllZip (IsColumn names) inputs columns → AllZip (ShowsBit names word) inputs row → map (λ column. slice_index_or word column 0 == 49) columns ≡ row
bits_again names [] [] word [] once zip shows = refl
bits_again names (input ∷ inputs) (column ∷ columns) word (bit ∷ row) once zip shows =
    let place : column ≡ shows.0.place = one_place names column shows.0.place input once zip.0 shows.0.named in
    let byte : slice_index_or word column 0 ≡ bit_byte bit = ap (λ i. slice_index_or word i 0) place ∙ get_or_from_slice_get word shows.0.place (bit_byte bit) 0 shows.0.shown in
    rw (byte, bit_again bit) (ap (λ bits. bit ∷ bits) (bits_again names inputs columns word row once zip.1 shows.1))
bits_again names [] (column ∷ columns) word row once zip shows = absurd zip
bits_again names (input ∷ inputs) [] word row once zip shows = absurd zip
bits_again names [] [] word (bit ∷ row) once zip shows = absurd shows
bits_again names (input ∷ inputs) (column ∷ columns) word [] once zip shows = absurd shows

-- without names there are no data inputs
bits_none : (names inputs : List (List ℕ)) (columns word : List ℕ) → length names ≡ 0 → AllZip (IsColumn names) inputs columns
    → AllZip (ShowsBit names []) inputs (map (λ column. slice_index_or word column 0 == 49) columns)
bits_none names [] [] word none zip = tt
bits_none names (input ∷ inputs) (column ∷ columns) word none zip =
    let within : column < length names = slice_get_within names column input zip.0 in let no' : ⊥ = omega arith in absurd no'
bits_none names [] (column ∷ columns) word none zip = absurd zip
bits_none names (input ∷ inputs) [] word none zip = absurd zip

-- what a first line gives: how many names there are, and the columns
abbrev header_with : List (List ℕ) → List ℕ → Header
header_with names columns = record { count = length names; columns = columns }

word_spelled : (number : ℕ) (names inputs : List (List ℕ)) (columns word : List ℕ) → AllZip (IsColumn names) inputs columns
    → says_row (header_with names columns) word ≡ true
    → SaysRow inputs names (record { number = number; words = word ∷ [] }) (bits_of (header_with names columns) word)
word_spelled number names inputs columns word zip says = pick (length names == 0) refl where
  pick : (b : Bool) → (length names == 0) ≡ b → SaysRow inputs names (record { number = number; words = word ∷ [] }) (bits_of (header_with names columns) word)
  pick true f =
      let none : length names ≡ 0 = eqb-true (length names) 0 f in
      let dash : word ≡ codes "-" = (bytes_eq-Decides word (codes "-")).0 (rw f at says) in
      record { word = []; alone = rw f (ap (λ w. w ∷ []) dash); count = sym none; bytes = refl; bits = bits_none names inputs columns word none zip }
  pick false f =
      let parts = and_parts (length word == length names) (list_all is_bit_byte word) (rw f at says) in
      let long : length word ≡ length names = eqb-true (length word) (length names) parts.0 in
      record { word = word; alone = rw f refl; count = long; bytes = parts.1; bits = bits_shown names inputs columns word long parts.1 zip }

row_spelled : (number : ℕ) (names inputs : List (List ℕ)) (columns : List ℕ) (ws : List (List ℕ)) (row : List Bool) → AllZip (IsColumn names) inputs columns
    → row_of number (header_with names columns) ws ≡ Ok row → SaysRow inputs names (record { number = number; words = ws }) row
row_spelled number names inputs columns [] row zip e = absurd (cc)
row_spelled number names inputs columns (w ∷ []) row zip e = pick (says_row (header_with names columns) w) refl where
  pick : (b : Bool) → says_row (header_with names columns) w ≡ b → SaysRow inputs names (record { number = number; words = w ∷ [] }) row
  pick true f =
      let made : Ok (bits_of (header_with names columns) w) ≡ Ok row = rw f at e in
      let is : bits_of (header_with names columns) w ≡ row = cc in
      subst (SaysRow inputs names (record { number = number; words = w ∷ [] })) is (word_spelled number names inputs columns w zip f)
  pick false f = let bad : Err (faults.BadRow number) ≡ Ok row = rw f at e in absurd (cc)
row_spelled number names inputs columns (w ∷ v ∷ ws) row zip e = absurd (cc)

any_word : (names inputs : List (List ℕ)) (word other : List ℕ) (row : List Bool) → length names ≡ 0 → AllZip (ShowsBit names word) inputs row → AllZip (ShowsBit names other) inputs row
any_word names [] word other [] none shows = tt
any_word names (input ∷ inputs) word other (bit ∷ row) none shows =
    let within : shows.0.place < length names = slice_get_within names shows.0.place input shows.0.named in let no' : ⊥ = omega arith in absurd no'
any_word names [] word other (bit ∷ row) none shows = absurd shows
any_word names (input ∷ inputs) word other [] none shows = absurd shows

word_again : (number : ℕ) (names inputs : List (List ℕ)) (columns : List ℕ) (line : Line) (row : List Bool) → StandOnce names → AllZip (IsColumn names) inputs columns
    → SaysRow inputs names line row → row_of number (header_with names columns) line.words ≡ Ok row
word_again number names inputs columns line row once zip says = pick (length names == 0) refl where
  pick : (b : Bool) → (length names == 0) ≡ b → row_of number (header_with names columns) line.words ≡ Ok row
  pick true f =
      let none : length names ≡ 0 = eqb-true (length names) 0 f in
      let dash : line.words ≡ codes "-" ∷ [] = says.alone ∙ rw f refl in
      ap (row_of number (header_with names columns)) dash ∙ rw f (ap Ok (bits_again names inputs columns (codes "-") row once zip (any_word names inputs says.word (codes "-") row none says.bits)))
  pick false f =
      let long : (length says.word == length names) ≡ true = eq-eqb (length says.word) (length names) says.count in
      let whole : line.words ≡ says.word ∷ [] = says.alone ∙ rw f refl in
      ap (row_of number (header_with names columns)) whole ∙ rw (f, long, says.bytes) (ap Ok (bits_again names inputs columns says.word row once zip says.bits))

record RowsRead (inputs names : List (List ℕ)) (count : ℕ) (ls : List Line) (rows : List (List Bool)) : Type 0 where
  pub say : AllZip (SaysRow inputs names) ls rows
  pub few : count + length rows ≤ MOST_ROWS

rows_spelled : (names inputs : List (List ℕ)) (columns : List ℕ) (count : ℕ) (ls : List Line) (rows : List (List Bool)) → AllZip (IsColumn names) inputs columns → count ≤ MOST_ROWS
    → rows_of (header_with names columns) count ls ≡ Ok rows → RowsRead inputs names count ls rows
rows_spelled names inputs columns count [] rows zip few e =
    let none : [] ≡ rows = cc in subst (RowsRead inputs names count []) none (record { say = tt; few = omega arith })
rows_spelled names inputs columns count (line ∷ later) rows zip few e =
    let one =
    bind_ok (row_of line.number (header_with names columns) line.words)
    (λ row. if nat_lt count MOST_ROWS then (rows_of (header_with names columns) (count + 1) later >>= λ rows. Ok (row ∷ rows)) else Err (faults.Limit limits.Rows)) rows e in
    pick (nat_lt count MOST_ROWS) refl one.0 one.1 one.2 (λ below rows. rows_spelled names inputs columns (count + 1) later rows zip below) where
      pick : (b : Bool) → nat_lt count MOST_ROWS ≡ b → (row : List Bool) → row_of line.number (header_with names columns) line.words ≡ Ok row
          → (if b then (rows_of (header_with names columns) (count + 1) later >>= λ rows. Ok (row ∷ rows)) else Err (faults.Limit limits.Rows)) ≡ Ok rows
          → (count + 1 ≤ MOST_ROWS → (rows : List (List Bool)) → rows_of (header_with names columns) (count + 1) later ≡ Ok rows → RowsRead inputs names (count + 1) later rows)
          → RowsRead inputs names count (line ∷ later) rows
      pick true f row first got rest_of =
          let below : count < MOST_ROWS = (Decides-ltb count MOST_ROWS).0 f in
          let rest = bind_ok (rows_of (header_with names columns) (count + 1) later) (λ rows. Ok (row ∷ rows)) rows got in
          let after = rest_of (omega (arith, below)) rest.0 rest.1 in
          let all : row ∷ rest.0 ≡ rows = cc in
          let made : RowsRead inputs names count (line ∷ later) (row ∷ rest.0) = record { say = (row_spelled line.number names inputs columns line.words row zip first, after.say); few = omega (arith, after.few) } in
          subst (RowsRead inputs names count (line ∷ later)) all made
      pick false f row first got rest_of = absurd (cc)

rows_again : (names inputs : List (List ℕ)) (columns : List ℕ) (count : ℕ) (ls : List Line) (rows : List (List Bool)) → StandOnce names → AllZip (IsColumn names) inputs columns
    → AllZip (SaysRow inputs names) ls rows → count + length rows ≤ MOST_ROWS → rows_of (header_with names columns) count ls ≡ Ok rows
rows_again names inputs columns count [] [] once zip say few = refl
rows_again names inputs columns count (line ∷ later) (row ∷ rows) once zip say few =
    let below : nat_lt count MOST_ROWS ≡ true = (Decides-ltb count MOST_ROWS).1 (omega arith) in
    rw (word_again line.number names inputs columns line row once zip say.0, below, rows_again names inputs columns (count + 1) later rows once zip say.1 (omega arith)) refl
rows_again names inputs columns count [] (row ∷ rows) once zip say few = absurd say
rows_again names inputs columns count (line ∷ later) [] once zip say few = absurd say

-- texts

text_spelled : (inputs : List (List ℕ)) (text : List ℕ) (ls : List Line) (rows : List (List Bool)) → stimulus_lines text ≡ ls → rows_in inputs ls ≡ Ok rows → StimText inputs text rows
text_spelled inputs text [] rows split e = absurd (cc)
text_spelled inputs text (line ∷ later) rows split e =
    let read = bind_ok (header_of line.number inputs line.words) (λ header. rows_of header 0 later) rows e in
    headed line.words refl read.0 read.1 read.2 where
      headed : (ws : List (List ℕ)) → line.words ≡ ws → (header : Header) → header_of line.number inputs line.words ≡ Ok header → rows_of header 0 later ≡ Ok rows → StimText inputs text rows
      headed [] words header h r = let bad : Err (faults.BadRow line.number) ≡ Ok header = rw words at h in absurd (cc)
      headed (w ∷ ws) words header h r = pick (bytes_eq w (codes "inputs")) refl where
        pick : (b : Bool) → bytes_eq w (codes "inputs") ≡ b → StimText inputs text rows
        pick false f = let bad : Err (faults.BadRow line.number) ≡ Ok header = rw (words, f) at h in absurd (cc)
        pick true f =
            let named = bind_ok (names_from line.number inputs [] ws) (λ names. columns_of names inputs >>= λ columns. Ok (header_with names columns)) header (rw (words, f) at h) in
            let found = bind_ok (columns_of named.0 inputs) (λ columns. Ok (header_with named.0 columns)) header named.2 in
            let spelled = names_spelled line.number inputs [] ws named.0 tt named.1 in
            let zip = columns_spelled named.0 inputs found.0 found.1 in
            let is : header_with named.0 found.0 ≡ header = cc in
            let read = rows_spelled named.0 inputs found.0 0 later rows zip (omega arith) (ap (λ h. rows_of h 0 later) is ∙ r) in
            record {
              first = line;
              later = later;
              names = named.0;
              lines = split;
              headed = words ∙ (ap (λ v. v ∷ ws) ((bytes_eq-Decides w (codes "inputs")).0 f) ∙ ap (λ names. codes "inputs" ∷ names) (sym spelled.whole));
              once = spelled.once;
              known = subst (AllByRecursion (λ name. is_known inputs name ≡ true)) (sym spelled.whole) spelled.known;
              all = all_known named.0 inputs found.0 zip;
              say = read.say;
              few = omega (arith, read.few);
            }

pub read_is_text : (inputs : List (List ℕ)) (text : List ℕ) (rows : List (List Bool)) → stimulus inputs text ≡ Ok rows → StimText inputs text rows
read_is_text inputs text rows e = text_spelled inputs text (stimulus_lines text) rows refl e

pub text_is_read : (inputs : List (List ℕ)) (text : List ℕ) (rows : List (List Bool)) → StimText inputs text rows → stimulus inputs text ≡ Ok rows
text_is_read inputs text rows t =
    let columns = columns_again t.names inputs t.all in
    let zip = columns_spelled t.names inputs columns.0 columns.1 in
    rw (t.lines, t.headed, names_again t.first.number inputs [] t.names t.once t.known, columns.1)
    (rows_again t.names inputs columns.0 0 t.later rows t.once zip t.say (omega (arith, t.few)))

pub given_is_text : {X : Type 0} (view : X → List (List Bool)) (inputs : List (List ℕ)) (text : List ℕ) (r : Result X StimulusFault) → OrNoMemory faults.NoMemory view r (stimulus inputs text)
    → IfOk r (λ x. StimText inputs text (view x))
given_is_text view inputs text (Ok x) e = read_is_text inputs text (view x) e
given_is_text view inputs text (Err fault) e = tt
