-- Lines of names that are written are read as these lines: they hold no comment, and none is joined with the next.
use Rattle.std.proofs.Common.{◌≡◌, ℕ, ◌+◌, ◌-◌, ◌<◌, ◌≤◌, true, false, not, ◌||◌, ◌==◌, cond, IsTrue, List, [], ◌∷◌, ◌++◌}
use Rattle.std.proofs.Common.{map, length, Some, refl, sym, ap, ◌∙◌, append_assoc, reverse, take, arith, nat_lt, nat_le}
use Rattle.std.specs.List.{AllByRecursion, before_first, list_all, onto_first, position_or_len, slice_get}
use Rattle.std.specs.Option.{option_map_or}
use Rattle.std.proofs.lemmas.Bool.{and_parts, both_ways, eqb-true, false_from_ne_true, leb-true, ltb-true, not-true}
use Rattle.std.proofs.lemmas.List.{length-append, reverse-append, reverse-reverse, take_all}
use Rattle.std.proofs.Math.Dec.{eqb-suc-zero}
use Rattle.cg_cell.specs.Name.{ends_name, is_name, is_name_byte}
use Rattle.cg_text.specs.declared.blanks.Blanks.TheVariants.{Controls}
use Rattle.cg_text.specs.declared.lines.Line.{Line}
use Rattle.cg_text.specs.Blanks.{is_blank}
use Rattle.cg_text.specs.Lines.{put_line}
use Rattle.cg_text.specs.Words.{lines}
use Rattle.cg_text.specs.Written.{IsWord, joined, numbered, text_of}
use Rattle.cg_text.proofs.Written.{words-joined}
use Rattle.cg_blif_text.specs.LogicalLines.{bared, is_joined, logical_lines, put_bared, text_lines, without_front, word_lines}
use Rattle.cg_blif_text.specs.LogicalLines as logical

abbrev Word : Type 0
Word = List ℕ

-- a line that is written: some words, each of them a name
abbrev pub IsWritten : List Word → Type 0
IsWritten ws = (1 ≤ length ws) × AllByRecursion (λ word. IsTrue (is_name word)) ws

-- Bytes

-- a byte of a written line begins no comment and ends no line
pub record IsFine (b : ℕ) : Type 0 where
  pub comment : (b == 35) ≡ false
  pub line : (b == 10) ≡ false

low : (b k : ℕ) → 32 < b → k ≤ 32 → (b == k) ≡ false
low b k high small = false_from_ne_true (b == k) (λ same. let e : b ≡ k = eqb-true b k same in let none : ⊥ = omega (arith, e, high, small) in none)

fine_byte : (b : ℕ) → is_name_byte b ≡ true → IsFine b
fine_byte b name =
    let parts = and_parts (nat_lt 32 b) (not (b == 35)) name in
    record { comment = not-true (b == 35) parts.1; line = low b 10 (ltb-true 32 b parts.0) (omega arith) }

fine_bytes : (w : Word) → list_all is_name_byte w ≡ true → AllByRecursion IsFine w
fine_bytes [] name = tt
fine_bytes (b ∷ bs) name = let parts = and_parts (is_name_byte b) (list_all is_name_byte bs) name in (fine_byte b parts.0, fine_bytes bs parts.1)

fine_append : (xs ys : List ℕ) → AllByRecursion IsFine xs → AllByRecursion IsFine ys → AllByRecursion IsFine (xs ++ ys)
fine_append [] ys fine_xs fine_ys = fine_ys
fine_append (x ∷ xs) ys fine_xs fine_ys = (fine_xs.0, fine_append xs ys fine_xs.1 fine_ys)

pub name_bytes : (w : Word) → is_name w ≡ true → list_all is_name_byte w ≡ true
name_bytes w name = (and_parts (ends_name (slice_get w (length w - 1))) (list_all is_name_byte w) name).1

fine_line : (ws : List Word) → AllByRecursion (λ word. IsTrue (is_name word)) ws → AllByRecursion IsFine (joined ws)
fine_line [] names = tt
fine_line (w ∷ []) names = fine_bytes w (name_bytes w names.0)
fine_line (w ∷ v ∷ ws) names = fine_append w (32 ∷ joined (v ∷ ws)) (fine_bytes w (name_bytes w names.0)) (record { comment = refl; line = refl }, fine_line (v ∷ ws) names.1)

-- Last bytes

-- a line that ends with a byte of a name that joins no line
pub record EndsWell (line : List ℕ) : Type 0 where
  pub front : List ℕ
  pub last : ℕ
  pub is : line ≡ front ++ last ∷ []
  pub high : 32 < last
  pub other : (last == 92) ≡ false

last_at : (front : List ℕ) (last : ℕ) → slice_get (front ++ last ∷ []) (length front) ≡ Some last
last_at [] last = refl
last_at (x ∷ xs) last = last_at xs last

pub last_of : (front : List ℕ) (last : ℕ) → slice_get (front ++ last ∷ []) (length (front ++ last ∷ []) - 1) ≡ Some last
last_of front last =
    let long = length-append front (last ∷ []) in
    let e : length (front ++ last ∷ []) - 1 ≡ length front = omega (arith, long) in
    ap (slice_get (front ++ last ∷ [])) e ∙ last_at front last

cut_last : (x : ℕ) (xs : List ℕ) → (front : List ℕ) × (last : ℕ) × (x ∷ xs ≡ front ++ last ∷ [])
cut_last x [] = ([], x, refl)
cut_last x (y ∷ ys) = let cut = cut_last y ys in (x ∷ cut.0, cut.1, ap (λ l. x ∷ l) cut.2)

last_named : (front : List ℕ) (last : ℕ) → list_all is_name_byte (front ++ last ∷ []) ≡ true → 32 < last
last_named [] last name = ltb-true 32 last (and_parts (nat_lt 32 last) (not (last == 35)) (and_parts (is_name_byte last) true name).0).0
last_named (x ∷ xs) last name = last_named xs last (and_parts (is_name_byte x) (list_all is_name_byte (xs ++ last ∷ [])) name).1

pub name_ends : (w : Word) → is_name w ≡ true → EndsWell w
name_ends [] name = absurd (both_ways false refl name)
name_ends (x ∷ xs) name =
    let cut = cut_last x xs in
    let parts = and_parts (ends_name (slice_get (x ∷ xs) (length (x ∷ xs) - 1))) (list_all is_name_byte (x ∷ xs)) name in
    let at : ends_name (Some cut.1) ≡ true = ap ends_name (sym (ap (λ l. slice_get l (length l - 1)) cut.2 ∙ last_of cut.0 cut.1)) ∙ parts.0 in
    record { front = cut.0; last = cut.1; is = cut.2; high = last_named cut.0 cut.1 (ap (list_all is_name_byte) (sym cut.2) ∙ parts.1); other = not-true (cut.1 == 92) at }

line_ends : (w : Word) (ws : List Word) → AllByRecursion (λ word. IsTrue (is_name word)) (w ∷ ws) → EndsWell (joined (w ∷ ws))
line_ends w [] names = name_ends w names.0
line_ends w (v ∷ ws) names =
    let later = line_ends v ws names.1 in
    record { front = w ++ 32 ∷ later.front; last = later.last; is = ap (λ l. w ++ 32 ∷ l) later.is ∙ sym (append_assoc w (32 ∷ later.front) (later.last ∷ [])); high = later.high; other = later.other }

-- Lines

no_comment : (line : List ℕ) → AllByRecursion IsFine line → position_or_len (λ b. b == 35) line ≡ length line
no_comment [] fine = refl
no_comment (b ∷ bs) fine =
    let later = no_comment bs fine.1 in
    ap (λ c. cond (not c) (1 + position_or_len (λ x. x == 35) bs) 0) (fine.0).comment ∙ omega (arith, later)

whole_line : (line : List ℕ) → AllByRecursion IsFine line → before_first (λ b. b == 35) line ≡ line
whole_line line fine = let end = no_comment line fine in take_all (position_or_len (λ b. b == 35) line) line (omega (arith, end))

no_trailing : (y : ℕ) → 32 < y → (y == 32 || y == 9 || y == 13) ≡ false
no_trailing y high =
    ap (λ b. b || y == 9 || y == 13) (low y 32 high (omega arith)) ∙ (ap (λ b. b || y == 13) (low y 9 high (omega arith)) ∙ low y 13 high (omega arith))

kept_end : (line : List ℕ) → EndsWell line → reverse (without_front (reverse line)) ≡ line
kept_end line ends =
    let turned : reverse line ≡ ends.last ∷ reverse ends.front = ap reverse ends.is ∙ reverse-append ends.front (ends.last ∷ []) in
    let stays : without_front (ends.last ∷ reverse ends.front) ≡ ends.last ∷ reverse ends.front = ap (λ b. cond b (without_front (reverse ends.front)) (ends.last ∷ reverse ends.front)) (no_trailing ends.last ends.high) in
    ap (λ l. reverse (without_front l)) turned ∙ (ap reverse (stays ∙ sym turned) ∙ reverse-reverse line)

bared_is : (line : List ℕ) → AllByRecursion IsFine line → EndsWell line → bared line ≡ line
bared_is line fine ends = ap (λ l. reverse (without_front (reverse l))) (whole_line line fine) ∙ kept_end line ends

joins_none : (line : List ℕ) → EndsWell line → is_joined line ≡ false
joins_none line ends = ap is_joined ends.is ∙ (ap (λ o. option_map_or (λ b. b == 92) o false) (last_of ends.front ends.last) ∙ ends.other)

-- a written line is one piece of the text
piece_ends : (line rest : List ℕ) → AllByRecursion IsFine line → lines (line ++ 10 ∷ rest) ≡ line ∷ lines rest
piece_ends [] rest fine = refl
piece_ends (b ∷ bs) rest fine =
    ap (λ c. cond c ([] ∷ lines (bs ++ 10 ∷ rest)) (onto_first b (lines (bs ++ 10 ∷ rest)))) (fine.0).line ∙ ap (onto_first b) (piece_ends bs rest fine.1)

written_word : (w : Word) → is_name w ≡ true → IsWord Controls w
written_word [] name = absurd (both_ways false refl name)
written_word (x ∷ xs) name = record { full = omega arith; whole = each (x ∷ xs) (name_bytes (x ∷ xs) name) }
  where
    each : (bs : List ℕ) → list_all is_name_byte bs ≡ true → AllByRecursion (λ b. is_blank Controls b ≡ false) bs
    each [] name = tt
    each (b ∷ bs) name =
        let parts = and_parts (is_name_byte b) (list_all is_name_byte bs) name in
        let high = ltb-true 32 b (and_parts (nat_lt 32 b) (not (b == 35)) parts.0).0 in
        (false_from_ne_true (nat_le b 32) (λ le. let small = leb-true b 32 le in let none : ⊥ = omega (arith, high, small) in none), each bs parts.1)

written_words : (ws : List Word) → AllByRecursion (λ word. IsTrue (is_name word)) ws → AllByRecursion (IsWord Controls) ws
written_words [] names = tt
written_words (w ∷ ws) names = (written_word w names.0, written_words ws names.1)

lines_of_text : (ls : List (List Word)) → AllByRecursion IsWritten ls → lines (text_of ls) ≡ map joined ls
lines_of_text [] written = refl
lines_of_text (ws ∷ ls) written =
    ap lines (append_assoc (joined ws) (10 ∷ []) (text_of ls))
    ∙ (piece_ends (joined ws) (text_of ls) (fine_line ws (written.0).1) ∙ ap (λ l. joined ws ∷ l) (lines_of_text ls written.1))

line_ends_well : (ws : List Word) → IsWritten ws → EndsWell (joined ws)
line_ends_well [] written = absurd (omega (arith, written.0))
line_ends_well (w ∷ ws) written = line_ends w ws written.1

full_line : (number : ℕ) (ws : List Word) (later : List Line) → 1 ≤ length ws → put_line number ws later ≡ record { number = number; words = ws } ∷ later
full_line number [] later some = absurd (omega (arith, some))
full_line number (w ∷ ws) later some = ap (λ b. cond b later (record { number = number; words = w ∷ ws } ∷ later)) (eqb-suc-zero (length ws))

read_as : (number : ℕ) (ls : List (List Word)) → AllByRecursion IsWritten ls → word_lines (logical_lines number (map joined ls)) ≡ numbered number ls
read_as number [] written = refl
read_as number (ws ∷ ls) written =
    let ends = line_ends_well ws written.0 in
    let rest = logical_lines (number + 1) (map joined ls) in
    ap (λ l. word_lines (put_bared number l rest)) (bared_is (joined ws) (fine_line ws (written.0).1) ends)
    ∙ (ap (λ j. word_lines (cond j (logical.joined number (take (length (joined ws) - 1) (joined ws)) rest) (record { number = number; bytes = joined ws } ∷ rest))) (joins_none (joined ws) ends)
    ∙ (ap (λ words. put_line number words (word_lines rest)) (words-joined Controls ws (written_words ws (written.0).1))
    ∙ (full_line number ws (word_lines rest) (written.0).0
    ∙ ap (λ later. record { number = number; words = ws } ∷ later) (read_as (number + 1) ls written.1))))

pub written_lines : (ls : List (List Word)) → AllByRecursion IsWritten ls → text_lines (text_of ls) ≡ numbered 1 ls
written_lines ls written = ap (λ l. word_lines (logical_lines 1 l)) (lines_of_text ls written) ∙ read_as 1 ls written
