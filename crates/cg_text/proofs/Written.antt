-- The lines and words of a text that was written of them.
use Rattle.std.proofs.Common.{◌≡◌, ℕ, ◌+◌, ◌<◌, Bool, true, false, ◌==◌, List, [], ◌∷◌, ◌++◌, length, map, get_or, refl, sym, ap}
use Rattle.std.proofs.Common.{◌∙◌, append_assoc, arith, length-append}
use Rattle.std.proofs.Math.Dec.{eqb-suc-zero}
use Rattle.std.proofs.lemmas.Bool.{ne_eqb}
use Rattle.std.proofs.lemmas.List.{append-nil, map-append}
use Rattle.std.specs.List.{flat_map, AllByRecursion}
use Rattle.cg_text.specs.declared.blanks.Blanks.{Blanks}
use Rattle.cg_text.specs.declared.blanks.Blanks.TheVariants.{Whitespace, Controls, Spaces}
use Rattle.cg_text.specs.declared.lines.Comments.TheVariants.{LeadingC}
use Rattle.cg_text.specs.declared.lines.Layout.{Layout}
use Rattle.cg_text.specs.Blanks.{is_blank, is_line_feed}
use Rattle.cg_text.specs.Words.{pieces, is_full, words, lines}
use Rattle.cg_text.specs.Lines.{read_part, kept_lines, text_lines}
use Rattle.cg_text.specs.Spots.{Spot, line_spots, spots_of, texts_of}
use Rattle.cg_text.specs.Written.{joined, line_text, open_text, text_of, IsWord, IsLine, numbered}

-- pieces

pieces_front : (ends : ℕ → Bool) (front : List ℕ) (x : ℕ) (rest : List ℕ) → AllByRecursion (λ b. ends b ≡ false) front → ends x ≡ true
    → pieces ends (front ++ x ∷ rest) ≡ front ∷ pieces ends rest
pieces_front ends [] x rest none e = rw e refl
pieces_front ends (b ∷ bs) x rest none e = rw (none.0, pieces_front ends bs x rest none.1 e) refl

pieces_alone : (ends : ℕ → Bool) (b : ℕ) (bs : List ℕ) → AllByRecursion (λ b. ends b ≡ false) (b ∷ bs) → pieces ends (b ∷ bs) ≡ (b ∷ bs) ∷ []
pieces_alone ends b [] none = rw none.0 refl
pieces_alone ends b (c ∷ cs) none = rw (none.0, pieces_alone ends c cs none.1) refl

-- words

full_word : (word : List ℕ) → 0 < length word → is_full word ≡ true
full_word [] full = absurd (omega arith)
full_word (b ∷ bs) full = rw (eqb-suc-zero (length bs)) refl

space_is_blank : (blanks : Blanks) → is_blank blanks 32 ≡ true
space_is_blank Whitespace = refl
space_is_blank Controls = refl
space_is_blank Spaces = refl

word_alone : (blanks : Blanks) (word : List ℕ) → IsWord blanks word → words blanks word ≡ word ∷ []
word_alone blanks [] w = let full : 0 < 0 = w.full in absurd (omega arith)
word_alone blanks (b ∷ bs) w = rw (pieces_alone (is_blank blanks) b bs w.whole, full_word (b ∷ bs) w.full) refl

word_before : (blanks : Blanks) (word rest : List ℕ) → IsWord blanks word → words blanks (word ++ 32 ∷ rest) ≡ word ∷ words blanks rest
word_before blanks word rest w = rw (pieces_front (is_blank blanks) word 32 rest w.whole (space_is_blank blanks), full_word word w.full) refl

pub words-joined : (blanks : Blanks) (ws : List (List ℕ)) → AllByRecursion (IsWord blanks) ws → words blanks (joined ws) ≡ ws
words-joined blanks [] all = refl
words-joined blanks (w ∷ []) all = word_alone blanks w all.0
words-joined blanks (w ∷ v ∷ ws) all = word_before blanks w (joined (v ∷ ws)) all.0 ∙ ap (λ later. w ∷ later) (words-joined blanks (v ∷ ws) all.1)

-- lines

blank_line_feed : (blanks : Blanks) → is_blank blanks 10 ≡ true
blank_line_feed Whitespace = refl
blank_line_feed Controls = refl
blank_line_feed Spaces = refl

no_line_feed : (blanks : Blanks) (b : ℕ) → is_blank blanks b ≡ false → is_line_feed b ≡ false
no_line_feed blanks b e = ne_eqb b 10 (λ same. let no : true ≡ false = sym (blank_line_feed blanks) ∙ ap (is_blank blanks) (sym same) ∙ e in cc)

word_in_line : (blanks : Blanks) (word : List ℕ) → AllByRecursion (λ b. is_blank blanks b ≡ false) word → AllByRecursion (λ b. is_line_feed b ≡ false) word
word_in_line blanks [] none = tt
word_in_line blanks (b ∷ bs) none = (no_line_feed blanks b none.0, word_in_line blanks bs none.1)

all_append : (P : ℕ → Type 0) (xs ys : List ℕ) → AllByRecursion P xs → AllByRecursion P ys → AllByRecursion P (xs ++ ys)
all_append P [] ys h k = k
all_append P (x ∷ xs) ys h k = (h.0, all_append P xs ys h.1 k)

one_line : (blanks : Blanks) (ws : List (List ℕ)) → AllByRecursion (IsWord blanks) ws → AllByRecursion (λ b. is_line_feed b ≡ false) (joined ws)
one_line blanks [] all = tt
one_line blanks (w ∷ []) all = word_in_line blanks w (all.0).whole
one_line blanks (w ∷ v ∷ ws) all =
    all_append (λ b. is_line_feed b ≡ false) w (32 ∷ joined (v ∷ ws)) (word_in_line blanks w (all.0).whole) (refl, one_line blanks (v ∷ ws) all.1)

lines_step : (blanks : Blanks) (ws : List (List ℕ)) (rest : List ℕ) → AllByRecursion (IsWord blanks) ws → lines (line_text ws ++ rest) ≡ joined ws ∷ lines rest
lines_step blanks ws rest all =
    ap lines (append_assoc (joined ws) (10 ∷ []) rest) ∙ pieces_front is_line_feed (joined ws) 10 rest (one_line blanks ws all) refl

kept : (layout : Layout) (number : ℕ) (ws : List (List ℕ)) (later : List (List ℕ)) → IsLine layout ws
    → kept_lines layout number (joined ws ∷ later) ≡ record { number = number; words = ws } ∷ kept_lines layout (number + 1) later
kept layout number ws later line =
    let some : (length ws == 0) ≡ false = ne_eqb (length ws) 0 (λ e. omega (arith, e, line.some)) in
    rw (line.read, words-joined layout.blanks ws line.words, some) refl

-- the lines of a written text are those that it was written of
pub kept_lines-text : (layout : Layout) (number : ℕ) (ls : List (List (List ℕ))) → AllByRecursion (IsLine layout) ls
    → kept_lines layout number (lines (text_of ls)) ≡ numbered number ls
kept_lines-text layout number [] all = refl
kept_lines-text layout number (ws ∷ later) all =
    ap (kept_lines layout number) (lines_step layout.blanks ws (text_of later) (all.0).words)
    ∙ kept layout number ws (lines (text_of later)) all.0
    ∙ ap (λ rest. record { number = number; words = ws } ∷ rest) (kept_lines-text layout (number + 1) later all.1)

pub text_lines-text : (layout : Layout) (ls : List (List (List ℕ))) → AllByRecursion (IsLine layout) ls → text_lines layout (text_of ls) ≡ numbered 1 ls
text_lines-text layout ls all = kept_lines-text layout 1 ls all

-- a last line counts without its end

joined_full : (blanks : Blanks) (ws : List (List ℕ)) → 0 < length ws → AllByRecursion (IsWord blanks) ws → 0 < length (joined ws)
joined_full blanks [] some all = absurd (omega arith)
joined_full blanks (w ∷ []) some all = (all.0).full
joined_full blanks (w ∷ v ∷ ws) some all =
    let long : length (w ++ 32 ∷ joined (v ∷ ws)) ≡ length w + length (32 ∷ joined (v ∷ ws)) = length-append w (32 ∷ joined (v ∷ ws)) in omega arith

line_alone : (line : List ℕ) → 0 < length line → AllByRecursion (λ b. is_line_feed b ≡ false) line → lines line ≡ line ∷ []
line_alone [] full none = absurd (omega arith)
line_alone (b ∷ bs) full none = pieces_alone is_line_feed b bs none

-- without the end of its last line a written text has the same lines
pub lines-open : (layout : Layout) (ls : List (List (List ℕ))) → AllByRecursion (IsLine layout) ls → lines (open_text ls) ≡ lines (text_of ls)
lines-open layout [] all = refl
lines-open layout (ws ∷ []) all =
    let line = all.0 in
    line_alone (joined ws) (joined_full layout.blanks ws line.some line.words) (one_line layout.blanks ws line.words) ∙ sym (lines_step layout.blanks ws [] line.words)
lines-open layout (ws ∷ vs ∷ later) all =
    let line = all.0 in
    pieces_front is_line_feed (joined ws) 10 (open_text (vs ∷ later)) (one_line layout.blanks ws line.words) refl
    ∙ (ap (λ rest. joined ws ∷ rest) (lines-open layout (vs ∷ later) all.1) ∙ sym (lines_step layout.blanks ws (text_of (vs ∷ later)) line.words))

pub text_of-open : (ws : List (List ℕ)) (ls : List (List (List ℕ))) → text_of (ws ∷ ls) ≡ open_text (ws ∷ ls) ++ 10 ∷ []
text_of-open ws [] = append-nil (line_text ws)
text_of-open ws (vs ∷ later) =
    let front : line_text ws ++ (open_text (vs ∷ later) ++ 10 ∷ []) ≡ open_text (ws ∷ vs ∷ later) ++ 10 ∷ [] = simp append_assoc in
    ap (λ rest. line_text ws ++ rest) (text_of-open vs later) ∙ front

-- a line is no comment where its first byte is no `c`
pub not_comment : (w : List ℕ) (ws : List (List ℕ)) → 0 < length w → (get_or w 0 0 ≡ 99 → ⊥) → read_part LeadingC (joined (w ∷ ws)) ≡ joined (w ∷ ws)
not_comment [] ws full other = absurd (omega arith)
not_comment (b ∷ bs) [] full other = rw (ne_eqb b 99 other) refl
not_comment (b ∷ bs) (v ∷ ws) full other = rw (ne_eqb b 99 other) refl

-- the words of numbered lines, in a row
texts_of-append : (xs ys : List Spot) → texts_of (xs ++ ys) ≡ texts_of xs ++ texts_of ys
texts_of-append xs ys = map-append (λ spot. spot.text) xs ys

texts_of-line : (number : ℕ) (ws : List (List ℕ)) → texts_of (line_spots (record { number = number; words = ws })) ≡ ws
texts_of-line number [] = refl
texts_of-line number (w ∷ ws) = ap (λ later. w ∷ later) (texts_of-line number ws)

pub texts_of-numbered : {X : Type 0} (f : X → List (List ℕ)) (number : ℕ) (xs : List X) → texts_of (spots_of (numbered number (map f xs))) ≡ flat_map f xs
texts_of-numbered f number [] = refl
texts_of-numbered f number (x ∷ xs) =
    texts_of-append (line_spots (record { number = number; words = f x })) (spots_of (numbered (number + 1) (map f xs)))
    ∙ ap (λ front. front ++ texts_of (spots_of (numbered (number + 1) (map f xs)))) (texts_of-line number (f x))
    ∙ ap (λ later. f x ++ later) (texts_of-numbered f (number + 1) xs)

-- words that end a line behind others
pub joined-last : {X : Type 0} (f : X → List ℕ) (xs : List X) (last : List ℕ) → joined (map f xs ++ last ∷ []) ≡ flat_map (λ x. f x ++ 32 ∷ []) xs ++ last
joined-last f [] last = refl
joined-last f (x ∷ []) last = simp append_assoc
joined-last f (x ∷ y ∷ ys) last = ap (λ later. f x ++ 32 ∷ later) (joined-last f (y ∷ ys) last) ∙ regrouped (f x) (flat_map (λ x. f x ++ 32 ∷ []) (y ∷ ys)) last where
  regrouped : (a b c : List ℕ) → a ++ 32 ∷ (b ++ c) ≡ ((a ++ 32 ∷ []) ++ b) ++ c
  regrouped a b c = simp append_assoc

-- words behind others
pub joined-append : (ws vs : List (List ℕ)) → 0 < length ws → 0 < length vs → joined (ws ++ vs) ≡ joined ws ++ 32 ∷ joined vs
joined-append [] vs some more = absurd (omega arith)
joined-append (w ∷ []) [] some more = absurd (omega arith)
joined-append (w ∷ []) (v ∷ vs) some more = refl
joined-append (w ∷ u ∷ us) vs some more =
    ap (λ later. w ++ 32 ∷ later) (joined-append (u ∷ us) vs (omega arith) more) ∙ sym (append_assoc w (32 ∷ joined (u ∷ us)) (32 ∷ joined vs))

-- the text of more lines
pub text_of-map : {X : Type 0} (f : X → List (List ℕ)) (xs : List X) → text_of (map f xs) ≡ flat_map (λ x. line_text (f x)) xs
text_of-map f [] = refl
text_of-map f (x ∷ xs) = ap (λ later. line_text (f x) ++ later) (text_of-map f xs)
