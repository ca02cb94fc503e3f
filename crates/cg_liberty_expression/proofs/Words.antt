-- Words and blanks of the text of an expression.
use Rattle.std.proofs.Common.{◌≡◌, ℕ, suc, ◌+◌, ◌-◌, ◌<◌, Bool, true, false, cond, nat_le, nat_eq, List, [], ◌∷◌, length, take}
use Rattle.std.proofs.Common.{drop, slice_index, refl, ap, sym, ◌∙◌, add-one, add-zero, drop-cons, arith}
use Rattle.std.proofs.lemmas.Bool.Decides.{nat_tests}
use Rattle.std.proofs.lemmas.List.{drop-drop}
use Rattle.std.specs.List.{prefix_len, take_while}
use Rattle.cg_text.specs.Blanks.{is_white_space}
use Rattle.cg_liberty_expression.specs.Tokens.{Word, is_word_byte, tokens_from}

-- a blank is below every byte of a word
below_words : (byte : ℕ) → byte < 46 → is_word_byte byte ≡ false
below_words byte h =
    let a : nat_le 65 byte ≡ false = grind (arith, nat_tests) in
    let b : nat_le 97 byte ≡ false = grind (arith, nat_tests) in
    let c : nat_eq byte 95 ≡ false = grind (arith, nat_tests) in
    let d : nat_le 48 byte ≡ false = grind (arith, nat_tests) in
    let e : nat_eq byte 91 ≡ false = grind (arith, nat_tests) in
    let f : nat_eq byte 93 ≡ false = grind (arith, nat_tests) in
    let g : nat_eq byte 46 ≡ false = grind (arith, nat_tests) in
    rw (a, b, c, d, e, f, g) refl

blank_below : (byte : ℕ) → is_white_space byte ≡ true → byte < 46
blank_below byte h = grind (arith, nat_tests)

pub blank_no_word : (byte : ℕ) → is_white_space byte ≡ true → is_word_byte byte ≡ false
blank_no_word byte h = below_words byte (blank_below byte h)

-- a blank is no token
blank-first : (at byte : ℕ) (bytes : List ℕ) → is_white_space byte ≡ true → tokens_from false at (byte ∷ bytes) ≡ tokens_from false (at + 1) bytes
blank-first at byte bytes h = let w = blank_no_word byte h in rw (w, h) refl

pub blank-step : (text : List ℕ) (at : ℕ) → at < length text → is_white_space (slice_index text at) ≡ true → tokens_from false at (drop at text) ≡ tokens_from false (at + 1) (drop (at + 1) text)
blank-step text at h blank = ap (tokens_from false at) (drop-cons text at 0 h) ∙ ap (λ n. tokens_from false at (slice_index text at ∷ drop n text)) (sym (add-one at)) ∙ blank-first at (slice_index text at) (drop (at + 1) text) blank

inside : (at byte : ℕ) (bytes : List ℕ) → is_word_byte byte ≡ true → tokens_from true at (byte ∷ bytes) ≡ tokens_from true (at + 1) bytes
inside at byte bytes e = rw e refl

outside : (at byte : ℕ) (bytes : List ℕ) → is_word_byte byte ≡ false → tokens_from true at (byte ∷ bytes) ≡ tokens_from false (at + 0) (byte ∷ bytes)
outside at byte bytes e = rw (add-zero, e) refl

move : (at n byte : ℕ) (bytes : List ℕ) → tokens_from false (at + 1 + n) (drop n bytes) ≡ tokens_from false (at + (1 + n)) (drop (1 + n) (byte ∷ bytes))
move at n byte bytes = let e : 1 + n ≡ suc n = omega arith in let f : at + 1 + n ≡ at + suc n = omega arith in rw (e, f) refl

-- from inside a word, reading goes on behind the word
pub word-rest : (at : ℕ) (bytes : List ℕ) → tokens_from true at bytes ≡ tokens_from false (at + prefix_len is_word_byte bytes) (drop (prefix_len is_word_byte bytes) bytes)
word-rest at [] = refl
word-rest at (byte ∷ bytes) = pick (word-rest (at + 1) bytes) (is_word_byte byte) refl
  where
    pick : tokens_from true (at + 1) bytes ≡ tokens_from false (at + 1 + prefix_len is_word_byte bytes) (drop (prefix_len is_word_byte bytes) bytes) → (b : Bool) → is_word_byte byte ≡ b → tokens_from true at (byte ∷ bytes) ≡ tokens_from false (at + cond b (1 + prefix_len is_word_byte bytes) 0) (drop (cond b (1 + prefix_len is_word_byte bytes) 0) (byte ∷ bytes))
    pick later true e = inside at byte bytes e ∙ later ∙ move at (prefix_len is_word_byte bytes) byte bytes
    pick later false e = outside at byte bytes e

first_word : (at byte : ℕ) (bytes : List ℕ) → is_word_byte byte ≡ true
    → tokens_from false at (byte ∷ bytes) ≡ record { at = at; kind = Word (byte ∷ take_while is_word_byte bytes) } ∷ tokens_from true (at + 1) bytes
first_word at byte bytes e = rw e refl

-- a word, and what stands behind it
pub word-first : (text : List ℕ) (at end : ℕ) → at < length text → is_word_byte (slice_index text at) ≡ true → end ≡ at + 1 + prefix_len is_word_byte (drop (at + 1) text)
    → tokens_from false at (drop at text) ≡ record { at = at; kind = Word (take (end - at) (drop at text)) } ∷ tokens_from false end (drop end text)
word-first text at end h word is =
    let later = drop (at + 1) text in
    let n = prefix_len is_word_byte later in
    let split : drop at text ≡ slice_index text at ∷ later = rw (add-one) (drop-cons text at 0 h) in
    let rest : tokens_from true (at + 1) later ≡ tokens_from false end (drop end text) = word-rest (at + 1) later ∙ ap (tokens_from false (at + 1 + n)) (drop-drop n (at + 1) text) ∙ ap (λ m. tokens_from false m (drop m text)) (sym is) in
    let long : end - at ≡ suc n = omega arith in
    let same : take (end - at) (drop at text) ≡ slice_index text at ∷ take n later = rw (long, split) refl in
    ap (tokens_from false at) split ∙ first_word at (slice_index text at) later word ∙ ap (λ w. record { at = at; kind = Word w } ∷ tokens_from true (at + 1) later) (sym same) ∙ ap (λ ts. record { at = at; kind = Word (take (end - at) (drop at text)) } ∷ ts) rest
