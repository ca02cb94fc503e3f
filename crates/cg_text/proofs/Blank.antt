-- Blanks before a word change nothing, and a byte that is no blank begins a word.
use Rattle.std.proofs.Common.{◌≡◌, ℕ, ◌==◌, true, false, List, [], ◌∷◌, length, refl}
use Rattle.std.proofs.Math.Dec.{eqb-suc-zero}
use Rattle.std.specs.List.{onto_first, filter}
use Rattle.cg_text.specs.declared.blanks.Blanks.{Blanks}
use Rattle.cg_text.specs.Blanks.{is_blank}
use Rattle.cg_text.specs.Words.{pieces, words, is_full}

pub words-blank : (blanks : Blanks) (x : ℕ) (xs : List ℕ) → is_blank blanks x ≡ true → words blanks (x ∷ xs) ≡ words blanks xs
words-blank blanks x xs e = rw e refl

some_word : (x : ℕ) (ps : List (List ℕ)) → (length (filter is_full (onto_first x ps)) == 0) ≡ false
some_word x [] = refl
some_word x (p ∷ ps) = rw (eqb-suc-zero (length p), eqb-suc-zero (length (filter is_full ps))) refl

pub words_some : (blanks : Blanks) (x : ℕ) (xs : List ℕ) → is_blank blanks x ≡ false → (length (words blanks (x ∷ xs)) == 0) ≡ false
words_some blanks x xs e = let p : pieces (is_blank blanks) (x ∷ xs) ≡ onto_first x (pieces (is_blank blanks) xs) = rw e refl in rw p (some_word x (pieces (is_blank blanks) xs))
