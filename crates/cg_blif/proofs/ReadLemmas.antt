-- The bytes of a line that are read, and the words that they make.
use Rattle.std.proofs.Common.{◌≡◌, ℕ, ◌++◌, zero, suc, ◌-◌, ◌<◌, Bool, true, false, not, ◌&&◌, ◌==◌, nat_lt, List, [], ◌∷◌, length}
use Rattle.std.proofs.Common.{take, get_or, refl, sym, ap, ◌∙◌, arith, inl, inr}
use Rattle.std.specs.List.{AllPass, list_all}
use Rattle.std.specs.Option.{option_map_or}
use Rattle.std.proofs.lemmas.Bool.{and_from, both_ways}
use Rattle.std.proofs.lemmas.Option.{slice_get_cases}
use Rattle.std.proofs.lemmas.List.Sums.{list_all-from_AllPass}
use Rattle.cg_cell.specs.Name.{ends_name, is_name, is_name_byte}
use Rattle.cg_text.specs.Blanks.{is_blank}
use Rattle.cg_text.specs.declared.blanks.Blanks.TheVariants.{Controls}
use Rattle.cg_blif_text.specs.LogicalLines.{is_joined}
use Rattle.cg_blif.specs.Physical.{is_read}
use Rattle.std.proofs.Math.Bool.{and-true}

-- a byte behind which no comment begins, and that is no blank
name_byte : (b : ℕ) → is_blank Controls b ≡ false → is_read b ≡ true → is_name_byte b ≡ true
name_byte b full read = and_from (nat_lt 32 b) (is_read b) (grind arith) read

-- what stands before the last byte passes a test that all pass
pub front_passes : (p : ℕ → Bool) (front : List ℕ) (last : ℕ) → AllPass p (front ++ last ∷ []) → AllPass p front
front_passes p [] last all k d inside = absurd (omega arith)
front_passes p (x ∷ xs) last all zero d inside = all 0 d (omega arith)
front_passes p (x ∷ xs) last all (suc k) d inside = front_passes p xs last (λ j e l. all (suc j) e (omega arith)) k d (omega arith)

-- what stands before the first blank can stand in a name
pub before_blank : (xs : List ℕ) (n : ℕ) → ((k : ℕ) → k < n → is_blank Controls (get_or xs k 0) ≡ false) → AllPass is_read xs → AllPass is_name_byte (take n xs)
before_blank [] zero before read k d inside = absurd (omega arith)
before_blank [] (suc n) before read k d inside = absurd (omega arith)
before_blank (x ∷ xs) zero before read k d inside = absurd (omega arith)
before_blank (x ∷ xs) (suc n) before read zero d inside = name_byte x (before 0 (omega arith)) (read 0 d (omega arith))
before_blank (x ∷ xs) (suc n) before read (suc k) d inside = before_blank xs n (λ j l. before (suc j) (omega arith)) (λ j e l. read (suc j) e (omega arith)) k d (omega arith)

-- the same where no blank stands
pub without_blank : (xs : List ℕ) (n : ℕ) → n ≡ length xs → ((k : ℕ) → k < n → is_blank Controls (get_or xs k 0) ≡ false) → AllPass is_read xs → AllPass is_name_byte xs
without_blank [] n all before read k d inside = absurd (omega arith)
without_blank (x ∷ xs) zero all before read k d inside = absurd (omega arith)
without_blank (x ∷ xs) (suc n) all before read zero d inside = name_byte x (before 0 (omega arith)) (read 0 d (omega arith))
without_blank (x ∷ xs) (suc n) all before read (suc k) d inside = without_blank xs n (omega arith) (λ j l. before (suc j) (omega arith)) (λ j e l. read (suc j) e (omega arith)) k d (omega arith)

some_byte : (w : List ℕ) → (length w == 0) ≡ false → 0 < length w
some_byte [] none = absurd (both_ways true none refl)
some_byte (x ∷ xs) some = omega arith

-- bytes of a name that do not end in `\` are a name
pub name_unless_joined : (w : List ℕ) → (length w == 0) ≡ false → AllPass is_name_byte w → is_name w ≡ not (is_joined w)
name_unless_joined w some named = elim ((slice_get_cases w (length w - 1)).1) [
  | inl e ↦
      ap (λ last. ends_name last && list_all is_name_byte w) e.2
      ∙ (ap (λ b. not (e.0 == 92) && b) (list_all-from_AllPass is_name_byte w named)
      ∙ (and-true (not (e.0 == 92)) ∙ sym (ap (λ last. not (option_map_or (λ b. b == 92) last false)) e.2)))
  | inr past ↦ let none : ⊥ = omega (arith, past, some_byte w some) in absurd none
]
