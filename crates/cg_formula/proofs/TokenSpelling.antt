-- What words of clauses are read as, and how they are spelled.
use Rattle.std.proofs.Common.{◌≡◌, ℕ, ◌^◌, ◌<◌, ◌≤◌, Bool, true, false, ◌&&◌, ◌==◌, List, [], ◌∷◌, length, get_or, refl, sym, ap}
use Rattle.std.proofs.Common.{◌∙◌, if◌then◌else◌, nat_lt, nat_le, codes, ◌⊎◌, inl, inr, lit<, arith}
use Rattle.std.proofs.lemmas.Bool.{and_parts, eqb-true, le-leb, leb-true, lt-ltb, ltb-true, ne_eqb}
use Rattle.std.proofs.lemmas.Fmt.{decimal_digit}
use Rattle.std.specs.Fmt.{decimal}
use Rattle.std.specs.List.{AllByRecursion}
use Rattle.cg_text.specs.declared.blanks.Blanks.TheVariants.{Whitespace}
use Rattle.cg_text.specs.declared.number.Number.{Number}
use Rattle.cg_text.specs.declared.number.Number.TheVariants.{Small, Large, Misspelled}
use Rattle.cg_text.specs.Numbers.{number_of}
use Rattle.cg_text.proofs.Spelling.{spelled, number_of-decimal, decimal_word, decimal_bytes}
use Rattle.cg_formula.specs.declared.formula.Lit.{Lit}
use Rattle.cg_formula.specs.declared.token.ClauseToken.TheVariants as tokens
use Rattle.cg_formula.specs.Bounds.{IsLit}
use Rattle.cg_formula.specs.Tokens.{literal_of, plain_token, clause_token}
use Rattle.cg_formula.specs.DimacsText.{lit_word}

-- read as a literal

-- a word that is read as a literal is the literal's word
pub record SpellsLit (greatest : ℕ) (word : List ℕ) (lit : Lit) : Type 0 where
  pub spelled : word ≡ lit_word lit
  pub bounds : IsLit greatest lit

record LiteralOf (number : Number) (greatest : ℕ) (inverted : Bool) (lit : Lit) : Type 0 where
  pub reads : number ≡ Small lit.variable
  pub sign : lit.inverted ≡ inverted
  pub bounds : IsLit greatest lit

literal_of_found : (number : Number) (greatest : ℕ) (inverted : Bool) (lit : Lit) → literal_of number greatest inverted ≡ tokens.Literal lit
    → LiteralOf number greatest inverted lit
literal_of_found (Small n) greatest inverted lit e = pick (nat_lt 0 n && nat_le n greatest) refl where
  pick : (b : Bool) → (nat_lt 0 n && nat_le n greatest) ≡ b → LiteralOf (Small n) greatest inverted lit
  pick true f =
      let made : tokens.Literal (record { variable = n; inverted = inverted }) ≡ tokens.Literal lit = rw f at e in
      let same : (let l : Lit = record { variable = n; inverted = inverted } in l) ≡ lit = cc in
      let parts = and_parts (nat_lt 0 n) (nat_le n greatest) f in
      let variable : n ≡ lit.variable = ap (λ (l : Lit). l.variable) same in
      let positive : 0 < n = ltb-true 0 n parts.0 in
      let within : n ≤ greatest = leb-true n greatest parts.1 in
      record {
        reads = ap Small variable;
        sign = sym (ap (λ (l : Lit). l.inverted) same);
        bounds = record { from_one = omega (arith, variable, positive); within = omega (arith, variable, within) };
      }
  pick false f = let no : tokens.Other ≡ tokens.Literal lit = rw f at e in absurd (cc)
literal_of_found Large greatest inverted lit e = absurd (cc)
literal_of_found Misspelled greatest inverted lit e = absurd (cc)

plain_found : (number : Number) (greatest : ℕ) (lit : Lit) → plain_token greatest number ≡ tokens.Literal lit
    → literal_of number greatest false ≡ tokens.Literal lit
plain_found (Small n) greatest lit e = pick (n == 0) refl where
  pick : (b : Bool) → (n == 0) ≡ b → literal_of (Small n) greatest false ≡ tokens.Literal lit
  pick true f = let no : tokens.End ≡ tokens.Literal lit = rw f at e in absurd (cc)
  pick false f = rw f at e
plain_found Large greatest lit e = absurd (cc)
plain_found Misspelled greatest lit e = absurd (cc)

pub literal_spelled : (greatest : ℕ) (word : List ℕ) (lit : Lit) → clause_token greatest word ≡ tokens.Literal lit
    → SpellsLit greatest word lit
literal_spelled greatest [] lit e = absurd (cc)
literal_spelled greatest (x ∷ xs) lit e = pick (x == 45) refl where
  pick : (b : Bool) → (x == 45) ≡ b → SpellsLit greatest (x ∷ xs) lit
  pick true f =
      let minus : x ≡ 45 = eqb-true x 45 f in
      let found = literal_of_found (number_of xs) greatest true lit (rw f at e) in
      let digits : xs ≡ decimal lit.variable = spelled xs lit.variable found.reads in
      record { spelled = rw (minus, digits, found.sign) refl; bounds = found.bounds }
  pick false f =
      let found = literal_of_found (number_of (x ∷ xs)) greatest false lit (plain_found (number_of (x ∷ xs)) greatest lit (rw f at e)) in
      let digits : x ∷ xs ≡ decimal lit.variable = spelled (x ∷ xs) lit.variable found.reads in
      record { spelled = digits ∙ sym (rw found.sign refl); bounds = found.bounds }

plain_end : (number : Number) (greatest : ℕ) → plain_token greatest number ≡ tokens.End → number ≡ Small 0
plain_end (Small n) greatest e = pick (n == 0) refl where
  over : (b : Bool) → (if b then tokens.Literal (record { variable = n; inverted = false }) else tokens.Other) ≡ tokens.End → ⊥
  over true f = cc
  over false f = cc

  pick : (b : Bool) → (n == 0) ≡ b → Small n ≡ Small 0
  pick true f = ap Small (eqb-true n 0 f)
  pick false f = absurd (over (nat_lt 0 n && nat_le n greatest) (rw f at e))
plain_end Large greatest e = absurd (cc)
plain_end Misspelled greatest e = absurd (cc)

literal_no_end : (number : Number) (greatest : ℕ) (inverted : Bool) → literal_of number greatest inverted ≡ tokens.End → ⊥
literal_no_end (Small n) greatest inverted e = over (nat_lt 0 n && nat_le n greatest) e where
  over : (b : Bool) → (if b then tokens.Literal (record { variable = n; inverted = inverted }) else tokens.Other) ≡ tokens.End → ⊥
  over true f = cc
  over false f = cc
literal_no_end Large greatest inverted e = cc
literal_no_end Misspelled greatest inverted e = cc

pub zero_word : decimal 0 ≡ codes "0"
zero_word = decimal_digit 0 (lit< tt)

pub end_spelled : (greatest : ℕ) (word : List ℕ) → clause_token greatest word ≡ tokens.End → word ≡ codes "0"
end_spelled greatest [] e = absurd (cc)
end_spelled greatest (x ∷ xs) e = pick (x == 45) refl where
  pick : (b : Bool) → (x == 45) ≡ b → x ∷ xs ≡ codes "0"
  pick true f = absurd (literal_no_end (number_of xs) greatest true (rw f at e))
  pick false f = spelled (x ∷ xs) 0 (plain_end (number_of (x ∷ xs)) greatest (rw f at e)) ∙ zero_word

-- read again

clause_token-plain : (greatest : ℕ) (word : List ℕ) → 0 < length word → (get_or word 0 0 ≡ 45 → ⊥)
    → clause_token greatest word ≡ plain_token greatest (number_of word)
clause_token-plain greatest [] full other = absurd (omega arith)
clause_token-plain greatest (x ∷ xs) full other = rw (ne_eqb x 45 other) refl

-- the first byte of a word whose bytes all are so
pub first_byte : (P : ℕ → Type 0) (word : List ℕ) → AllByRecursion P word → 0 < length word → P (get_or word 0 0)
first_byte P [] all full = absurd (omega arith)
first_byte P (x ∷ xs) all full = all.0

digit_apart : (c : ℕ) → (c < 48) ⊎ (57 < c) → (b : ℕ) → 48 ≤ b → b ≤ 57 → b ≡ c → ⊥
digit_apart c (inl under) b low high e = omega arith
digit_apart c (inr over) b low high e = omega arith

-- a number's first byte is a digit
pub first_digit : (c : ℕ) → (c < 48) ⊎ (57 < c) → (n : ℕ) → n < 2 ^ 64 → get_or (decimal n) 0 0 ≡ c → ⊥
first_digit c apart n small =
    first_byte (λ b. b ≡ c → ⊥) (decimal n) (decimal_bytes (λ b. b ≡ c → ⊥) (digit_apart c apart) n small)
    (decimal_word Whitespace n small).full

literal_made : (greatest : ℕ) (lit : Lit) → IsLit greatest lit → literal_of (Small lit.variable) greatest lit.inverted ≡ tokens.Literal lit
literal_made greatest lit bounds =
    let positive : 0 < lit.variable = omega (arith, bounds.from_one) in
    let tested : (nat_lt 0 lit.variable && nat_le lit.variable greatest) ≡ true =
    rw (lt-ltb 0 lit.variable positive, le-leb lit.variable greatest bounds.within) refl in
    rw tested refl

plain_made : (greatest n : ℕ) → 0 < n → plain_token greatest (Small n) ≡ literal_of (Small n) greatest false
plain_made greatest n positive = rw (ne_eqb n 0 (λ e. omega (arith, e, positive))) refl

pub clause_token-lit : (greatest : ℕ) (lit : Lit) → greatest < 2 ^ 32 → IsLit greatest lit
    → clause_token greatest (lit_word lit) ≡ tokens.Literal lit
clause_token-lit greatest lit few bounds = pick lit.inverted refl where
  small : lit.variable < 2 ^ 64
  small = omega (arith, few, bounds.within)

  pick : (b : Bool) → lit.inverted ≡ b → clause_token greatest (lit_word lit) ≡ tokens.Literal lit
  pick true f =
      let word : lit_word lit ≡ 45 ∷ decimal lit.variable = rw f refl in
      ap (clause_token greatest) word
      ∙ ap (λ number. literal_of number greatest true) (number_of-decimal lit.variable small)
      ∙ ap (literal_of (Small lit.variable) greatest) (sym f)
      ∙ literal_made greatest lit bounds
  pick false f =
      let word : lit_word lit ≡ decimal lit.variable = rw f refl in
      ap (clause_token greatest) word
      ∙ clause_token-plain greatest (decimal lit.variable) (decimal_word Whitespace lit.variable small).full
      (first_digit 45 (inl (lit< tt)) lit.variable small)
      ∙ ap (plain_token greatest) (number_of-decimal lit.variable small)
      ∙ plain_made greatest lit.variable (omega (arith, bounds.from_one))
      ∙ ap (literal_of (Small lit.variable) greatest) (sym f)
      ∙ literal_made greatest lit bounds

pub clause_token-zero : (greatest : ℕ) → clause_token greatest (codes "0") ≡ tokens.End
clause_token-zero greatest = refl
