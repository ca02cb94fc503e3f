-- Literals among literals.
use Rattle.std.proofs.Common.{◌≡◌, ℕ, Bool, true, false, not, ◌==◌, List, [], ◌∷◌, ◌++◌, ◌⊎◌, inl, inr, refl, sym, ap, ◌∙◌, map}
use Rattle.std.proofs.Common.{rules}
use Rattle.std.proofs.lemmas.Bool.{and_parts, eqb-true, or_cases}
use Rattle.std.proofs.lemmas.List.Folds.{list_any-append}
use Rattle.cg_formula.specs.declared.formula.Lit.{Lit}
use Rattle.cg_formula.specs.Lits.{inverse, same_sign, same_lit, is_in}
use Rattle.cg_formula.proofs.Connectives.{or_right}

same_sign_equal : (a b : Bool) → same_sign a b ≡ true → a ≡ b
same_sign_equal true true e = refl
same_sign_equal true false e = absurd (cc)
same_sign_equal false true e = absurd (cc)
same_sign_equal false false e = refl

abbrev make : ℕ → Bool → Lit
make variable inverted = record { variable = variable; inverted = inverted }

pub same_lit_equal : (a b : Lit) → same_lit a b ≡ true → a ≡ b
same_lit_equal a b e =
    let both = and_parts (a.variable == b.variable) (same_sign a.inverted b.inverted) e in
    let variable : a.variable ≡ b.variable = eqb-true a.variable b.variable both.0 in
    let sign : a.inverted ≡ b.inverted = same_sign_equal a.inverted b.inverted both.1 in
    let first : make a.variable a.inverted ≡ make b.variable a.inverted = ap (λ v. make v a.inverted) variable in
    let second : make b.variable a.inverted ≡ make b.variable b.inverted = ap (λ i. make b.variable i) sign in
    first ∙ second

same_sign_self : (b : Bool) → same_sign b b ≡ true
same_sign_self true = refl
same_sign_self false = refl

pub same_lit_self : (lit : Lit) → same_lit lit lit ≡ true
same_lit_self lit = rw (same_sign_self lit.inverted) (search rules)

not_twice : (b : Bool) → not (not b) ≡ b
not_twice true = refl
not_twice false = refl

pub inverse_twice : (lit : Lit) → inverse (inverse lit) ≡ lit
inverse_twice lit = ap (λ i. make lit.variable i) (not_twice lit.inverted)

pub inverses_twice : (lits : List Lit) → map inverse (map inverse lits) ≡ lits
inverses_twice [] = refl
inverses_twice (lit ∷ lits) = rw (inverse_twice lit, inverses_twice lits) refl

pub here : (lit : Lit) (lits : List Lit) → is_in lit (lit ∷ lits) ≡ true
here lit lits = rw (same_lit_self lit) refl

-- in a list with one more at its end
pub pushed_in : (lit one : Lit) (lits : List Lit) → is_in lit (lits ++ one ∷ []) ≡ true → (is_in lit lits ≡ true) ⊎ (lit ≡ one)
pushed_in lit one lits e =
    elim (or_cases (is_in lit lits) (is_in lit (one ∷ [])) (sym (list_any-append (same_lit lit) lits (one ∷ [])) ∙ e)) [
      | inl before ↦ inl before
      | inr last ↦ elim (or_cases (same_lit lit one) false last) [ inl same ↦ inr (same_lit_equal lit one same) | inr none ↦ absurd (cc) ]
    ]

pub in_pushed : (lit one : Lit) (lits : List Lit) → is_in lit lits ≡ true → is_in lit (lits ++ one ∷ []) ≡ true
in_pushed lit one lits e = list_any-append (same_lit lit) lits (one ∷ []) ∙ rw e refl

pub last_in : (one : Lit) (lits : List Lit) → is_in one (lits ++ one ∷ []) ≡ true
last_in one lits = list_any-append (same_lit one) lits (one ∷ []) ∙ or_right (is_in one lits) (here one [])

pub not_in : (lit : Lit) (lits : List Lit) → (is_in lit lits ≡ true → ⊥) → is_in lit lits ≡ false
not_in lit lits off = pick (is_in lit lits) refl where
  pick : (b : Bool) → is_in lit lits ≡ b → is_in lit lits ≡ false
  pick true e = absurd (off e)
  pick false e = e

pub own_inverse : (lit : Lit) → inverse lit ≡ lit → ⊥
own_inverse lit e = pick lit.inverted (ap (λ (l : Lit). l.inverted) e) where
  pick : (b : Bool) → not b ≡ b → ⊥
  pick true f = cc
  pick false f = cc
