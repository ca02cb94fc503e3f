-- The term of a row: what its literals have it has, no net stands in it twice, and it holds where they all do.
use Rattle.std.proofs.Common.{[], ◌≡◌, Bool, true, false, not, ◌&&◌, List, ◌∷◌, ◌++◌, refl, ap, sym, ◌∙◌, if◌then◌else◌, cond, Option}
use Rattle.std.proofs.Common.{None, Some, option_map}
use Rattle.std.specs.Bool.{Decides}
use Rattle.std.specs.List.{AllByRecursion, find, fold, list_all}
use Rattle.std.proofs.lemmas.Bool.{and_parts}
use Rattle.cg_netlist.proofs.Each.{each_together}
use Rattle.cg_verilog_text.specs.CoverForms.{joined, with_literal}
use Rattle.cg_verilog_text.specs.Forms.{Literal}
use Rattle.cg_verilog_text.specs.Meaning.{bit_in}
use Rattle.cg_verilog_text.proofs.EachOnce.{same_back, same_is}

-- what each literal of a term has, if there is one
abbrev pub AllIn : {N : Type 0} → (Literal N → Type 0) → Option (List (Literal N)) → Type 0
AllIn P None = Unit {0}
AllIn P (Some t) = AllByRecursion P t

module _ {N : Type 0} (same : N → N → Bool) where
  all_joined : (P : Literal N → Type 0) (l : Literal N) (t : List (Literal N)) (b : Option Bool) → AllByRecursion P t → P l → AllIn P (joined l t b)
  all_joined P l t None all here = each_together P t (l ∷ []) all (here, tt)
  all_joined P l t (Some true) all here = step l.plain
    where
      step : (p : Bool) → AllIn P (if p then Some t else None)
      step true = all
      step false = tt
  all_joined P l t (Some false) all here = step l.plain
    where
      step : (p : Bool) → AllIn P (if p then None else Some t)
      step true = tt
      step false = all

  pub all_with : (P : Literal N → Type 0) (o : Option (List (Literal N))) (l : Literal N) → AllIn P o → P l → AllIn P (with_literal same o l)
  all_with P None l all here = tt
  all_with P (Some t) l all here = all_joined P l t (bit_in same t l.net) all here

  pub all_term : (P : Literal N → Type 0) (o : Option (List (Literal N))) (ls : List (Literal N)) → AllIn P o → AllByRecursion P ls → AllIn P (fold (with_literal same) o ls)
  all_term P o [] all more = all
  all_term P o (l ∷ ls) all more = all_term P (with_literal same o l) ls (all_with P o l all more.0) more.1

module _ {N : Type 0} (same : N → N → Bool) (decides : (x y : N) → Decides (same x y) (x ≡ y)) where
  abbrev Lit : Type 0
  Lit = Literal N

  -- no two literals are of one net
  abbrev pub AreApart : List Lit → Type 0
  AreApart [] = Unit {0}
  AreApart (l ∷ ls) = AllByRecursion (λ m. same m.net l.net ≡ false) ls × AreApart ls

  abbrev pub ApartIn : Option (List Lit) → Type 0
  ApartIn None = Unit {0}
  ApartIn (Some t) = AreApart t

  not_given : (m : Lit) (ms : List Lit) (n : N) → bit_in same (m ∷ ms) n ≡ None → (same m.net n ≡ false) × (bit_in same ms n ≡ None)
  not_given m ms n none = step (same m.net n) refl none
    where
      step : (b : Bool) → same m.net n ≡ b → option_map (λ (k : Lit). k.plain) (cond b (Some m) (find (λ (k : Lit). same k.net n) ms)) ≡ None → (same m.net n ≡ false) × (bit_in same ms n ≡ None)
      step true e is = absurd (cc)
      step false e is = (e, is)

  pub apart_end : (t : List Lit) (l : Lit) → bit_in same t l.net ≡ None → AreApart t → AreApart (t ++ l ∷ [])
  apart_end [] l none apart = (tt, tt)
  apart_end (m ∷ ms) l none apart =
      let other = not_given m ms l.net none in
      (each_together (λ (k : Lit). same k.net m.net ≡ false) ms (l ∷ []) apart.0 (same_back same decides m.net l.net other.0, tt), apart_end ms l other.1 apart.1)

  apart_joined : (l : Lit) (t : List Lit) (b : Option Bool) → bit_in same t l.net ≡ b → AreApart t → ApartIn (joined l t b)
  apart_joined l t None e apart = apart_end t l e apart
  apart_joined l t (Some true) e apart = step l.plain
    where
      step : (p : Bool) → ApartIn (if p then Some t else None)
      step true = apart
      step false = tt
  apart_joined l t (Some false) e apart = step l.plain
    where
      step : (p : Bool) → ApartIn (if p then None else Some t)
      step true = tt
      step false = apart

  apart_with : (o : Option (List Lit)) (l : Lit) → ApartIn o → ApartIn (with_literal same o l)
  apart_with None l apart = tt
  apart_with (Some t) l apart = apart_joined l t (bit_in same t l.net) refl apart

  pub apart_term : (o : Option (List Lit)) (ls : List Lit) → ApartIn o → ApartIn (fold (with_literal same) o ls)
  apart_term o [] apart = apart
  apart_term o (l ∷ ls) apart = apart_term (with_literal same o l) ls (apart_with o l apart)

  module _ (val : N → Bool) where
    -- the value of a literal, of a term, and of a term if there is one
    abbrev pub holds : Lit → Bool
    holds l = if l.plain then val l.net else not (val l.net)

    abbrev pub term_holds : List Lit → Bool
    term_holds t = list_all holds t

    abbrev pub some_holds : Option (List Lit) → Bool
    some_holds None = false
    some_holds (Some t) = term_holds t

    -- a literal that stands in a term holds where the term does
    abbrev bit_holds : N → Bool → Bool
    bit_holds n b = if b then val n else not (val n)

    given_holds : (t : List Lit) (n : N) (b : Bool) → bit_in same t n ≡ Some b → term_holds t ≡ true → bit_holds n b ≡ true
    given_holds [] n b is h = absurd (cc)
    given_holds (m ∷ ms) n b is h = let parts = and_parts (holds m) (term_holds ms) h in step (same m.net n) refl is parts.0 (λ later. given_holds ms n b later parts.1)
      where
        step : (c : Bool) → same m.net n ≡ c → option_map (λ (k : Lit). k.plain) (cond c (Some m) (find (λ (k : Lit). same k.net n) ms)) ≡ Some b → holds m ≡ true
            → (bit_in same ms n ≡ Some b → bit_holds n b ≡ true) → bit_holds n b ≡ true
        step true e is here later =
            let plain : m.plain ≡ b = cc in
            ap (λ x. bit_holds x b) (sym (same_is same decides m.net n e)) ∙ (ap (bit_holds m.net) (sym plain) ∙ here)
        step false e is here later = later is

    appended : (t : List Lit) (l : Lit) → term_holds (t ++ l ∷ []) ≡ (term_holds t && holds l)
    appended [] l = out (holds l)
      where
        out : (b : Bool) → (b && true) ≡ b
        out true = refl
        out false = refl
    appended (m ∷ ms) l = ap (λ b. holds m && b) (appended ms l) ∙ out (holds m)
      where
        out : (a : Bool) → (a && (term_holds ms && holds l)) ≡ ((a && term_holds ms) && holds l)
        out true = refl
        out false = refl

    -- a net with its own bit says nothing more, and one with the other bit never holds beside it
    one_bit : (p h v : Bool) → (h ≡ true → v ≡ true) → (if p then h else false) ≡ (h && (if p then v else not v))
    one_bit true false v given = refl
    one_bit false false v given = refl
    one_bit true true v given = sym (given refl)
    one_bit false true v given = sym (ap not (given refl))

    other_bit : (p h v : Bool) → (h ≡ true → not v ≡ true) → (if p then false else h) ≡ (h && (if p then v else not v))
    other_bit true false v given = refl
    other_bit false false v given = refl
    other_bit false true v given = sym (given refl)
    other_bit true true true given = given refl
    other_bit true true false given = refl

    joined_holds : (l : Lit) (t : List Lit) (b : Option Bool) → bit_in same t l.net ≡ b → some_holds (joined l t b) ≡ (term_holds t && holds l)
    joined_holds l t None e = appended t l
    joined_holds l t (Some true) e = out l.plain ∙ one_bit l.plain (term_holds t) (val l.net) (given_holds t l.net true e)
      where
        out : (p : Bool) → some_holds (if p then Some t else None) ≡ (if p then term_holds t else false)
        out true = refl
        out false = refl
    joined_holds l t (Some false) e = out l.plain ∙ other_bit l.plain (term_holds t) (val l.net) (given_holds t l.net false e)
      where
        out : (p : Bool) → some_holds (if p then None else Some t) ≡ (if p then false else term_holds t)
        out true = refl
        out false = refl

    with_holds : (o : Option (List Lit)) (l : Lit) → some_holds (with_literal same o l) ≡ (some_holds o && holds l)
    with_holds None l = refl
    with_holds (Some t) l = joined_holds l t (bit_in same t l.net) refl

    pub term_value : (o : Option (List Lit)) (ls : List Lit) → some_holds (fold (with_literal same) o ls) ≡ (some_holds o && term_holds ls)
    term_value o [] = out (some_holds o)
      where
        out : (b : Bool) → b ≡ (b && true)
        out true = refl
        out false = refl
    term_value o (l ∷ ls) = term_value (with_literal same o l) ls ∙ (ap (λ b. b && term_holds ls) (with_holds o l) ∙ out (some_holds o))
      where
        out : (a : Bool) → ((a && holds l) && term_holds ls) ≡ (a && (holds l && term_holds ls))
        out true = refl
        out false = refl
