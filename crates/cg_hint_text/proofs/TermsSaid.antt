-- What the words of a condition say.
use Rattle.std.proofs.Common.{◌≡◌, ◌<◌, Bool, true, false, not, ◌&&◌, if◌then◌else◌, List, [], ◌∷◌, ◌++◌, length, codes, Some, refl, sym, ◌∙◌, ap, arith}
use Rattle.std.specs.List.{AllByRecursion, AllZip}
use Rattle.std.specs.Option.{option_and_then, option_map}
use Rattle.std.proofs.lemmas.Bool.{and_from, and_parts, both_ways, not-true}
use Rattle.cg_machine.specs.Claims.{Literal}
use Rattle.cg_netlist.specs.Circuit.{Circuit}
use Rattle.cg_netlist.specs.Netlist.{IsNetlist}
use Rattle.cg_netlist_parts.proofs.KnownNames.{itself, same_word}
use Rattle.cg_hint_text.specs.HintText.{SaysLiteral, SaysTerm, condition_words, plus_words}
use Rattle.cg_hint_text.specs.Reading.{Word, all_terms, are_terms, is_bang, is_plus, literal_of, put_literal}
use Rattle.cg_hint_text.proofs.NamesSaid.{literal_given, literal_said, no_bang}
use Rattle.cg_hint_text.proofs.ReadFits.{mapped_of, some_of}

-- words that say terms: the first, which may have begun before, and the later ones
pub record AreSaid (c : Circuit) (fresh : Bool) (ws : List Word) (terms : List (List Literal)) : Type 0 where
  pub first : List Word
  pub later : List (List Word)
  pub literals : List Literal
  pub rest : List (List Literal)
  pub words : ws ≡ first ++ plus_words later
  pub are : terms ≡ literals ∷ rest
  pub begun : fresh ≡ true → 0 < length first
  pub no_plus : AllByRecursion (λ word. is_plus word ≡ false) first
  pub say : AllZip (SaysLiteral c) first literals
  pub say_later : AllZip (SaysTerm c) later rest

pub terms_said : (c : Circuit) (fresh : Bool) (ws : List Word) (terms : List (List Literal)) → are_terms fresh ws ≡ true → all_terms (literal_of c) ws ≡ Some terms → AreSaid c fresh ws terms
terms_said c fresh [] terms form is =
    let same : [] ∷ [] ≡ terms = cc in
    record { first = []; later = []; literals = []; rest = []; words = refl; are = sym same; begun = λ begins. absurd (both_ways fresh (not-true fresh form) begins); no_plus = tt; say = tt; say_later = tt }
terms_said c fresh (w ∷ ws) terms form is = go (λ f ts. terms_said c f ws ts) (is_plus w) refl form is
  where
    go : ((f : Bool) (ts : List (List Literal)) → are_terms f ws ≡ true → all_terms (literal_of c) ws ≡ Some ts → AreSaid c f ws ts)
        → (b : Bool) → is_plus w ≡ b → (if b then not fresh && are_terms true ws else not (is_bang w) && are_terms false ws) ≡ true
        → (if b then option_map (λ ts. [] ∷ ts) (all_terms (literal_of c) ws) else option_and_then (λ l. option_map (put_literal l) (all_terms (literal_of c) ws)) (literal_of c w)) ≡ Some terms → AreSaid c fresh (w ∷ ws) terms
    go after true plus form' h =
        let f = and_parts (not fresh) (are_terms true ws) form' in
        let m = mapped_of (λ (ts : List (List Literal)). [] ∷ ts) (all_terms (literal_of c) ws) terms h in
        let r : AreSaid c true ws m.0 = after true m.0 f.1 m.1 in
        record {
          first = [];
          later = r.first ∷ r.later;
          literals = [];
          rest = r.literals ∷ r.rest;
          words = ap (λ v. v ∷ ws) (same_word w (codes "+") plus) ∙ ap (λ l. codes "+" ∷ l) r.words;
          are = sym m.2 ∙ ap (λ ts. [] ∷ ts) r.are;
          begun = λ begins. absurd (both_ways fresh (not-true fresh f.0) begins);
          no_plus = tt;
          say = tt;
          say_later = (record { some = r.begun refl; no_plus = r.no_plus; say = r.say }, r.say_later);
        }
    go after false plus form' h =
        let f = and_parts (not (is_bang w)) (are_terms false ws) form' in
        let s = some_of (λ l. option_map (put_literal l) (all_terms (literal_of c) ws)) (literal_of c w) terms h in
        let m = mapped_of (put_literal s.0) (all_terms (literal_of c) ws) terms s.2 in
        let r : AreSaid c false ws m.0 = after false m.0 f.1 m.1 in
        record {
          first = w ∷ r.first;
          later = r.later;
          literals = s.0 ∷ r.literals;
          rest = r.rest;
          words = ap (λ l. w ∷ l) r.words;
          are = sym m.2 ∙ ap (put_literal s.0) r.are;
          begun = λ begins. omega arith;
          no_plus = (plus, r.no_plus);
          say = (literal_said c w s.0 s.1, r.say);
          say_later = r.say_later;
        }

-- and words that say terms are read so
record AreRead (c : Circuit) (fresh : Bool) (ws : List Word) (terms : List (List Literal)) : Type 0 where
  pub form : are_terms fresh ws ≡ true
  pub terms_are : all_terms (literal_of c) ws ≡ Some terms

module _ (c : Circuit) (good : IsNetlist c) where
  first_read : (fresh : Bool) (first : List Word) (literals : List Literal) (tail : List Word) (rest : List (List Literal)) → AllByRecursion (λ word. is_plus word ≡ false) first
      → AllZip (SaysLiteral c) first literals → (fresh ≡ true → 0 < length first) → AreRead c false tail ([] ∷ rest) → AreRead c fresh (first ++ tail) (literals ∷ rest)
  first_read true [] [] tail rest no_plus say begun read = absurd (omega (arith, begun refl))
  first_read false [] [] tail rest no_plus say begun read = read
  first_read fresh [] (l ∷ literals) tail rest no_plus say begun read = absurd say
  first_read fresh (w ∷ first) [] tail rest no_plus say begun read = absurd say
  first_read fresh (w ∷ first) (l ∷ literals) tail rest no_plus say begun read =
      let ws : List Word = first ++ tail in
      let r : AreRead c false ws (literals ∷ rest) = first_read false first literals tail rest no_plus.1 say.1 (λ is. absurd (both_ways false refl is)) read in
      record {
        form = ap (λ b. if b then not fresh && are_terms true ws else not (is_bang w) && are_terms false ws) no_plus.0
            ∙ and_from (not (is_bang w)) (are_terms false ws) (ap not (no_bang c good w l say.0)) r.form;
        terms_are = ap (λ b. if b then option_map (λ ts. [] ∷ ts) (all_terms (literal_of c) ws) else option_and_then (λ k. option_map (put_literal k) (all_terms (literal_of c) ws)) (literal_of c w)) no_plus.0
            ∙ (ap (option_and_then (λ k. option_map (put_literal k) (all_terms (literal_of c) ws))) (literal_given c good w l say.0)
            ∙ ap (option_map (put_literal l)) r.terms_are);
      }

  later_read : (later : List (List Word)) (rest : List (List Literal)) → AllZip (SaysTerm c) later rest → AreRead c false (plus_words later) ([] ∷ rest)
  later_read [] [] say = record { form = refl; terms_are = refl }
  later_read [] (l ∷ rest) say = absurd say
  later_read (t ∷ later) [] say = absurd say
  later_read (t ∷ later) (l ∷ rest) say =
      let ws : List Word = t ++ plus_words later in
      let r : AreRead c true ws (l ∷ rest) = first_read true t l (plus_words later) rest say.0.no_plus say.0.say (λ is. say.0.some) (later_read later rest say.1) in
      record {
        form = ap (λ b. if b then not false && are_terms true ws else not (is_bang (codes "+")) && are_terms false ws) (itself (codes "+")) ∙ r.form;
        terms_are = ap (λ b. if b then option_map (λ ts. [] ∷ ts) (all_terms (literal_of c) ws) else option_and_then (λ k. option_map (put_literal k) (all_terms (literal_of c) ws)) (literal_of c (codes "+"))) (itself (codes "+"))
            ∙ ap (option_map (λ ts. [] ∷ ts)) r.terms_are;
      }

  pub condition_read : (terms : List (List Word)) (all : List (List Literal)) → 0 < length terms → AllZip (SaysTerm c) terms all → (are_terms true (condition_words terms) ≡ true) × (all_terms (literal_of c) (condition_words terms) ≡ Some all)
  condition_read [] all some say = absurd (omega (arith, some))
  condition_read (t ∷ terms) [] some say = absurd say
  condition_read (t ∷ terms) (l ∷ all) some say =
      let r = first_read true t l (plus_words terms) all say.0.no_plus say.0.say (λ is. say.0.some) (later_read terms all say.1) in
      (r.form, r.terms_are)
