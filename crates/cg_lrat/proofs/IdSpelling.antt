-- What words among ids are read as, and how ids are spelled.
use Rattle.std.proofs.Common.{◌≡◌, ℕ, ◌^◌, ◌<◌, Bool, true, false, ◌==◌, List, refl, ap, ◌∙◌, nat_lt, codes, arith}
use Rattle.std.proofs.lemmas.Bool.{eqb-true, eqb-false, ne_eqb, ltb-true, lt-ltb}
use Rattle.std.specs.Fmt.{decimal}
use Rattle.cg_text.specs.declared.number.Number.{Number}
use Rattle.cg_text.specs.declared.number.Number.TheVariants.{Small, Large, Misspelled}
use Rattle.cg_text.specs.Numbers.{number_of}
use Rattle.cg_text.proofs.Spelling.{spelled, number_of-decimal}
use Rattle.cg_formula.proofs.TokenSpelling.{zero_word}
use Rattle.cg_lrat.specs.declared.id.IdToken.TheVariants as tokens
use Rattle.cg_lrat.specs.Bounds.{IsId}
use Rattle.cg_lrat.specs.Ids.{numbered_id, id_token}

pub record SpellsId (word : List ℕ) (id : ℕ) : Type 0 where
  pub spelled : word ≡ decimal id
  pub bounds : IsId id

numbered_found : (word : List ℕ) (number : Number) (id : ℕ) → number_of word ≡ number → numbered_id number ≡ tokens.Id id → SpellsId word id
numbered_found word (Small n) id e f = pick (n == 0) refl (nat_lt n (2 ^ 63)) refl where
  pick : (none : Bool) → (n == 0) ≡ none → (small : Bool) → nat_lt n (2 ^ 63) ≡ small → SpellsId word id
  pick true g small h = let no : tokens.End ≡ tokens.Id id = rw g at f in absurd (cc)
  pick false g true h =
      let made : tokens.Id n ≡ tokens.Id id = rw (g, h) at f in
      let same : n ≡ id = cc in
      let some : n ≡ 0 → ⊥ = eqb-false n 0 g in
      let below : n < 2 ^ 63 = ltb-true n (2 ^ 63) h in
      record
      { spelled = spelled word n e ∙ ap decimal same; bounds = record { from_one = omega (arith, same); within = omega (arith, same, below) } }
  pick false g false h = let no : tokens.Other ≡ tokens.Id id = rw (g, h) at f in absurd (cc)
numbered_found word Large id e f = absurd (cc)
numbered_found word Misspelled id e f = absurd (cc)

pub id_spelled : (word : List ℕ) (id : ℕ) → id_token word ≡ tokens.Id id → SpellsId word id
id_spelled word id e = numbered_found word (number_of word) id refl e

numbered_end : (word : List ℕ) (number : Number) → number_of word ≡ number → numbered_id number ≡ tokens.End → word ≡ codes "0"
numbered_end word (Small n) e f = pick (n == 0) refl (nat_lt n (2 ^ 63)) refl where
  pick : (none : Bool) → (n == 0) ≡ none → (small : Bool) → nat_lt n (2 ^ 63) ≡ small → word ≡ codes "0"
  pick true g small h = spelled word 0 (e ∙ ap Small (eqb-true n 0 g)) ∙ zero_word
  pick false g true h = let no : tokens.Id n ≡ tokens.End = rw (g, h) at f in absurd (cc)
  pick false g false h = let no : tokens.Other ≡ tokens.End = rw (g, h) at f in absurd (cc)
numbered_end word Large e f = absurd (cc)
numbered_end word Misspelled e f = absurd (cc)

pub id_end_spelled : (word : List ℕ) → id_token word ≡ tokens.End → word ≡ codes "0"
id_end_spelled word e = numbered_end word (number_of word) refl e

pub id_token-decimal : (id : ℕ) → IsId id → id_token (decimal id) ≡ tokens.Id id
id_token-decimal id bounds =
    let some : (id == 0) ≡ false = ne_eqb id 0 (λ e. omega (arith, e, bounds.from_one)) in
    ap numbered_id (number_of-decimal id (omega (arith, bounds.within))) ∙ rw (some, lt-ltb id (2 ^ 63) bounds.within) refl

pub id_token-zero : id_token (codes "0") ≡ tokens.End
id_token-zero = refl
