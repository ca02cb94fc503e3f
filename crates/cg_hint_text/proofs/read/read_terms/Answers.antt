use Rattle.std.proofs.Common.{◌≡◌, ◌+◌, ◌++◌, ◌∷◌, [], List, Option, true, false, drop, Some, slice_get, refl, sym, ◌∙◌, ap}
use Rattle.std.proofs.lemmas.Option.{slice_get_read}
use Rattle.cg_machine.specs.Claims.{Literal}
use Rattle.cg_hint_text.specs.Reading.{Word, all_terms, is_plus, literal_of}
use Rattle.cg_hint_text.proofs.Said.{begun_with_none, behind_terms, literal_on, plus_on}
use Rattle.cg_hint_text.proofs.read.read_terms.Goals as goal
use Rattle.cg_hint_text.proofs.read.read_terms.Goals.{then-is_plus+in_ok-push, else-is_plus+in-Some+in_ok-push-in-Some}

pub loop-word-init : goal.loop-word-init
loop-word-init c =
    let said : Option (List (List Literal)) = all_terms (literal_of c.args.netlist.now) c.args.words.now in
    ap (λ a. behind_terms a c.new-term.result said) c.new-terms.ensures
    ∙ (ap (λ b. behind_terms [] b said) c.new-term.ensures ∙ begun_with_none (literal_of c.args.netlist.now) c.args.words.now)

pub loop-word-preserved : goal.loop-word-preserved
loop-word-preserved c =
    let ws : List Word = c.args.words.now in
    let i = c.loop-word.word-index in
    let w : Word = c.word-item.result in
    let say : Word → Option Literal = literal_of c.args.netlist.now in
    let T : List (List Literal) = c.loop-word.terms in
    let t : List Literal = c.loop-word.term in
    let said : Option (List (List Literal)) = all_terms say (drop (i + 1) ws) in
    let at : slice_get ws i ≡ Some w = slice_get_read ws _ i w refl c.loop-word-test.true c.word-item.is in
    elim c.if-is_plus.branch [
      | then-is_plus+in_ok-push p ↦
          let plus : is_plus w ≡ true = sym c.is_plus.ensures ∙ p.if-is_plus.true in
          ap (λ a. behind_terms a c.if-is_plus.term said) (p.terms-is ∙ p.in_ok-push.ensures.parts)
          ∙ (ap (λ b. behind_terms (T ++ t ∷ []) b said) (p.term-is ∙ p.new-term-then-is_plus.ensures)
          ∙ (sym (plus_on say T t ws i w at plus) ∙ c.loop-word.invariant))
      | else-is_plus+in-Some+in_ok-push-in-Some p ↦
          let other : is_plus w ≡ false = sym c.is_plus.ensures ∙ p.if-is_plus.false in
          let says : say w ≡ Some p.in-Some.literal = ap say (sym p.bytes.ensures) ∙ (sym p.literal_of.ensures ∙ p.in-Some.is) in
          ap (λ a. behind_terms a c.if-is_plus.term said) p.terms-is
          ∙ (ap (λ b. behind_terms T b said) (p.term-is ∙ p.in_ok-push-in-Some.ensures.parts)
          ∙ (sym (literal_on say T t ws i w p.in-Some.literal at other says) ∙ c.loop-word.invariant))
    ]
