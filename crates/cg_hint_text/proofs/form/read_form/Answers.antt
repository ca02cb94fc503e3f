use Rattle.std.proofs.Common.{rules, ◌≡◌, ℕ, suc, ◌+◌, ◌-◌, ◌<◌, [], true, drop, take, length, nat_lt, List, Some, slice_get, refl, sym, ◌∙◌, ap, subst, arith}
use Rattle.std.specs.List.{position}
use Rattle.std.proofs.lemmas.Bool.{lt-ltb}
use Rattle.std.proofs.lemmas.Option.{slice_get_read}
use Rattle.cg_hint_text.specs.Reading.{Word, are_terms, cycles_of, form_of, is_after, is_when, stand_apart, word_at}
use Rattle.cg_hint_text.proofs.Forms.{form_is, rest_whole, word_is}
use Rattle.cg_hint_text.proofs.form.read_form.Goals as goal

pub returns-in-Some-cycles_of-clause-form : goal.returns-in-Some-cycles_of-clause-form
returns-in-Some-cycles_of-clause-form c =
    let ws : List Word = c.args.words.now in
    let when = c.in-Some.when in
    let behind : List Word = drop (when + 1) ws in
    let rest : List Word = take (length ws - (when + 1)) behind in
    let whole : rest ≡ behind = rest_whole ws (when + 1) in
    let next : suc when ≡ when + 1 = omega arith in
    let end : ℕ = length rest - 2 in
    let at : position is_when ws ≡ Some when = search rules in
    let some : nat_lt 0 (length (take when ws)) ≡ true = search rules in
    let apart : stand_apart [] (take when ws) ≡ true = search rules in
    let two : 1 < length rest = search rules in
    let w = c.index-rest-end.result in
    let at_w : slice_get rest end ≡ Some w = slice_get_read rest _ end w refl (omega (arith, two)) c.index-rest-end.is in
    let is_w : is_after w ≡ true = search rules in
    let marked : is_after (word_at rest end) ≡ true = ap is_after (word_is rest end w at_w) ∙ is_w in
    let terms : are_terms true (take end rest) ≡ true = search rules in
    let v = c.index-rest-end-2.result in
    let at_v : slice_get rest (end + 1) ≡ Some v = slice_get_read rest _ (end + 1) v refl (omega (arith, two)) c.index-rest-end-2.is in
    let cycles : cycles_of (word_at rest (end + 1)) ≡ Some c.in-Some-cycles_of.after = ap cycles_of (word_is rest (end + 1) v at_v) ∙ (sym c.cycles_of.ensures ∙ c.in-Some-cycles_of.is) in
    subst (λ (l : List Word). form_of ws ≡ Some (record { regs = take when ws; terms = take end l; after = c.in-Some-cycles_of.after })) whole
    (form_is ws rest when end c.in-Some-cycles_of.after [] at (ap (λ n. drop n ws) next ∙ sym whole) refl some apart (lt-ltb 1 (length rest) two) marked terms cycles)
