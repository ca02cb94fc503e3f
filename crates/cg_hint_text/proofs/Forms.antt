-- The form of a line.
use Rattle.std.proofs.Common.{◌≡◌, ℕ, zero, suc, ◌+◌, ◌-◌, ◌≤◌, true, ◌&&◌, if◌then◌else◌, List, [], ◌∷◌, drop, take, length, nat_lt}
use Rattle.std.proofs.Common.{slice_get, unwrap_or, None, Some, sym, ◌∙◌, ap, arith}
use Rattle.std.specs.List.{position}
use Rattle.std.specs.Option.{option_and_then, option_map}
use Rattle.std.proofs.lemmas.Bool.{and_from}
use Rattle.std.proofs.lemmas.List.{take_all}
use Rattle.cg_net.proofs.TableLemmas.{drop_cons}
use Rattle.cg_hint_text.specs.Reading.{Word, are_terms, cycles_of, form_behind, form_of, form_with, is_after, is_when, stand_apart, word_at}

pub drop_at : {T : Type 0} (xs : List T) (i : ℕ) (x : T) → slice_get xs i ≡ Some x → drop i xs ≡ x ∷ drop (i + 1) xs
drop_at xs i x at = let e : suc i ≡ i + 1 = omega arith in drop_cons xs i x at ∙ ap (λ n. x ∷ drop n xs) e

pub rest_whole : (ws : List Word) (n : ℕ) → take (length ws - n) (drop n ws) ≡ drop n ws
rest_whole ws n = take_all (length ws - n) (drop n ws) (long ws n)
  where
    long : (xs : List Word) (k : ℕ) → length (drop k xs) ≤ length xs - k
    long xs zero = omega arith
    long [] (suc k) = omega arith
    long (x ∷ xs) (suc k) = let l = long xs k in omega (arith, l)

pub word_is : (ws : List Word) (k : ℕ) (w : Word) → slice_get ws k ≡ Some w → word_at ws k ≡ w
word_is ws k w at = ap (λ o. unwrap_or o []) at

pub form_is : (ws rest : List Word) (when end after : ℕ) (last : Word) → position is_when ws ≡ Some when → drop (suc when) ws ≡ rest → end ≡ length rest - 2
    → nat_lt 0 (length (take when ws)) ≡ true → stand_apart [] (take when ws) ≡ true → nat_lt 1 (length rest) ≡ true
    → is_after (word_at rest end) ≡ true → are_terms true (take end rest) ≡ true → cycles_of (word_at rest (end + 1)) ≡ Some after
    → form_of ws ≡ Some (record { regs = take when ws; terms = take end rest; after = after })
form_is ws rest when end after last at behind ends some apart two marked terms cycles =
    let regs : List Word = take when ws in
    ap (option_and_then (λ place. form_behind (take place ws) (drop (suc place) ws))) at
    ∙ (ap (form_behind regs) behind
    ∙ (ap (λ b. if b then form_with regs rest (length rest - 2) else None) (and_from (nat_lt 0 (length regs) && stand_apart [] regs) (nat_lt 1 (length rest)) (and_from (nat_lt 0 (length regs)) (stand_apart [] regs) some apart) two)
    ∙ (ap (form_with regs rest) (sym ends)
    ∙ (ap (λ b. if b then option_map (λ k. record { regs = regs; terms = take end rest; after = k }) (cycles_of (word_at rest (end + 1))) else None)
    (and_from (is_after (word_at rest end)) (are_terms true (take end rest)) marked terms)
    ∙ ap (option_map (λ k. record { regs = regs; terms = take end rest; after = k })) cycles))))
