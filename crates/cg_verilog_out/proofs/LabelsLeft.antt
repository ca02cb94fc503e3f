-- The labels that are left, number by number.
use Rattle.std.proofs.Common.{[], ◌≡◌, ℕ, zero, suc, ◌+◌, ◌-◌, ◌<◌, ◌≤◌, true, false, not, List, ◌∷◌, map, drop, ap, sym, ◌∙◌, cond, arith}
use Rattle.std.proofs.Common.{slice_get, Some}
use Rattle.std.specs.List.{filter, range_with_len}
use Rattle.std.specs.Str.{bytes_eq}
use Rattle.std.proofs.lemmas.Bool.{or_left, or_right}
use Rattle.cg_net.specs.Names.{NetName, is_known}
use Rattle.cg_netlist_parts.proofs.KnownNames.{itself}
use Rattle.cg_verilog_text.specs.WrittenItems.{label}
use Rattle.cg_verilog_out.specs.inner.Numbering.{Numbers, labels_from, left}

known_at : (names : List NetName) (k : ℕ) (name : NetName) → slice_get names k ≡ Some name → is_known names name ≡ true
known_at [] k name at = absurd (cc)
known_at (n ∷ names) zero name at = let same : n ≡ name = cc in or_left (bytes_eq name n) (is_known names name) (ap (bytes_eq name) same ∙ itself name)
known_at (n ∷ names) (suc k) name at = or_right (bytes_eq name n) (is_known names name) (known_at names k name at)

one_more : (names : List NetName) (next end : ℕ) → next < end → labels_from names next end ≡ cond (not (is_known names (label next))) (label next ∷ labels_from names (next + 1) end) (labels_from names (next + 1) end)
one_more names next end less =
    let e : end - next ≡ suc (end - (next + 1)) = omega (arith, less) in
    ap (λ n. filter (λ text. not (is_known names text)) (map label (range_with_len next n))) e

-- a label that no net has
pub free_next : (names : List NetName) (next end : ℕ) (text : List ℕ) → next < end → text ≡ label next → is_known names text ≡ false → labels_from names next end ≡ text ∷ labels_from names (next + 1) end
free_next names next end text less is free =
    let none : is_known names (label next) ≡ false = ap (is_known names) (sym is) ∙ free in
    one_more names next end less ∙ (ap (λ b. cond (not b) (label next ∷ labels_from names (next + 1) end) (labels_from names (next + 1) end)) none ∙ ap (λ t. t ∷ labels_from names (next + 1) end) (sym is))

-- a label that a net has
pub taken_next : (names : List NetName) (next end k : ℕ) (text : List ℕ) → next < end → text ≡ label next → slice_get names k ≡ Some text → labels_from names next end ≡ labels_from names (next + 1) end
taken_next names next end k text less is at =
    let known : is_known names (label next) ≡ true = ap (is_known names) (sym is) ∙ known_at names k text at in
    one_more names next end less ∙ ap (λ b. cond (not b) (label next ∷ labels_from names (next + 1) end) (labels_from names (next + 1) end)) known

pub none_left : (names : List NetName) (next end : ℕ) → end ≤ next → labels_from names next end ≡ []
none_left names next end over =
    let e : end - next ≡ 0 = omega (arith, over) in ap (λ n. filter (λ text. not (is_known names text)) (map label (range_with_len next n))) e

-- a step over a number: its label is taken, or it is the next
module _ (before new : Numbers) (less : before.next < before.end) (names : new.names ≡ before.names) (next : new.next ≡ before.next + 1) (end : new.end ≡ before.end) (text : new.text ≡ label before.next) where
  left_now : left new ≡ labels_from before.names (before.next + 1) before.end
  left_now = ap (λ n. labels_from n new.next new.end) names ∙ (ap (λ k. labels_from before.names k new.end) next ∙ ap (λ k. labels_from before.names (before.next + 1) k) end)

  pub free_rest : is_known before.names new.text ≡ false → left new ≡ drop 1 (left before)
  free_rest free = left_now ∙ ap (drop 1) (sym (free_next before.names before.next before.end new.text less text free))

  pub taken_rest : (k : ℕ) → slice_get before.names k ≡ Some new.text → left new ≡ left before
  taken_rest k at = left_now ∙ sym (taken_next before.names before.next before.end k new.text less text at)
