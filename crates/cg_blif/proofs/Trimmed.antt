-- Blanks at the end of a line, taken away one by one.
use Rattle.std.proofs.Common.{◌≡◌, ℕ, true, false, cond, List, [], ◌∷◌, ◌++◌, reverse, sym, ap, ◌∙◌}
use Rattle.std.proofs.lemmas.List.{reverse-append, reverse-reverse}
use Rattle.cg_blif_text.specs.LogicalLines.{without_front}
use Rattle.cg_blif.specs.Physical.{is_trailing, without_end}

pub without_end_more : (front : List ℕ) (last : ℕ) → is_trailing last ≡ true → without_end (front ++ last ∷ []) ≡ without_end front
without_end_more front last blank =
    ap (λ l. reverse (without_front l)) (reverse-append front (last ∷ []))
    ∙ ap (λ b. reverse (cond b (without_front (reverse front)) (last ∷ reverse front))) blank

pub without_end_kept : (front : List ℕ) (last : ℕ) → is_trailing last ≡ false → without_end (front ++ last ∷ []) ≡ front ++ last ∷ []
without_end_kept front last full =
    ap (λ l. reverse (without_front l)) (reverse-append front (last ∷ []))
    ∙ (ap (λ b. reverse (cond b (without_front (reverse front)) (last ∷ reverse front))) full
    ∙ (ap reverse (sym (reverse-append front (last ∷ []))) ∙ reverse-reverse (front ++ last ∷ [])))
