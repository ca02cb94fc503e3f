-- How physical lines go into a logical line.
use Rattle.std.proofs.Common.{◌≡◌, ℕ, ◌+◌, ◌-◌, Bool, true, false, cond, ◌&&◌, ◌==◌, List, [], ◌∷◌, ◌++◌, length, take, refl, sym}
use Rattle.std.proofs.Common.{ap, ◌∙◌, append_assoc, subst, inl, inr}
use Rattle.std.specs.List.{list_all}
use Rattle.std.proofs.lemmas.Bool.{both_ways, cases_Bool}
use Rattle.std.proofs.lemmas.List.Folds.{list_all-append}
use Rattle.std.proofs.Math.Dec.{eqb-suc-zero}
use Rattle.cg_cell.specs.Name.{is_name}
use Rattle.cg_text.specs.Lines.{put_line}
use Rattle.cg_text.specs.Words.{words}
use Rattle.cg_text.specs.declared.blanks.Blanks.TheVariants.{Controls}
use Rattle.cg_text.specs.declared.lines.Line.{Line}
use Rattle.cg_blif_text.specs.LogicalLines.{Logical, bared, is_joined, joined, logical_lines, word_lines}
use Rattle.cg_blif_text.proofs.JoinedWords.{words_both}
use Rattle.cg_blif.specs.Joining.{IsUnnamed, begun}
use Rattle.cg_blif.specs.Physical.{unjoined}

-- where no word stands yet, the line begins with the next physical line
pub begun_new : (number : ℕ) (left : List (List ℕ)) → begun number [] (logical_lines number left) ≡ word_lines (logical_lines number left)
begun_new number [] = refl
begun_new number (line ∷ left) = go (is_joined (bared line)) (logical_lines (number + 1) left)
  where
    both : (front : List ℕ) (later : List Logical) → begun number [] (joined number front later) ≡ word_lines (joined number front later)
    both front [] = refl
    both front (next ∷ later) = refl

    go : (b : Bool) (later : List Logical)
        → begun number [] (cond b (joined number (take (length (bared line) - 1) (bared line)) later) (record { number = number; bytes = bared line } ∷ later))
        ≡ word_lines (cond b (joined number (take (length (bared line) - 1) (bared line)) later) (record { number = number; bytes = bared line } ∷ later))
    go true later = both (take (length (bared line) - 1) (bared line)) later
    go false later = refl

joined_on : (number k : ℕ) (front : List (List ℕ)) (bytes : List ℕ) (later : List Logical) → begun number front (joined k bytes later) ≡ begun number (front ++ words Controls bytes) later
joined_on number k front bytes [] = refl
joined_on number k front bytes (next ∷ later) =
    ap (λ ws. put_line number (front ++ ws) (word_lines later)) (words_both bytes next.bytes)
    ∙ ap (λ ws. put_line number ws (word_lines later)) (sym (append_assoc front (words Controls bytes) (words Controls next.bytes)))

-- a physical line that is joined with the next one
pub begun_joined : (number k : ℕ) (front : List (List ℕ)) (line : List ℕ) (left : List (List ℕ)) → is_joined (bared line) ≡ true
    → begun number front (logical_lines k (line ∷ left)) ≡ begun number (front ++ words Controls (unjoined (bared line))) (logical_lines (k + 1) left)
begun_joined number k front line left joins =
    ap (λ b. begun number front (cond b (joined k (take (length (bared line) - 1) (bared line)) (logical_lines (k + 1) left)) (record { number = k; bytes = bared line } ∷ logical_lines (k + 1) left))) joins
    ∙ (joined_on number k front (take (length (bared line) - 1) (bared line)) (logical_lines (k + 1) left)
    ∙ ap (λ b. begun number (front ++ words Controls (cond b (take (length (bared line) - 1) (bared line)) (bared line))) (logical_lines (k + 1) left)) (sym joins))

-- a physical line that ends the logical line
pub begun_whole : (number k : ℕ) (front : List (List ℕ)) (line : List ℕ) (left : List (List ℕ)) → is_joined (bared line) ≡ false
    → begun number front (logical_lines k (line ∷ left)) ≡ put_line number (front ++ words Controls (unjoined (bared line))) (word_lines (logical_lines (k + 1) left))
begun_whole number k front line left joins =
    ap (λ b. begun number front (cond b (joined k (take (length (bared line) - 1) (bared line)) (logical_lines (k + 1) left)) (record { number = k; bytes = bared line } ∷ logical_lines (k + 1) left))) joins
    ∙ ap (λ b. put_line number (front ++ words Controls (cond b (take (length (bared line) - 1) (bared line)) (bared line))) (word_lines (logical_lines (k + 1) left))) (sym joins)

-- a line with words is the next one
pub some_line : (number : ℕ) (ws : List (List ℕ)) (later : List Line) → (length ws == 0) ≡ false → put_line number ws later ≡ record { number = number; words = ws } ∷ later
some_line number ws later some = ap (λ b. cond b later (record { number = number; words = ws } ∷ later)) some

pub no_line : (number : ℕ) (ws : List (List ℕ)) (later : List Line) → (length ws == 0) ≡ true → put_line number ws later ≡ later
no_line number ws later none = ap (λ b. cond b later (record { number = number; words = ws } ∷ later)) none

-- a line with a word that is no name
unnamed_some : (ws : List (List ℕ)) → list_all is_name ws ≡ false → (length ws == 0) ≡ false
unnamed_some [] unnamed = absurd (both_ways true unnamed refl)
unnamed_some (w ∷ ws) unnamed = eqb-suc-zero (length ws)

unnamed_more : (front more : List (List ℕ)) → list_all is_name front ≡ false → list_all is_name (front ++ more) ≡ false
unnamed_more front more unnamed = list_all-append is_name front more ∙ ap (λ b. b && list_all is_name more) unnamed

put_unnamed : (number : ℕ) (ws : List (List ℕ)) (later : List Line) → list_all is_name ws ≡ false → IsUnnamed (put_line number ws later) number
put_unnamed number ws later unnamed = record { words = ws; later = later; next = some_line number ws later (unnamed_some ws unnamed); unnamed = unnamed }

begun_unnamed : (number : ℕ) (front : List (List ℕ)) (later : List Logical) → list_all is_name front ≡ false → IsUnnamed (begun number front later) number
begun_unnamed number front [] unnamed = put_unnamed number front [] unnamed
begun_unnamed number front (next ∷ later) unnamed = put_unnamed number (front ++ words Controls next.bytes) (word_lines later) (unnamed_more front (words Controls next.bytes) unnamed)

unnamed_behind : (front more : List (List ℕ)) → list_all is_name more ≡ false → list_all is_name (front ++ more) ≡ false
unnamed_behind [] more unnamed = unnamed
unnamed_behind (w ∷ ws) more unnamed = go (is_name w) (unnamed_behind ws more unnamed)
  where
    go : (b : Bool) → list_all is_name (ws ++ more) ≡ false → (b && list_all is_name (ws ++ more)) ≡ false
    go true rest = rest
    go false rest = refl

pub unnamed_line : (number k : ℕ) (front : List (List ℕ)) (line : List ℕ) (left : List (List ℕ)) → list_all is_name (words Controls (unjoined (bared line))) ≡ false
    → IsUnnamed (begun number front (logical_lines k (line ∷ left))) number
unnamed_line number k front line left unnamed = elim (cases_Bool (is_joined (bared line))) [
  | inl joins ↦
      subst (λ ls. IsUnnamed ls number) (sym (begun_joined number k front line left joins))
      (begun_unnamed number (front ++ words Controls (unjoined (bared line))) (logical_lines (k + 1) left) (unnamed_behind front (words Controls (unjoined (bared line))) unnamed))
  | inr whole ↦
      subst (λ ls. IsUnnamed ls number) (sym (begun_whole number k front line left whole))
      (put_unnamed number (front ++ words Controls (unjoined (bared line))) (word_lines (logical_lines (k + 1) left)) (unnamed_behind front (words Controls (unjoined (bared line))) unnamed))
]

-- the same, as steps of a reader: `left` is what it has to read, and `self` all that it had
pub step_unnamed : (number k : ℕ) (front : List (List ℕ)) (lines left : List (List ℕ)) (line : List ℕ) (self : List Line) → begun number front (logical_lines k lines) ≡ self → lines ≡ line ∷ left
    → list_all is_name (words Controls (unjoined (bared line))) ≡ false → IsUnnamed self number
step_unnamed number k front lines left line self is next unnamed =
    subst (λ ls. IsUnnamed ls number) (sym (ap (λ ls. begun number front (logical_lines k ls)) next) ∙ is) (unnamed_line number k front line left unnamed)

pub step_joined : (number k n : ℕ) (front new : List (List ℕ)) (lines left : List (List ℕ)) (line : List ℕ) (self : List Line) → begun number front (logical_lines k lines) ≡ self → lines ≡ line ∷ left → n ≡ k + 1
    → is_joined (bared line) ≡ true → new ≡ front ++ words Controls (unjoined (bared line)) → begun number new (logical_lines n left) ≡ self
step_joined number k n front new lines left line self is next one joins pushed =
    ap (λ ws. begun number ws (logical_lines n left)) pushed
    ∙ (ap (λ m. begun number (front ++ words Controls (unjoined (bared line))) (logical_lines m left)) one
    ∙ (sym (begun_joined number k front line left joins) ∙ (sym (ap (λ ls. begun number front (logical_lines k ls)) next) ∙ is)))

-- a line that has ended
ended : (number k n : ℕ) (front new : List (List ℕ)) (lines left : List (List ℕ)) (line : List ℕ) (self : List Line) → begun number front (logical_lines k lines) ≡ self → lines ≡ line ∷ left → n ≡ k + 1
    → is_joined (bared line) ≡ false → new ≡ front ++ words Controls (unjoined (bared line)) → self ≡ put_line number new (word_lines (logical_lines n left))
ended number k n front new lines left line self is next one joins pushed =
    sym is ∙ (ap (λ ls. begun number front (logical_lines k ls)) next ∙ (begun_whole number k front line left joins
    ∙ (ap (λ ws. put_line number ws (word_lines (logical_lines (k + 1) left))) (sym pushed) ∙ ap (λ m. put_line number new (word_lines (logical_lines m left))) (sym one))))

pub step_ended : (number k n : ℕ) (front new : List (List ℕ)) (lines left : List (List ℕ)) (line : List ℕ) (self : List Line) → begun number front (logical_lines k lines) ≡ self → lines ≡ line ∷ left → n ≡ k + 1
    → is_joined (bared line) ≡ false → new ≡ front ++ words Controls (unjoined (bared line)) → (length new == 0) ≡ false → self ≡ record { number = number; words = new } ∷ word_lines (logical_lines n left)
step_ended number k n front new lines left line self is next one joins pushed some =
    ended number k n front new lines left line self is next one joins pushed ∙ some_line number new (word_lines (logical_lines n left)) some

none_left : (ws : List (List ℕ)) → (length ws == 0) ≡ true → ws ≡ []
none_left [] none = refl
none_left (w ∷ ws) none = absurd (both_ways (length (w ∷ ws) == 0) (eqb-suc-zero (length ws)) none)

pub step_empty : (number k n : ℕ) (front new : List (List ℕ)) (lines left : List (List ℕ)) (line : List ℕ) (self : List Line) → begun number front (logical_lines k lines) ≡ self → lines ≡ line ∷ left → n ≡ k + 1
    → is_joined (bared line) ≡ false → new ≡ front ++ words Controls (unjoined (bared line)) → (length new == 0) ≡ true → begun n new (logical_lines n left) ≡ self
step_empty number k n front new lines left line self is next one joins pushed none =
    ap (λ ws. begun n ws (logical_lines n left)) (none_left new none) ∙ (begun_new n left
    ∙ (sym (no_line number new (word_lines (logical_lines n left)) none) ∙ sym (ended number k n front new lines left line self is next one joins pushed)))

-- words up to one that is no name
pub unnamed_rest : (old rest front more : List (List ℕ)) (word : List ℕ) → old ++ word ∷ rest ≡ front ++ more → list_all is_name front ≡ true → is_name word ≡ false → list_all is_name more ≡ false
unnamed_rest old rest front more word split named unnamed =
    sym (list_all-append is_name front more ∙ ap (λ b. b && list_all is_name more) named)
    ∙ (sym (ap (list_all is_name) split) ∙ unnamed_behind old (word ∷ rest) (ap (λ b. b && list_all is_name rest) unnamed))
