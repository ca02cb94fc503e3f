-- Words that stand apart: a set, in the order of their bytes, has those before.
use Rattle.std.proofs.Common.{◌≡◌, ◌+◌, ℕ, Bool, true, false, cond, not, ◌&&◌, ◌||◌, List, [], ◌∷◌, ◌++◌, drop, take, slice_get, Some, refl, sym, ◌∙◌, ap}
use Rattle.std.specs.BTreeMap.{is_at}
use Rattle.std.specs.BTreeSet.{BTreeSet, contains}
use Rattle.std.specs.Cmp.Lexicographic.{nat_list_eq_equiv, pointwise, slice_cmp, texts_ties}
use Rattle.std.specs.Ordering.{nat_cmp}
use Rattle.std.specs.Prelude.{nat_eq}
use Rattle.std.proofs.lemmas.List.Folds.{list_any-append}
use Rattle.cg_net.specs.Names.{is_known}
use Rattle.cg_net.proofs.TableLemmas.{take_next}
use Rattle.cg_hint_text.specs.Reading.{Word, stand_apart}
use Rattle.cg_hint_text.proofs.Forms.{drop_at}

one_or : (here before : Bool) → cond here true before ≡ (before || (here || false))
one_or true true = refl
one_or true false = refl
one_or false true = refl
one_or false false = refl

-- the words before, with one more
pub one_more_known : (old new : BTreeSet Word) (seen : List Word) (word : Word)
    → ((name : Word) → contains (slice_cmp nat_cmp) old name ≡ is_known seen name)
    → ((name : Word) → contains (slice_cmp nat_cmp) new name ≡ cond (is_at (slice_cmp nat_cmp word) name) true (contains (slice_cmp nat_cmp) old name))
    → (name : Word) → contains (slice_cmp nat_cmp) new name ≡ is_known (seen ++ word ∷ []) name
one_more_known old new seen word known put name =
    let same : is_at (slice_cmp nat_cmp word) name ≡ pointwise nat_eq name word = sym (texts_ties word name) ∙ nat_list_eq_equiv.symm word name in
    put name
    ∙ (ap (λ b. cond b true (contains (slice_cmp nat_cmp) old name)) same
    ∙ (ap (cond (pointwise nat_eq name word) true) (known name)
    ∙ (one_or (pointwise nat_eq name word) (is_known seen name) ∙ sym (list_any-append (pointwise nat_eq name) seen (word ∷ [])))))

-- a word that is not among those before stands apart from them, and so do those after it exactly where they stand apart from it too
pub apart_behind : (ws : List Word) (i : ℕ) (w : Word) → slice_get ws i ≡ Some w → is_known (take i ws) w ≡ false
    → stand_apart (take (i + 1) ws) (drop (i + 1) ws) ≡ stand_apart (take i ws) (drop i ws)
apart_behind ws i w at unknown =
    ap (λ seen. stand_apart seen (drop (i + 1) ws)) (take_next ws i w at)
    ∙ (ap (λ b. not b && stand_apart (take i ws ++ w ∷ []) (drop (i + 1) ws)) (sym unknown) ∙ ap (stand_apart (take i ws)) (sym (drop_at ws i w at)))
