-- Lines of items, one after another, with their labels.
use Rattle.std.proofs.Common.{[], ◌≡◌, ℕ, zero, suc, ◌+◌, ◌<◌, true, false, List, ◌∷◌, ◌++◌, length, take, drop, get_or}
use Rattle.std.proofs.Common.{refl, ap, sym, ◌∙◌, subst, if◌then◌else◌, append_assoc, append-nil, slice_index_or, Option, None, Some, arith}
use Rattle.std.specs.List.{AllByRecursion, flat_map, slice_get}
use Rattle.std.proofs.lemmas.Bool.{both_ways}
use Rattle.std.proofs.lemmas.Grind.{flat_map-append}
use Rattle.std.proofs.lemmas.List.{take_more}
use Rattle.std.proofs.lemmas.Option.{get_or_from_slice_get, slice_get_within}
use Rattle.cg_verilog_text.specs.Items.{Item, Input, Output, Wire, Reg, Place, Assign, Always, Initial}
use Rattle.cg_verilog_text.specs.Written.{item_line}
use Rattle.cg_verilog_text.specs.WrittenItems.{labelled, places, with_label}
use Rattle.cg_verilog_out.specs.Writing.{Writes, labels_behind}

-- labels of items before others
labelled-append : (texts : List (List ℕ)) (xs ys : List Item) → labelled texts (xs ++ ys) ≡ labelled texts xs ++ labelled (labels_behind texts xs) ys
labelled-append texts [] ys = refl
labelled-append texts (x ∷ xs) ys = ap (λ l. with_label (slice_index_or texts 0 []) x ∷ l) (labelled-append (if places x then drop 1 texts else texts) xs ys)

behind-append : (texts : List (List ℕ)) (xs ys : List Item) → labels_behind texts (xs ++ ys) ≡ labels_behind (labels_behind texts xs) ys
behind-append texts [] ys = refl
behind-append texts (x ∷ xs) ys = behind-append (if places x then drop 1 texts else texts) xs ys

pub writes_none : (out : List ℕ) (labels : List (List ℕ)) → Writes [] out out labels labels
writes_none out labels = record { text = sym (append-nil out); taken = refl }

pub writes_both : (xs ys : List Item) (a b c : List ℕ) (l m n : List (List ℕ)) → Writes xs a b l m → Writes ys b c m n → Writes (xs ++ ys) a c l n
writes_both xs ys a b c l m n first second =
    record {
      text =
          second.text
          ∙ (ap (λ t. b ++ flat_map item_line (labelled t ys)) first.taken
          ∙ (ap (λ t. t ++ flat_map item_line (labelled (labels_behind l xs) ys)) first.text
          ∙ (append_assoc a (flat_map item_line (labelled l xs)) (flat_map item_line (labelled (labels_behind l xs) ys))
          ∙ ap (λ t. a ++ t) (sym (flat_map-append item_line (labelled l xs) (labelled (labels_behind l xs) ys)) ∙ ap (flat_map item_line) (sym (labelled-append l xs ys))))));
      taken = second.taken ∙ (ap (λ t. labels_behind t ys) first.taken ∙ sym (behind-append l xs ys));
    }

-- the parts up to the one at k, and that one
pub slice_get-not_none : {X : Type 0} (xs : List X) (k : ℕ) → k < length xs → slice_get xs k ≡ None → ⊥
slice_get-not_none [] k below none = omega arith
slice_get-not_none (x ∷ xs) zero below none = cc
slice_get-not_none (x ∷ xs) (suc k) below none = slice_get-not_none xs k (omega arith) none

pub up_to_next : {Part A : Type 0} (f : Part → List A) (parts : List Part) (k : ℕ) (part : Part) → slice_get parts k ≡ Some part → flat_map f (take (k + 1) parts) ≡ flat_map f (take k parts) ++ f part
up_to_next f parts k part is =
    let below : k < length parts = slice_get_within parts k part is in
    let same : get_or parts k part ≡ part = get_or_from_slice_get parts k part part is in
    rw (take_more parts k part, flat_map-append, same) (ap (λ last. flat_map f (take k parts) ++ last) (append-nil (f part)))

pub writes_next : {Part : Type 0} (f : Part → List Item) (parts : List Part) (k id : ℕ) (start out new : List ℕ) (l m n : List (List ℕ)) → k < length parts → id ≡ k
    → Writes (flat_map f (take k parts)) start out l m → ((part : Part) → slice_get parts id ≡ Some part → Writes (f part) out new m n) → Writes (flat_map f (take (k + 1) parts)) start new l n
writes_next {Part = Part} f parts k id start out new l m n below same so_far adds = next (slice_get parts k) refl
  where
    next : (o : Option Part) → slice_get parts k ≡ o → Writes (flat_map f (take (k + 1) parts)) start new l n
    next None none = absurd (slice_get-not_none parts k below none)
    next (Some part) at =
        subst (λ items. Writes items start new l n) (sym (up_to_next f parts k part at))
        (writes_both (flat_map f (take k parts)) (f part) start out new l m n so_far (adds part (ap (slice_get parts) same ∙ at)))

pub text_next : {Part : Type 0} (f : Part → List ℕ) (parts : List Part) (k id : ℕ) (start out new : List ℕ) → k < length parts → id ≡ k → out ≡ start ++ flat_map f (take k parts)
    → ((part : Part) → slice_get parts id ≡ Some part → new ≡ out ++ f part) → new ≡ start ++ flat_map f (take (k + 1) parts)
text_next {Part = Part} f parts k id start out new below same is adds = next (slice_get parts k) refl
  where
    next : (o : Option Part) → slice_get parts k ≡ o → new ≡ start ++ flat_map f (take (k + 1) parts)
    next None none = absurd (slice_get-not_none parts k below none)
    next (Some part) at =
        adds part (ap (slice_get parts) same ∙ at) ∙ (ap (λ front. front ++ f part) is ∙ (append_assoc start (flat_map f (take k parts)) (f part) ∙ ap (λ later. start ++ later) (sym (up_to_next f parts k part at))))

-- items that place no cell have no label
abbrev pub IsUnplaced : Item → Type 0
IsUnplaced item = places item ≡ false

unplaced : (text : List ℕ) (i : Item) → IsUnplaced i → with_label text i ≡ i
unplaced text (Input r ns) out = refl
unplaced text (Output r ns) out = refl
unplaced text (Wire r ns) out = refl
unplaced text (Reg r ns) out = refl
unplaced text (Place c l ps) out = absurd (both_ways true out refl)
unplaced text (Assign n f) out = refl
unplaced text (Always c us) out = refl
unplaced text (Initial n b) out = refl

pub labelled_behind : (texts : List (List ℕ)) (xs ys : List Item) → AllByRecursion IsUnplaced xs → labelled texts (xs ++ ys) ≡ xs ++ labelled texts ys
labelled_behind texts [] ys all = refl
labelled_behind texts (x ∷ xs) ys all =
    ap (λ i. i ∷ labelled (if places x then drop 1 texts else texts) (xs ++ ys)) (unplaced (slice_index_or texts 0 []) x all.0)
    ∙ (ap (λ b. x ∷ labelled (if b then drop 1 texts else texts) (xs ++ ys)) all.0 ∙ ap (λ l. x ∷ l) (labelled_behind texts xs ys all.1))
