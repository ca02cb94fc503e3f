-- Labels are read as what they are, and change nothing.
use Rattle.std.proofs.Common.{[], ◌≡◌, ℕ, zero, suc, ◌+◌, ◌<◌, ◌%◌, ◌/◌, ◌==◌, Bool, true, false, not, List, ◌∷◌, ◌++◌, map, length, drop}
use Rattle.std.proofs.Common.{refl, ap, sym, ◌∙◌, if◌then◌else◌, arith, slice_index_or, Ok}
use Rattle.std.specs.List.{AllByRecursion, flat_map, range_with_len}
use Rattle.std.specs.Fmt.{decimal, digit_glyph, digits, digits_onto}
use Rattle.std.proofs.lemmas.Bool.{lt-ltb}
use Rattle.std.proofs.lemmas.Bool.Decides.{nat_tests}
use Rattle.std.proofs.lemmas.Grind.{common_steps}
use Rattle.cg_cell.specs.Cell.{CellData}
use Rattle.cg_net.specs.Names.{NetName, is_known}
use Rattle.cg_text.specs.Blanks.{is_white_space}
use Rattle.cg_verilog_text.specs.Items.{Item, Input, Output, Wire, Reg, Place, Assign, Always, Initial}
use Rattle.cg_verilog_text.specs.Meaning.{Init, inits_in, said_by, updated_in}
use Rattle.cg_verilog_text.specs.WrittenItems.{label, labelled, labels, places, with_label}
use Rattle.cg_verilog_text.proofs.EachOnce.{all_filter}
use Rattle.cg_verilog_text.proofs.Lexing.{AreSolid, Solid}
use Rattle.cg_verilog_text.proofs.ReadsItems.{IsReadBack}
use Rattle.cg_verilog_text.proofs.SpokenNetlist.{parts_in, parts_or_none}

digit_solid : (d : ℕ) → d < 10 → is_white_space (48 + d) ≡ false
digit_solid d small = grind (arith, nat_tests, common_steps)

glyph_solid : (d : ℕ) → d < 10 → Solid (digit_glyph false d)
glyph_solid d small = ap (λ b. is_white_space (if b then 48 + d else 87 + d)) (lt-ltb d 10 small) ∙ digit_solid d small

onto_solid : (k n : ℕ) (acc : List ℕ) → AreSolid acc → AreSolid (digits_onto k 10 false n acc)
onto_solid zero n acc solid = solid
onto_solid (suc k) n acc solid =
    let small : n % 10 < 10 = omega arith in
    step (n / 10 == 0) (glyph_solid (n % 10) small) (onto_solid k (n / 10) (digit_glyph false (n % 10) ∷ acc) (glyph_solid (n % 10) small, solid))
  where
    step : (b : Bool) → Solid (digit_glyph false (n % 10)) → AreSolid (digits_onto k 10 false (n / 10) (digit_glyph false (n % 10) ∷ acc)) → AreSolid (if b then digit_glyph false (n % 10) ∷ acc else digits_onto k 10 false (n / 10) (digit_glyph false (n % 10) ∷ acc))
    step true here rest = (here, solid)
    step false here rest = rest

decimal_solid : (n : ℕ) → AreSolid (decimal n)
unfolding digits
decimal_solid n = onto_solid 64 n [] tt

some_labels : (ks : List ℕ) → AllByRecursion AreSolid (map label ks)
some_labels [] = tt
some_labels (k ∷ ks) = ((refl, decimal_solid k), some_labels ks)

pub labels_solid : (names : List NetName) (count : ℕ) → AllByRecursion AreSolid (labels names count)
labels_solid names count = all_filter AreSolid (λ text. not (is_known names text)) (map label (range_with_len 0 (length names + count))) (some_labels (range_with_len 0 (length names + count)))

first_solid : (texts : List (List ℕ)) → AllByRecursion AreSolid texts → AreSolid (slice_index_or texts 0 [])
first_solid [] all = tt
first_solid (t ∷ ts) all = all.0

rest_solid : (texts : List (List ℕ)) → AllByRecursion AreSolid texts → AllByRecursion AreSolid (drop 1 texts)
rest_solid [] all = tt
rest_solid (t ∷ ts) all = all.1

left_solid : (b : Bool) (texts : List (List ℕ)) → AllByRecursion AreSolid texts → AllByRecursion AreSolid (if b then drop 1 texts else texts)
left_solid true texts all = rest_solid texts all
left_solid false texts all = all

pub labelled_back : (texts : List (List ℕ)) (items : List Item) → AllByRecursion AreSolid texts → AllByRecursion (λ i. (text : List ℕ) → AreSolid text → IsReadBack (with_label text i)) items → AllByRecursion IsReadBack (labelled texts items)
labelled_back texts [] solid all = tt
labelled_back texts (i ∷ items) solid all =
    (all.0 (slice_index_or texts 0 []) (first_solid texts solid), labelled_back (if places i then drop 1 texts else texts) items (left_solid (places i) texts solid) all.1)

-- what is said does not depend on labels
pub label_free : {A : Type 0} (f : Item → List A) → ((text : List ℕ) (i : Item) → f (with_label text i) ≡ f i) → (texts : List (List ℕ)) (items : List Item) → flat_map f (labelled texts items) ≡ flat_map f items
label_free f same texts [] = refl
label_free f same texts (i ∷ items) =
    ap (λ l. l ++ flat_map f (labelled (if places i then drop 1 texts else texts) items)) (same (slice_index_or texts 0 []) i)
    ∙ ap (λ l. f i ++ l) (label_free f same (if places i then drop 1 texts else texts) items)

pub inits_same : (text : List ℕ) (i : Item) → inits_in (with_label text i) ≡ inits_in i
inits_same text (Input r ns) = refl
inits_same text (Output r ns) = refl
inits_same text (Wire r ns) = refl
inits_same text (Reg r ns) = refl
inits_same text (Place c l ps) = refl
inits_same text (Assign n f) = refl
inits_same text (Always c us) = refl
inits_same text (Initial n b) = refl

pub updated_same : (text : List ℕ) (i : Item) → updated_in (with_label text i) ≡ updated_in i
updated_same text (Input r ns) = refl
updated_same text (Output r ns) = refl
updated_same text (Wire r ns) = refl
updated_same text (Reg r ns) = refl
updated_same text (Place c l ps) = refl
updated_same text (Assign n f) = refl
updated_same text (Always c us) = refl
updated_same text (Initial n b) = refl

module _ (library : List CellData) (inits : List Init) where
  pub said_same : (text : List ℕ) (i : Item) → said_by library inits (with_label text i) ≡ said_by library inits i
  said_same text (Input r ns) = refl
  said_same text (Output r ns) = refl
  said_same text (Wire r ns) = refl
  said_same text (Reg r ns) = refl
  said_same text (Place c l ps) = refl
  said_same text (Assign n f) = refl
  said_same text (Always c us) = refl
  said_same text (Initial n b) = refl

  pub parts_same : (text : List ℕ) (i : Item) → parts_in library inits (with_label text i) ≡ parts_in library inits i
  parts_same text i = ap parts_or_none (said_same text i)

  pub labelled_says : (texts : List (List ℕ)) (items : List Item) → AllByRecursion (λ i. said_by library inits i ≡ Ok (parts_in library inits i)) items → AllByRecursion (λ i. said_by library inits i ≡ Ok (parts_in library inits i)) (labelled texts items)
  labelled_says texts [] all = tt
  labelled_says texts (i ∷ items) all =
      (said_same (slice_index_or texts 0 []) i ∙ (all.0 ∙ ap (λ ps. Ok ps) (sym (parts_same (slice_index_or texts 0 []) i))), labelled_says (if places i then drop 1 texts else texts) items all.1)
