-- The sums of the kinds of causes add up.
use Rattle.std.proofs.Common.{◌≡◌, ℕ, ◌+◌, Bool, cond, List, [], ◌∷◌, length, refl, ◌∙◌, arith}
use Rattle.std.specs.List.{count_by}
use Rattle.std.proofs.lemmas.List.FromFn.{length-map-range_with_len}
use Rattle.std.proofs.lemmas.List.Sums.{sum_by-cons}
use Rattle.cg_register_text.specs.Causes.{cause_of, causes_of}
use Rattle.cg_register_text.specs.Laws.{KindsAddUp, of_kinds}
use Rattle.cg_register_text.specs.Words.{is_free, is_gated, is_given, is_tried, is_wide}
use Rattle.cg_register_text.specs.declared.cause.Cause.{Cause}
use Rattle.cg_register_text.specs.declared.cause.Cause.TheVariants.{Free, Gated, Given, Hint, Stage, Wide}

abbrev one_if : (Cause → Bool) → Cause → ℕ
one_if test c = cond (test c) 1 0

-- a cause is of one kind
one_kind : (c : Cause) → one_if is_gated c + one_if is_given c + one_if is_tried c + one_if is_wide c + one_if is_free c ≡ 1
one_kind Gated = refl
one_kind Given = refl
one_kind (Stage number) = refl
one_kind (Hint number) = refl
one_kind (Wide width) = refl
one_kind Free = refl

one_more : (test : Cause → Bool) (c : Cause) (cs : List Cause) → count_by test (c ∷ cs) ≡ one_if test c + count_by test cs
one_more test c cs = sum_by-cons (λ x. cond (test x) 1 0) c cs

all_of_kinds : (cs : List Cause) → of_kinds cs ≡ length cs
all_of_kinds [] = refl
all_of_kinds (c ∷ cs) =
    let one = one_kind c in
    let gated = one_more is_gated c cs in
    let given = one_more is_given c cs in
    let tried = one_more is_tried c cs in
    let wide = one_more is_wide c cs in
    let free = one_more is_free c cs in
    let rest = all_of_kinds cs in
    omega (arith, one, gated, given, tried, wide, free, rest)

pub kinds_add_up : KindsAddUp
kinds_add_up t =
    let all : length (causes_of t) ≡ length t.read.registers = length-map-range_with_len (cause_of t) 0 (length t.read.registers) in
    (all, all_of_kinds (causes_of t) ∙ all)
