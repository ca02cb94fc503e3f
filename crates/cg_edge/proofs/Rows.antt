-- Rows of truth tables, and the words of inputs, whose lanes are rows.
use Rattle.std.proofs.Common.{◌≡◌, ℕ, zero, suc, ◌+◌, ◌*◌, ◌^◌, ◌<◌, ◌≤◌, Bool, true, false, ◌&&◌, List, [], ◌∷◌}
use Rattle.std.proofs.Common.{take, drop, length, slice_get, Option, None, Some, refl, ◌∙◌, ap, subst, arith}
use Rattle.std.specs.Prelude.{◌==◌}
use mir.Val.{bool_byte}
use Rattle.std.specs.Cmp.{booleans_Decides}
use Rattle.std.specs.Int.{bit_at}
use Rattle.std.specs.List.{All, cons_option}
use Rattle.std.proofs.Math.Bool.{beq}
use Rattle.std.proofs.Math.Nat.{pow-succ'}
use Rattle.std.proofs.Math.Pow.{pow_mono}
use Rattle.std.proofs.lemmas.Bool.{and_parts}
use Rattle.std.proofs.lemmas.List.{length-drop}
use Rattle.std.proofs.lemmas.Nat.Bits.{bit_at-lt}
use Rattle.std.proofs.lemmas.Option.{get_or_from_slice_get, slice_get_within}
use Rattle.std.proofs.lemmas.Slice.Eq.{slice_eq-Decides}
use lib.Pointwise.{pointwise}
use Rattle.cg_cell.specs.Bits.{one_if}
use Rattle.cg_netlist.specs.declared.parts.LogicFunction.{LogicFunction}
use Rattle.cg_netlist.specs.Moment.{function_value, values_at}
use Rattle.cg_netlist.proofs.Walks.{drop_at}
use Rattle.cg_word.specs.Words.{IsWord, lane}
use Rattle.cg_edge.specs.declared.table.TheConstants.{INPUTS}
use Rattle.cg_edge.specs.inner.Flat.{IsTruthTable, row_of}

pub one_if_small : (b : Bool) → one_if b ≤ 1
one_if_small true = omega arith
one_if_small false = omega arith

-- rows of n bits are below 2 ^ n
pub row_below : (bits : List Bool) → row_of bits < 2 ^ length bits
row_below [] = omega arith
row_below (b ∷ bits) = let below = row_below bits in let small = one_if_small b in let double : 2 ^ suc (length bits) ≡ 2 * 2 ^ length bits = pow-succ' 2 (length bits) in omega (arith, below, small, double)

pub row_few : (bits : List Bool) → length bits ≤ 6 → row_of bits < 64
row_few bits few = let below = row_below bits in let most : 2 ^ length bits ≤ 2 ^ 6 = pow_mono few in omega (arith, below, most)

-- whether a test holds of all lists of so many bits
every : ℕ → (List Bool → Bool) → Bool
every zero test = test []
every (suc n) test = every n (λ bits. test (true ∷ bits)) && every n (λ bits. test (false ∷ bits))

every_at : (n : ℕ) (test : List Bool → Bool) → every n test ≡ true → (bits : List Bool) → length bits ≡ n → test bits ≡ true
unfolding every
every_at zero test all [] long = all
every_at zero test all (b ∷ bits) long = absurd (omega (arith, long))
every_at (suc n) test all [] long = absurd (omega (arith, long))
every_at (suc n) test all (true ∷ bits) long = every_at n (λ bits. test (true ∷ bits)) (and_parts _ _ all).0 bits (omega (arith, long))
every_at (suc n) test all (false ∷ bits) long = every_at n (λ bits. test (false ∷ bits)) (and_parts _ _ all).1 bits (omega (arith, long))

-- in the lane of their row the words of the inputs have these bits
abbrev in_row : ℕ → List Bool → Bool
in_row n bits = pointwise beq (lane (row_of bits) (take n INPUTS)) bits

in_rows : (n : ℕ) → n ≤ 6 → every n (in_row n) ≡ true
unfolding every
in_rows zero few = refl
in_rows (suc zero) few = refl
in_rows (suc (suc zero)) few = refl
in_rows (suc (suc (suc zero))) few = refl
in_rows (suc (suc (suc (suc zero)))) few = refl
in_rows (suc (suc (suc (suc (suc zero))))) few = refl
in_rows (suc (suc (suc (suc (suc (suc zero)))))) few = refl
in_rows (suc (suc (suc (suc (suc (suc (suc n))))))) few = absurd (omega (arith, few))

digit : (d : ℕ) → d < 2 → d ≡ one_if (d == 1)
digit zero low = refl
digit (suc zero) low = refl
digit (suc (suc d)) low = absurd (omega (arith, low))

-- the word of a function at the words of the inputs is its truth table
pub table_is : (function : LogicFunction) (n word : ℕ) → n ≤ 6 → IsWord word (λ i. function_value function (lane i (take n INPUTS))) → IsTruthTable function n word
table_is function n word few is bits long =
    let i : ℕ = row_of bits in
    let lanes : List Bool = lane i (take n INPUTS) in
    let here : lanes ≡ bits = (slice_eq-Decides booleans_Decides lanes bits (pointwise beq lanes bits) refl).0 (every_at n (in_row n) (in_rows n few) bits long) in
    digit (bit_at word i) (bit_at-lt word i) ∙ ap one_if (is.at i (row_few bits (omega (arith, few, long))) ∙ ap (function_value function) here)

-- no net has more than a value
values_few : (nets : List Bool) (inputs : List ℕ) → length (values_at nets inputs) ≤ length inputs
values_few nets [] = omega arith
values_few nets (x ∷ inputs) = go (slice_get nets x) (values_few nets inputs)
  where
    go : (o : Option Bool) → length (values_at nets inputs) ≤ length inputs → length (cons_option o (values_at nets inputs)) ≤ suc (length inputs)
    go None known = omega (arith, known)
    go (Some b) known = omega (arith, known)

pub row_few_from : (nets : List Bool) (inputs : List ℕ) (i : ℕ) → length inputs ≤ 6 → row_of (values_at nets (drop i inputs)) < 64
row_few_from nets inputs i few = row_few (values_at nets (drop i inputs)) (let most = values_few nets (drop i inputs) in let long = length-drop i inputs in omega (arith, few, most, long))

pub one_if_byte : (b : Bool) → bool_byte b ≡ one_if b
one_if_byte true = refl
one_if_byte false = refl

-- the row of the bits of some nets, from a place on
pub row_from : (nets : List Bool) (inputs : List ℕ) (i x : ℕ) (b : Bool) → slice_get inputs i ≡ Some x → slice_get nets x ≡ Some b → row_of (values_at nets (drop i inputs)) ≡ one_if b + 2 * row_of (values_at nets (drop (i + 1) inputs))
row_from nets inputs i x b at is =
    ap (λ l. row_of (values_at nets l)) (drop_at inputs i x at) ∙ ap (λ o. row_of (cons_option o (values_at nets (drop (i + 1) inputs)))) is

pub below_at : (nets : List Bool) (inputs : List ℕ) (i x : ℕ) → All (λ net. net < length nets) inputs → slice_get inputs i ≡ Some x → x < length nets
below_at nets inputs i x all at = subst (λ y. y < length nets) (get_or_from_slice_get inputs i x x at) (all i x (slice_get_within inputs i x at))
