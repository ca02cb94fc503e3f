-- The bits of a vector are different nets: where they are more than there may be nets, they pass the limit.
use Rattle.std.proofs.Common.{◌≡◌, ◌≢◌, ℕ, zero, suc, ◌+◌, ◌-◌, ◌*◌, ◌/◌, ◌%◌, ◌<◌, ◌≤◌, ◌⊎◌, Bool, true, false, ◌||◌, if◌then◌else◌, nat_le, nat_lt}
use Rattle.std.proofs.Common.{List, [], ◌∷◌, ◌++◌, length, map, reverse, get_or, Option, None, Some, Ok, Err, refl, sym, ap, ◌∙◌, inl, inr, arith}
use Rattle.std.specs.List.{AllPairs, range_with_len}
use Rattle.std.specs.Str.{bytes_eq}
use Rattle.std.proofs.Math.Nat.{div-add-mod}
use Rattle.std.proofs.lemmas.Bool.{both_ways, or_cases, or_left, or_right}
use Rattle.std.proofs.lemmas.Bool.Decides.{nat_tests}
use Rattle.std.proofs.lemmas.List.{append_cancel_left, append_cancel_right, get_or-map, get_or-reverse, length-map, length-reverse}
use Rattle.std.proofs.lemmas.List.FromFn.{get_or-map-range_with_len, get_or-range_with_len, length-map-range_with_len, length-range_with_len}
use Rattle.cg_limit.specs.declared.Limit.{Limit}
use Rattle.cg_limit.specs.declared.Limit.TheVariants.{Nets, Registers}
use Rattle.cg_limit.specs.declared.TheConstants.{MOST_NETS, MOST_REGISTERS}
use Rattle.cg_net.specs.Names.{NetName, is_known, with_name}
use Rattle.cg_netlist.specs.Circuit.{RegisterCell}
use Rattle.cg_netlist_parts.specs.Said.{Said, limit_of, with_part}
use Rattle.cg_netlist_parts.proofs.Different.{Apart, apart_from, no_more}
use Rattle.cg_text.specs.Numbers.{digits_after}
use Rattle.cg_verilog_expression.proofs.KnownNets.{known_with}
use Rattle.cg_verilog_text.specs.Items.{Range}
use Rattle.cg_verilog_text.specs.Meaning.{bits_of, digits_within, index_text, indices}
use Rattle.cg_verilog_text.specs.Telling.{unless, with_parts}
use Rattle.cg_verilog.specs.Declaring.{bit_name, side_part}
use Rattle.cg_verilog.specs.declared.declare.Side.{Side}
use Rattle.cg_verilog.specs.declared.declare.Side.TheVariants.{Input, Output}
use Rattle.cg_verilog.proofs.Declared.{down_first, up_first}

-- an index is read back from its digits
digits_then : (n : ℕ) (digits : List ℕ) (last : ℕ) → digits_after n (digits ++ last ∷ []) ≡ 10 * digits_after n digits + (last - 48)
digits_then n [] last = refl
digits_then n (digit ∷ digits) last = digits_then (10 * n + (digit - 48)) digits last

read_back : (k n : ℕ) → n < k → digits_after 0 (digits_within k n) ≡ n
read_back zero n less = absurd (omega arith)
read_back (suc k) n less = go (nat_lt n 10) refl (read_back k)
  where
    go : (b : Bool) → nat_lt n 10 ≡ b → ((m : ℕ) → m < k → digits_after 0 (digits_within k m) ≡ m)
        → digits_after 0 (if b then (48 + n) ∷ [] else digits_within k (n / 10) ++ (48 + n % 10) ∷ []) ≡ n
    go true is shorter = omega arith
    go false is shorter =
        let whole : 10 * (n / 10) + n % 10 ≡ n = div-add-mod n 10 in
        let large : 10 ≤ n = grind (arith, nat_tests) in
        let rest : digits_after 0 (digits_within k (n / 10)) ≡ n / 10 = shorter (n / 10) (omega (arith, whole, large, less)) in
        digits_then 0 (digits_within k (n / 10)) (48 + n % 10) ∙ omega (arith, rest, whole)

same_index : (j k : ℕ) → index_text j ≡ index_text k → j ≡ k
same_index j k same = sym (read_back (suc j) j (omega arith)) ∙ (ap (digits_after 0) same ∙ read_back (suc k) k (omega arith))

-- bits of one vector that have one name have one index
same_bit : (net : NetName) (j k : ℕ) → bit_name net j ≡ bit_name net k → j ≡ k
same_bit net j k same =
    let behind : 91 ∷ (index_text j ++ 93 ∷ []) ≡ 91 ∷ (index_text k ++ 93 ∷ []) = append_cancel_left net (91 ∷ (index_text j ++ 93 ∷ [])) (91 ∷ (index_text k ++ 93 ∷ [])) same in
    let inside : index_text j ++ 93 ∷ [] ≡ index_text k ++ 93 ∷ [] = cc in
    same_index j k (append_cancel_right (index_text j) (index_text k) (93 ∷ []) inside)

up_different : (net : NetName) (low count : ℕ) → AllPairs (λ name other. name ≢ other) (map (bit_name net) (range_with_len low count))
up_different net low count i j d before within same =
    let long = length-map-range_with_len (bit_name net) low count in
    let one : get_or (map (bit_name net) (range_with_len low count)) i d ≡ bit_name net (low + i) = get_or-map-range_with_len (bit_name net) low count i (low + i) d (omega (arith, long, before, within)) refl in
    let other : get_or (map (bit_name net) (range_with_len low count)) j d ≡ bit_name net (low + j) = get_or-map-range_with_len (bit_name net) low count j (low + j) d (omega (arith, long, within)) refl in
    let index : low + i ≡ low + j = same_bit net (low + i) (low + j) (sym one ∙ (same ∙ other)) in
    omega (arith, index, before)

down_at : (net : NetName) (low count i : ℕ) (d : NetName) → i < count → get_or (map (bit_name net) (reverse (range_with_len low count))) i d ≡ bit_name net (low + (count - 1 - i))
down_at net low count i d within =
    let numbers : List ℕ = range_with_len low count in
    let long : length numbers ≡ count = length-range_with_len low count in
    let turned : length (reverse numbers) ≡ length numbers = length-reverse numbers in
    let place : get_or (reverse numbers) i 0 ≡ get_or numbers (length numbers - 1 - i) 0 = get_or-reverse numbers i 0 (omega (arith, long, within)) in
    let number : get_or numbers (count - 1 - i) 0 ≡ low + (count - 1 - i) = get_or-range_with_len low count (count - 1 - i) 0 (omega arith) in
    get_or-map (bit_name net) (reverse numbers) i 0 d (omega (arith, long, turned, within))
    ∙ ap (bit_name net) (place ∙ (ap (λ n. get_or numbers (n - 1 - i) 0) long ∙ number))

down_different : (net : NetName) (low count : ℕ) → AllPairs (λ name other. name ≢ other) (map (bit_name net) (reverse (range_with_len low count)))
down_different net low count i j d before within same =
    let numbers : List ℕ = range_with_len low count in
    let long : length numbers ≡ count = length-range_with_len low count in
    let turned : length (reverse numbers) ≡ length numbers = length-reverse numbers in
    let bits = length-map (reverse numbers) (bit_name net) in
    let inside : j < count = omega (arith, long, turned, bits, within) in
    let index : low + (count - 1 - i) ≡ low + (count - 1 - j) =
    same_bit net (low + (count - 1 - i)) (low + (count - 1 - j)) (sym (down_at net low count i d (omega (arith, before, inside))) ∙ (same ∙ down_at net low count j d inside)) in
    omega (arith, index, before, inside)

pub bits_apart : (range : Range) (net : NetName) → Apart (bits_of (Some range) net)
bits_apart range net = go (nat_le (digits_after 0 range.low) (digits_after 0 range.high))
  where
    go : (b : Bool) → Apart (map (bit_name net) (if b then reverse (range_with_len (digits_after 0 range.low) (digits_after 0 range.high + 1 - digits_after 0 range.low)) else range_with_len (digits_after 0 range.high) (digits_after 0 range.low + 1 - digits_after 0 range.high)))
    go true = apart_from (map (bit_name net) (reverse (range_with_len (digits_after 0 range.low) (digits_after 0 range.high + 1 - digits_after 0 range.low)))) (down_different net (digits_after 0 range.low) (digits_after 0 range.high + 1 - digits_after 0 range.low))
    go false = apart_from (map (bit_name net) (range_with_len (digits_after 0 range.high) (digits_after 0 range.low + 1 - digits_after 0 range.high))) (up_different net (digits_after 0 range.high) (digits_after 0 range.low + 1 - digits_after 0 range.high))

-- how many they are
pub many_bits : (net : NetName) (high low most : ℕ) → (nat_le (high + most) low || nat_le (low + most) high) ≡ true → most < length (map (bit_name net) (indices high low))
many_bits net high low most far = go (nat_le low high) refl
  where
    go : (b : Bool) → nat_le low high ≡ b → most < length (map (bit_name net) (if b then reverse (range_with_len low (high + 1 - low)) else range_with_len high (low + 1 - high)))
    go true is =
        let bits = length-map (reverse (range_with_len low (high + 1 - low))) (bit_name net) in
        let turned = length-reverse (range_with_len low (high + 1 - low)) in
        let long = length-range_with_len low (high + 1 - low) in
        let apart : low + most ≤ high = grind (arith, nat_tests, far, is) in
        omega (arith, bits, turned, long, apart)
    go false is =
        let long = length-map-range_with_len (bit_name net) high (low + 1 - high) in
        let apart : high + most ≤ low = grind (arith, nat_tests, far, is) in
        omega (arith, long, apart)

-- the first of them
pub bits_first : (range : Range) (net : NetName) → (rest : List NetName) × (bits_of (Some range) net ≡ bit_name net (digits_after 0 range.high) ∷ rest)
bits_first range net = go (nat_le (digits_after 0 range.low) (digits_after 0 range.high)) refl
  where
    go : (b : Bool) → nat_le (digits_after 0 range.low) (digits_after 0 range.high) ≡ b
        → (rest : List NetName) × (map (bit_name net) (if b then reverse (range_with_len (digits_after 0 range.low) (digits_after 0 range.high + 1 - digits_after 0 range.low)) else range_with_len (digits_after 0 range.high) (digits_after 0 range.low + 1 - digits_after 0 range.high)) ≡ bit_name net (digits_after 0 range.high) ∷ rest)
    go true is = let order : digits_after 0 range.low ≤ digits_after 0 range.high = grind (arith, nat_tests) in down_first (digits_after 0 range.low) (digits_after 0 range.high) net order
    go false is = let order : digits_after 0 range.high ≤ digits_after 0 range.low = grind (arith, nat_tests) in up_first (digits_after 0 range.high) (digits_after 0 range.low) net order

-- what a declared net changes
side_nets : (side : Side) (net : NetName) (s : Said) → (with_part s (side_part side net)).nets ≡ with_name s.nets net
side_nets Input net s = refl
side_nets Output net s = refl

side_registers : (side : Side) (net : NetName) (s : Said) → (with_part s (side_part side net)).registers ≡ s.registers
side_registers Input net s = refl
side_registers Output net s = refl

-- what is within the limits
few_nets : (s : Said) → limit_of s ≡ None → nat_lt MOST_NETS (length s.nets) ≡ false
few_nets s few = go (nat_lt MOST_NETS (length s.nets)) few
  where
    go : (b : Bool) → (if b then Some Nets else (if nat_lt MOST_REGISTERS (length s.registers) then Some Registers else None)) ≡ None → b ≡ false
    go true e = absurd (cc)
    go false e = refl

few_registers : (s : Said) → limit_of s ≡ None → nat_lt MOST_REGISTERS (length s.registers) ≡ false
few_registers s few = go (nat_lt MOST_NETS (length s.nets)) (nat_lt MOST_REGISTERS (length s.registers)) few
  where
    go : (b r : Bool) → (if b then Some Nets else (if r then Some Registers else None)) ≡ None → r ≡ false
    go true r e = absurd (cc)
    go false true e = absurd (cc)
    go false false e = refl

-- the limit that nets pass, where registers pass none
limit_is : (s : Said) (over : Bool) → nat_lt MOST_NETS (length s.nets) ≡ over → nat_lt MOST_REGISTERS (length s.registers) ≡ false → limit_of s ≡ (if over then Some Nets else None)
limit_is s over nets registers =
    ap (λ b. if b then Some Nets else (if nat_lt MOST_REGISTERS (length s.registers) then Some Registers else None)) nets
    ∙ ap (λ b. if over then Some Nets else (if b then Some Registers else None)) registers

-- declared nets are known, and no more nets than there may be; those before are still
record IsTold (names : List NetName) (s t : Said) : Type 0 where
  keeps : (x : NetName) → is_known s.nets x ≡ true → is_known t.nets x ≡ true
  has : (x : NetName) → is_known names x ≡ true → is_known t.nets x ≡ true
  few : length t.nets ≤ MOST_NETS

-- a net that is declared is known behind it, as those before are
known_before : (side : Side) (name : NetName) (s : Said) (x : NetName) → is_known s.nets x ≡ true → is_known (with_part s (side_part side name)).nets x ≡ true
known_before side name s x known = ap (λ l. is_known l x) (side_nets side name s) ∙ (known_with s.nets name x ∙ or_left (is_known s.nets x) (bytes_eq x name) known)

known_itself : (side : Side) (name : NetName) (s : Said) (x : NetName) → bytes_eq x name ≡ true → is_known (with_part s (side_part side name)).nets x ≡ true
known_itself side name s x same = ap (λ l. is_known l x) (side_nets side name s) ∙ (known_with s.nets name x ∙ or_right (is_known s.nets x) (bytes_eq x name) same)

one_more : (side : Side) (name : NetName) (names : List NetName) (s t : Said) → IsTold names (with_part s (side_part side name)) t → IsTold (name ∷ names) s t
one_more side name names s t told = record {
  keeps = λ x known. told.keeps x (known_before side name s x known);
  has = λ x known. elim (or_cases (bytes_eq x name) (is_known names x) known) [
    | inl here ↦ told.keeps x (known_itself side name s x here)
    | inr later ↦ told.has x later
  ];
  few = told.few;
}

told_or_passed : (side : Side) (names : List NetName) (s : Said) → limit_of s ≡ None → (with_parts (map (side_part side) names) s ≡ Err Nets) ⊎ ((t : Said) × IsTold names s t)
told_or_passed side [] s few = inr (
  s,
  record {
    keeps = λ x known. known;
    has = λ x never. absurd (both_ways false refl never);
    few = let within : nat_lt MOST_NETS (length s.nets) ≡ false = few_nets s few in grind (arith, nat_tests, within);
  },
)
told_or_passed side (name ∷ names) s few =
    go (nat_lt MOST_NETS (length (with_part s (side_part side name)).nets)) refl (told_or_passed side names (with_part s (side_part side name)))
  where
    registers : nat_lt MOST_REGISTERS (length (with_part s (side_part side name)).registers) ≡ false
    registers = ap (λ (l : List (RegisterCell NetName (Option NetName))). nat_lt MOST_REGISTERS (length l)) (side_registers side name s) ∙ few_registers s few

    go : (over : Bool) → nat_lt MOST_NETS (length (with_part s (side_part side name)).nets) ≡ over
        → (limit_of (with_part s (side_part side name)) ≡ None
        → (with_parts (map (side_part side) names) (with_part s (side_part side name)) ≡ Err Nets) ⊎ ((t : Said) × IsTold names (with_part s (side_part side name)) t))
        → (with_parts (map (side_part side) (name ∷ names)) s ≡ Err Nets) ⊎ ((t : Said) × IsTold (name ∷ names) s t)
    go true is rest = inl (ap (λ o. unless o (with_parts (map (side_part side) names) (with_part s (side_part side name)))) (limit_is (with_part s (side_part side name)) true is registers))
    go false is rest =
        let none : limit_of (with_part s (side_part side name)) ≡ None = limit_is (with_part s (side_part side name)) false is registers in
        elim (rest none) [
          | inl passed ↦ inl (ap (λ o. unless o (with_parts (map (side_part side) names) (with_part s (side_part side name)))) none ∙ passed)
          | inr told ↦ inr (told.0, one_more side name names s told.0 told.1)
        ]

-- more bits than there may be nets pass the limit, where the first of them is told
pub too_many : (side : Side) (name : NetName) (names : List NetName) (s t : Said) → Apart (name ∷ names) → MOST_NETS < length (name ∷ names) → with_parts (side_part side name ∷ []) s ≡ Ok t
    → with_parts (map (side_part side) (name ∷ names)) s ≡ Err Nets
too_many side name names s t apart many told = go (limit_of (with_part s (side_part side name))) refl told
  where
    go : (o : Option Limit) → limit_of (with_part s (side_part side name)) ≡ o → unless o (Ok (with_part s (side_part side name))) ≡ Ok t
        → unless (limit_of (with_part s (side_part side name))) (with_parts (map (side_part side) names) (with_part s (side_part side name))) ≡ Err Nets
    go (Some limit) is e = absurd (cc)
    go None is e =
        ap (λ o. unless o (with_parts (map (side_part side) names) (with_part s (side_part side name)))) is
        ∙ elim (told_or_passed side names (with_part s (side_part side name)) is) [
          | inl passed ↦ passed
          | inr all ↦
              let fits : length (name ∷ names) ≤ length all.0.nets =
              no_more (name ∷ names) all.0.nets apart (λ x known. (one_more side name names s all.0 all.1).has x known) in
              let few : length all.0.nets ≤ MOST_NETS = all.1.few in
              absurd (omega (arith, fits, few, many))
        ]
