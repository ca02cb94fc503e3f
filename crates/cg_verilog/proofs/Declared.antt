-- The bits of vectors, one after another.
use Rattle.std.proofs.Common.{◌≡◌, ◌+◌, ◌<◌, ◌≤◌, ◌-◌, ℕ, zero, suc, List, [], ◌∷◌, ◌++◌, length, drop, get_or, map, reverse, refl}
use Rattle.std.proofs.Common.{sym, ap, ◌∙◌, arith, add-one, drop-cons, Option}
use Rattle.std.specs.List.{flat_map, range_with_len}
use Rattle.std.proofs.lemmas.List.{map-append, reverse-append}
use Rattle.cg_net.specs.Names.{NetName}
use Rattle.cg_netlist_parts.specs.Part.{Part}
use Rattle.cg_verilog_text.specs.Items.{Range}
use Rattle.cg_verilog_text.specs.Meaning.{bits_of}
use Rattle.cg_verilog.specs.Declaring.{bit_name, bits_down, bits_up, side_part}
use Rattle.cg_verilog.specs.declared.declare.Side.{Side}

-- a range is one longer
range_more : (a n : ℕ) → range_with_len a (suc n) ≡ range_with_len a n ++ (a + n) ∷ []
range_more a zero = let same : a ≡ a + 0 = omega arith in ap (λ k. k ∷ []) same
range_more a (suc n) =
    let same : a + 1 + n ≡ a + suc n = omega arith in
    ap (λ l. a ∷ l) (range_more (a + 1) n) ∙ ap (λ k. a ∷ (range_with_len (a + 1) n ++ k ∷ [])) same

-- the bits from an index down, and up
pub down_last : (low high : ℕ) (net : NetName) → low ≡ high → bits_down high low net ≡ bit_name net high ∷ []
down_last low high net same =
    let one : high + 1 - low ≡ 1 = omega (arith, same) in
    ap (λ n. map (bit_name net) (reverse (range_with_len low n))) one ∙ ap (λ k. bit_name net k ∷ []) same

pub down_more : (low high next : ℕ) (net : NetName) → low < high → next + 1 ≡ high → bits_down high low net ≡ bit_name net high ∷ bits_down next low net
down_more low high next net less is =
    let long : high + 1 - low ≡ suc (next + 1 - low) = omega (arith, less, is) in
    let last : low + (next + 1 - low) ≡ high = omega (arith, less, is) in
    ap (λ n. map (bit_name net) (reverse (range_with_len low n))) long
    ∙ (ap (λ l. map (bit_name net) (reverse l)) (range_more low (next + 1 - low))
    ∙ (ap (map (bit_name net)) (reverse-append (range_with_len low (next + 1 - low)) ((low + (next + 1 - low)) ∷ []))
    ∙ ap (λ k. bit_name net k ∷ bits_down next low net) last))

pub down_first : (low high : ℕ) (net : NetName) → low ≤ high → (rest : List NetName) × (bits_down high low net ≡ bit_name net high ∷ rest)
down_first low high net order =
    let long : high + 1 - low ≡ suc (high - low) = omega (arith, order) in
    let last : low + (high - low) ≡ high = omega (arith, order) in (
      map (bit_name net) (reverse (range_with_len low (high - low))),
      ap (λ n. map (bit_name net) (reverse (range_with_len low n))) long
          ∙ (ap (λ l. map (bit_name net) (reverse l)) (range_more low (high - low))
          ∙ (ap (map (bit_name net)) (reverse-append (range_with_len low (high - low)) ((low + (high - low)) ∷ []))
          ∙ ap (λ k. bit_name net k ∷ map (bit_name net) (reverse (range_with_len low (high - low)))) last)),
    )

pub up_last : (low high : ℕ) (net : NetName) → low ≡ high → bits_up low high net ≡ bit_name net low ∷ []
up_last low high net same = let one : high + 1 - low ≡ 1 = omega (arith, same) in ap (λ n. map (bit_name net) (range_with_len low n)) one

pub up_first : (low high : ℕ) (net : NetName) → low ≤ high → (rest : List NetName) × (bits_up low high net ≡ bit_name net low ∷ rest)
up_first low high net order =
    let long : high + 1 - low ≡ suc (high - low) = omega (arith, order) in
    (map (bit_name net) (range_with_len (low + 1) (high - low)), ap (λ n. map (bit_name net) (range_with_len low n)) long)

pub up_more : (low high next : ℕ) (net : NetName) → low < high → next ≡ low + 1 → bits_up low high net ≡ bit_name net low ∷ bits_up next high net
up_more low high next net less is =
    let long : high + 1 - low ≡ suc (high + 1 - next) = omega (arith, less, is) in
    ap (λ n. map (bit_name net) (range_with_len low n)) long ∙ ap (λ k. bit_name net low ∷ map (bit_name net) (range_with_len k (high + 1 - next))) (sym is)

-- the parts of nets from one on
pub declared_drop : (side : Side) (range : Option Range) (nets : List NetName) (k : ℕ) (d : NetName) → k < length nets
    → map (side_part side) (flat_map (bits_of range) (drop k nets)) ≡ map (side_part side) (bits_of range (get_or nets k d)) ++ map (side_part side) (flat_map (bits_of range) (drop (k + 1) nets))
declared_drop side range nets k d below =
    ap (λ l. map (side_part side) (flat_map (bits_of range) l)) (drop-cons nets k d below)
    ∙ (map-append (side_part side) (bits_of range (get_or nets k d)) (flat_map (bits_of range) (drop (suc k) nets))
    ∙ next)
  where
    next : map (side_part side) (bits_of range (get_or nets k d)) ++ map (side_part side) (flat_map (bits_of range) (drop (suc k) nets)) ≡ map (side_part side) (bits_of range (get_or nets k d)) ++ map (side_part side) (flat_map (bits_of range) (drop (k + 1) nets))
    next = let same : suc k ≡ k + 1 = omega arith in ap (λ j. map (side_part side) (bits_of range (get_or nets k d)) ++ map (side_part side) (flat_map (bits_of range) (drop j nets))) same

-- the parts of a list from one on
pub parts_drop : {X : Type 0} (wrap : X → Part) (xs : List X) (k : ℕ) (d : X) → k < length xs → map wrap (drop k xs) ≡ (wrap (get_or xs k d) ∷ []) ++ map wrap (drop (k + 1) xs)
parts_drop wrap xs k d below = rw (add-one, drop-cons xs k d) refl
