-- And-inverter lists. Node 0 is the constant 0, the nodes after it are the leaves, and the and-nodes
-- follow, each with the pair of its operands. A list is seen as its number of leaves and its pairs.
-- A literal is a number, as in the AIGER format: twice its node, plus 1 where it is inverted.
use Rattle.std.specs.Prelude.{◌≤◌, ◌==◌, ℕ, zero, suc, ◌+◌, ◌-◌, ◌*◌, ◌/◌, ◌%◌, Bool, true, false, not, ◌&&◌, ◌||◌, nat_lt}
use Rattle.std.specs.Prelude.{if◌then◌else◌, List, [], ◌∷◌, ◌++◌, length, slice_index_or, position, Option, Some, None, IsTrue}
use Rattle.cg_limit.specs.declared.TheConstants.{MOST_CLAIM_NODES}
use Rattle.cg_cell.specs.Domain.{Made, Ops, Seen}

-- The inverse of a literal.
abbrev pub inverse : ℕ → ℕ
inverse a = if a % 2 == 0 then a + 1 else a - 1

-- How many nodes there are: the constant, the leaves and the and-nodes.
abbrev pub nodes : Seen → ℕ
nodes s = 1 + s.number + length s.pairs

-- The bit of a literal, where each node has a value.
abbrev pub lit_bit : List Bool → ℕ → Bool
lit_bit values a = if a % 2 == 0 then slice_index_or values (a / 2) false else not (slice_index_or values (a / 2) false)

-- The first n bits, and 0 where there are none.
abbrev pub leaf_bits : ℕ → List Bool → List Bool
leaf_bits zero bits = []
leaf_bits (suc n) [] = false ∷ leaf_bits n []
leaf_bits (suc n) (b ∷ bits) = b ∷ leaf_bits n bits

-- The values of the nodes so far, and of an and-node for each pair.
abbrev pub values_from : List Bool → List (ℕ × ℕ) → List Bool
values_from values [] = values
values_from values (p ∷ pairs) = values_from (values ++ (lit_bit values p.0 && lit_bit values p.1) ∷ []) pairs

-- The values of all nodes, where the leaves have these bits.
abbrev pub node_values : Seen → List Bool → List Bool
node_values s bits = values_from (false ∷ leaf_bits s.number bits) s.pairs

-- The operands of an and-node are two literals of earlier nodes, neither a constant, the smaller first.
abbrev pub is_pair : ℕ → ℕ × ℕ → Bool
is_pair node p = nat_lt 1 p.0 && (nat_lt p.0 p.1 && nat_lt p.1 (2 * node))

-- Each pair is one of operands of its and-node, counted from this node on.
abbrev pub are_pairs : ℕ → List (ℕ × ℕ) → Bool
are_pairs node [] = true
are_pairs node (p ∷ pairs) = is_pair node p && are_pairs (node + 1) pairs

abbrev pub is_sound : Seen → Bool
is_sound s = are_pairs (1 + s.number) s.pairs

-- What an `and` answers that needs no node: 0 where one operand is 0 or both are inverse, the other
-- operand where one is 1, and the operand where both are equal.
abbrev pub simple : ℕ → ℕ → Option ℕ
simple a b =
    if a == 0 || (b == 0 || a == inverse b) then Some 0 else
    if a == 1 then Some b else
    if b == 1 then Some a else
    if a == b then Some a else None

-- Two literals in the order of their numbers.
abbrev pub in_order : ℕ → ℕ → ℕ × ℕ
in_order a b = if nat_lt a b then (a, b) else (b, a)

abbrev pub same_pair : ℕ × ℕ → ℕ × ℕ → Bool
same_pair p q = p.0 == q.0 && p.1 == q.1

-- The literal of the and-node with this pair: the node at place k, or a new one behind the others.
abbrev pub pair_node_at : Option ℕ → Seen → ℕ × ℕ → Made
pair_node_at (Some k) s p = record { answer = 2 * (1 + s.number + k); pairs = s.pairs }
pair_node_at None s p = record { answer = 2 * nodes s; pairs = s.pairs ++ p ∷ [] }

-- The first and-node with this pair, or a new one.
abbrev pub pair_node : Seen → ℕ × ℕ → Made
pair_node s p = pair_node_at (position (same_pair p) s.pairs) s p

abbrev pub and_with : Option ℕ → Seen → ℕ × ℕ → Made
and_with (Some a) s p = record { answer = a; pairs = s.pairs }
and_with None s p = pair_node s p

-- The and of two literals.
abbrev pub aig_and : Seen → ℕ → ℕ → Made
aig_and s a b = and_with (simple a b) s (in_order a b)

-- The literal of a constant.
abbrev pub constant_lit : Bool → ℕ
constant_lit b = if b then 1 else 0

-- And-inverter lists as a domain: its values are literals, valid where they name a node.
abbrev pub aig_ops : Ops
aig_ops = record {
  constant_of = λ s b. record { answer = constant_lit b; pairs = s.pairs };
  not_of = λ s a. record { answer = inverse a; pairs = s.pairs };
  and_of = aig_and;
  is_sound = is_sound;
  is_valid = λ s a. nat_lt a (2 * nodes s) && is_sound s;
  bit = λ s bits a. lit_bit (node_values s bits) a;
}

-- What is true of every and-inverter list: its pairs are of earlier nodes, and leaves and and-nodes
-- together are at most 65,536.
pub record IsAig (s : Seen) : Type 0 where
  pub sound : IsTrue (is_sound s)
  pub small : s.number + length s.pairs ≤ MOST_CLAIM_NODES
