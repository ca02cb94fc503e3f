-- How a function is built in a domain: an expression by its operators, the left operand before the
-- right one and the operator after both.
use Rattle.std.specs.Prelude.{ℕ, zero, suc, Bool, true, false, ◌&&◌, ◌||◌, List, map, slice_index_or, Option, None, Some, IsTrue}
use Rattle.cg_cell.specs.Domain.{Ops, Seen}
use Rattle.cg_cell.specs.Build.{Run, build_and, build_not, build_or, build_xor, chain, made, plain}
use Rattle.cg_cell.specs.Gates.{exclusive_or}
use Rattle.cg_cell.specs.Term.{Term, Bit, Input, Inverse, Both, Either, Differ, join_all}
use Rattle.cg_cell.specs.declared.eval.Operator.{Operator}
use Rattle.cg_cell.specs.declared.eval.Operator.TheVariants.{And, Or, Xor}

-- The building of a term over values that stand for its inputs.
abbrev pub build_term : Ops → List ℕ → Term → Seen → Run
build_term o inputs (Bit bit) s = made s (o.constant_of s bit)
build_term o inputs (Input k) s = plain (slice_index_or inputs k 0) s
build_term o inputs (Inverse x) s = chain (build_term o inputs x s) (λ a t. build_not o a t)
build_term o inputs (Both x y) s =
    chain (build_term o inputs x s) (λ a t. chain (build_term o inputs y t) (λ b u. build_and o a b u))
build_term o inputs (Either x y) s =
    chain (build_term o inputs x s) (λ a t. chain (build_term o inputs y t) (λ b u. build_or o a b u))
build_term o inputs (Differ x y) s =
    chain (build_term o inputs x s) (λ a t. chain (build_term o inputs y t) (λ b u. build_xor o a b u))

-- The bits that values stand for under an assignment.
abbrev pub bits_at : Ops → Seen → List ℕ → List Bool → List Bool
bits_at o s values bits = map (λ a. o.bit s bits a) values

-- A value, inverted as many times as the number says.
abbrev pub build_inverses : Ops → ℕ → ℕ → Seen → Run
build_inverses o zero a s = plain a s
build_inverses o (suc n) a s = chain (build_inverses o n a s) (λ b t. build_not o b t)

-- An operator's term, its building, its bit, and its bit where there are no operands.
abbrev pub operator_term : Operator → Term → Term → Term
operator_term And x y = Both x y
operator_term Or x y = Either x y
operator_term Xor x y = Differ x y

abbrev pub build_operator : Ops → Operator → ℕ → ℕ → Seen → Run
build_operator o And a b s = build_and o a b s
build_operator o Or a b s = build_or o a b s
build_operator o Xor a b s = build_xor o a b s

abbrev pub operator_bit : Operator → Bool → Bool → Bool
operator_bit And a b = a && b
operator_bit Or a b = a || b
operator_bit Xor a b = exclusive_or a b

abbrev pub operator_none : Operator → Bool
operator_none And = true
operator_none Or = false
operator_none Xor = false

-- The term of operands, joined from the left.
abbrev pub so_far : Operator → List Term → Term
so_far operator terms = join_all (operator_term operator) (Bit (operator_none operator)) terms

-- One more operand, joined to what is there.
abbrev pub build_joined : Ops → Operator → Option ℕ → ℕ → Seen → Run
build_joined o operator None b s = plain b s
build_joined o operator (Some a) b s = build_operator o operator a b s

abbrev pub joined_bit : Operator → Option Bool → Bool → Bool
joined_bit operator None b = b
joined_bit operator (Some a) b = operator_bit operator a b

-- A value that is there is valid.
abbrev pub IsValidIfAny : Ops → Seen → Option ℕ → Type 0
IsValidIfAny o s None = Unit {0}
IsValidIfAny o s (Some a) = IsTrue (o.is_valid s a)
