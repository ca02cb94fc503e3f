-- Which literals are of a node of a list.
use Rattle.std.proofs.Common.{◌≡◌, ℕ, ◌+◌, ◌*◌, ◌/◌, ◌&&◌, sym, ◌∙◌, ap, arith, length}
use Rattle.std.specs.Prelude.{nat_le, nat_lt}
use Rattle.std.proofs.Math.Bool.{and-true}
use Rattle.std.proofs.lemmas.Bool.Decides.{nat_tests}
use Rattle.cg_cell.specs.Domain.{Seen}
use Rattle.cg_aig.specs.Aig.{IsAig, aig_ops, nodes}

same_test : (a n : ℕ) → nat_le (a / 2) n ≡ nat_lt a (2 * (1 + n))
same_test a n = grind (arith, nat_tests)

pub contains_is : (s : Seen) (a : ℕ) → IsAig s → nat_le (a / 2) (s.number + length s.pairs) ≡ aig_ops.is_valid s a
contains_is s a h =
    let n : 1 + (s.number + length s.pairs) ≡ nodes s = omega arith in
    same_test a (s.number + length s.pairs)
    ∙ (ap (λ m. nat_lt a (2 * m)) n ∙ (sym (and-true (nat_lt a (2 * nodes s))) ∙ ap (λ b. nat_lt a (2 * nodes s) && b) (sym h.sound)))
