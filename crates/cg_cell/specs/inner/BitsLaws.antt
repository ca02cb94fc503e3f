-- The laws of the domain of truth values.
use Rattle.std.specs.Prelude.{◌≡◌, ◌==◌, ℕ, Bool, true, false, not, ◌&&◌, nat_lt, [], refl, IsTrue}
use Rattle.std.proofs.Common.{◌∙◌, arith, sym, append-nil}
use Rattle.std.proofs.lemmas.Bool.Decides.{nat_tests}
use Rattle.cg_cell.specs.Domain.{IsDomain, Keeps, Seen}
use Rattle.cg_cell.specs.Bits.{bits_ops, one_if}

same : (s : Seen) → Keeps bits_ops s s
same s = record {
  number = refl;
  pairs = record { added = []; whole = sym (append-nil s.pairs) };
  valid = λ a h. h;
  bits = λ a bits h. refl;
}

valid_one_if : (b : Bool) → IsTrue (nat_lt (one_if b) 2)
valid_one_if true = refl
valid_one_if false = refl

bit_one_if : (b : Bool) → (one_if b == 1) ≡ b
bit_one_if true = refl
bit_one_if false = refl

not_bit : (a : ℕ) → IsTrue (nat_lt a 2) → (a == 0) ≡ not (a == 1)
not_bit a h = grind (arith, nat_tests)

pub bits_lawful : IsDomain bits_ops
bits_lawful = record {
  sound = λ s a h. refl;
  constant_stands = λ s b h. record { keeps = same s; valid = valid_one_if b; bit = λ bits. bit_one_if b };
  not_stands = λ s a h. record { keeps = same s; valid = valid_one_if (a == 0); bit = λ bits. bit_one_if (a == 0) ∙ not_bit a h };
  and_stands =
      λ s a b h k. record {
        keeps = same s;
        valid = valid_one_if ((a == 1) && (b == 1));
        bit = λ bits. bit_one_if ((a == 1) && (b == 1));
      };
}
