-- The domain of truth values: its values are 0 and 1, which stand for themselves.
use Rattle.std.specs.Prelude.{◌==◌, ℕ, Bool, true, false, ◌&&◌, nat_lt, []}
use Rattle.cg_cell.specs.Domain.{Ops, Seen}

-- The number of a truth value.
abbrev pub one_if : Bool → ℕ
one_if true = 1
one_if false = 0

-- There is nothing to see of this domain but its values.
abbrev pub no_pairs : Seen
no_pairs = record { number = 0; pairs = [] }

-- The operations of truth values.
abbrev pub bits_ops : Ops
bits_ops = record {
  constant_of = λ s b. record { answer = one_if b; pairs = s.pairs };
  not_of = λ s a. record { answer = one_if (a == 0); pairs = s.pairs };
  and_of = λ s a b. record { answer = one_if ((a == 1) && (b == 1)); pairs = s.pairs };
  is_sound = λ s. true;
  is_valid = λ s a. nat_lt a 2;
  bit = λ s bits a. a == 1;
}
