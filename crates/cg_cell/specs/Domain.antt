-- What clauses see of a domain, and its laws. A domain holds values that stand for bits: truth
-- values, or the literals of an and-inverter list. An assignment is a list of bits, and each valid
-- value of the domain stands for one bit under each assignment.
use Rattle.std.specs.Prelude.{◌≡◌, ℕ, Bool, not, ◌&&◌, List, ◌++◌, IsTrue}
use Rattle.std.specs.List.{AllByRecursion}

-- A domain, as clauses see it: a number, and a list of pairs of numbers. For an and-inverter list
-- these are the number of its leaves, and the operands of its and-nodes.
pub record Seen : Type 0 where
  pub number : ℕ
  pub pairs : List (ℕ × ℕ)

-- What one operation gives: the answer's number, and the pairs after the call.
pub record Made : Type 0 where
  pub answer : ℕ
  pub pairs : List (ℕ × ℕ)

-- The domain after an operation, which never changes the domain's number.
abbrev pub after : Seen → Made → Seen
after s m = record { number = s.number; pairs = m.pairs }

-- A call from s to t gave what the operation gives.
pub record Makes (s : Seen) (m : Made) (t : Seen) (answer : ℕ) : Type 0 where
  pub answered : m.answer ≡ answer
  pub left : after s m ≡ t

-- What a domain defines: its three operations, which domains are sound, which values are valid,
-- and the bit that a value stands for under an assignment.
pub record Ops : Type 0 where
  pub constant_of : Seen → Bool → Made
  pub not_of : Seen → ℕ → Made
  pub and_of : Seen → ℕ → ℕ → Made
  pub is_sound : Seen → Bool
  pub is_valid : Seen → ℕ → Bool
  pub bit : Seen → List Bool → ℕ → Bool

-- A list grew at its end, if at all.
pub record GrowsAtEnd (old new : List (ℕ × ℕ)) : Type 0 where
  pub added : List (ℕ × ℕ)
  pub whole : new ≡ old ++ added

-- From s to t the list grew at its end alone, and each value that was valid stays valid and keeps
-- its bits.
pub record Keeps (o : Ops) (s t : Seen) : Type 0 where
  pub number : t.number ≡ s.number
  pub pairs : GrowsAtEnd s.pairs t.pairs
  pub valid : (a : ℕ) → IsTrue (o.is_valid s a) → IsTrue (o.is_valid t a)
  pub bits : (a : ℕ) (bits : List Bool) → IsTrue (o.is_valid s a) → o.bit t bits a ≡ o.bit s bits a

-- From s to t the answer came to stand for a bit under each assignment.
pub record Stands (o : Ops) (s t : Seen) (answer : ℕ) (value : List Bool → Bool) : Type 0 where
  pub keeps : Keeps o s t
  pub valid : IsTrue (o.is_valid t answer)
  pub bit : (bits : List Bool) → o.bit t bits answer ≡ value bits

-- The laws of a domain: a domain with a valid value is sound, and each operation's answer stands
-- for the operation's bit.
pub record IsDomain (o : Ops) : Type 0 where
  pub sound : (s : Seen) (a : ℕ) → IsTrue (o.is_valid s a) → IsTrue (o.is_sound s)
  pub constant_stands : (s : Seen) (b : Bool) → IsTrue (o.is_sound s) →
      Stands o s (after s (o.constant_of s b)) (o.constant_of s b).answer (λ _. b)
  pub not_stands : (s : Seen) (a : ℕ) → IsTrue (o.is_valid s a) →
      Stands o s (after s (o.not_of s a)) (o.not_of s a).answer (λ bits. not (o.bit s bits a))
  pub and_stands : (s : Seen) (a b : ℕ) → IsTrue (o.is_valid s a) → IsTrue (o.is_valid s b) →
      Stands o s (after s (o.and_of s a b)) (o.and_of s a b).answer (λ bits. o.bit s bits a && o.bit s bits b)

-- Each of these values is valid.
abbrev pub AreValid : Ops → Seen → List ℕ → Type 0
AreValid o s values = AllByRecursion (λ a. IsTrue (o.is_valid s a)) values
