-- How a domain's operations are built from one another, step by step and in order: a run lists the
-- calls of `and`, with the domain and the operands at each, and ends in an answer and a domain.
use Rattle.std.specs.Prelude.{◌≡◌, ◌⊎◌, ℕ, List, [], ◌∷◌, ◌++◌, Bool}
use Rattle.cg_cell.specs.Domain.{Made, Ops, Seen, Stands, after}

-- A call of `and`: the domain before it, and its operands.
pub record AndCall : Type 0 where
  pub domain : Seen
  pub left : ℕ
  pub right : ℕ

-- What a building gives: its calls of `and` in order, the answer, and the domain after it.
pub record Run : Type 0 where
  pub calls : List AndCall
  pub answer : ℕ
  pub domain : Seen

-- A run that calls nothing.
abbrev pub plain : ℕ → Seen → Run
plain a s = record { calls = []; answer = a; domain = s }

-- A run of one operation that is no `and`.
abbrev pub made : Seen → Made → Run
made s m = plain m.answer (after s m)

-- One run, and then one that takes its answer and the domain after it.
abbrev pub chain : Run → (ℕ → Seen → Run) → Run
chain r next = let t = next r.answer r.domain in record { calls = r.calls ++ t.calls; answer = t.answer; domain = t.domain }

abbrev pub build_not : Ops → ℕ → Seen → Run
build_not o a s = made s (o.not_of s a)

abbrev pub build_and : Ops → ℕ → ℕ → Seen → Run
build_and o a b s = record {
  calls = record { domain = s; left = a; right = b } ∷ [];
  answer = (o.and_of s a b).answer;
  domain = after s (o.and_of s a b);
}

-- a or b: not (and (not a) (not b))
abbrev pub build_or : Ops → ℕ → ℕ → Seen → Run
build_or o a b s =
    chain (build_not o a s) (λ na t.
    chain (build_not o b t) (λ nb u.
    chain (build_and o na nb u) (build_not o)))

-- a exclusive-or b: or (and a (not b)) (and (not a) b), the left side first
abbrev pub build_xor : Ops → ℕ → ℕ → Seen → Run
build_xor o a b s =
    chain (build_not o b s) (λ nb t.
    chain (build_and o a nb t) (λ left u.
    chain (build_not o a u) (λ na v.
    chain (build_and o na b v) (λ right w. build_or o left right w))))

-- a where c is 1, and b where it is 0: or (and c a) (and (not c) b), the left side first
abbrev pub build_mux : Ops → ℕ → ℕ → ℕ → Seen → Run
build_mux o c a b s =
    chain (build_and o c a s) (λ left t.
    chain (build_not o c t) (λ nc u.
    chain (build_and o nc b u) (λ right v. build_or o left right v)))

-- a call gave what the run gives
pub record Builds (r : Run) (t : Seen) (answer : ℕ) : Type 0 where
  pub answered : r.answer ≡ answer
  pub left : r.domain ≡ t

-- A run was made from s to t, and its answer stands for a bit.
pub record Evaluates (o : Ops) (s t : Seen) (answer : ℕ) (r : Run) (value : List Bool → Bool) : Type 0 where
  pub builds : Builds r t answer
  pub stands : Stands o s t answer value

-- P holds of some element.
abbrev pub Somewhere : {X : Type 0} → (X → Type 0) → List X → Type 0
Somewhere P [] = ⊥
Somewhere P (x ∷ xs) = P x ⊎ Somewhere P xs

-- This call of `and` may answer the fault, and leaves the domain as it was, which is t.
pub record RefusesAt {F : Type 0} (refuses : Seen → ℕ → ℕ → F → Type 0) (fault : F) (t : Seen) (call : AndCall) : Type 0 where
  pub allowed : refuses call.domain call.left call.right fault
  pub left : call.domain ≡ t

-- A run stopped at one of its calls of `and`, with the fault of that call, in the domain t.
pub record Stops {F : Type 0} (refuses : Seen → ℕ → ℕ → F → Type 0) (r : Run) (fault : F) (t : Seen) : Type 0 where
  pub at : Somewhere (RefusesAt refuses fault t) r.calls
