-- Runs only grow the list: what each call of `and` leaves is a front part of what the whole run leaves.
use Rattle.std.proofs.Common.{◌≡◌, ℕ, Bool, List, [], ◌∷◌, ◌++◌, refl, ◌∙◌}
use Rattle.std.specs.List.{AllByRecursion}
use Rattle.cg_cell.specs.Domain.{GrowsAtEnd, Ops, Seen}
use Rattle.cg_cell.specs.Build.{AndCall, Run, build_and, build_mux, build_not, build_or, build_xor, chain, plain}
use Rattle.cg_cell.specs.Eval.{build_term}
use Rattle.cg_cell.specs.Term.{Term, Bit, Input, Inverse, Both, Either, Differ}
use Rattle.cg_cell.proofs.Building.{extends_self, extends_then}

-- an operation only adds to the list, whatever its operands
pub record IsGrowing (o : Ops) : Type 0 where
  pub constant : (s : Seen) (b : Bool) → GrowsAtEnd s.pairs (o.constant_of s b).pairs
  pub inverse : (s : Seen) (a : ℕ) → GrowsAtEnd s.pairs (o.not_of s a).pairs
  pub both : (s : Seen) (a b : ℕ) → GrowsAtEnd s.pairs (o.and_of s a b).pairs

-- what a call of `and` in a run from s leaves is a front part of these pairs
pub record IsFront (o : Ops) (s : Seen) (pairs : List (ℕ × ℕ)) (call : AndCall) : Type 0 where
  pub number : call.domain.number ≡ s.number
  pub pairs_kept : GrowsAtEnd (o.and_of call.domain call.left call.right).pairs pairs

-- a run from s ends in a list that begins with s, and with what each of its calls of `and` leaves
pub record Grows (o : Ops) (s : Seen) (r : Run) : Type 0 where
  pub number : r.domain.number ≡ s.number
  pub longer : GrowsAtEnd s.pairs r.domain.pairs
  pub calls : AllByRecursion (IsFront o s r.domain.pairs) r.calls

all_append : {X : Type 0} (P : X → Type 0) (xs ys : List X) → AllByRecursion P xs → AllByRecursion P ys → AllByRecursion P (xs ++ ys)
all_append P [] ys p q = q
all_append P (x ∷ xs) ys p q = (p.0, all_append P xs ys p.1 q)

all_weaker : {X : Type 0} (P Q : X → Type 0) → ((x : X) → P x → Q x) → (xs : List X) → AllByRecursion P xs → AllByRecursion Q xs
all_weaker P Q f [] p = tt
all_weaker P Q f (x ∷ xs) p = (f x p.0, all_weaker P Q f xs p.1)

module _ (o : Ops) (up : IsGrowing o) where
  pub grows_plain : (s : Seen) (a : ℕ) → Grows o s (plain a s)
  grows_plain s a = record { number = refl; longer = extends_self s.pairs; calls = tt }

  pub grows_then : (s : Seen) (r : Run) (next : ℕ → Seen → Run) → Grows o s r → Grows o r.domain (next r.answer r.domain) → Grows o s (chain r next)
  grows_then s r next p q =
      let t = next r.answer r.domain in
      record {
        number = q.number ∙ p.number;
        longer = extends_then s.pairs r.domain.pairs t.domain.pairs p.longer q.longer;
        calls = all_append (IsFront o s t.domain.pairs) r.calls t.calls
            (all_weaker (IsFront o s r.domain.pairs) (IsFront o s t.domain.pairs) (λ (call : AndCall) h. record { number = h.number; pairs_kept = extends_then (o.and_of call.domain call.left call.right).pairs r.domain.pairs t.domain.pairs h.pairs_kept q.longer }) r.calls p.calls)
            (all_weaker (IsFront o r.domain t.domain.pairs) (IsFront o s t.domain.pairs) (λ (call : AndCall) h. record { number = h.number ∙ p.number; pairs_kept = h.pairs_kept }) t.calls q.calls);
      }

  pub grows_not : (s : Seen) (a : ℕ) → Grows o s (build_not o a s)
  grows_not s a = record { number = refl; longer = up.inverse s a; calls = tt }

  pub grows_and : (s : Seen) (a b : ℕ) → Grows o s (build_and o a b s)
  grows_and s a b = record { number = refl; longer = up.both s a b; calls = (record { number = refl; pairs_kept = extends_self (o.and_of s a b).pairs }, tt) }

  pub grows_or : (s : Seen) (a b : ℕ) → Grows o s (build_or o a b s)
  grows_or s a b =
      grows_then s (build_not o a s) (λ na t. chain (build_not o b t) (λ nb u. chain (build_and o na nb u) (build_not o))) (grows_not s a)
      (let t = (build_not o a s).domain in let na = (build_not o a s).answer in
      grows_then t (build_not o b t) (λ nb u. chain (build_and o na nb u) (build_not o)) (grows_not t b)
      (let u = (build_not o b t).domain in let nb = (build_not o b t).answer in
      grows_then u (build_and o na nb u) (build_not o) (grows_and u na nb) (grows_not (build_and o na nb u).domain (build_and o na nb u).answer)))

  pub grows_xor : (s : Seen) (a b : ℕ) → Grows o s (build_xor o a b s)
  grows_xor s a b =
      grows_then s (build_not o b s) (λ nb t. chain (build_and o a nb t) (λ left u. chain (build_not o a u) (λ na v. chain (build_and o na b v) (λ right w. build_or o left right w)))) (grows_not s b)
      (let t = (build_not o b s).domain in let nb = (build_not o b s).answer in
      grows_then t (build_and o a nb t) (λ left u. chain (build_not o a u) (λ na v. chain (build_and o na b v) (λ right w. build_or o left right w))) (grows_and t a nb)
      (let u = (build_and o a nb t).domain in let left = (build_and o a nb t).answer in
      grows_then u (build_not o a u) (λ na v. chain (build_and o na b v) (λ right w. build_or o left right w)) (grows_not u a)
      (let v = (build_not o a u).domain in let na = (build_not o a u).answer in
      grows_then v (build_and o na b v) (λ right w. build_or o left right w) (grows_and v na b) (grows_or (build_and o na b v).domain left (build_and o na b v).answer))))

  pub grows_mux : (s : Seen) (c a b : ℕ) → Grows o s (build_mux o c a b s)
  grows_mux s c a b =
      grows_then s (build_and o c a s) (λ left t. chain (build_not o c t) (λ nc u. chain (build_and o nc b u) (λ right v. build_or o left right v))) (grows_and s c a)
      (let t = (build_and o c a s).domain in let left = (build_and o c a s).answer in
      grows_then t (build_not o c t) (λ nc u. chain (build_and o nc b u) (λ right v. build_or o left right v)) (grows_not t c)
      (let u = (build_not o c t).domain in let nc = (build_not o c t).answer in
      grows_then u (build_and o nc b u) (λ right v. build_or o left right v) (grows_and u nc b) (grows_or (build_and o nc b u).domain left (build_and o nc b u).answer)))

  pub grows_term : (x : Term) (inputs : List ℕ) (s : Seen) → Grows o s (build_term o inputs x s)
  grows_term (Bit b) inputs s = record { number = refl; longer = up.constant s b; calls = tt }
  grows_term (Input k) inputs s = record { number = refl; longer = extends_self s.pairs; calls = tt }
  grows_term (Inverse x) inputs s = grows_then s (build_term o inputs x s) (λ a t. build_not o a t) (grows_term x inputs s) (grows_not (build_term o inputs x s).domain (build_term o inputs x s).answer)
  grows_term (Both x y) inputs s =
      let r = build_term o inputs x s in let q = build_term o inputs y r.domain in
      grows_then s r (λ a t. chain (build_term o inputs y t) (λ b u. build_and o a b u)) (grows_term x inputs s)
      (grows_then r.domain q (λ b u. build_and o r.answer b u) (grows_term y inputs r.domain) (grows_and q.domain r.answer q.answer))
  grows_term (Either x y) inputs s =
      let r = build_term o inputs x s in let q = build_term o inputs y r.domain in
      grows_then s r (λ a t. chain (build_term o inputs y t) (λ b u. build_or o a b u)) (grows_term x inputs s)
      (grows_then r.domain q (λ b u. build_or o r.answer b u) (grows_term y inputs r.domain) (grows_or q.domain r.answer q.answer))
  grows_term (Differ x y) inputs s =
      let r = build_term o inputs x s in let q = build_term o inputs y r.domain in
      grows_then s r (λ a t. chain (build_term o inputs y t) (λ b u. build_xor o a b u)) (grows_term x inputs s)
      (grows_then r.domain q (λ b u. build_xor o r.answer b u) (grows_term y inputs r.domain) (grows_xor q.domain r.answer q.answer))
