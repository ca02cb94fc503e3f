-- Where a pair stands that is put into a set of pairs.
use Rattle.std.proofs.Common.{◌≡◌, ℕ, ◌+◌, ◌*◌, ◌<◌, ◌≤◌, Bool, true, false, not, cond, if◌then◌else◌, List, [], ◌∷◌, ◌++◌, length, None, Some, Result, Ok, Err, refl, sym, ◌∙◌, ap, subst, arith}
use Rattle.std.specs.Prelude.{nat_lt}
use Rattle.std.specs.List.{list_any, position_or_len}
use Rattle.std.specs.Result.{IfErr, IsErrAnd}
use Rattle.std.proofs.lemmas.Bool.Decides.{nat_tests}
use Rattle.std.proofs.lemmas.List.Sums.{prefix_len-le-length}
use Rattle.cg_cell.specs.Domain.{Makes, Seen}
use Rattle.cg_aig.specs.Aig.{pair_node, pair_node_at, same_pair}
use Rattle.cg_aig.specs.Limits.{IsNew, PutRefuses}
use Rattle.cg_aig.specs.declared.fault.AigFault.{AigFault}
use Rattle.cg_aig.specs.declared.fault.AigFault.TheVariants.{NoMemory}
use Rattle.cg_limit.specs.declared.TheConstants.{MOST_CLAIM_NODES}

-- some element passes a test where the first that does stands below the length
any_first : {X : Type 0} (p : X → Bool) (xs : List X) → list_any p xs ≡ nat_lt (position_or_len p xs) (length xs)
any_first p [] = refl
any_first p (x ∷ xs) = grind (arith, nat_tests, any_first p xs)

-- a pair that is not in the set is new
pub absent_new : (s : Seen) (p : ℕ × ℕ) → list_any (same_pair p) s.pairs ≡ false → IsNew s p
absent_new s p absent = ap (λ b. cond b (Some (position_or_len (same_pair p) s.pairs)) None) (sym (any_first (same_pair p) s.pairs) ∙ absent)

-- where a new pair finds no memory below the limit, that is why its node is refused
pub no_memory : {X : Type 0} (s : Seen) (p : ℕ × ℕ) (r : Result X AigFault) → IsNew s p → s.number + length s.pairs < MOST_CLAIM_NODES
    → IsErrAnd r (λ fault. fault ≡ NoMemory) → IfErr r (PutRefuses s p)
no_memory s p (Ok v) new room said = absurd said
no_memory s p (Err fault) new room said = subst (PutRefuses s p) (sym said) (new, room)

-- the set holds the node of the pair, at this place
pub put_node : (s : Seen) (p : ℕ × ℕ) (pairs : List (ℕ × ℕ)) (k answer : ℕ)
    → pairs ≡ (if list_any (same_pair p) s.pairs then s.pairs else s.pairs ++ p ∷ [])
    → k ≡ position_or_len (same_pair p) s.pairs
    → answer ≡ 2 * (1 + s.number + k)
    → Makes s (pair_node s p) (record { number = s.number; pairs = pairs }) answer
put_node s p pairs k answer keys place is = go (nat_lt first (length s.pairs)) refl
  where
    first : ℕ
    first = position_or_len (same_pair p) s.pairs

    left : (b : Bool) → nat_lt first (length s.pairs) ≡ b → (if b then s.pairs else s.pairs ++ p ∷ []) ≡ pairs
    left b e = sym (keys ∙ ap (λ c. if c then s.pairs else s.pairs ++ p ∷ []) (any_first (same_pair p) s.pairs ∙ e))

    go : (b : Bool) → nat_lt first (length s.pairs) ≡ b → Makes s (pair_node_at (cond b (Some first) None) s p) (record { number = s.number; pairs = pairs }) answer
    go true e = record { answered = omega (arith, place, is); left = ap (λ ps. record { number = s.number; pairs = ps }) (left true e) }
    go false e = record {
      answered = let most = prefix_len-le-length (λ q. not (same_pair p q)) s.pairs in let last : length s.pairs ≤ first = grind (arith, nat_tests, e) in omega (arith, place, is, most, last);
      left = ap (λ ps. record { number = s.number; pairs = ps }) (left false e);
    }
