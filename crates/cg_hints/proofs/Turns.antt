-- How a hint ends by its claims, one after another.
use Rattle.std.proofs.Common.{◌≡◌, ℕ, zero, suc, Bool, true, false, not, cond, ◌||◌, if◌then◌else◌, is_some, nat_lt, List, [], ◌∷◌, ◌++◌, ◌+◌, slice_get, map, take}
use Rattle.std.proofs.Common.{unwrap_or, Option, None, Some, Result, Ok, Err, IfErr, IfOk, refl, sym, ◌∙◌, ap, subst, arith}
use Rattle.std.specs.List.{find}
use Rattle.std.specs.Option.{option_map, option_or}
use Rattle.cg_limit.specs.declared.Limit.TheVariants.{ClaimNodes}
use Rattle.cg_limit.specs.declared.TheConstants.{MOST_CLAIM_NODES}
use Rattle.cg_machine.specs.Machine.{MachineData}
use Rattle.cg_netlist.specs.declared.fault.AddFault.TheVariants.{Limit}
use Rattle.cg_hint_laws.specs.Answers.{AreAppended, MayFail, register_claims, without_bits}
use Rattle.cg_hint_laws.specs.Trying.{Answer, all_claims, claim_holds, claim_nodes, claim_width, first_refuted, never_idle}
use Rattle.cg_hint_laws.specs.declared.certificate.HintCertificate.{HintCertificate}
use Rattle.cg_hint_laws.specs.declared.hint.Hint.{Hint}
use Rattle.cg_hint_laws.specs.declared.outcome.HintClaim.{HintClaim}
use Rattle.cg_hint_laws.specs.declared.outcome.HintClaim.TheVariants.{Hold, Idle}
use Rattle.cg_hint_laws.specs.declared.outcome.HintOutcome.{HintOutcome}
use Rattle.cg_hint_laws.specs.declared.outcome.HintOutcome.TheVariants.{Refuted, Wide as TooWide}
use Rattle.cg_hints.proofs.Appending.{appended_more, appended_none}
use Rattle.cg_hints.specs.declared.standing.Standing.{Standing}
use Rattle.cg_hints.specs.declared.standing.Standing.TheVariants.{Large, Open, Settled}
use Rattle.cg_hints.specs.inner.Deciding.{CertifiesThese, CertifiesOn, Decides, certified}
use Rattle.cg_hints.specs.inner.Judging.{Certifying, IsJudged, by_claims, inserted}
use Rattle.cg_hints.specs.inner.Standing.{IsBackedBy, LeadsOn, end_of, ended, large_of, left_of, settled_of, settles}

module _ (width : ℕ) (m : MachineData) (h : Hint) where
  abbrev wide : HintClaim → Bool
  wide c = nat_lt width (claim_width m h c)

  abbrev big : HintClaim → Bool
  big c = nat_lt MOST_CLAIM_NODES (claim_nodes m h c)

  abbrev first_settled : List HintClaim → Option Answer
  first_settled [] = None
  first_settled (c ∷ claims) = option_or (settles m h c) (first_settled claims)

  -- by the first that is too wide, by one that is too large, and by what is settled first
  abbrev by_first : Option HintClaim → Bool → Option Answer → Answer
  by_first (Some c) large settled = Ok (TooWide c (claim_width m h c))
  by_first None large settled = if large then Err (Limit ClaimNodes) else unwrap_or settled (inserted m h)

  or_large : (large b : Bool) (c : HintClaim) (claims : List HintClaim) → ((large || b) || is_some (find big claims)) ≡ (large || is_some (cond b (Some c) (find big claims)))
  or_large true b c claims = refl
  or_large false true c claims = refl
  or_large false false c claims = refl

  or_settled : (a b c : Option Answer) → option_or (option_or a b) c ≡ option_or a (option_or b c)
  or_settled None b c = refl
  or_settled (Some x) b c = refl

  ended_first : (large : Bool) (settled : Option Answer) (claims : List HintClaim)
      → ended width m h large settled claims ≡ by_first (find wide claims) (large || is_some (find big claims)) (option_or settled (first_settled claims))
  ended_first true settled [] = refl
  ended_first false None [] = refl
  ended_first false (Some x) [] = refl
  ended_first large settled (c ∷ claims) = go (wide c) (ended_first (large || big c) (option_or settled (settles m h c)) claims)
    where
      go : (a : Bool) → ended width m h (large || big c) (option_or settled (settles m h c)) claims
          ≡ by_first (find wide claims) ((large || big c) || is_some (find big claims)) (option_or (option_or settled (settles m h c)) (first_settled claims))
          → (if a then Ok (TooWide c (claim_width m h c)) else ended width m h (large || big c) (option_or settled (settles m h c)) claims)
          ≡ by_first (cond a (Some c) (find wide claims)) (large || is_some (cond (big c) (Some c) (find big claims))) (option_or settled (option_or (settles m h c) (first_settled claims)))
      go true later = refl
      go false later =
          later
          ∙ (ap (λ b. by_first (find wide claims) b (option_or (option_or settled (settles m h c)) (first_settled claims))) (or_large large (big c) c claims)
          ∙ ap (by_first (find wide claims) (large || is_some (cond (big c) (Some c) (find big claims)))) (or_settled settled (settles m h c) (first_settled claims)))

  -- once a claim is too large, what is settled counts no more
  ended_large : (s t : Option Answer) (claims : List HintClaim) → ended width m h true s claims ≡ ended width m h true t claims
  ended_large s t claims = ended_first true s claims ∙ (go (find wide claims) ∙ sym (ended_first true t claims))
    where
      go : (w : Option HintClaim) → by_first w true (option_or s (first_settled claims)) ≡ by_first w true (option_or t (first_settled claims))
      go None = refl
      go (Some c) = refl

  -- the first register that can change its bit
  registers_settle : (rs : List ℕ) → first_settled (map Hold rs) ≡ option_map (λ (c : HintClaim). Ok (Refuted c [])) (find (λ (c : HintClaim). not (claim_holds m h c)) (map Hold rs))
  registers_settle [] = refl
  registers_settle (r ∷ rs) = go (claim_holds m h (Hold r)) (registers_settle rs)
    where
      go : (b : Bool) → first_settled (map Hold rs) ≡ option_map (λ (c : HintClaim). Ok (Refuted c [])) (find (λ (c : HintClaim). not (claim_holds m h c)) (map Hold rs))
          → option_or (if b then None else Some (Ok (Refuted (Hold r) []))) (first_settled (map Hold rs))
          ≡ option_map (λ (c : HintClaim). Ok (Refuted c [])) (cond (not b) (Some (Hold r)) (find (λ (c : HintClaim). not (claim_holds m h c)) (map Hold rs)))
      go true later = later
      go false later = refl

  abbrev claims_by : Option HintClaim → Option HintClaim → Option Answer → Answer
  claims_by w l s = unwrap_or (option_or (option_map (λ c. Ok (TooWide c (claim_width m h c))) w) (option_or (option_map (λ c. Err (Limit ClaimNodes)) l) s)) (inserted m h)

  same_by : (w l : Option HintClaim) (s : Option Answer) → by_first w (is_some l) s ≡ claims_by w l s
  same_by None None s = refl
  same_by None (Some c) s = refl
  same_by (Some d) None s = refl
  same_by (Some d) (Some c) s = refl

  -- all claims together
  pub ended_all : left_of width m h Open (all_claims h) ≡ by_claims width m h
  ended_all =
      ended_first false None (all_claims h)
      ∙ (ap (λ o. by_first (find wide (all_claims h)) (is_some (find big (all_claims h))) (option_or (never_idle m h) o)) (registers_settle h.regs)
      ∙ same_by (find wide (all_claims h)) (find big (all_claims h)) (option_or (never_idle m h) (first_refuted m h)))

  -- a claim that is too wide ends the hint
  pub wide_ends : (standing : Standing) (c : HintClaim) (claims : List HintClaim) (given : Answer) → left_of width m h standing (c ∷ claims) ≡ given → wide c ≡ true
      → IsJudged m h given (Some (TooWide c (claim_width m h c)))
  wide_ends standing c claims given left is =
      ((sym left ∙ ap (λ b. if b then Ok (TooWide c (claim_width m h c)) else ended width m h (large_of standing || big c) (option_or (settled_of standing) (settles m h c)) claims) is, tt), refl)

  -- once all had their turn
  pub judged_end : (standing : Standing) (given : Answer) → left_of width m h standing [] ≡ given → IsBackedBy m h standing → IfOk (end_of standing) (IsJudged m h given)
  judged_end Open given left backed = sym left
  judged_end (Settled outcome) given left backed = ((sym left, backed.0), backed.1)
  judged_end Large given left backed = tt

  pub failed_end : (standing : Standing) (given : Answer) → left_of width m h standing [] ≡ given → IfErr (end_of standing) (MayFail given)
  failed_end Open given left = tt
  failed_end (Settled outcome) given left = tt
  failed_end Large given left = sym left

  module _ (c : HintClaim) (narrow : wide c ≡ false) where
    on : (standing : Standing) (claims : List HintClaim) → left_of width m h standing (c ∷ claims) ≡ ended width m h (large_of standing || big c) (option_or (settled_of standing) (settles m h c)) claims
    on standing claims = ap (λ b. if b then Ok (TooWide c (claim_width m h c)) else ended width m h (large_of standing || big c) (option_or (settled_of standing) (settles m h c)) claims) narrow

    -- a claim that is too large
    pub leads_large : (standing : Standing) → big c ≡ true → LeadsOn width m h c standing Large
    leads_large standing is claims =
        on standing claims
        ∙ (ap (λ b. ended width m h b (option_or (settled_of standing) (settles m h c)) claims) (ap (λ b. large_of standing || b) is ∙ all (large_of standing))
        ∙ ended_large (option_or (settled_of standing) (settles m h c)) None claims)
      where
        all : (b : Bool) → (b || true) ≡ true
        all true = refl
        all false = refl

    -- one that comes behind a large one
    pub large_on : LeadsOn width m h c Large Large
    large_on claims = on Large claims ∙ ended_large (settles m h c) None claims

    -- one behind which the hint ends as it is settled
    pub settled_on : (end : HintOutcome) → big c ≡ false → LeadsOn width m h c (Settled end) (Settled end)
    settled_on end is claims = on (Settled end) claims ∙ ap (λ b. ended width m h b (Some (Ok (without_bits end))) claims) is

    -- one that is decided
    decided_on : (next : Standing) → big c ≡ false → Decides m h c next → LeadsOn width m h c Open next
    decided_on Open is none claims = on Open claims ∙ (ap (λ b. ended width m h b (settles m h c) claims) is ∙ ap (λ o. ended width m h false o claims) none)
    decided_on (Settled end) is some claims = on Open claims ∙ (ap (λ b. ended width m h b (settles m h c) claims) is ∙ ap (λ o. ended width m h false o claims) some.0)
    decided_on Large is none claims = absurd none

    pub decision_leads : {E : Type 0} (r : Result Standing E) → big c ≡ false → IfOk r (Decides m h c) → IfOk r (LeadsOn width m h c Open)
    decision_leads (Ok next) is decides = decided_on next is decides
    decision_leads (Err e) is decides = tt

-- what is decided is backed
decided_backed : (m : MachineData) (h : Hint) (c : HintClaim) (next : Standing) → Decides m h c next → IsBackedBy m h next
decided_backed m h c Open is = tt
decided_backed m h c (Settled end) is = is.1
decided_backed m h c Large is = absurd is

pub decision_backed : {E : Type 0} (m : MachineData) (h : Hint) (c : HintClaim) (r : Result Standing E) → IfOk r (Decides m h c) → IfOk r (IsBackedBy m h)
decision_backed m h c (Ok next) is = decided_backed m h c next is
decision_backed m h c (Err e) is = tt

-- certificates of claims one after another
module _ (proof : Bool) (number : ℕ) (m : MachineData) (h : Hint) where
  certified_behind : (claims more : List HintClaim) → certified number m h (claims ++ more) ≡ certified number m h claims ++ certified number m h more
  certified_behind [] more = refl
  certified_behind (Idle ∷ claims) more = certified_behind claims more
  certified_behind (Hold r ∷ claims) more = ap (λ l. record { machine = m; hint = h; number = number; register = r } ∷ l) (certified_behind claims more)

  certified_registers : (rs : List ℕ) → certified number m h (map Hold rs) ≡ map (λ r. record { machine = m; hint = h; number = number; register = r }) rs
  certified_registers [] = refl
  certified_registers (r ∷ rs) = ap (λ l. record { machine = m; hint = h; number = number; register = r } ∷ l) (certified_registers rs)

  pub certified_all : certified number m h (all_claims h) ≡ register_claims number m h
  certified_all = certified_registers h.regs

  -- of claims behind which nothing is certified, and of one that is decided
  decided_certifies : (c : HintClaim) (middle after : List HintCertificate) (next : Standing) → CertifiesThese proof number m h (c ∷ []) middle after next → CertifiesOn proof number m h c middle after Open next
  decided_certifies c middle after Open one claims before all = go proof one all
    where
      go : (b : Bool) → AreAppended (if b then certified number m h (c ∷ []) else []) middle after → AreAppended (if b then certified number m h claims else []) before middle
          → AreAppended (if b then certified number m h (claims ++ c ∷ []) else []) before after
      go true own others = subst (λ l. AreAppended l before after) (sym (certified_behind claims (c ∷ []))) (appended_more (certified number m h claims) (certified number m h (c ∷ [])) before middle after others own)
      go false own others = appended_more [] [] before middle after others own
  decided_certifies c middle after (Settled end) one claims before all = tt
  decided_certifies c middle after Large one claims before all = tt

  pub decision_certifies : {E : Type 0} (c : HintClaim) (middle after : List HintCertificate) (r : Result Standing E) → IfOk r (CertifiesThese proof number m h (c ∷ []) middle after)
      → IfOk r (CertifiesOn proof number m h c middle after Open)
  decision_certifies c middle after (Ok next) one = decided_certifies c middle after next one
  decision_certifies c middle after (Err e) one = tt

  pub first_certifies : (before : List HintCertificate) → CertifiesThese proof number m h [] before before Open
  first_certifies before = go proof
    where
      go : (b : Bool) → AreAppended (if b then [] else []) before before
      go true = appended_none before before refl
      go false = appended_none before before refl

  pub certified_end : (standing : Standing) (before after : List HintCertificate) → CertifiesThese proof number m h (all_claims h) before after standing → IfOk (end_of standing) (Certifying proof m number h before after)
  certified_end Open before after all = subst (λ l. AreAppended (if proof then l else []) before after) certified_all all
  certified_end (Settled outcome) before after all = tt
  certified_end Large before after all = tt

-- the claims that had their turn, and one more
pub take_more : {T : Type 0} (xs : List T) (i : ℕ) (x : T) → slice_get xs i ≡ Some x → take (i + 1) xs ≡ take i xs ++ x ∷ []
take_more {T = T} xs i x at = let e : i + 1 ≡ suc i = omega arith in ap (λ n. take n xs) e ∙ go xs i at
  where
    go : (ys : List T) (k : ℕ) → slice_get ys k ≡ Some x → take (suc k) ys ≡ take k ys ++ x ∷ []
    go [] k is = absurd (cc)
    go (y ∷ ys) zero is = let same : y ≡ x = cc in ap (λ z. z ∷ []) same
    go (y ∷ ys) (suc k) is = ap (λ l. y ∷ l) (go ys k is)
