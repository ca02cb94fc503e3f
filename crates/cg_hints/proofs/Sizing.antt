-- The size of a claim that is built, and of one that is refused.
use Rattle.std.proofs.Common.{◌≡◌, ◌<◌, ◌≤◌, ℕ, Bool, true, false, if◌then◌else◌, nat_lt, None, Some, Result, Ok, Err, IfOk, refl, sym, ◌∙◌, ap, arith}
use Rattle.std.proofs.lemmas.Bool.{lt-ltb}
use Rattle.cg_limit.specs.declared.TheConstants.{MOST_CLAIM_NODES}
use Rattle.cg_machine.specs.Machine.{MachineData}
use Rattle.cg_hint_laws.specs.Build.{nodes_of}
use Rattle.cg_hint_laws.specs.Leaves.{width_of}
use Rattle.cg_hint_laws.specs.Question.{Question}
use Rattle.cg_hint_laws.proofs.Listed.{at_most}
use Rattle.cg_hints.specs.declared.claims.Size.{Size}
use Rattle.cg_hints.specs.declared.claims.Size.TheVariants.{Fits as FitsSize, Large, Wide}
use Rattle.cg_hints.specs.inner.Judging.{IsBuilt, size_of}
use Rattle.cg_hints.specs.inner.Sizes.{SizedAs, is_large, too_many}
use Rattle.cg_unroll.specs.declared.claim.Claim.{Claim}
use Rattle.cg_unroll.specs.declared.claim.ClaimFault.{ClaimFault}
use Rattle.cg_unroll.specs.declared.claim.ClaimFault.TheVariants.{Limit as NodesLimit, NoMemory, Wide as TooManyLeaves}
use Rattle.cg_unroll_cycles.specs.Claims.{IsCycleRefused}

module _ (width : ℕ) (m : MachineData) (q : Question) where
  abbrev size_by : Bool → Bool → Size
  size_by too_wide too_large = if too_wide then Wide (width_of m q) else (if too_large then Large else FitsSize)

  abbrev wide : Bool
  wide = nat_lt width (width_of m q)

  abbrev large : Bool
  large = nat_lt MOST_CLAIM_NODES (nodes_of m q)

  pub size_fits : width_of m q ≤ width → nodes_of m q ≤ MOST_CLAIM_NODES → FitsSize ≡ size_of width m q
  size_fits narrow small = sym (ap (λ b. size_by b large) (at_most width (width_of m q) narrow) ∙ ap (size_by false) (at_most MOST_CLAIM_NODES (nodes_of m q) small))

  size_large : width_of m q ≤ width → MOST_CLAIM_NODES < nodes_of m q → Large ≡ size_of width m q
  size_large narrow more = sym (ap (λ b. size_by b large) (at_most width (width_of m q) narrow) ∙ ap (size_by false) (lt-ltb MOST_CLAIM_NODES (nodes_of m q) more))

  size_wide : (n : ℕ) → n ≡ width_of m q → width < n → Wide n ≡ size_of width m q
  size_wide n same more = ap (λ k. Wide k) same ∙ sym (ap (λ b. size_by b large) (lt-ltb width (width_of m q) (omega (arith, same, more))))

  pub size_refused : {E : Type 0} (fault : ClaimFault) (r : Result Size E) → IfOk r (SizedAs fault) → IsCycleRefused m q width fault → IfOk r (λ size. size ≡ size_of width m q)
  size_refused fault (Err e) told is = tt
  size_refused (TooManyLeaves n) (Ok size) told is = told ∙ size_wide n is.0 is.1
  size_refused (NodesLimit which) (Ok size) told is = told ∙ size_large is.1 is.2
  size_refused NoMemory (Ok size) told is = absurd told

  -- one that is refused is too wide or too large, and so need not be built
  pub built_refused : {E : Type 0} (fault : ClaimFault) (r : Result Size E) (claim : Claim) → IfOk r (SizedAs fault) → IfOk r (IsBuilt m q width claim)
  built_refused fault (Err e) claim told = tt
  built_refused fault (Ok (Wide n)) claim told = tt
  built_refused fault (Ok Large) claim told = tt
  built_refused (TooManyLeaves n) (Ok FitsSize) claim told = absurd (cc)
  built_refused (NodesLimit which) (Ok FitsSize) claim told = absurd (cc)
  built_refused NoMemory (Ok FitsSize) claim told = absurd told

  -- what the size tells
  wide_by : (a b : Bool) (n : ℕ) → too_many (size_by a b) ≡ Some n → (a ≡ true) × (n ≡ width_of m q)
  wide_by true b n is = let same : width_of m q ≡ n = cc in (cc, sym same)
  wide_by false true n is = absurd (cc)
  wide_by false false n is = absurd (cc)

  narrow_by : (a b : Bool) → too_many (size_by a b) ≡ None → (a ≡ false) × (is_large (size_by a b) ≡ b)
  narrow_by true b is = absurd (cc)
  narrow_by false true is = (cc, cc)
  narrow_by false false is = (cc, cc)

  module _ (size : Size) (is : size ≡ size_of width m q) where
    pub wide_told : (n : ℕ) → too_many size ≡ Some n → (nat_lt width (width_of m q) ≡ true) × (n ≡ width_of m q)
    wide_told n some = wide_by wide large n (ap too_many (sym is) ∙ some)

    pub narrow_told : too_many size ≡ None → (nat_lt width (width_of m q) ≡ false) × (is_large size ≡ nat_lt MOST_CLAIM_NODES (nodes_of m q))
    narrow_told none = let told = narrow_by wide large (ap too_many (sym is) ∙ none) in (told.0, ap is_large is ∙ told.1)

-- one that is neither too wide nor too large fits
pub fits_told : (size : Size) → too_many size ≡ None → is_large size ≡ false → size ≡ FitsSize
fits_told FitsSize narrow small = refl
fits_told (Wide n) narrow small = absurd (cc)
fits_told Large narrow small = absurd (cc)
