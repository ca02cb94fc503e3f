-- How a stage ends by the measure of a claim, and what the definition of trying says of that.
use Rattle.std.proofs.Common.{◌≡◌, ℕ, Bool, true, false, if◌then◌else◌, List, ◌∷◌, nat_lt, Option, None, Some, Result, Ok, Err}
use Rattle.std.proofs.Common.{refl, ap, ◌⊎◌, inl, inr}
use Rattle.cg_limit.specs.declared.Limit.TheVariants.{ClaimNodes}
use Rattle.cg_netlist.specs.declared.fault.AddFault.{AddFault}
use Rattle.cg_netlist.specs.declared.fault.AddFault.TheVariants.{Limit as LimitFault, NoMemory}
use Rattle.cg_machine.specs.Machine.{MachineData}
use Rattle.cg_claim.specs.Leaves.{width_of}
use Rattle.cg_stage_list_laws.specs.HoldList.{is_large}
use Rattle.cg_plan_laws.specs.StageClaims.{NamedClaim}
use Rattle.cg_plan_laws.specs.Reported.{MayFail}
use Rattle.cg_plan_laws.specs.Trying.{Ends, Passes, Tried, measured}
use Rattle.cg_plan_laws.specs.declared.outcome.Outcome.{Outcome}
use Rattle.cg_plan_laws.specs.declared.outcome.Outcome.TheVariants.{Wide}
use Rattle.cg_plan.specs.inner.Measuring.{wide_end}

module _ (m : MachineData) (width : ℕ) (c : NamedClaim) where
  abbrev end_by : Bool → Bool → Result (Option Outcome) AddFault
  end_by wide large = if wide then Ok (Some (Wide c.0 (width_of m c.1))) else (if large then Err (LimitFault ClaimNodes) else Ok None)

  abbrev tried_by : Bool → Bool → Tried → Tried
  tried_by wide large rest = if wide then Ends (Wide c.0 (width_of m c.1)) else (if large then Passes ClaimNodes else rest)

  -- a claim that is built, before others
  pub measured_on : (claims : List NamedClaim) (later : Tried) → wide_end m width c ≡ Ok None → measured m width (c ∷ claims) later ≡ measured m width claims later
  measured_on claims later h = go (nat_lt width (width_of m c.1)) (is_large m c.1) h
    where
      go : (w l : Bool) → end_by w l ≡ Ok None → tried_by w l (measured m width claims later) ≡ measured m width claims later
      go true l h = absurd (cc)
      go false true h = absurd (cc)
      go false false h = refl

  -- one that is too wide
  pub measured_end : (claims : List NamedClaim) (later : Tried) (end : Outcome) → wide_end m width c ≡ Ok (Some end) → measured m width (c ∷ claims) later ≡ Ends end
  measured_end claims later end h = go (nat_lt width (width_of m c.1)) (is_large m c.1) h
    where
      go : (w l : Bool) → end_by w l ≡ Ok (Some end) → tried_by w l (measured m width claims later) ≡ Ends end
      go true l h = ap Ends (let e : Wide c.0 (width_of m c.1) ≡ end = cc in e)
      go false true h = absurd (cc)
      go false false h = absurd (cc)

  -- one that is not built
  pub measured_fault : (claims : List NamedClaim) (later : Tried) (fault : AddFault) → (fault ≡ NoMemory) ⊎ (wide_end m width c ≡ Err fault) → MayFail (measured m width (c ∷ claims) later) fault
  measured_fault claims later NoMemory h = tt
  measured_fault claims later (LimitFault limit) (inl is) = absurd (cc)
  measured_fault claims later (LimitFault limit) (inr h) = go (nat_lt width (width_of m c.1)) (is_large m c.1) h
    where
      go : (w l : Bool) → end_by w l ≡ Err (LimitFault limit) → tried_by w l (measured m width claims later) ≡ Passes limit
      go true l h = absurd (cc)
      go false true h = ap Passes (let e : ClaimNodes ≡ limit = cc in e)
      go false false h = absurd (cc)

  -- an end by its measure tells no bits
  pub ends_wide : (end : Outcome) → wide_end m width c ≡ Ok (Some end) → (n : ℕ) × (end ≡ Wide c.0 n)
  ends_wide end h = go (nat_lt width (width_of m c.1)) (is_large m c.1) h
    where
      go : (w l : Bool) → end_by w l ≡ Ok (Some end) → (n : ℕ) × (end ≡ Wide c.0 n)
      go true l is = (width_of m c.1, let e : end ≡ Wide c.0 (width_of m c.1) = cc in e)
      go false true is = absurd (cc)
      go false false is = absurd (cc)
