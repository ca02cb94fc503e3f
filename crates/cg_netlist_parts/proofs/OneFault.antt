-- Parts have one first fault at most.
use Rattle.std.specs.Prelude.{◌≡◌, List}
use Rattle.std.proofs.Common.{refl, ap, inl, inr}
use Rattle.std.specs.List.{before_first}
use Rattle.std.specs.Str.{bytes_eq}
use Rattle.std.proofs.lemmas.Bool.{cases_Bool}
use Rattle.cg_netlist_parts.specs.declared.fault.NetFault.{NetFault}
use Rattle.cg_netlist_parts.specs.declared.fault.NetFault.TheVariants.{TwoDrivers, NoDriver, Cycle, ClockFault, NoClock, NoMemory}
use Rattle.cg_netlist_parts.proofs.KnownNames.{known_each, same_word}
use Rattle.cg_netlist_parts.proofs.NamePlaces.{either_first}
use Rattle.cg_netlist_parts.specs.Faults.{EachNet, IsClockProper, IsDrivenIfUsed, IsDrivenOnce, IsEnding, IsFault, IsFaultless, IsFirstNot}
use Rattle.cg_netlist_parts.specs.Part.{Part, nets}
use Rattle.cg_net.specs.Names.{NetName}

module _ (parts : List Part) where
  no : (P : NetName → Type 0) (net : NetName) → EachNet parts P → IsFirstNot parts P net → ⊥
  no P net all first = first.fails (known_each P (nets parts) net all first.mentioned)

  one : (P : NetName → Type 0) (a b : NetName) → IsFirstNot parts P a → IsFirstNot parts P b → a ≡ b
  one P a b first other = elim (cases_Bool (bytes_eq a b)) [
    | inl same ↦ same_word a b same
    | inr apart ↦ absurd (elim (either_first (nets parts) a b first.mentioned other.mentioned apart) [
      | inl b_before ↦ other.fails (known_each P (before_first (bytes_eq a) (nets parts)) b first.before b_before)
      | inr a_before ↦ first.fails (known_each P (before_first (bytes_eq b) (nets parts)) a other.before a_before)
    ])
  ]

  pub no_fault : (f : NetFault) → IsFault parts f → IsFaultless parts → ⊥
  no_fault (TwoDrivers n) is fine = no (IsDrivenOnce parts) n fine.once is
  no_fault (NoDriver n) is fine = no (IsDrivenIfUsed parts) n fine.driven is.1
  no_fault (Cycle n) is fine = no (IsEnding parts) n fine.ending is.2
  no_fault (ClockFault n) is fine = no (IsClockProper parts) n fine.proper is.3
  no_fault NoClock is fine = is.4 fine.clocked
  no_fault NoMemory is fine = is

  pub one_fault : (f g : NetFault) → IsFault parts f → IsFault parts g → f ≡ g
  one_fault (TwoDrivers n) (TwoDrivers m) is other = ap (λ x. TwoDrivers x) (one (IsDrivenOnce parts) n m is other)
  one_fault (TwoDrivers n) (NoDriver m) is other = absurd (no (IsDrivenOnce parts) n other.0 is)
  one_fault (TwoDrivers n) (Cycle m) is other = absurd (no (IsDrivenOnce parts) n other.0 is)
  one_fault (TwoDrivers n) (ClockFault m) is other = absurd (no (IsDrivenOnce parts) n other.0 is)
  one_fault (TwoDrivers n) NoClock is other = absurd (no (IsDrivenOnce parts) n other.0 is)
  one_fault (NoDriver n) (TwoDrivers m) is other = absurd (no (IsDrivenOnce parts) m is.0 other)
  one_fault (NoDriver n) (NoDriver m) is other = ap (λ x. NoDriver x) (one (IsDrivenIfUsed parts) n m is.1 other.1)
  one_fault (NoDriver n) (Cycle m) is other = absurd (no (IsDrivenIfUsed parts) n other.1 is.1)
  one_fault (NoDriver n) (ClockFault m) is other = absurd (no (IsDrivenIfUsed parts) n other.1 is.1)
  one_fault (NoDriver n) NoClock is other = absurd (no (IsDrivenIfUsed parts) n other.1 is.1)
  one_fault (Cycle n) (TwoDrivers m) is other = absurd (no (IsDrivenOnce parts) m is.0 other)
  one_fault (Cycle n) (NoDriver m) is other = absurd (no (IsDrivenIfUsed parts) m is.1 other.1)
  one_fault (Cycle n) (Cycle m) is other = ap (λ x. Cycle x) (one (IsEnding parts) n m is.2 other.2)
  one_fault (Cycle n) (ClockFault m) is other = absurd (no (IsEnding parts) n other.2 is.2)
  one_fault (Cycle n) NoClock is other = absurd (no (IsEnding parts) n other.2 is.2)
  one_fault (ClockFault n) (TwoDrivers m) is other = absurd (no (IsDrivenOnce parts) m is.0 other)
  one_fault (ClockFault n) (NoDriver m) is other = absurd (no (IsDrivenIfUsed parts) m is.1 other.1)
  one_fault (ClockFault n) (Cycle m) is other = absurd (no (IsEnding parts) m is.2 other.2)
  one_fault (ClockFault n) (ClockFault m) is other = ap (λ x. ClockFault x) (one (IsClockProper parts) n m is.3 other.3)
  one_fault (ClockFault n) NoClock is other = absurd (no (IsClockProper parts) n other.3 is.3)
  one_fault NoClock (TwoDrivers m) is other = absurd (no (IsDrivenOnce parts) m is.0 other)
  one_fault NoClock (NoDriver m) is other = absurd (no (IsDrivenIfUsed parts) m is.1 other.1)
  one_fault NoClock (Cycle m) is other = absurd (no (IsEnding parts) m is.2 other.2)
  one_fault NoClock (ClockFault m) is other = absurd (no (IsClockProper parts) m is.3 other.3)
  one_fault NoClock NoClock is other = refl
  one_fault NoMemory g is other = absurd is
  one_fault f NoMemory is other = absurd other
