-- The first fault that checks find is that of the parts.
use Rattle.std.proofs.Common.{◌≡◌, ◌⊎◌, ℕ, ◌<◌, Bool, true, false, ◌||◌, nat_eq, nat_lt, List, [], ◌∷◌, Some, None, IsTrue, length}
use Rattle.std.proofs.Common.{refl, sym, ap, subst, arith, inl, inr}
use Rattle.std.specs.List.{All, AllByRecursion, flat_map}
use Rattle.std.proofs.lemmas.Bool.{and_from, and_parts, both_ways, cases_Bool, or_cases, or_parts, eq-eqb, eqb-true, lt-ltb}
use Rattle.std.proofs.lemmas.Bool.{ltb-true}
use Rattle.cg_cell.specs.Name.{is_name}
use Rattle.cg_netlist_parts.specs.declared.fault.NetFault.{NetFault}
use Rattle.cg_netlist_parts.specs.declared.fault.NetFault.TheVariants.{ClockFault, Cycle, NoClock, NoDriver, NoMemory, TwoDrivers}
use Rattle.cg_netlist_builder.specs.inner.FirstNet.{IsFirst}
use Rattle.cg_net.specs.Names.{NetName, is_known, net_name}
use Rattle.cg_netlist_builder.specs.inner.Finishing.{has_no_clock}
use Rattle.cg_netlist_builder.specs.inner.Heard.{IsHeard}
use Rattle.cg_netlist_builder.specs.inner.Numbers.{AreNumbers, Numbers, is_bad_clock, is_behind_cycle, is_driven_twice, is_undriven, rooted}
use Rattle.cg_netlist_builder.specs.inner.Numbers.{seen}
use Rattle.cg_netlist_parts.specs.Faults.{EachNet, IsClockProper, IsDrivenIfUsed, IsDrivenOnce, IsEnding, IsFault, IsFaultless}
use Rattle.cg_netlist_parts.specs.Part.{Part, mentioned, nets}
use Rattle.cg_netlist_parts.specs.Said.{said}
use Rattle.cg_netlist_parts.specs.Says.{IsPart}
use Rattle.cg_netlist_parts.proofs.ByKind.{has_once}
use Rattle.cg_netlist_builder.proofs.ChecksTell.{clock_first, clocked_if, clockless_if, cycle_first, twice_first, undriven_first}
use Rattle.cg_netlist.proofs.Each.{from_recursion}
use Rattle.cg_netlist_parts.proofs.KnownNames.{each_known, known_cases, known_each}

-- a fault that a check found
found : (parts : List Part) (n : Numbers) (make : NetName → NetFault) (test : ℕ → Bool) (fault : NetFault) → (fault ≡ NoMemory) ⊎ ((net : ℕ) × (fault ≡ make (net_name n.names net)) × IsFirst (length n.names) test (Some net))
    → ((net : ℕ) → IsFirst (length n.names) test (Some net) → IsFault parts (make (net_name n.names net))) → (fault ≡ NoMemory) ⊎ IsFault parts fault
found parts n make test fault (inl memory) is = inl memory
found parts n make test fault (inr at) is = inr (subst (IsFault parts) (sym at.1) (is at.0 at.2))

none_left : {X : Type 0} (xs : List X) → nat_lt 0 (length xs) ≡ false → xs ≡ []
none_left [] e = refl
none_left (x ∷ xs) e = absurd (both_ways (nat_lt 0 (length (x ∷ xs))) e (lt-ltb 0 (length (x ∷ xs)) (omega arith)))

no_places : {X : Type 0} (xs : List X) → nat_eq (length xs) 0 ≡ true → xs ≡ []
no_places [] e = refl
no_places (x ∷ xs) e = absurd (let none : length (x ∷ xs) ≡ 0 = eqb-true (length (x ∷ xs)) 0 e in let bad : ⊥ = omega (arith, none) in bad)

module _ (parts : List Part) (n : Numbers) (ok : AreNumbers n) (same : said parts ≡ seen n) where
  pub driver_fault : (fault : NetFault) → (fault ≡ NoMemory) ⊎ ((net : ℕ) × (fault ≡ TwoDrivers (net_name n.names net)) × IsFirst (length n.names) (is_driven_twice n) (Some net)) → (fault ≡ NoMemory) ⊎ IsFault parts fault
  driver_fault fault at = found parts n (λ net. TwoDrivers net) (is_driven_twice n) fault at (λ net first. twice_first parts n ok same (Some net) first)

  once : IsFirst (length n.names) (is_driven_twice n) None → EachNet parts (IsDrivenOnce parts)
  once none = twice_first parts n ok same None none

  pub use_fault : IsFirst (length n.names) (is_driven_twice n) None → (fault : NetFault) → (fault ≡ NoMemory) ⊎ ((net : ℕ) × (fault ≡ NoDriver (net_name n.names net)) × IsFirst (length n.names) (is_undriven n) (Some net)) → (fault ≡ NoMemory) ⊎ IsFault parts fault
  use_fault a fault at = found parts n (λ net. NoDriver net) (is_undriven n) fault at (λ net first. undriven_first parts n ok same (once a) (Some net) first)

  driven : IsFirst (length n.names) (is_driven_twice n) None → IsFirst (length n.names) (is_undriven n) None → EachNet parts (IsDrivenIfUsed parts)
  driven a b = undriven_first parts n ok same (once a) None b

  pub cycle_fault : IsFirst (length n.names) (is_driven_twice n) None → IsFirst (length n.names) (is_undriven n) None → (fault : NetFault) → (fault ≡ NoMemory) ⊎ ((net : ℕ) × (fault ≡ Cycle (net_name n.names net)) × IsFirst (length n.names) (is_behind_cycle n) (Some net))
      → (fault ≡ NoMemory) ⊎ IsFault parts fault
  cycle_fault a b fault at = found parts n (λ net. Cycle net) (is_behind_cycle n) fault at (λ net first. cycle_first parts n ok same (once a) (driven a b) (Some net) first)

  module _ (a : IsFirst (length n.names) (is_driven_twice n) None) (b : IsFirst (length n.names) (is_undriven n) None) (c : IsFirst (length n.names) (is_behind_cycle n) None) where
    ending : EachNet parts (IsEnding parts)
    ending = cycle_first parts n ok same (once a) (driven a b) None c

    pub clock_fault : (fault : NetFault) → (fault ≡ NoMemory) ⊎ ((net : ℕ) × (fault ≡ ClockFault (net_name n.names net)) × IsFirst (length n.names) (is_bad_clock n) (Some net)) → (fault ≡ NoMemory) ⊎ IsFault parts fault
    clock_fault fault at = found parts n (λ net. ClockFault net) (is_bad_clock n) fault at (λ net first. clock_first parts n ok same (once a) (driven a b) ending (Some net) first)

    proper : IsFirst (length n.names) (is_bad_clock n) None → EachNet parts (IsClockProper parts)
    proper d = clock_first parts n ok same (once a) (driven a b) ending None d

    pub no_clock_fault : IsFirst (length n.names) (is_bad_clock n) None → has_no_clock n ≡ true → IsFault parts NoClock
    no_clock_fault d lacks =
        let both = and_parts (nat_eq (length (rooted n)) 0) (nat_lt 0 (length n.registers) || nat_lt 0 (length n.gaters)) lacks in (
          once a,
          driven a b,
          ending,
          proper d,
          clockless_if parts n ok same (no_places (rooted n) both.0) (λ none. elim (or_cases (nat_lt 0 (length n.registers)) (nat_lt 0 (length n.gaters)) both.1) [
            | inl register ↦ (let some : 0 < length n.registers = ltb-true 0 (length n.registers) register in let bad : ⊥ = omega (arith, some, ap length none.0) in bad)
            | inr gater ↦ (let some : 0 < length n.gaters = ltb-true 0 (length n.gaters) gater in let bad : ⊥ = omega (arith, some, ap length none.1) in bad)
          ]),
        )

    pub no_fault_left : IsFirst (length n.names) (is_bad_clock n) None → has_no_clock n ≡ false → IsFaultless parts
    no_fault_left d has = record {
      once = once a;
      driven = driven a b;
      ending = ending;
      proper = proper d;
      clocked = clocked_if parts n ok same (λ none.
          let rest : (nat_lt 0 (length n.registers) || nat_lt 0 (length n.gaters)) ≡ false = elim (cases_Bool (nat_lt 0 (length n.registers) || nat_lt 0 (length n.gaters))) [
            | inl some ↦ absurd (both_ways (has_no_clock n) has (and_from (nat_eq (length (rooted n)) 0) (nat_lt 0 (length n.registers) || nat_lt 0 (length n.gaters)) (eq-eqb (length (rooted n)) 0 (ap length none)) some))
            | inr no' ↦ no'
          ] in
          let both = or_parts (nat_lt 0 (length n.registers)) (nat_lt 0 (length n.gaters)) rest in
          (none_left n.registers both.0, none_left n.gaters both.1));
    }

-- the nets of parts that a builder took have names
named_each : (ps : List Part) → AllByRecursion IsPart ps → (x : NetName) → is_known (flat_map mentioned ps) x ≡ true → IsTrue (is_name x)
named_each [] all x i = absurd (both_ways false refl i)
named_each (p ∷ ps) all x i = elim (known_cases (mentioned p) (flat_map mentioned ps) x i) [
  | inl here ↦ known_each (λ name. IsTrue (is_name name)) (mentioned p) x all.0.named here
  | inr later ↦ named_each ps all.1 x later
]

pub names_named : (model : NetName) (n : Numbers) → IsHeard model n → All (λ name. IsTrue (is_name name)) n.names
names_named model n heard =
    subst (All (λ name. IsTrue (is_name name))) (ap (λ s. s.nets) heard.heard)
    (from_recursion (λ name. IsTrue (is_name name)) (nets heard.parts) (each_known (λ name. IsTrue (is_name name)) (nets heard.parts) (λ x i. named_each heard.parts heard.taken.each x (has_once (flat_map mentioned heard.parts) x i))))
