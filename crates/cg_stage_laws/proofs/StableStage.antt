-- Stable: in a machine that delays E, the delay may become the enable of registers, joined with one that they have.
use Rattle.std.proofs.Common.{◌≡◌, ℕ, Bool, true, false, ◌&&◌, List, [], ◌∷◌, ◌++◌, length, slice_get, Option, refl, sym, ◌∙◌, ap}
use Rattle.std.proofs.Common.{subst, inl, inr, ◌⊎◌, ◌<◌, ◌≤◌, arith}
use Rattle.std.proofs.lemmas.Bool.{both_ways, cases_Bool}
use Rattle.cg_net.specs.NetSets.{is_in}
use Rattle.cg_netlist.specs.Moment.{bit}
use Rattle.cg_machine.specs.Claims.{Follows, Literal, Stable, any_at}
use Rattle.cg_machine.specs.Machine.{IsInputs, IsState, MachineData, enable_of, load, next, outputs_at, step, values}
use Rattle.cg_machine.proofs.Bits.{bit_past, each_bit, length-each, same_get}
use Rattle.cg_machine.specs.Run.{Same, Simulates, ones, with_enables}
use Rattle.cg_machine.proofs.Gated.{Gives, gated-off, gated-on, gated-outside, not_loaded, step_by}
use Rattle.cg_machine.proofs.Lists.{below_or}
use Rattle.cg_machine.proofs.Simulation.{same_by}

-- a step follows, whatever is asked
pub follows_step : (m : MachineData) (C : List ℕ) (s0 x0 : List Bool) → IsState m s0 → Follows m C s0 x0 (step m s0 x0)
follows_step m C s0 x0 long = record {
  long = length-each m (next m (values m s0 x0) s0);
  takes = λ r among. refl;
  keeps = λ r off. kept r off;
}
  where
    kept : (r : ℕ) → load (values m s0 x0) (enable_of m r) ≡ false → slice_get (step m s0 x0) r ≡ slice_get s0 r
    kept r off = same_get (step m s0 x0) s0 r (length-each m (next m (values m s0 x0) s0) ∙ sym long) (at (below_or (length m.circuit.registers) r))
      where
        at : (r < length m.circuit.registers) ⊎ (length m.circuit.registers ≤ r) → bit (step m s0 x0) r ≡ bit s0 r
        at (inl below) = each_bit m (next m (values m s0 x0) s0) r below ∙ not_loaded m (values m s0 x0) s0 r off
        at (inr past) = bit_past (step m s0 x0) r (omega (arith, length-each m (next m (values m s0 x0) s0))) ∙ sym (bit_past s0 r (omega (arith, long)))

-- register k takes E
abbrev pub Delays : MachineData → List Literal → ℕ → Type 0
Delays m E k = (s x : List Bool) → IsState m s → IsInputs m x → bit (step m s x) k ≡ any_at (values m s x) E

module _ (m : MachineData) (G : List ℕ) (own : Option ℕ) (e k : ℕ) (E : List Literal) (es : List (Option ℕ)) (gives : Gives m G own e es)
    (starts : (start : List Bool) → length start ≡ m.own_registers → IsState m (start ++ ones m))
    (one : (start : List Bool) → length start ≡ m.own_registers → bit (start ++ ones m) k ≡ true)
    (delays : Delays m E k)
    (joins : (s x : List Bool) → IsState m s → IsInputs m x → bit (values m s x) e ≡ (load (values m s x) own && bit s k))
    (claims : (r : ℕ) → is_in G r ≡ true → Stable m E r) where
  record Stepped (s : List Bool) : Type 0 where
    s0 : List Bool
    x0 : List Bool
    long : IsState m s0
    ins : IsInputs m x0
    is : s ≡ step m s0 x0

  abbrev R : List Bool → List Bool → Type 0
  R s t = IsState m s × (t ≡ s) × ((bit s k ≡ true) ⊎ Stepped s)

  by_one : (a b : Bool) → b ≡ true → (a && b) ≡ a
  by_one true b is = is
  by_one false b is = refl

  by_zero : (a b : Bool) → b ≡ false → (a && b) ≡ false
  by_zero true b is = is
  by_zero false b is = refl

  next_same : (s x : List Bool) → IsState m s → IsInputs m x → (bit s k ≡ true) ⊎ Stepped s → (r : ℕ) → next (with_enables m es) (values m s x) s r ≡ next m (values m s x) s r
  next_same s x long ins why r = elim (cases_Bool (bit s k)) [
    | inl on ↦ gated-on m G own e es gives (values m s x) s r (joins s x long ins ∙ by_one (load (values m s x) own) (bit s k) on)
    | inr off ↦ elim (cases_Bool (is_in G r)) [
      | inr out ↦ gated-outside m G own e es gives (values m s x) s r out
      | inl among ↦
          elim why [
            | inl on ↦ absurd (both_ways (bit s k) off on)
            | inr st ↦
                gated-off m G own e es gives (values m s x) s r among (joins s x long ins ∙ by_zero (load (values m s x) own) (bit s k) off)
                ∙ sym (claims r among st.s0 st.x0 s x st.long st.ins ins (subst (Follows m (r ∷ []) st.s0 st.x0) (sym st.is) (follows_step m (r ∷ []) st.s0 st.x0 st.long))
                (sym (delays st.s0 st.x0 st.long st.ins) ∙ (ap (λ u. bit u k) (sym st.is) ∙ off)))
          ]
    ]
  ]

  stable_sim : Simulates m (with_enables m es) R
  stable_sim = record {
    shows = λ s t x h ins. ap (λ u. outputs_at m u x) h.1;
    steps = λ s t x h ins. (
      length-each m (next m (values m s x) s),
      ap (λ u. step (with_enables m es) u x) h.1 ∙ step_by m G own e es gives s x (next_same s x h.0 ins h.2),
      inr (record { s0 = s; x0 = x; long = h.0; ins = ins; is = refl }),
    );
  }

  pub stable_same : Same m (with_enables m es)
  stable_same = same_by m (with_enables m es) R stable_sim refl refl (λ start long. (starts start long, refl, inl (one start long)))
