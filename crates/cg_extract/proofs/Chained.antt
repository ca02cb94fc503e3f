-- The enable of a gating cell is its enable net, or the and of the enable of the gating cell before it and its own.
use Rattle.std.proofs.Common.{◌≡◌, ◌⊎◌, ℕ, zero, suc, ◌+◌, ◌<◌, Bool, true, false, ◌||◌, cond, List, [], ◌∷◌, ◌++◌, length, map, slice_get}
use Rattle.std.proofs.Common.{nat_eq, bytes_eq, Option, None, Some, refl, ap, sym, ◌∙◌, subst, inl, inr, arith}
use Rattle.std.specs.List.{find}
use Rattle.std.specs.Option.{option_flatten, option_map}
use Rattle.std.proofs.lemmas.Bool.{and_parts, both_ways, eq-eqb, eqb-true, false_from_ne_true, or_cases, or_left, or_right}
use Rattle.std.proofs.lemmas.Option.{same_Some, slice_get-map, slice_get_within}
use Rattle.std.proofs.lemmas.Slice.Eq.{bytes_eq-Decides}
use Rattle.cg_cell.specs.declared.fit.FitKind.{FitKind}
use Rattle.cg_cell.specs.declared.fit.FitKind.TheVariants.{And2}
use Rattle.cg_extract.proofs.Depths.{all_taken, depth_ordered, depth_own}
use Rattle.cg_extract.proofs.Lifts.{enable_gater, lifting_lifts, taken}
use Rattle.cg_extract.specs.Chained.{AreChained, EnablesAreChained, IsAnd, IsChained}
use Rattle.cg_extract.specs.Lifted.{CanExtract, Lifting, by_depth, chained, enable_under, lift_each, lift_one, lifted, lifting, number_of}
use Rattle.cg_extract.specs.Lifted.{unlifted, with_entry}
use Rattle.cg_machine.proofs.Found.{At, find_at}
use Rattle.cg_machine.proofs.Lists.{get_front}
use Rattle.cg_machine.specs.Added.{Added, add_gate, find_gate, is_gate, next_gate, or_push, push_gate}
use Rattle.cg_machine.specs.Gates.{AddedGate, is_same_kind}
use Rattle.cg_machine.specs.Machine.{MachineData}
use Rattle.cg_net.proofs.Members.{member_at}
use Rattle.cg_net.specs.NetSets.{is_in}
use Rattle.cg_netlist.proofs.Given.{clock_no_gater, distinct_gaters}
use Rattle.cg_netlist.proofs.Solve.{place_of, place_of-at}
use Rattle.cg_netlist.proofs.Values.{at_map}
use Rattle.cg_netlist.specs.Chains.{chain}
use Rattle.cg_netlist.specs.Circuit.{Circuit, GatingCell, RegisterCell, gater_outputs}
use Rattle.cg_netlist.specs.Nets.{IsOrdered, outputs}
use Rattle.cg_netlist.specs.WellFormed.{IsWellFormed}

-- gates are put behind others, or none
abbrev MoreGates : MachineData → MachineData → Type 0
MoreGates m n = (k : ℕ) (gate : AddedGate) → slice_get m.gates k ≡ Some gate → slice_get n.gates k ≡ Some gate

last_there : {X : Type 0} (xs : List X) (x : X) → slice_get (xs ++ x ∷ []) (length xs) ≡ Some x
last_there [] x = refl
last_there (y ∷ xs) x = last_there xs x

-- an and that is added is there
is_and : (kind : FitKind) → is_same_kind And2 kind ≡ true → kind ≡ And2
is_and And2 h = refl
is_and _ h = absurd (both_ways false refl h)

module _ (m : MachineData) (a b : ℕ) where
  and_there : IsAnd (add_gate m And2 (a ∷ b ∷ [])).machine a b (add_gate m And2 (a ∷ b ∷ [])).net
  and_there = go (find_gate m And2 (a ∷ b ∷ [])) refl
    where
      found : (o : Option AddedGate) → find (is_gate And2 (a ∷ b ∷ [])) m.gates ≡ o → (net : ℕ) → option_map (λ (gate : AddedGate). gate.output) o ≡ Some net → IsAnd m a b net
      found None none net h = absurd (cc)
      found (Some gate) some net h =
          let f : At (is_gate And2 (a ∷ b ∷ [])) m.gates gate = find_at (is_gate And2 (a ∷ b ∷ [])) m.gates gate some in
          let p = and_parts (is_same_kind And2 gate.kind) (bytes_eq (a ∷ b ∷ []) gate.inputs) f.passes in
          let kind : gate.kind ≡ And2 = is_and gate.kind p.0 in
          let inputs : a ∷ b ∷ [] ≡ gate.inputs = (bytes_eq-Decides (a ∷ b ∷ []) gate.inputs).0 p.1 in
          let output : gate.output ≡ net = same_Some gate.output net h in
          let same : gate ≡ record { kind = And2; inputs = a ∷ b ∷ []; output = net } = λ i. record { kind = kind i; inputs = sym inputs i; output = output i } in
          record { place = f.place; at = f.at ∙ ap Some same }

      go : (o : Option ℕ) → find_gate m And2 (a ∷ b ∷ []) ≡ o → IsAnd (or_push m (push_gate m And2 (a ∷ b ∷ [])) o).machine a b (or_push m (push_gate m And2 (a ∷ b ∷ [])) o).net
      go None none = record { place = length m.gates; at = last_there m.gates (next_gate m And2 (a ∷ b ∷ [])) }
      go (Some net) some = found (find (is_gate And2 (a ∷ b ∷ [])) m.gates) refl net some

  and_more : MoreGates m (add_gate m And2 (a ∷ b ∷ [])).machine
  and_more = go (find_gate m And2 (a ∷ b ∷ []))
    where
      go : (o : Option ℕ) → MoreGates m (or_push m (push_gate m And2 (a ∷ b ∷ [])) o).machine
      go None = λ k gate at. get_front m.gates (next_gate m And2 (a ∷ b ∷ []) ∷ []) k (slice_get_within m.gates k gate at) ∙ at
      go (Some net) = λ k gate at. at

-- a chained enable stays one where gates are added
still_chained : (m n : MachineData) (under : Option ℕ) (own : ℕ) (enable : Option ℕ) → MoreGates m n → IsChained m under own enable → IsChained n under own enable
still_chained m n None own enable more is = is
still_chained m n (Some parent) own enable more is =
    let gate = is.2 in
    (is.0, is.1, record { place = gate.place; at = more gate.place (record { kind = And2; inputs = parent ∷ own ∷ []; output = is.0 }) gate.at })

-- what a gating cell gets is chained to what stands above it
new_chained : (m : MachineData) (under : Option ℕ) (own : ℕ) → IsChained (chained m under own).machine under own (Some (chained m under own).net)
new_chained m None own = refl
new_chained m (Some parent) own = ((add_gate m And2 (parent ∷ own ∷ [])).net, refl, and_there m parent own)

new_more : (m : MachineData) (under : Option ℕ) (own : ℕ) → MoreGates m (chained m under own).machine
new_more m None own = λ k gate at. at
new_more m (Some parent) own = and_more m parent own

-- what stands beside a net, where an entry of this or of another net was put before
under_this : (entries : List (ℕ × ℕ)) (net e : ℕ) → enable_under ((net, e) ∷ entries) net ≡ Some e
under_this entries net e = ap (λ b. cond b (Some e) (enable_under entries net)) (eq-eqb net net refl)

under_other : (entries : List (ℕ × ℕ)) (net e y : ℕ) → nat_eq y net ≡ false → enable_under ((net, e) ∷ entries) y ≡ enable_under entries y
under_other entries net e y other = ap (λ b. cond b (Some e) (enable_under entries y)) other

module _ (c : Circuit) (good : IsWellFormed c) where
  -- gating cells with one output are one
  one_gater : (k j : ℕ) (g h : GatingCell ℕ) → slice_get c.gaters k ≡ Some g → slice_get c.gaters j ≡ Some h → h.output ≡ g.output → h ≡ g
  one_gater k j g h at to same =
      let first : place_of (gater_outputs c) g.output ≡ Some k = place_of-at (gater_outputs c) k g.output (distinct_gaters c good.driven) (at_map (λ (g : GatingCell ℕ). g.output) c.gaters k g at) in
      let second : place_of (gater_outputs c) h.output ≡ Some j = place_of-at (gater_outputs c) j h.output (distinct_gaters c good.driven) (at_map (λ (g : GatingCell ℕ). g.output) c.gaters j h to) in
      let places : j ≡ k = same_Some j k (sym second ∙ (ap (place_of (gater_outputs c)) same ∙ first)) in
      same_Some h g (sym to ∙ (ap (slice_get c.gaters) places ∙ at))

  -- the gating cells that were taken are chained, and none that is left drives the clock pin of one that was taken
  abbrev Chained : Lifting → List (GatingCell ℕ) → Type 0
  Chained l gs = (k : ℕ) (h : GatingCell ℕ) → slice_get c.gaters k ≡ Some h → is_in (taken l.enables) h.output ≡ true
      → IsChained l.machine (enable_under l.enables h.clock) (number_of c h.enable) (enable_under l.enables h.output) × (is_in (outputs (chain gs)) h.clock ≡ false)

  not_first : (g : GatingCell ℕ) (gs : List (GatingCell ℕ)) (y : ℕ) → is_in (outputs (chain (g ∷ gs))) y ≡ false → (nat_eq y g.output ≡ false) × (is_in (outputs (chain gs)) y ≡ false)
  not_first g gs y none = (
    false_from_ne_true (nat_eq y g.output) (λ is. both_ways (is_in (outputs (chain (g ∷ gs))) y) none (or_left (nat_eq y g.output) (is_in (outputs (chain gs)) y) is)),
    false_from_ne_true (is_in (outputs (chain gs)) y) (λ is. both_ways (is_in (outputs (chain (g ∷ gs))) y) none (or_right (nat_eq y g.output) (is_in (outputs (chain gs)) y) is)),
  )

  one_more : (l : Lifting) (g : GatingCell ℕ) (gs : List (GatingCell ℕ)) (k : ℕ) → slice_get c.gaters k ≡ Some g → IsOrdered (chain (g ∷ gs)) → Chained l (g ∷ gs) → Chained (lift_one c l g) gs
  one_more l g gs k at ordered are j h to among = go (nat_eq h.output g.output) refl (or_cases (nat_eq h.output g.output) (is_in (taken l.enables) h.output) among)
    where
      under : Option ℕ
      under = enable_under l.enables g.clock

      own : ℕ
      own = number_of c g.enable

      e : ℕ
      e = (chained l.machine (enable_under l.enables g.clock) (number_of c g.enable)).net

      n : MachineData
      n = (chained l.machine (enable_under l.enables g.clock) (number_of c g.enable)).machine

      Wanted : GatingCell ℕ → Type 0
      Wanted h = IsChained n (enable_under ((g.output, e) ∷ l.enables) h.clock) (number_of c h.enable) (enable_under ((g.output, e) ∷ l.enables) h.output) × (is_in (outputs (chain gs)) h.clock ≡ false)

      this : Wanted g
      this =
          let apart = not_first g gs g.clock (ordered.0 g.clock (or_left (nat_eq g.clock g.clock) (is_in [] g.clock) (eq-eqb g.clock g.clock refl))) in (
            subst (λ (o : Option ℕ). IsChained n o own (enable_under ((g.output, e) ∷ l.enables) g.output)) (sym (under_other l.enables g.output e g.clock apart.0))
                (subst (λ (o : Option ℕ). IsChained n under own o) (sym (under_this l.enables g.output e)) (new_chained l.machine under own)),
            apart.1,
          )

      go : (b : Bool) → nat_eq h.output g.output ≡ b → (nat_eq h.output g.output ≡ true) ⊎ (is_in (taken l.enables) h.output ≡ true) → Wanted h
      go true is which = subst Wanted (sym (one_gater k j g h at to (eqb-true h.output g.output is))) this
      go false is (inl here) = absurd (both_ways (nat_eq h.output g.output) is here)
      go false is (inr before) =
          let old = are j h to before in
          let apart = not_first g gs h.clock old.1 in (
            subst (λ (o : Option ℕ). IsChained n o (number_of c h.enable) (enable_under ((g.output, e) ∷ l.enables) h.output)) (sym (under_other l.enables g.output e h.clock apart.0))
                (subst (λ (o : Option ℕ). IsChained n (enable_under l.enables h.clock) (number_of c h.enable) o) (sym (under_other l.enables g.output e h.output is))
                (still_chained l.machine n (enable_under l.enables h.clock) (number_of c h.enable) (enable_under l.enables h.output) (new_more l.machine under own) old.0)),
            apart.1,
          )

  abbrev Own : List (GatingCell ℕ) → Type 0
  Own gs = (j : ℕ) (g : GatingCell ℕ) → slice_get gs j ≡ Some g → (k : ℕ) × (slice_get c.gaters k ≡ Some g)

  all_more : (l : Lifting) (gs : List (GatingCell ℕ)) → Own gs → IsOrdered (chain gs) → Chained l gs → Chained (lift_each c l gs) []
  all_more l [] own ordered are = are
  all_more l (g ∷ gs) own ordered are = let k = own 0 g refl in all_more (lift_one c l g) gs (λ j. own (suc j)) ordered.1 (one_more l g gs k.0 k.1 ordered are)

  -- all that was taken stays taken
  stays : (l : Lifting) (gs : List (GatingCell ℕ)) (y : ℕ) → (is_in (taken l.enables) y ≡ true) ⊎ (is_in (map (λ (g : GatingCell ℕ). g.output) gs) y ≡ true) → is_in (taken (lift_each c l gs).enables) y ≡ true
  stays l [] y (inl before) = before
  stays l [] y (inr none) = absurd (both_ways false refl none)
  stays l (g ∷ gs) y (inl before) = stays (lift_one c l g) gs y (inl (or_right (nat_eq y g.output) (is_in (taken l.enables) y) before))
  stays l (g ∷ gs) y (inr there) = elim (or_cases (nat_eq y g.output) (is_in (map (λ (g : GatingCell ℕ). g.output) gs) y) there) [
    | inl here ↦ stays (lift_one c l g) gs y (inl (or_left (nat_eq y g.output) (is_in (taken l.enables) y) here))
    | inr later ↦ stays (lift_one c l g) gs y (inr later)
  ]

pub enables_chained : EnablesAreChained
enables_chained c prefix can = (
  enable_under l.enables,
  record {
    clock = λ clock is. no_enable (enable_under l.enables clock) clock is refl;
    gaters = λ k g at.
        still_chained l.machine (lifted c prefix) (enable_under l.enables g.clock) (number_of c g.enable) (enable_under l.enables g.output) (λ j gate there. there)
        (all_more c good (unlifted c prefix) (by_depth c) (λ j g at. depth_own c good j g at) (depth_ordered c good) (λ k h at among. absurd (both_ways false refl among)) k g at
        (stays c good (unlifted c prefix) (by_depth c) g.output (inr (all_taken c good g.output (member k g at))))).0;
    registers = λ r register at. ap option_flatten (slice_get-map (λ (q : RegisterCell ℕ ℕ). enable_under l.enables q.clock) c.registers r ∙ ap (option_map (λ (q : RegisterCell ℕ ℕ). enable_under l.enables q.clock)) at);
  },
)
  where
    good : IsWellFormed c
    good = can.netlist.well_formed

    l : Lifting
    l = lifting c prefix

    member : (k : ℕ) (g : GatingCell ℕ) → slice_get c.gaters k ≡ Some g → is_in (gater_outputs c) g.output ≡ true
    member k g at = member_at (gater_outputs c) k g.output (at_map (λ (g : GatingCell ℕ). g.output) c.gaters k g at)

    no_enable : (o : Option ℕ) (clock : ℕ) → c.clock ≡ Some clock → enable_under (lifting c prefix).enables clock ≡ o → enable_under (lifting c prefix).enables clock ≡ None
    no_enable None clock is found = found
    no_enable (Some e) clock is found =
        absurd (both_ways (is_in (gater_outputs c) clock) (clock_no_gater c good.driven clock is) (enable_gater c (lifting c prefix).machine (lifting c prefix).enables clock e (lifting_lifts c prefix can).all found))
