-- What lifting adds: an and for a gating cell that stands behind another, and nothing where none does.
use Rattle.std.proofs.Common.{◌≡◌, ℕ, Bool, true, false, cond, List, [], ◌∷◌, slice_get, nat_eq, is_some, Option, None, Some, refl}
use Rattle.std.proofs.Common.{ap, sym, ◌∙◌, subst}
use Rattle.std.specs.List.{All}
use Rattle.std.specs.Option.{option_flatten, option_map}
use Rattle.std.proofs.lemmas.Bool.{both_ways, eqb-true, or_parts}
use Rattle.std.proofs.lemmas.List.Elements.{All-nil, All-push}
use Rattle.std.proofs.lemmas.Option.{slice_get-map}
use Rattle.cg_cell.specs.declared.fit.FitKind.TheVariants.{And2}
use Rattle.cg_machine.specs.Added.{find_gate, next_gate, or_push, push_gate}
use Rattle.cg_machine.specs.Gates.{AddedGate}
use Rattle.cg_machine.specs.Machine.{MachineData}
use Rattle.cg_net.proofs.Members.{member_at, place_of_member}
use Rattle.cg_netlist.proofs.Values.{at_map, under_map}
use Rattle.cg_netlist.specs.Circuit.{Circuit, GatingCell, RegisterCell, gater_outputs}
use Rattle.cg_net.specs.NetSets.{is_in}
use Rattle.cg_extract.proofs.Depths.{Ready, ready}
use Rattle.cg_extract.proofs.Lifts.{enable_gater, lifting_lifts}
use Rattle.cg_extract.proofs.Renumbered.{none_found}
use Rattle.cg_extract.specs.Laws.{AsksFor}
use Rattle.cg_extract.specs.Lifted.{CanExtract, Lifting, by_depth, chained, enable_under, first_refused, is_refused, lift_each}
use Rattle.cg_extract.specs.Lifted.{lift_one, lifted, lifting, number_of, unlifted}

-- each gate is an and of two nets
abbrev AreAnds : MachineData → Type 0
AreAnds m = All (λ (gate : AddedGate). gate.kind ≡ And2) m.gates

chained_ands : (m : MachineData) (parent : Option ℕ) (enable : ℕ) → AreAnds m → AreAnds (chained m parent enable).machine
chained_ands m None enable ands = ands
chained_ands m (Some parent) enable ands = go (find_gate m And2 (parent ∷ enable ∷ []))
  where
    go : (o : Option ℕ) → AreAnds (or_push m (push_gate m And2 (parent ∷ enable ∷ [])) o).machine
    go None = All-push (λ (gate : AddedGate). gate.kind ≡ And2) m.gates (next_gate m And2 (parent ∷ enable ∷ [])) ands refl
    go (Some net) = ands

each_ands : (c : Circuit) (l : Lifting) (gaters : List (GatingCell ℕ)) → AreAnds l.machine → AreAnds (lift_each c l gaters).machine
each_ands c l [] ands = ands
each_ands c l (g ∷ gaters) ands = each_ands c (lift_one c l g) gaters (chained_ands l.machine (enable_under l.enables g.clock) (number_of c g.enable) ands)

module _ (c : Circuit) where
  -- enables stand beside the outputs of gating cells alone
  abbrev AreGaters : List (ℕ × ℕ) → Type 0
  AreGaters entries = (net e : ℕ) → enable_under entries net ≡ Some e → is_in (gater_outputs c) net ≡ true

  gaters_more : (entries : List (ℕ × ℕ)) (k : ℕ) (g : GatingCell ℕ) (enable : ℕ) → slice_get c.gaters k ≡ Some g → AreGaters entries → AreGaters ((g.output, enable) ∷ entries)
  gaters_more entries k g enable at gates net e is = go (nat_eq net g.output) refl is
    where
      go : (b : Bool) → nat_eq net g.output ≡ b → cond b (Some enable) (enable_under entries net) ≡ Some e → is_in (gater_outputs c) net ≡ true
      go true here is = subst (λ x. is_in (gater_outputs c) x ≡ true) (sym (eqb-true net g.output here)) (member_at (gater_outputs c) k g.output (at_map (λ (x : GatingCell ℕ). x.output) c.gaters k g at))
      go false other is = gates net e is

  -- where there is no cell for an and and no gating cell is refused, none stands behind another
  module _ (none : first_refused c false ≡ None) where
    not_behind : (k : ℕ) (g : GatingCell ℕ) → slice_get c.gaters k ≡ Some g → is_in (gater_outputs c) g.clock ≡ false
    not_behind k g at = (or_parts (is_some g.test) (is_in (gater_outputs c) g.clock) (none_found (is_refused c false) c.gaters 0 none k g at)).1

    each_none : (l : Lifting) (taken : List ℕ) (gaters : List (GatingCell ℕ)) → Ready c taken gaters → AreGaters l.enables → l.machine.gates ≡ [] → (lift_each c l gaters).machine.gates ≡ []
    each_none l taken [] prepared gates is = is
    each_none l taken (g ∷ gaters) prepared gates is =
        each_none (lift_one c l g) (g.output ∷ taken) gaters prepared.2
        (gaters_more l.enables prepared.0.0 g (chained l.machine (enable_under l.enables g.clock) (number_of c g.enable)).net prepared.0.1 gates)
        (go (enable_under l.enables g.clock) refl)
      where
        go : (o : Option ℕ) → enable_under l.enables g.clock ≡ o → (chained l.machine o (number_of c g.enable)).machine.gates ≡ []
        go None under = is
        go (Some e) under = absurd (both_ways (is_in (gater_outputs c) g.clock) (not_behind prepared.0.0 g prepared.0.1) (gates g.clock e under))

  -- a net that a gating cell drives
  gate_there : (x : ℕ) → is_in (gater_outputs c) x ≡ true → (k : ℕ) × (g : GatingCell ℕ) × (slice_get c.gaters k ≡ Some g)
  gate_there x among =
      let place = place_of_member (gater_outputs c) x among in
      let found = under_map (λ (g : GatingCell ℕ). g.output) c.gaters place.0 x place.1 in
      (place.0, found.0, found.1)

pub asked : (c : Circuit) (prefix : List ℕ) → CanExtract c prefix → AsksFor c (lifted c prefix)
asked c prefix can = record {
  gates = each_ands c (unlifted c prefix) (by_depth c) (All-nil (λ (gate : AddedGate). gate.kind ≡ And2));
  none = λ none. each_none c none (unlifted c prefix) [] (by_depth c) (ready c can.netlist.well_formed) (λ net e is. absurd (let never : None ≡ Some e = is in cc)) refl;
  gater = λ r e is. enabled_by (slice_get c.registers r) e (sym (ap option_flatten (slice_get-map (λ (r : RegisterCell ℕ ℕ). enable_under (lifting c prefix).enables r.clock) c.registers r)) ∙ is);
}
  where
    enabled_by : (o : Option (RegisterCell ℕ ℕ)) (e : ℕ) → option_flatten (option_map (λ (r : RegisterCell ℕ ℕ). enable_under (lifting c prefix).enables r.clock) o) ≡ Some e → (k : ℕ) × (g : GatingCell ℕ) × (slice_get c.gaters k ≡ Some g)
    enabled_by None e is = absurd (cc)
    enabled_by (Some cell) e is = gate_there c cell.clock (enable_gater c (lifting c prefix).machine (lifting c prefix).enables cell.clock e (lifting_lifts c prefix can).all is)
