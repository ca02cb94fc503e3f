-- A hold stage that comes through its claims still does so after another hold stage was inserted.
use Rattle.std.proofs.Common.{◌≡◌, ℕ, suc, ◌+◌, ◌-◌, ◌<◌, ◌≤◌, Bool, true, false, if◌then◌else◌, List, [], ◌∷◌, ◌++◌, map, length, nat_eq}
use Rattle.std.proofs.Common.{nat_lt, take, Option, None, Some, refl, sym, ◌∙◌, ap, subst, inl, inr, arith, append_assoc}
use Rattle.std.specs.List.{cons_option, range_with_len}
use Rattle.std.proofs.lemmas.Bool.{eq-eqb, false_from_ne_true, or_left, or_right}
use Rattle.std.proofs.lemmas.List.{append-nil, length-append, length-take-le, take-append-le}
use Rattle.cg_cell.specs.declared.fit.FitKind.{FitKind}
use Rattle.cg_cell.specs.declared.fit.FitKind.TheVariants.{Inv}
use Rattle.cg_limit.specs.declared.Limit.TheVariants.{ClaimNodes}
use Rattle.cg_net.specs.NetSets.{is_in}
use Rattle.cg_net.proofs.Members.{is_in_cases}
use Rattle.cg_netlist.specs.Circuit.{LogicCell}
use Rattle.cg_netlist.specs.Moment.{values_at}
use Rattle.cg_netlist.specs.Nets.{walk_order}
use Rattle.cg_netlist.proofs.ByRank.{range_more}
use Rattle.cg_netlist.proofs.CellFits.{walk_within}
use Rattle.cg_netlist.proofs.SearchSteps.{get_last}
use Rattle.cg_netlist.proofs.Values.{same_values, values_at-append}
use Rattle.cg_machine.specs.Added.{find_gate, give, next_gate, or_push, push_gate}
use Rattle.cg_machine.specs.Claims.{Literal}
use Rattle.cg_machine.specs.Gates.{gate_cell}
use Rattle.cg_machine.specs.Machine.{IsMachine, MachineData, enable_of, order_of, walk_of}
use Rattle.cg_machine.specs.Run.{with_enables}
use Rattle.cg_machine.specs.declared.stage.Stage.{Stage}
use Rattle.cg_machine.specs.declared.stage.StageKind.{StageKind}
use Rattle.cg_machine.specs.declared.stage.StageKind.TheVariants.{Hold}
use Rattle.cg_machine.proofs.Lists.{below_range, get_front, in_one}
use Rattle.cg_claim.specs.LeafBits.{is_never}
use Rattle.cg_claim.specs.Leaves.{width_of}
use Rattle.cg_claim.specs.Question.{Question, hold_question, idle_question}
use Rattle.cg_claim.specs.declared.name.ClaimName.{ClaimName}
use Rattle.cg_claim.specs.declared.name.ClaimName.TheVariants.{Hold as HoldName, Idle}
use Rattle.cg_stage_laws.specs.Effects.{effect, literal_net, net_by}
use Rattle.cg_stage_laws.specs.Joined.{enabled}
use Rattle.cg_stage_laws.specs.Laws.{After}
use Rattle.cg_stage_laws.specs.Stages.{Fits, first_literal}
use Rattle.cg_stage_list_laws.specs.Fit.{AllFit, AreApart}
use Rattle.cg_stage_list_laws.specs.HoldList.{is_large}
use Rattle.cg_plan_laws.specs.Cleared.{AllCleared, IsCleared}
use Rattle.cg_plan_laws.specs.StageClaims.{NamedClaim, claims_by, claims_of}
use Rattle.cg_plan_laws.specs.Trying.{Ends, Passes, Tried, first_false, measured}
use Rattle.cg_plan_laws.specs.declared.outcome.Outcome.TheVariants.{Wide}
use Rattle.cg_plan_laws.proofs.SameClaims.{Beside, SameClaim, same_hold, same_idle}

-- the machine with other enables stands beside it, and with one more gate
module _ (m : MachineData) (good : IsMachine m) where
  enables_beside : (es : List (Option ℕ)) → Beside m (with_enables m es)
  enables_beside es = record { registers = refl; inputs = refl; more = []; walk = sym (append-nil (walk_of m)); new = λ x below. refl }

  module _ (kind : FitKind) (inputs : List ℕ) where
    abbrev g : LogicCell ℕ
    g = gate_cell (next_gate m kind inputs)

    own_fits : m.own_cells ≤ length m.circuit.cells
    own_fits = omega (arith, good.own_cells)

    order_pushed : order_of (push_gate m kind inputs) ≡ order_of m ++ length m.circuit.cells ∷ []
    order_pushed =
        let own : List ℕ = walk_order (take m.own_cells m.circuit.cells) in
        let left : ℕ = length m.circuit.cells - m.own_cells in
        let count : length (m.circuit.cells ++ g ∷ []) - m.own_cells ≡ suc (length m.circuit.cells - m.own_cells) = omega (arith, length-append m.circuit.cells (g ∷ []), own_fits) in
        let last : m.own_cells + (length m.circuit.cells - m.own_cells) ≡ length m.circuit.cells = omega (arith, own_fits) in
        ap (λ cells. walk_order cells ++ range_with_len m.own_cells (length (m.circuit.cells ++ g ∷ []) - m.own_cells)) (take-append-le m.own_cells m.circuit.cells (g ∷ []) own_fits)
        ∙ (ap (λ k. own ++ range_with_len m.own_cells k) count
        ∙ (ap (λ xs. own ++ xs) (range_more left m.own_cells ∙ ap (λ k. range_with_len m.own_cells left ++ k ∷ []) last)
        ∙ sym (append_assoc own (range_with_len m.own_cells left) (length m.circuit.cells ∷ []))))

    order_below : (k : ℕ) → is_in (order_of m) k ≡ true → k < length m.circuit.cells
    order_below k among = elim (is_in_cases (walk_order (take m.own_cells m.circuit.cells)) (range_with_len m.own_cells (length m.circuit.cells - m.own_cells)) k among) [
      | inl own ↦ let below = walk_within (take m.own_cells m.circuit.cells) k own in omega (arith, below, length-take-le m.own_cells m.circuit.cells own_fits, own_fits)
      | inr further ↦ let found = below_range (length m.circuit.cells - m.own_cells) m.own_cells k further in omega (arith, found, own_fits)
    ]

    walk_pushed : walk_of (push_gate m kind inputs) ≡ walk_of m ++ g ∷ []
    walk_pushed =
        let cells : List (LogicCell ℕ) = m.circuit.cells ++ g ∷ [] in
        ap (values_at (m.circuit.cells ++ g ∷ [])) order_pushed
        ∙ (values_at-append cells (order_of m) (length m.circuit.cells ∷ [])
        ∙ (ap (λ xs. xs ++ values_at cells (length m.circuit.cells ∷ [])) (same_values cells m.circuit.cells (order_of m) (λ k among. get_front m.circuit.cells (g ∷ []) k (order_below k among)))
        ∙ ap (λ o. walk_of m ++ cons_option o []) (get_last m.circuit.cells g)))

    gate_beside : (es : List (Option ℕ)) → Beside m (with_enables (push_gate m kind inputs) es)
    gate_beside es = record {
      registers = refl;
      inputs = refl;
      more = g ∷ [];
      walk = walk_pushed;
      new = λ x below. false_from_ne_true (is_in (length m.circuit.names ∷ []) x) (λ among. let same = in_one x (length m.circuit.names) among in let none : ⊥ = omega (arith, same, below) in none);
    }

  literal_beside : (y : ℕ) (inverted : Bool) (regs : List ℕ) → Beside m (enabled (literal_net m (y, inverted)) regs)
  literal_beside y false regs = enables_beside (give m.enables regs y)
  literal_beside y true regs = go (find_gate m Inv (y ∷ []))
    where
      go : (o : Option ℕ) → Beside m (enabled (or_push m (push_gate m Inv (y ∷ [])) o) regs)
      go None = gate_beside Inv (y ∷ []) (give m.enables regs (length m.circuit.names))
      go (Some net) = enables_beside (give m.enables regs net)

  effect_beside : (s : Stage) → s.kind ≡ Hold → Beside m (effect m s)
  effect_beside s is =
      let l : Literal = first_literal s.enable in
      subst (λ (k : StageKind). Beside m (enabled (net_by k m s) s.regs)) (sym is) (literal_beside l.0 l.1 s.regs)

-- the hold claims of registers
abbrev pub held_claims : Literal → List ℕ → List NamedClaim
held_claims l rs = map (λ r. (HoldName r, hold_question l r)) rs

-- claims that are the same on two machines come out the same
module _ (m n : MachineData) (width : ℕ) where
  measured_next : (name : ClaimName) (q : Question) (claims : List NamedClaim) (further : Tried) → SameClaim m n q → measured n width claims further ≡ measured m width claims further
      → measured n width ((name, q) ∷ claims) further ≡ measured m width ((name, q) ∷ claims) further
  measured_next name q claims further same rest =
      ap (λ (w : ℕ). if nat_lt width w then Ends (Wide name w) else (if is_large n q then Passes ClaimNodes else measured n width claims further)) same.width
      ∙ (ap (λ (b : Bool). if nat_lt width (width_of m q) then Ends (Wide name (width_of m q)) else (if b then Passes ClaimNodes else measured n width claims further)) same.large
      ∙ ap (λ (t : Tried). if nat_lt width (width_of m q) then Ends (Wide name (width_of m q)) else (if is_large m q then Passes ClaimNodes else t)) rest)

  same_measured : (l : Literal) (rs : List ℕ) (further : Tried) → ((r : ℕ) → is_in rs r ≡ true → SameClaim m n (hold_question l r)) → measured n width (held_claims l rs) further ≡ measured m width (held_claims l rs) further
  same_measured l [] further same = refl
  same_measured l (r ∷ rs) further same =
      measured_next (HoldName r) (hold_question l r) (held_claims l rs) further (same r (or_left (nat_eq r r) (is_in rs r) (eq-eqb r r refl)))
      (same_measured l rs further (λ k among. same k (or_right (nat_eq k r) (is_in rs k) among)))

  same_false : (l : Literal) (rs : List ℕ) → ((r : ℕ) → is_in rs r ≡ true → SameClaim m n (hold_question l r)) → first_false n (held_claims l rs) ≡ first_false m (held_claims l rs)
  same_false l [] same = refl
  same_false l (r ∷ rs) same =
      let here : SameClaim m n (hold_question l r) = same r (or_left (nat_eq r r) (is_in rs r) (eq-eqb r r refl)) in
      ap (λ (b : Bool). if b then first_false n (held_claims l rs) else Some (HoldName r)) here.never
      ∙ ap (λ (o : Option ClaimName). if is_never m (hold_question l r) then o else Some (HoldName r)) (same_false l rs (λ k among. same k (or_right (nat_eq k r) (is_in rs k) among)))

  claims_are : (s : Stage) → s.kind ≡ Hold → (k : MachineData) → claims_of k s ≡ held_claims (first_literal s.enable) s.regs
  claims_are s is k = ap (λ (kind : StageKind). claims_by kind k s) is

  module _ (good : IsMachine m) (other : IsMachine n) (beside : Beside m n) where
    cleared_there : (s : Stage) → Fits m s → ((r : ℕ) → is_in s.regs r ≡ true → enable_of n r ≡ enable_of m r) → IsCleared m width s → IsCleared n width s
    cleared_there s fits kept cleared = record {
      kind = cleared.kind;
      narrow = λ further.
          ap (λ (claims : List NamedClaim). measured n width ((Idle, idle_question s.enable) ∷ claims) further) (claims_are s cleared.kind n)
          ∙ (measured_next Idle (idle_question s.enable) (held_claims (first_literal s.enable) s.regs) further idle (same_measured (first_literal s.enable) s.regs further hold)
          ∙ (sym (ap (λ (claims : List NamedClaim). measured m width ((Idle, idle_question s.enable) ∷ claims) further) (claims_are s cleared.kind m))
          ∙ cleared.narrow further));
      idles = idle.never ∙ cleared.idles;
      holds = ap (first_false n) (claims_are s cleared.kind n) ∙ (same_false (first_literal s.enable) s.regs hold ∙ (sym (ap (first_false m) (claims_are s cleared.kind m)) ∙ cleared.holds));
    }
      where
        idle : SameClaim m n (idle_question s.enable)
        idle = same_idle m n good other beside s.enable (λ y among. (fits.nets y among).below)

        net : (first_literal s.enable).0 < length m.circuit.names
        net = first s.enable fits.enabled (λ y among. (fits.nets y among).below)
          where
            first : (E : List Literal) → 0 < length E → ((y : ℕ) → is_in (map (λ (k : Literal). k.0) E) y ≡ true → y < length m.circuit.names) → (first_literal E).0 < length m.circuit.names
            first [] some low = absurd (omega arith)
            first (k ∷ E) some low = low k.0 (or_left (nat_eq k.0 k.0) (is_in (map (λ (j : Literal). j.0) E) k.0) (eq-eqb k.0 k.0 refl))

        hold : (r : ℕ) → is_in s.regs r ≡ true → SameClaim m n (hold_question (first_literal s.enable) r)
        hold r among = let below = fits.registers r among in same_hold m n good other beside (first_literal s.enable) r net (omega (arith, below, good.own_registers)) (kept r among)

    -- the stages of a list, where an inserted one has none of their registers
    all_there : (s0 : Stage) (stages : List Stage) → After m s0 n → AreApart s0.regs stages → AllFit m stages → AllCleared m width stages → AllCleared n width stages
    all_there s0 [] after apart fit cleared = tt
    all_there s0 (s ∷ stages) after apart fit cleared = (
      cleared_there s fit.0 (λ r among. let below = fit.0.registers r among in after.enables r (omega (arith, below, good.own_registers)) (apart.0 r among)) cleared.0,
      all_there s0 stages after apart.1 fit.2 cleared.1,
    )

pub cleared_on : (m : MachineData) (width : ℕ) (s : Stage) (stages : List Stage) → IsMachine m → s.kind ≡ Hold → After m s (effect m s) → AreApart s.regs stages → AllFit m stages
    → AllCleared m width stages → AllCleared (effect m s) width stages
cleared_on m width s stages good is after apart fit cleared =
    all_there m (effect m s) width good after.is_machine (effect_beside m good s is) s stages after apart fit cleared
