-- A hint is inserted exactly where it deserves it.
use Rattle.std.proofs.Common.{◌≡◌, ℕ, ◌<◌, ◌≤◌, Bool, true, false, not, if◌then◌else◌, List, [], length, nat_lt, slice_get}
use Rattle.std.proofs.Common.{Option, None, Some, is_some, refl, ◌∙◌, ap, subst, arith, Ok, Err, unwrap_or}
use Rattle.std.specs.List.{find}
use Rattle.std.specs.Option.{option_map, option_or}
use Rattle.std.proofs.lemmas.Bool.{both_ways, false_from_ne_true, not-false}
use Rattle.cg_cell.specs.Cell.{CellData}
use Rattle.cg_cell.specs.declared.fit.FitKind.{FitKind}
use Rattle.cg_limit.specs.declared.TheConstants.{MOST_CLAIM_NODES}
use Rattle.cg_limit.specs.declared.Limit.TheVariants.{ClaimNodes}
use Rattle.cg_net.specs.NetSets.{is_in}
use Rattle.cg_net.proofs.Members.{member_at, place_of_member}
use Rattle.cg_netlist.specs.declared.fault.AddFault.TheVariants.{Limit}
use Rattle.cg_machine.specs.Machine.{IsMachine, MachineData, enable_of}
use Rattle.cg_claim.specs.LeafBits.{all_bits}
use Rattle.cg_stage_laws.specs.Needs.{missing}
use Rattle.cg_hint_laws.specs.declared.hint.Hint.{Hint}
use Rattle.cg_hint_laws.specs.declared.outcome.HintClaim.{HintClaim}
use Rattle.cg_hint_laws.specs.declared.outcome.HintClaim.TheVariants.{Hold, Idle}
use Rattle.cg_hint_laws.specs.declared.outcome.HintOutcome.TheVariants.{Inserted, NeverIdle, NoCell, Refuted, Taken, Wide}
use Rattle.cg_hint_laws.specs.Effects.{and_then, effect}
use Rattle.cg_hint_laws.specs.Hints.{AreFree, CanIdle, ClaimsHold, Fits}
use Rattle.cg_hint_laws.specs.Laws.{InsertedExactly, IsInsertable}
use Rattle.cg_hint_laws.specs.Leaves.{leaves_of, width_of}
use Rattle.cg_hint_laws.specs.Needs.{needs}
use Rattle.cg_hint_laws.specs.Question.{Question, hold_question, idle_question}
use Rattle.cg_hint_laws.specs.Trying.{Answer, all_claims, claim_holds, claim_nodes, claim_width, first_against, first_large, first_missing, first_refuted, first_taken, first_wide}
use Rattle.cg_hint_laws.specs.Trying.{hold_claims, never_idle, tried}
use Rattle.cg_hint_laws.specs.Violates.{IsNeverOne, IsSometimesOne, free_of, is_never, violates_at}
use Rattle.cg_hint_laws.proofs.Additions.{and_then_ok}
use Rattle.cg_hint_laws.proofs.Goals.{can_idle, free_is, hold_asked, hold_is_said, idle_asked, idle_is_said, never_is_tried}
use Rattle.cg_hint_laws.proofs.Listed.{at_mapped, at_most, both_none, found_none, found_none_in, map_none, mapped_at, mapped_none, none_both, none_found}
use Rattle.cg_hint_laws.proofs.Listed.{none_found_in, not_less, some_fails, some_false}

-- what stands against a hint does not insert it
abbrev Bars : Option Answer → Type 0
Bars o = o ≡ Some (Ok Inserted) → ⊥

bars_or : (a b : Option Answer) → Bars a → Bars b → Bars (option_or a b)
bars_or None b x y = y
bars_or (Some r) b x y = x

taken_bars : (o : Option ℕ) → Bars (option_map (λ r. Ok (Taken r)) o)
taken_bars None is = cc
taken_bars (Some r) is = cc

missing_bars : (o : Option FitKind) → Bars (option_map (λ kind. Ok (NoCell kind)) o)
missing_bars None is = cc
missing_bars (Some kind) is = cc

module _ (m : MachineData) (h : Hint) where
  wide_bars : (o : Option HintClaim) → Bars (option_map (λ (c : HintClaim). Ok (Wide c (claim_width m h c))) o)
  wide_bars None is = cc
  wide_bars (Some c) is = cc

large_bars : (o : Option HintClaim) → Bars (option_map (λ (c : HintClaim). Err (Limit ClaimNodes)) o)
large_bars None is = cc
large_bars (Some c) is = cc

abbrev idle_or : Bool → Option Answer
idle_or b = if b then Some (Ok NeverIdle) else None

idle_bars : (b : Bool) → Bars (idle_or b)
idle_bars true is = cc
idle_bars false is = cc

refuted_bars : (o : Option HintClaim) → Bars (option_map (λ (c : HintClaim). Ok (Refuted c [])) o)
refuted_bars None is = cc
refuted_bars (Some c) is = cc

unless_barred : (o : Option Answer) (r : Answer) → Bars o → unwrap_or o r ≡ Ok Inserted → (o ≡ None) × (r ≡ Ok Inserted)
unless_barred None r bars is = (refl, is)
unless_barred (Some x) r bars is = absurd (bars (ap (λ y. Some y) is))

idle_none : (b : Bool) → idle_or b ≡ None → b ≡ false
idle_none true none = absurd (cc)
idle_none false none = refl

module _ (library : List CellData) (width : ℕ) (m : MachineData) (h : Hint) (good : IsMachine m) (fits : Fits m h) where
  below : (r : ℕ) → is_in h.regs r ≡ true → r < length m.circuit.registers
  below r among = let b = fits.registers r among in omega (arith, b, good.own_registers)

  record Passed : Type 0 where
    taken : first_taken m h ≡ None
    cells : first_missing library h ≡ None
    narrow : first_wide m width h ≡ None
    small : first_large m h ≡ None
    idles : never_idle m h ≡ None
    holds : first_refuted m h ≡ None
    room : (n : MachineData) × (effect m h ≡ Ok n)

  passed : tried library width m h ≡ Ok Inserted → Passed
  passed is =
      let p = unless_barred (first_against library width m h) (and_then (effect m h) (λ n. Ok Inserted))
      (bars_or (first_taken m h) _ (taken_bars (find (λ r. is_some (enable_of m r)) h.regs))
      (bars_or (first_missing library h) _ (missing_bars (missing library (needs h)))
      (bars_or (first_wide m width h) _ (wide_bars m h (find (λ (c : HintClaim). nat_lt width (claim_width m h c)) (all_claims h)))
      (bars_or (first_large m h) _ (large_bars (find (λ (c : HintClaim). nat_lt MOST_CLAIM_NODES (claim_nodes m h c)) (all_claims h)))
      (bars_or (never_idle m h) _ (idle_bars (claim_holds m h Idle))
      (refuted_bars (find (λ (c : HintClaim). not (claim_holds m h c)) (hold_claims h)))))))) is in
      let a = both_none (first_taken m h) (option_or (first_missing library h) (option_or (first_wide m width h) (option_or (first_large m h) (option_or (never_idle m h) (first_refuted m h))))) p.0 in
      let b = both_none (first_missing library h) (option_or (first_wide m width h) (option_or (first_large m h) (option_or (never_idle m h) (first_refuted m h)))) a.1 in
      let c = both_none (first_wide m width h) (option_or (first_large m h) (option_or (never_idle m h) (first_refuted m h))) b.1 in
      let d = both_none (first_large m h) (option_or (never_idle m h) (first_refuted m h)) c.1 in
      let e = both_none (never_idle m h) (first_refuted m h) d.1 in
      let f = and_then_ok (effect m h) (λ n. Ok Inserted) Inserted p.1 in
      record { taken = a.0; cells = b.0; narrow = c.0; small = d.0; idles = e.0; holds = e.1; room = (f.0, f.1) }

  pub can : claim_holds m h Idle ≡ false → CanIdle m h.terms
  unfolding is_never
  can some =
      let q : Question = idle_question h.terms in
      let bits = some_fails (λ bs. not (violates_at m q bs)) (all_bits (width_of m q)) some in
      can_idle m h.terms (free_of m (leaves_of m q) bits.0) (free_is m q bits.0) (not-false (violates_at m q bits.0) bits.1)

  from : tried library width m h ≡ Ok Inserted → IsInsertable library width m h
  from is =
      let p : Passed = passed is in
      let wide : (k : ℕ) (c : HintClaim) → slice_get (all_claims h) k ≡ Some c → nat_lt width (claim_width m h c) ≡ false = λ k c at. found_none (λ (c : HintClaim). nat_lt width (claim_width m h c)) (all_claims h)
      (mapped_none (λ (c : HintClaim). Ok (Wide c (claim_width m h c))) (find (λ (c : HintClaim). nat_lt width (claim_width m h c)) (all_claims h)) p.narrow) k c at in
      let large : (k : ℕ) (c : HintClaim) → slice_get (all_claims h) k ≡ Some c → nat_lt MOST_CLAIM_NODES (claim_nodes m h c) ≡ false = λ k c at. found_none (λ (c : HintClaim). nat_lt MOST_CLAIM_NODES (claim_nodes m h c)) (all_claims h)
      (mapped_none (λ (c : HintClaim). Err (Limit ClaimNodes)) (find (λ (c : HintClaim). nat_lt MOST_CLAIM_NODES (claim_nodes m h c)) (all_claims h)) p.small) k c at in
      let false_none = mapped_none (λ (c : HintClaim). Ok (Refuted c [])) (find (λ (c : HintClaim). not (claim_holds m h c)) (hold_claims h)) p.holds in
      record {
        free = λ r among. some_false (enable_of m r) (found_none_in (λ r. is_some (enable_of m r)) h.regs
            (mapped_none (λ r. Ok (Taken r)) (find (λ r. is_some (enable_of m r)) h.regs) p.taken) r among);
        cells = mapped_none (λ kind. Ok (NoCell kind)) (missing library (needs h)) p.cells;
        narrow = λ k c at. not_less width (claim_width m h c) (wide k c at);
        small = λ k c at. not_less MOST_CLAIM_NODES (claim_nodes m h c) (large k c at);
        idles = can (idle_none (claim_holds m h Idle) p.idles);
        holds = λ r among.
            let place = place_of_member h.regs r among in
            let q : Question = hold_question h.terms h.after r in
            let never : is_never m q ≡ true = not-false (is_never m q) (found_none (λ (c : HintClaim). not (claim_holds m h c)) (hold_claims h) false_none place.0 (Hold r)
            (at_mapped Hold h.regs place.0 r place.1)) in
            (hold_is_said m h.terms h.after r good fits.literals (below r among)).0 ((never_is_tried m q good (hold_asked m h.terms h.after r fits.literals (below r among))).0 never);
        room = p.room;
      }

  pub taken_none : AreFree m h → first_taken m h ≡ None
  taken_none free = map_none (λ r. Ok (Taken r)) (find (λ r. is_some (enable_of m r)) h.regs) (none_found_in (λ r. is_some (enable_of m r)) h.regs (λ r among. ap is_some (free r among)))

  pub missing_none : missing library (needs h) ≡ None → first_missing library h ≡ None
  missing_none cells = map_none (λ kind. Ok (NoCell kind)) (missing library (needs h)) cells

  pub wide_none : ((k : ℕ) (c : HintClaim) → slice_get (all_claims h) k ≡ Some c → claim_width m h c ≤ width) → first_wide m width h ≡ None
  wide_none narrow =
      map_none (λ (c : HintClaim). Ok (Wide c (claim_width m h c))) (find (λ (c : HintClaim). nat_lt width (claim_width m h c)) (all_claims h))
      (none_found (λ (c : HintClaim). nat_lt width (claim_width m h c)) (all_claims h) (λ k c at. at_most width (claim_width m h c) (narrow k c at)))

  pub idle_none_there : CanIdle m h.terms → never_idle m h ≡ None
  idle_none_there idles =
      let q : Question = idle_question h.terms in
      let some : is_never m q ≡ false = false_from_ne_true (is_never m q) (λ never.
      let one : IsSometimesOne m q = (idle_is_said m h.terms good fits.literals).1 idles in
      let zero : IsNeverOne m q = (never_is_tried m q good (idle_asked m h.terms fits.literals)).0 never in
      both_ways _ (zero one.bits one.long) one.one) in
      ap idle_or some

  pub refuted_none : ClaimsHold m h → first_refuted m h ≡ None
  refuted_none holds =
      map_none (λ (c : HintClaim). Ok (Refuted c [])) (find (λ (c : HintClaim). not (claim_holds m h c)) (hold_claims h))
      (none_found (λ (c : HintClaim). not (claim_holds m h c)) (hold_claims h) (λ k c at.
      let r = mapped_at Hold h.regs k c at in
      let among = member_at h.regs k r.0 r.1 in
      let q : Question = hold_question h.terms h.after r.0 in
      let never : is_never m q ≡ true = (never_is_tried m q good (hold_asked m h.terms h.after r.0 fits.literals (below r.0 among))).1
      ((hold_is_said m h.terms h.after r.0 good fits.literals (below r.0 among)).1 (holds r.0 among)) in
      subst (λ (e : HintClaim). not (claim_holds m h e) ≡ false) r.2 (ap not never)))

  to : IsInsertable library width m h → tried library width m h ≡ Ok Inserted
  to d =
      let small : first_large m h ≡ None = map_none (λ (c : HintClaim). Err (Limit ClaimNodes)) (find (λ (c : HintClaim). nat_lt MOST_CLAIM_NODES (claim_nodes m h c)) (all_claims h))
      (none_found (λ (c : HintClaim). nat_lt MOST_CLAIM_NODES (claim_nodes m h c)) (all_claims h) (λ k c at. at_most MOST_CLAIM_NODES (claim_nodes m h c) (d.small k c at))) in
      let none : first_against library width m h ≡ None =
      none_both (first_taken m h) _ (taken_none d.free) (none_both (first_missing library h) _ (missing_none d.cells) (none_both (first_wide m width h) _ (wide_none d.narrow)
      (none_both (first_large m h) _ small (none_both (never_idle m h) _ (idle_none_there d.idles) (refuted_none d.holds))))) in
      ap (λ o. unwrap_or o (and_then (effect m h) (λ n. Ok Inserted))) none ∙ ap (λ e. and_then e (λ n. Ok Inserted)) d.room.1

pub inserted_exactly : InsertedExactly
inserted_exactly library width m h good fits = (from library width m h good fits, to library width m h good fits)
