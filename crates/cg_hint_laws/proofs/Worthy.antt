-- Where no limit is passed, a hint is inserted exactly where it is worth it.
use Rattle.std.proofs.Common.{◌≡◌, ℕ, zero, suc, List, [], ◌∷◌, slice_get, Option, None, Some, Ok, Err, unwrap_or, ◌∙◌, ap, sym, subst}
use Rattle.std.specs.List.{find}
use Rattle.std.specs.Option.{option_map, option_or}
use Rattle.std.specs.Prelude.{nat_lt, ◌↔◌}
use Rattle.std.proofs.lemmas.Option.{none-some, same_Some}
use Rattle.cg_cell.specs.Cell.{CellData}
use Rattle.cg_limit.specs.declared.Limit.TheVariants.{ClaimNodes}
use Rattle.cg_limit.specs.declared.TheConstants.{MOST_CLAIM_NODES}
use Rattle.cg_machine.specs.Machine.{IsMachine, MachineData}
use Rattle.cg_netlist.specs.declared.fault.AddFault.TheVariants.{Limit}
use Rattle.cg_hint_laws.specs.declared.hint.Hint.{Hint}
use Rattle.cg_hint_laws.specs.declared.outcome.HintClaim.{HintClaim}
use Rattle.cg_hint_laws.specs.declared.outcome.HintOutcome.{HintOutcome}
use Rattle.cg_hint_laws.specs.declared.outcome.HintOutcome.TheVariants.{Inserted}
use Rattle.cg_hint_laws.specs.Effects.{and_then, effect}
use Rattle.cg_hint_laws.specs.Hints.{Fits}
use Rattle.cg_hint_laws.specs.Laws.{IsInsertable, IsWorthInserting, WorthyExactly}
use Rattle.cg_hint_laws.specs.Trying.{Answer, Hinted, Turn, after_outcome, all_claims, claim_nodes, first_against, first_large, first_missing, first_refuted, first_taken}
use Rattle.cg_hint_laws.specs.Trying.{first_wide, hinted, never_idle, tried, with_turn}
use Rattle.cg_hint_laws.proofs.Additions.{and_then_ok}
use Rattle.cg_hint_laws.proofs.AllSafe.{TurnKeeps, all_later, turn_keeps}
use Rattle.cg_hint_laws.proofs.Exactly.{idle_none_there, inserted_exactly, missing_none, refuted_none, taken_none, wide_none}

-- what does not stand against a hint is passed by
passed_by : (a b : Option Answer) → a ≡ None → option_or a b ≡ b
passed_by a b none = ap (λ o. option_or o b) none

module _ (library : List CellData) (width : ℕ) (m : MachineData) (h : Hint) (good : IsMachine m) (fits : Fits m h) where
  worthy : IsInsertable library width m h → IsWorthInserting library width m h
  worthy d = record { free = d.free; cells = d.cells; narrow = d.narrow; idles = d.idles; holds = d.holds }

  -- only the number of nodes may stand against a worthy hint
  left_against : IsWorthInserting library width m h → first_against library width m h ≡ option_or (first_large m h) None
  left_against w =
      passed_by (first_taken m h) _ (taken_none library width m h good fits w.free)
      ∙ (passed_by (first_missing library h) _ (missing_none library width m h good fits w.cells)
      ∙ (passed_by (first_wide m width h) _ (wide_none library width m h good fits w.narrow)
      ∙ ap (option_or (first_large m h)) (passed_by (never_idle m h) (first_refuted m h) (idle_none_there library width m h good fits w.idles) ∙ refuted_none library width m h good fits w.holds)))

  abbrev inserting : Answer
  inserting = and_then (effect m h) (λ n. Ok Inserted)

  ends_inserted : (large : Option HintClaim) (o : HintOutcome) → unwrap_or (option_or (option_map (λ (c : HintClaim). Err (Limit ClaimNodes)) large) None) inserting ≡ Ok o → o ≡ Inserted
  ends_inserted None o is = let e = and_then_ok (effect m h) (λ n. Ok Inserted) o is in let same : Ok Inserted ≡ Ok o = e.2 in cc
  ends_inserted (Some c) o is = absurd (cc)

  pub worthy_exactly : (o : HintOutcome) → tried library width m h ≡ Ok o → (o ≡ Inserted) ↔ IsWorthInserting library width m h
  worthy_exactly o is = (
    λ same. worthy ((inserted_exactly library width m h good fits).0 (is ∙ ap Ok same)),
    λ w. ends_inserted (find (λ (c : HintClaim). nat_lt MOST_CLAIM_NODES (claim_nodes m h c)) (all_claims h)) o (ap (λ a. unwrap_or a inserting) (sym (left_against w)) ∙ is),
  )

pub turns_worthy : WorthyExactly
turns_worthy library width m [] done good all ok k turn at =
    let same : record { machine = m; turns = [] } ≡ done = cc in
    absurd (none-some turn (ap (λ (d : Hinted). slice_get d.turns k) same ∙ at))
turns_worthy library width m (h ∷ hs) done good all ok k turn at =
    let first = and_then_ok (tried library width m h) (λ outcome. and_then (hinted library width (after_outcome m h outcome) hs) (with_turn (record { machine = m; hint = h; outcome = outcome }))) done ok in
    let n : MachineData = after_outcome m h first.0 in
    let keeps : TurnKeeps library m n = turn_keeps library width m h first.0 good all.0 first.1 in
    let rest = and_then_ok (hinted library width n hs) (with_turn (record { machine = m; hint = h; outcome = first.0 })) done first.2 in
    let same : record { machine = rest.0.machine; turns = record { machine = m; hint = h; outcome = first.0 } ∷ rest.0.turns } ≡ done = cc in
    go first.0 first.1 rest.0.turns (turns_worthy library width n hs rest.0 keeps.safe.is_machine (all_later library m n hs keeps all.1) rest.1) k (ap (λ (d : Hinted). slice_get d.turns k) same ∙ at)
  where
    go : (o : HintOutcome) → tried library width m h ≡ Ok o → (turns : List Turn)
        → ((i : ℕ) (t : Turn) → slice_get turns i ≡ Some t → (t.outcome ≡ Inserted) ↔ IsWorthInserting library width t.machine t.hint)
        → (i : ℕ) → slice_get (record { machine = m; hint = h; outcome = o } ∷ turns) i ≡ Some turn → (turn.outcome ≡ Inserted) ↔ IsWorthInserting library width turn.machine turn.hint
    go o is turns later zero here =
        subst (λ (t : Turn). (t.outcome ≡ Inserted) ↔ IsWorthInserting library width t.machine t.hint) (same_Some (record { machine = m; hint = h; outcome = o }) turn here) (worthy_exactly library width m h good all.0 o is)
    go o is turns later (suc i) there = later i turn there
