-- The hold claims of one register are refused alike, but for one and-node.
use Rattle.std.proofs.Common.{◌≡◌, ℕ, ◌+◌, ◌<◌, ◌≤◌, Bool, true, false, nat_lt, refl, arith, ◌⊎◌, inl, inr, Result, Ok, Err, OnOk, subst, sym, ◌∙◌, ap, if◌then◌else◌}
use Rattle.std.proofs.Common.{List, [], ◌∷◌, length, slice_get, Some}
use Rattle.std.proofs.lemmas.Bool.{both_ways, lt-ltb, ltb-true}
use Rattle.cg_limit.specs.Answers.{OrNoMemory}
use Rattle.cg_limit.specs.declared.Limit.{Limit}
use Rattle.cg_limit.specs.declared.TheConstants.{MOST_CLAIM_NODES}
use Rattle.cg_claim.specs.Build.{nodes_of}
use Rattle.cg_claim.specs.LeafBits.{is_never}
use Rattle.cg_claim.specs.Question.{held_question, hold_question}
use Rattle.cg_machine.specs.Claims.{Literal}
use Rattle.cg_machine.specs.Machine.{IsMachine, MachineData}
use Rattle.cg_netlist.specs.declared.fault.AddFault.{AddFault}
use Rattle.cg_netlist.specs.declared.fault.AddFault.TheVariants.{Limit as LimitFault, NoMemory}
use Rattle.cg_stage_list_laws.specs.HoldList.{hold_width, is_large, serves}
use Rattle.cg_stage_list_laws.specs.Laws.{HoldWidthsAreOne}
use Rattle.cg_unroll.specs.Claims.{IsRefused}
use Rattle.cg_unroll.specs.Holding.{Holding, IsHolding}
use Rattle.cg_unroll.specs.declared.claim.ClaimFault.{ClaimFault}
use Rattle.cg_unroll.specs.declared.claim.ClaimFault.TheVariants.{Wide as WideFault, Limit as ClaimLimit, NoMemory as ClaimMemory}
use Rattle.cg_unroll.proofs.Holds.{least_nodes, one_more}
use Rattle.cg_hold.specs.declared.choice.Choice.{Choice}
use Rattle.cg_hold.specs.declared.trial.Trial.{Trial}
use Rattle.cg_hold.specs.declared.trial.Trial.TheVariants.{Fails, Serves}
use Rattle.cg_hold.specs.inner.Choosing.{IsLiteralOf, choice_by, refused_choice, refused_trial, trial_of}
use Rattle.cg_hold.proofs.Trials.{all_wide, fails_moved, front_limit, is_wide, judged, judged_large}

-- a number is not below another
not_below : (a b : ℕ) → b ≤ a → nat_lt a b ≡ false
not_below a b le = go (nat_lt a b) refl
  where
    go : (t : Bool) → nat_lt a b ≡ t → t ≡ false
    go false is = refl
    go true is = let h = ltb-true a b is in absurd (omega (arith, h, le))

-- claims that stand are not too wide
pub holding_narrow : (m : MachineData) (r width : ℕ) (h : Holding) → IsHolding m r width h → nat_lt width (hold_width m r) ≡ false
holding_narrow m r width h is = not_below width (hold_width m r) is.held.narrow

pub claim_small : (m : MachineData) (r : ℕ) (l : Literal) → nodes_of m (hold_question l r) ≤ MOST_CLAIM_NODES → is_large m (hold_question l r) ≡ false
claim_small m r l small = not_below MOST_CLAIM_NODES (nodes_of m (hold_question l r)) small

-- where there is room for each, none has too many nodes
pub room_small : (m : MachineData) → IsMachine m → (r width : ℕ) (h : Holding) → IsHolding m r width h → h.claim.aig.number + h.ands < MOST_CLAIM_NODES → (l : Literal) → IsLiteralOf m r l → nodes_of m (hold_question l r) ≤ MOST_CLAIM_NODES
room_small m good r width h is room l of = let one = one_more m good r width h is l of.0 in omega (arith, room, one)

-- what comes of a literal whose claim is not refused
abbrev pub fine : Trial → Result Trial AddFault
fine t = Ok t

pub trial_is : (m : MachineData) (r width : ℕ) (h : Holding) → IsHolding m r width h → (l : Literal) → nodes_of m (hold_question l r) ≤ MOST_CLAIM_NODES → (b : Bool) → b ≡ serves m r l → trial_of m width r l ≡ fine (if b then Serves else Fails)
trial_is m r width h is l small b serving = judged m width r l (holding_narrow m r width h is) (claim_small m r l small) ∙ ap (λ (t : Bool). fine (if t then Serves else Fails)) (sym serving)

pub trial_fails : (m : MachineData) (r width : ℕ) (h : Holding) → IsHolding m r width h → (l : Literal) → nodes_of m (hold_question l r) ≤ MOST_CLAIM_NODES → is_never m (hold_question l r) ≡ false → trial_of m width r l ≡ fine Fails
trial_fails m r width h is l small moves = trial_is m r width h is l small false (fails_moved m r l (sym moves))

-- a claim that stands beside others is not too wide, so its refusal is no trial
pub not_refused : (P : Type 0) → HoldWidthsAreOne → (m : MachineData) → IsMachine m → (r width : ℕ) (h : Holding) → IsHolding m r width h → (l : Literal) → IsLiteralOf m r l → (fault : ClaimFault) → IsRefused m (hold_question l r) width fault
    → (result : Result Trial AddFault) → result ≡ refused_trial fault → OnOk result P
not_refused P widths m good r width h is l of (WideFault n) refuses result same = absurd (both_ways (nat_lt width (hold_width m r)) (holding_narrow m r width h is) (is_wide widths m good r l of width n refuses.0 refuses.1))
not_refused P widths m good r width h is l of (ClaimLimit which) refuses result same = subst (λ (z : Result Trial AddFault). OnOk z P) (sym same) tt
not_refused P widths m good r width h is l of ClaimMemory refuses result same = subst (λ (z : Result Trial AddFault). OnOk z P) (sym same) tt

-- where what the claims have in common is refused, so is the first of them
pub refused_all : (m : MachineData) → IsMachine m → (r width : ℕ) (ls : List Literal) → 0 < length ls → ((k : ℕ) (l : Literal) → slice_get ls k ≡ Some l → IsLiteralOf m r l) → (fault : ClaimFault) → IsRefused m (held_question r) width fault
    → OrNoMemory NoMemory (λ (t : Choice). t) (refused_choice fault) (choice_by m width r ls)
refused_all m good r width [] some of fault is = absurd (omega (arith, some))
refused_all m good r width (l ∷ ls) some of (WideFault n) is =
    let e = is.0 in let more = is.1 in
    all_wide m width r (l ∷ ls) (lt-ltb width (hold_width m r) (omega (arith, e, more)))
refused_all m good r width (l ∷ ls) some of (ClaimLimit which) is =
    let least = least_nodes m good r l (of 0 l refl).0 in
    let more = is.2 in
    inr (front_limit m width r l ls (LimitFault which) (judged_large m width r l (not_below width (hold_width m r) is.1) (lt-ltb MOST_CLAIM_NODES (nodes_of m (hold_question l r)) (omega (arith, least, more))) ∙ ap limited (sym is.0)))
  where
    limited : Limit → Result Trial AddFault
    limited z = Err (LimitFault z)
refused_all m good r width (l ∷ ls) some of ClaimMemory is = inl refl
