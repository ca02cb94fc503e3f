-- What comes of literals, one after another.
use Rattle.std.proofs.Common.{◌≡◌, ◌<◌, ◌≤◌, ℕ, zero, suc, ◌+◌, Bool, true, false, not, ◌||◌, ◌&&◌, cond, if◌then◌else◌, List, []}
use Rattle.std.proofs.Common.{◌∷◌, drop, length, nat_eq, nat_lt, slice_get, Option, Some, None, Result, Ok, Err, refl}
use Rattle.std.proofs.Common.{sym, ◌∙◌, ap, arith, ◌⊎◌, inl, inr}
use Rattle.std.specs.List.{find, list_any}
use Rattle.std.proofs.lemmas.Bool.{both_ways, eqb-true, lt-ltb, ltb-true}
use Rattle.std.proofs.lemmas.Option.{none-some, same_Some}
use Rattle.cg_limit.specs.declared.TheConstants.{MOST_CLAIM_NODES}
use Rattle.cg_claim.specs.Build.{nodes_of}
use Rattle.cg_claim.specs.LeafBits.{is_never}
use Rattle.cg_claim.specs.Leaves.{width_of}
use Rattle.cg_claim.specs.Question.{Question, hold_question, idle_question}
use Rattle.cg_limit.specs.Answers.{OrNoMemory}
use Rattle.cg_limit.specs.declared.Limit.{Limit}
use Rattle.cg_limit.specs.declared.Limit.TheVariants.{ClaimNodes}
use Rattle.cg_stage_list_laws.specs.HoldList.{hold_width, is_large, serves, up_to}
use Rattle.cg_machine.specs.Claims.{Literal}
use Rattle.cg_stage_list_laws.specs.Laws.{HoldWidthsAreOne}
use Rattle.cg_machine.specs.Machine.{IsMachine, MachineData}
use Rattle.cg_netlist.specs.declared.fault.AddFault.{AddFault}
use Rattle.cg_netlist.specs.declared.fault.AddFault.TheVariants.{Limit as LimitFault, NoMemory}
use Rattle.cg_unroll.specs.Claims.{IsRefused}
use Rattle.cg_unroll.specs.declared.claim.ClaimFault.{ClaimFault}
use Rattle.cg_unroll.specs.declared.claim.ClaimFault.TheVariants.{Wide as WideFault, Limit as ClaimLimit, NoMemory as ClaimMemory}
use Rattle.cg_unroll.proofs.FewLeaves.{few_leaves}
use Rattle.cg_hold.specs.declared.choice.Choice.{Choice}
use Rattle.cg_hold.specs.declared.choice.Choice.TheVariants.{Wide, Takes}
use Rattle.cg_hold.specs.declared.trial.Trial.{Trial}
use Rattle.cg_hold.specs.declared.trial.Trial.TheVariants.{TooWide, Serves, Fails}
use Rattle.cg_hold.specs.inner.Choosing.{IsLiteralOf, choice_by, refused_trial, trial_of}

-- the literals from a place on
pub drop_at : (ls : List Literal) (i : ℕ) (l : Literal) → slice_get ls i ≡ Some l → drop i ls ≡ l ∷ drop (i + 1) ls
drop_at ls i l at = let e : i + 1 ≡ suc i = omega arith in go ls i at ∙ ap (λ n. l ∷ drop n ls) (sym e)
  where
    go : (xs : List Literal) (k : ℕ) → slice_get xs k ≡ Some l → drop k xs ≡ l ∷ drop (suc k) xs
    go [] k is = absurd (none-some l is)
    go (x ∷ xs) zero is = ap (λ y. y ∷ xs) (same_Some x l is)
    go (x ∷ xs) (suc k) is = go xs k is

module _ (m : MachineData) (width r : ℕ) where
  -- the three parts of a trial, where the width and the size are known
  abbrev by_parts : Bool → Bool → Bool → Result Trial AddFault
  by_parts wide large good = if wide then Ok TooWide else if large then Err (LimitFault ClaimNodes) else Ok (if good then Serves else Fails)

  abbrev choice_parts : Bool → Bool → Option Literal → Result Choice AddFault
  choice_parts wide large found = if wide then Ok Wide else if large then Err (LimitFault ClaimNodes) else Ok (Takes found)

  abbrev large_in : Literal → List Literal → Bool → Bool
  large_in l ls b = list_any (λ k. is_large m (hold_question k r)) (if b then l ∷ [] else l ∷ up_to (serves m r) ls)

  -- a literal in front of others
  pub front_wide : (l : Literal) (ls : List Literal) → trial_of m width r l ≡ Ok TooWide → choice_by m width r (l ∷ ls) ≡ Ok Wide
  front_wide l ls is = go (nat_lt width (hold_width m r)) (is_large m (hold_question l r)) (serves m r l) is
    where
      go : (w a b : Bool) → by_parts w a b ≡ Ok TooWide → choice_parts w (large_in l ls (serves m r l)) (find (serves m r) (l ∷ ls)) ≡ Ok Wide
      go true a b h = refl
      go false true b h = cc
      go false false true h = cc
      go false false false h = cc

  pub front_limit : (l : Literal) (ls : List Literal) (f : AddFault) → trial_of m width r l ≡ Err f → choice_by m width r (l ∷ ls) ≡ Err f
  front_limit l ls f is = go (nat_lt width (hold_width m r)) (is_large m (hold_question l r)) refl (serves m r l) is
    where
      first : (b : Bool) → is_large m (hold_question l r) ≡ true → large_in l ls b ≡ true
      first true large = ap (λ x. x || false) large
      first false large = ap (λ x. x || list_any (λ k. is_large m (hold_question k r)) (up_to (serves m r) ls)) large

      go : (w a : Bool) → is_large m (hold_question l r) ≡ a → (b : Bool) → by_parts w a b ≡ Err f → choice_parts w (large_in l ls (serves m r l)) (find (serves m r) (l ∷ ls)) ≡ Err f
      go true a large b h = cc
      go false true large b h = ap (λ x. choice_parts false x (find (serves m r) (l ∷ ls))) (first (serves m r l) large) ∙ cc
      go false false large true h = cc
      go false false large false h = cc

  pub front_serves : (l : Literal) (ls : List Literal) → trial_of m width r l ≡ Ok Serves → choice_by m width r (l ∷ ls) ≡ Ok (Takes (Some l))
  front_serves l ls is = go (nat_lt width (hold_width m r)) (is_large m (hold_question l r)) refl (serves m r l) refl is
    where
      go : (w a : Bool) → is_large m (hold_question l r) ≡ a → (b : Bool) → serves m r l ≡ b → by_parts w a b ≡ Ok Serves → choice_parts w (large_in l ls (serves m r l)) (find (serves m r) (l ∷ ls)) ≡ Ok (Takes (Some l))
      go true a large b good h = cc
      go false true large b good h = cc
      go false false large true good h =
          ap (λ x. choice_parts false x (find (serves m r) (l ∷ ls))) (ap (large_in l ls) good ∙ ap (λ x. x || false) large)
          ∙ ap (λ x. choice_parts false false (cond x (Some l) (find (serves m r) ls))) good
      go false false large false good h = cc

  pub front_fails : (l : Literal) (ls : List Literal) → trial_of m width r l ≡ Ok Fails → (choice_by m width r (l ∷ ls) ≡ choice_by m width r ls) × (nat_lt width (hold_width m r) ≡ false)
  front_fails l ls is = go (nat_lt width (hold_width m r)) (is_large m (hold_question l r)) refl (serves m r l) refl is
    where
      go : (w a : Bool) → is_large m (hold_question l r) ≡ a → (b : Bool) → serves m r l ≡ b → by_parts w a b ≡ Ok Fails
          → (choice_parts w (large_in l ls (serves m r l)) (find (serves m r) (l ∷ ls)) ≡ choice_parts w (list_any (λ k. is_large m (hold_question k r)) (up_to (serves m r) ls)) (find (serves m r) ls)) × (w ≡ false)
      go true a large b good h = absurd (cc)
      go false true large b good h = absurd (cc)
      go false false large true good h = absurd (cc)
      go false false large false good h = (
        ap (λ x. choice_parts false x (find (serves m r) (l ∷ ls))) (ap (large_in l ls) good ∙ ap (λ x. x || list_any (λ k. is_large m (hold_question k r)) (up_to (serves m r) ls)) large)
            ∙ ap (λ x. choice_parts false (list_any (λ k. is_large m (hold_question k r)) (up_to (serves m r) ls)) (cond x (Some l) (find (serves m r) ls))) good,
        refl,
      )

  -- no literal at all
  pub none_left : nat_lt width (hold_width m r) ≡ false → choice_by m width r [] ≡ Ok (Takes None)
  none_left narrow = ap (λ w. choice_parts w false None) narrow

  pub none_at_all : hold_width m r ≡ 1 → choice_by m width r [] ≡ Ok (if nat_lt width 1 then Wide else Takes None)
  none_at_all one = ap (λ n. choice_parts (nat_lt width n) false None) one ∙ go (nat_lt width 1)
    where
      go : (w : Bool) → choice_parts w false None ≡ Ok (if w then Wide else Takes None)
      go true = refl
      go false = refl

-- what comes of a literal, by its claims
pub judged : (m : MachineData) (width r : ℕ) (l : Literal) → nat_lt width (hold_width m r) ≡ false → is_large m (hold_question l r) ≡ false → trial_of m width r l ≡ Ok (if serves m r l then Serves else Fails)
judged m width r l narrow small = ap (λ w. by_parts m width r w (is_large m (hold_question l r)) (serves m r l)) narrow ∙ ap (λ a. by_parts m width r false a (serves m r l)) small

pub judged_wide : (m : MachineData) (width r : ℕ) (l : Literal) → nat_lt width (hold_width m r) ≡ true → trial_of m width r l ≡ Ok TooWide
judged_wide m width r l wide = ap (λ w. by_parts m width r w (is_large m (hold_question l r)) (serves m r l)) wide

pub judged_large : (m : MachineData) (width r : ℕ) (l : Literal) → nat_lt width (hold_width m r) ≡ false → is_large m (hold_question l r) ≡ true → trial_of m width r l ≡ Err (LimitFault ClaimNodes)
judged_large m width r l narrow large = ap (λ w. by_parts m width r w (is_large m (hold_question l r)) (serves m r l)) narrow ∙ ap (λ a. by_parts m width r false a (serves m r l)) large

-- a literal serves where both claims say so
pub fails_moved : (m : MachineData) (r : ℕ) (l : Literal) → false ≡ is_never m (hold_question l r) → false ≡ serves m r l
fails_moved m r l moves = ap (λ b. b && not (is_never m (idle_question (l ∷ [])))) moves

pub serves_held : (m : MachineData) (r : ℕ) (l : Literal) (stays : Bool) → true ≡ is_never m (hold_question l r) → stays ≡ is_never m (idle_question (l ∷ [])) → not stays ≡ serves m r l
serves_held m r l stays holds is = ap not is ∙ ap (λ b. b && not (is_never m (idle_question (l ∷ [])))) holds

-- the hold claims of a literal of the cone are as wide as the register says
module _ (widths : HoldWidthsAreOne) (m : MachineData) (good : IsMachine m) (r : ℕ) (l : Literal) (of : IsLiteralOf m r l) (width : ℕ) where
  same_width : width_of m (hold_question l r) ≡ hold_width m r
  same_width = widths m l r good of.0

  pub is_narrow : width_of m (hold_question l r) ≤ width → nat_lt width (hold_width m r) ≡ false
  is_narrow narrow = go (nat_lt width (hold_width m r)) refl
    where
      go : (b : Bool) → nat_lt width (hold_width m r) ≡ b → b ≡ false
      go false is = refl
      go true is = let h = ltb-true width (hold_width m r) is in absurd (omega (arith, h, narrow, same_width))

  pub is_wide : (n : ℕ) → n ≡ width_of m (hold_question l r) → width < n → nat_lt width (hold_width m r) ≡ true
  is_wide n is wide = lt-ltb width (hold_width m r) (omega (arith, is, wide, same_width))

  pub not_large : nodes_of m (hold_question l r) ≤ MOST_CLAIM_NODES → is_large m (hold_question l r) ≡ false
  not_large small = go (nat_lt MOST_CLAIM_NODES (nodes_of m (hold_question l r))) refl
    where
      go : (b : Bool) → nat_lt MOST_CLAIM_NODES (nodes_of m (hold_question l r)) ≡ b → b ≡ false
      go false is = refl
      go true is = let h = ltb-true MOST_CLAIM_NODES (nodes_of m (hold_question l r)) is in absurd (omega (arith, h, small))

  pub too_large : MOST_CLAIM_NODES < nodes_of m (hold_question l r) → is_large m (hold_question l r) ≡ true
  too_large large = lt-ltb MOST_CLAIM_NODES (nodes_of m (hold_question l r)) large

-- a fault of a trial is one of the choice
pub err_choice : (m : MachineData) (width r : ℕ) (ls : List Literal) (i : ℕ) (l : Literal) → slice_get ls i ≡ Some l → choice_by m width r (drop i ls) ≡ choice_by m width r ls → (f : AddFault)
    → (f ≡ NoMemory) ⊎ (trial_of m width r l ≡ Err f) → (f ≡ NoMemory) ⊎ (choice_by m width r ls ≡ Err f)
err_choice m width r ls i l at left f (inl is) = inl is
err_choice m width r ls i l at left f (inr is) = inr (sym left ∙ (ap (choice_by m width r) (drop_at ls i l at) ∙ front_limit m width r l (drop (i + 1) ls) f is))

-- a hold claim that is refused, as the trial says it
pub refused_is : HoldWidthsAreOne → (m : MachineData) → IsMachine m → (r : ℕ) (l : Literal) → IsLiteralOf m r l → (width : ℕ) (fault : ClaimFault) → IsRefused m (hold_question l r) width fault → OrNoMemory NoMemory (λ (t : Trial). t) (refused_trial fault) (trial_of m width r l)
refused_is widths m good r l of width (WideFault n) is = judged_wide m width r l (is_wide widths m good r l of width n is.0 is.1)
refused_is widths m good r l of width (ClaimLimit which) is = inr (judged_large m width r l (is_narrow widths m good r l of width is.1) (too_large widths m good r l of width is.2) ∙ ap limited (sym is.0))
  where
    limited : Limit → Result Trial AddFault
    limited z = Err (LimitFault z)
refused_is widths m good r l of width ClaimMemory is = inl refl

abbrev pub okay : Choice → Result Choice AddFault
okay choice = Ok choice

-- where they are too wide, so much comes of the register, whatever its literals
pub all_wide : (m : MachineData) (width r : ℕ) (ls : List Literal) → nat_lt width (hold_width m r) ≡ true → choice_by m width r ls ≡ Ok Wide
all_wide m width r ls wide = go (nat_lt width (hold_width m r)) wide
  where
    go : (b : Bool) → b ≡ true → (if b then Ok Wide else if list_any (λ l. is_large m (hold_question l r)) (up_to (serves m r) ls) then Err (LimitFault ClaimNodes) else Ok (Takes (find (serves m r) ls))) ≡ okay Wide
    go true is = refl
    go false is = absurd (cc)

pub no_literals : (xs : List Literal) (n : ℕ) (b : Bool) → n ≡ length xs → b ≡ nat_eq n 0 → b ≡ true → xs ≡ []
no_literals [] n b long is empty = refl
no_literals (x ∷ xs) n b long is empty = let e : n ≡ 0 = eqb-true n 0 (sym is ∙ empty) in absurd (omega (arith, e, long))

pub some_literals : (xs : List Literal) (n : ℕ) (b : Bool) → n ≡ length xs → b ≡ nat_eq n 0 → b ≡ false → 0 < length xs
some_literals [] n b long is full = absurd (both_ways b full (is ∙ ap (λ k. nat_eq k 0) long))
some_literals (x ∷ xs) n b long is full = omega arith

-- at the largest width the fault of a claim that has no more nodes than it may have is want of memory
pub wants_memory : (m : MachineData) → IsMachine m → (q : Question) (fault : ClaimFault) → nodes_of m q ≤ MOST_CLAIM_NODES → IsRefused m q 4294967295 fault → fault ≡ ClaimMemory
wants_memory m good q (WideFault n) small is = let few = few_leaves m good q in absurd (omega (arith, few, is.0, is.1))
wants_memory m good q (ClaimLimit which) small is = absurd (omega (arith, small, is.2))
wants_memory m good q ClaimMemory small is = refl
