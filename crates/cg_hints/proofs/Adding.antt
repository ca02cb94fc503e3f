-- What is added to a machine, one after another.
use Rattle.std.proofs.Common.{◌≡◌, ℕ, zero, suc, ◌+◌, ◌-◌, ◌<◌, ◌≤◌, Bool, true, false, cond, List, [], ◌∷◌, ◌++◌, drop, length, slice_get, Some, Result, Ok, Err}
use Rattle.std.proofs.Common.{refl, sym, ◌∙◌, ap, subst, arith}
use Rattle.std.specs.List.{All, AllByRecursion, find}
use Rattle.cg_machine.specs.Claims.{Literal}
use Rattle.cg_net.specs.NetSets.{is_in}
use Rattle.cg_hint_laws.specs.Hints.{condition_nets}
use Rattle.cg_hint_laws.proofs.Conditions.{IsTerm, terms_are}
use Rattle.cg_cell.specs.declared.fit.FitKind.{FitKind}
use Rattle.cg_machine.specs.Added.{Added, delay_answer, gate_answer}
use Rattle.cg_machine.specs.Extends.{Extends, GateFits}
use Rattle.cg_machine.specs.Gates.{HasInputs}
use Rattle.cg_machine.specs.Machine.{IsNet, MachineData}
use Rattle.cg_net.proofs.TableLemmas.{drop_cons}
use Rattle.cg_netlist.specs.declared.fault.AddFault.{AddFault}
use Rattle.cg_netlist.specs.declared.fault.AddFault.TheVariants.{Limit, NoMemory}
use Rattle.cg_machine.proofs.Extended.{net_kept}
use Rattle.cg_stage_laws.proofs.Joins.{two_nets}
use Rattle.cg_hint_laws.specs.Effects.{AddedNets, and_then, before_nets, delayed_by, for_each, joined_with}
use Rattle.cg_hint_laws.specs.Answers.{MayFail}

abbrev pub with_net : MachineData → ℕ → Added
with_net n net = record { machine = n; net = net }

-- a fault of a first addition is one of all
pub passes_then : {A B : Type 0} (wanted : Result A AddFault) (later : A → Result B AddFault) (fault : AddFault) → MayFail wanted fault → MayFail (and_then wanted later) fault
passes_then wanted later NoMemory is = tt
passes_then wanted later (Limit limit) is = ap (λ w. and_then w later) is

pub passes_same : {A : Type 0} (wanted other : Result A AddFault) (fault : AddFault) → wanted ≡ other → MayFail wanted fault → MayFail other fault
passes_same wanted other NoMemory same is = tt
passes_same wanted other (Limit limit) same is = sym same ∙ is

-- lists by place
pub all_place : {T : Type 0} (P : T → Type 0) (xs : List T) (i : ℕ) (x : T) → AllByRecursion P xs → slice_get xs i ≡ Some x → P x
all_place P [] i x all at = absurd (cc)
all_place P (y ∷ ys) zero x all at = let same : y ≡ x = cc in subst P same all.0
all_place P (y ∷ ys) (suc i) x all at = all_place P ys i x all.1 at

pub drop_at : {T : Type 0} (xs : List T) (i : ℕ) (x : T) → slice_get xs i ≡ Some x → drop i xs ≡ x ∷ drop (i + 1) xs
drop_at xs i x at = let e : suc i ≡ i + 1 = omega arith in drop_cons xs i x at ∙ ap (λ n. x ∷ drop n xs) e

pub drop_past : {T : Type 0} (xs : List T) (i : ℕ) → length xs ≤ i → drop i xs ≡ []
drop_past [] zero past = refl
drop_past [] (suc i) past = refl
drop_past (x ∷ xs) zero past = absurd (omega (arith, past))
drop_past (x ∷ xs) (suc i) past = drop_past xs i (omega (arith, past))

-- a search from an item on
pub found_here : {T : Type 0} (p : T → Bool) (xs : List T) (i : ℕ) (x : T) → slice_get xs i ≡ Some x → p x ≡ true → find p (drop i xs) ≡ Some x
found_here p xs i x at passes = ap (find p) (drop_at xs i x at) ∙ ap (λ b. cond b (Some x) (find p (drop (i + 1) xs))) passes

pub found_on : {T : Type 0} (p : T → Bool) (xs : List T) (i : ℕ) (x : T) → slice_get xs i ≡ Some x → p x ≡ false → find p (drop i xs) ≡ find p (drop (i + 1) xs)
found_on p xs i x at fails = ap (find p) (drop_at xs i x at) ∙ ap (λ b. cond b (Some x) (find p (drop (i + 1) xs))) fails

pub gate_fits : (m : MachineData) (kind : FitKind) (a b : ℕ) → HasInputs kind 2 → IsNet m a → IsNet m b → GateFits m kind (a ∷ b ∷ [])
gate_fits m kind a b count is it = record { count = count; nets = two_nets m a b is it }

-- one more net is joined
pub join_on : (kind : FitKind) (a : Added) (ys : List ℕ) (i y : ℕ) (n : MachineData) (net : ℕ) → slice_get ys i ≡ Some y
    → gate_answer a.machine kind (a.net ∷ y ∷ []) ≡ Ok (with_net n net) → joined_with kind a (drop i ys) ≡ joined_with kind (with_net n net) (drop (i + 1) ys)
join_on kind a ys i y n net at is = ap (joined_with kind a) (drop_at ys i y at) ∙ ap (λ w. and_then w (λ b. joined_with kind b (drop (i + 1) ys))) is

-- a net is delayed once more
pub delay_on : (k i : ℕ) (a : Added) (n : MachineData) (net : ℕ) → i < k → delay_answer a.machine a.net ≡ Ok (with_net n net) → delayed_by (k - i) a ≡ delayed_by (k - (i + 1)) (with_net n net)
delay_on k i a n net below is =
    let e : k - i ≡ suc (k - (i + 1)) = omega arith in
    ap (λ j. delayed_by j a) e ∙ ap (λ w. and_then w (delayed_by (k - (i + 1)))) is

-- nets behind others
abbrev pub behind_nets : List ℕ → Result AddedNets AddFault → Result AddedNets AddFault
behind_nets before (Ok b) = Ok (record { machine = b.machine; nets = before ++ b.nets })
behind_nets before (Err fault) = Err fault

pub behind_no_nets : (nets : List ℕ) (r : Result AddedNets AddFault) → nets ≡ [] → behind_nets nets r ≡ r
behind_no_nets nets (Ok b) none = ap (λ l. Ok (record { machine = b.machine; nets = l ++ b.nets })) none
behind_no_nets nets (Err fault) none = refl

pub all_kept : (m n : MachineData) → Extends m n → (nets : List ℕ) → AllByRecursion (IsNet m) nets → AllByRecursion (IsNet n) nets
all_kept m n e [] all = tt
all_kept m n e (y ∷ ys) all = (net_kept m n e y all.0, all_kept m n e ys all.1)

pub all_push : (n : MachineData) (nets : List ℕ) (y : ℕ) → AllByRecursion (IsNet n) nets → IsNet n y → AllByRecursion (IsNet n) (nets ++ y ∷ [])
all_push n [] y all is = (is, tt)
all_push n (x ∷ xs) y all is = (all.0, all_push n xs y all.1 is)

append_assoc : (xs ys zs : List ℕ) → xs ++ (ys ++ zs) ≡ (xs ++ ys) ++ zs
append_assoc [] ys zs = refl
append_assoc (x ∷ xs) ys zs = ap (λ l. x ∷ l) (append_assoc xs ys zs)

append_none : (xs : List ℕ) → xs ++ [] ≡ xs
append_none [] = refl
append_none (x ∷ xs) = ap (λ l. x ∷ l) (append_none xs)

module _ {A : Type 0} (add : MachineData → A → Result Added AddFault) where
  -- one more item is added
  pub each_on : (before : List ℕ) (n o : MachineData) (xs : List A) (i : ℕ) (x : A) (net : ℕ) → slice_get xs i ≡ Some x → add n x ≡ Ok (with_net o net)
      → behind_nets before (for_each add n (drop i xs)) ≡ behind_nets (before ++ net ∷ []) (for_each add o (drop (i + 1) xs))
  each_on before n o xs i x net at is =
      ap (λ l. behind_nets before (for_each add n l)) (drop_at xs i x at)
      ∙ (ap (λ w. behind_nets before (and_then w (λ a. and_then (for_each add a.machine (drop (i + 1) xs)) (before_nets a)))) is
      ∙ go (for_each add o (drop (i + 1) xs)))
    where
      go : (r : Result AddedNets AddFault) → behind_nets before (and_then r (before_nets (with_net o net))) ≡ behind_nets (before ++ net ∷ []) r
      go (Ok b) = ap (λ l. Ok (record { machine = b.machine; nets = l })) (append_assoc before (net ∷ []) b.nets)
      go (Err fault) = refl

  -- all items are added
  pub each_end : (before : List ℕ) (n : MachineData) (xs : List A) (i : ℕ) → length xs ≤ i → behind_nets before (for_each add n (drop i xs)) ≡ Ok (record { machine = n; nets = before })
  each_end before n xs i past =
      ap (λ l. behind_nets before (for_each add n l)) (drop_past xs i past) ∙ ap (λ l. Ok (record { machine = n; nets = l })) (append_none before)

  -- an item is refused
  pub each_fault : (before : List ℕ) (n : MachineData) (xs : List A) (i : ℕ) (x : A) (wanted : Result AddedNets AddFault) (fault : AddFault) → slice_get xs i ≡ Some x
      → behind_nets before (for_each add n (drop i xs)) ≡ wanted → MayFail (add n x) fault → MayFail wanted fault
  each_fault before n xs i x wanted NoMemory at same is = tt
  each_fault before n xs i x wanted (Limit limit) at same is =
      sym same
      ∙ (ap (λ l. behind_nets before (for_each add n l)) (drop_at xs i x at)
      ∙ ap (λ w. behind_nets before (and_then w (λ a. and_then (for_each add a.machine (drop (i + 1) xs)) (before_nets a)))) is)

-- what is true of each by recursion is true at each place
pub by_place : {T : Type 0} (P : T → Type 0) (xs : List T) → AllByRecursion P xs → All P xs
by_place P [] all k d below = absurd (omega (arith, below))
by_place P (x ∷ xs) all zero d below = all.0
by_place P (x ∷ xs) all (suc k) d below = by_place P xs all.1 k d (omega (arith, below))

pub literals_there : (m : MachineData) (terms : List (List Literal)) → All (λ term. 0 < length term) terms → ((y : ℕ) → is_in (condition_nets terms) y ≡ true → IsNet m y)
    → All (λ term. AllByRecursion (λ (l : Literal). IsNet m l.0) term) terms
literals_there m terms some nets k d below = (by_place (IsTerm m) terms (terms_are m terms some nets) k d below).1
