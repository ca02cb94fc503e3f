-- Nets found, one more at a time.
use Rattle.std.proofs.Common.{◌≡◌, ℕ, zero, suc, ◌+◌, ◌≤◌, Bool, true, false, ◌||◌, if◌then◌else◌, List, [], ◌∷◌, ◌++◌}
use Rattle.std.proofs.Common.{length, map, take, drop, nat_eq, slice_get, Some, refl, sym, ◌∙◌, ap, arith}
use Rattle.std.specs.List.{list_any}
use Rattle.std.proofs.lemmas.Bool.{eqb-true}
use Rattle.std.proofs.lemmas.List.Folds.{list_any-append}
use Rattle.std.proofs.lemmas.Option.{none-some, same_Some}
use Rattle.std.proofs.Math.Bool.{or-false, or_assoc}
use Rattle.cg_net.specs.NetSets.{is_in, with_net}
use Rattle.cg_net.proofs.Members.{is_in-append}
use Rattle.cg_machine.specs.Machine.{MachineData}
use Rattle.cg_claim_reach.specs.inner.Spreading.{is_shown, shows}
use Rattle.cg_net.proofs.TableLemmas.{take_next}

pub or_true : (b : Bool) → (b || true) ≡ true
or_true true = refl
or_true false = refl

pub drop_cons : {X : Type 0} (xs : List X) (i : ℕ) (x : X) → slice_get xs i ≡ Some x → drop i xs ≡ x ∷ drop (i + 1) xs
drop_cons [] i x at = absurd (none-some x at)
drop_cons (y ∷ xs) zero x at = let e : 0 + 1 ≡ suc 0 = omega arith in ap (λ z. z ∷ xs) (same_Some y x at) ∙ ap (λ n. x ∷ drop n (y ∷ xs)) (sym e)
drop_cons (y ∷ xs) (suc i) x at = let e : suc i + 1 ≡ suc (i + 1) = omega arith in drop_cons xs i x at ∙ ap (λ n. x ∷ drop n (y ∷ xs)) (sym e)

pub drop_whole : {X : Type 0} (xs : List X) (n : ℕ) → length xs ≤ n → drop n xs ≡ []
drop_whole [] zero past = refl
drop_whole [] (suc n) past = refl
drop_whole (x ∷ xs) zero past = absurd (omega arith)
drop_whole (x ∷ xs) (suc n) past = drop_whole xs n (omega arith)

-- one more net
pub in_with : (found : List ℕ) (net y : ℕ) → is_in (with_net found net) y ≡ (is_in found y || is_in (net ∷ []) y)
in_with found net y = go (is_in found net) refl
  where
    there : (b : Bool) → nat_eq y net ≡ b → is_in found net ≡ true → is_in found y ≡ (is_in found y || (b || false))
    there true same is = let here : is_in found y ≡ true = ap (is_in found) (eqb-true y net same) ∙ is in here ∙ ap (λ b. b || true) (sym here)
    there false same is = sym (or-false (is_in found y))

    go : (b : Bool) → is_in found net ≡ b → is_in (if b then found else found ++ net ∷ []) y ≡ (is_in found y || is_in (net ∷ []) y)
    go true is = there (nat_eq y net) refl is
    go false is = is_in-append found (net ∷ []) y

-- the outputs so far, and one more
pub outputs_more : (old found new : List ℕ) (outputs : List (ℕ × Bool)) (i net : ℕ) (inverted : Bool) → slice_get outputs i ≡ Some (net, inverted)
    → ((x : ℕ) → is_in new x ≡ (is_in found x || is_in (net ∷ []) x))
    → ((x : ℕ) → is_in found x ≡ (is_in old x || is_in (map (λ output. output.0) (take i outputs)) x))
    → (x : ℕ) → is_in new x ≡ (is_in old x || is_in (map (λ output. output.0) (take (i + 1) outputs)) x)
outputs_more old found new outputs i net inverted at one so_far x =
    one x
    ∙ (ap (λ b. b || is_in (net ∷ []) x) (so_far x)
    ∙ (or_assoc (is_in old x) (is_in (map (λ (o : ℕ × Bool). o.0) (take i outputs)) x) (is_in (net ∷ []) x)
    ∙ ap (λ b. is_in old x || b)
    (sym (list_any-append (nat_eq x) (map (λ (o : ℕ × Bool). o.0) (take i outputs)) (net ∷ []))
    ∙ ap (λ l. is_in l x) (sym (ap (map (λ (o : ℕ × Bool). o.0)) (take_next outputs i (net, inverted) at) ∙ mapped (take i outputs))))))
  where
    mapped : (xs : List (ℕ × Bool)) → map (λ (o : ℕ × Bool). o.0) (xs ++ (net, inverted) ∷ []) ≡ map (λ (o : ℕ × Bool). o.0) xs ++ net ∷ []
    mapped [] = refl
    mapped (o ∷ xs) = ap (λ l. o.0 ∷ l) (mapped xs)

-- the registers so far, and one more
pub shown_more : (m : MachineData) (old found new : List ℕ) (regs : List ℕ) (i reg : ℕ) → slice_get regs i ≡ Some reg
    → ((y : ℕ) → is_in found y ≡ (is_in old y || is_shown m (take i regs) y))
    → ((y : ℕ) → is_in new y ≡ (is_in found y || shows m y reg))
    → (y : ℕ) → is_in new y ≡ (is_in old y || is_shown m (take (i + 1) regs) y)
shown_more m old found new regs i reg at so_far one y =
    one y ∙ (ap (λ b. b || shows m y reg) (so_far y)
    ∙ (or_assoc (is_in old y) (is_shown m (take i regs) y) (shows m y reg)
    ∙ ap (λ b. is_in old y || b)
    (ap (λ b. is_shown m (take i regs) y || b) (sym (or-false (shows m y reg)))
    ∙ (sym (list_any-append (shows m y) (take i regs) (reg ∷ [])) ∙ ap (list_any (shows m y)) (sym (take_next regs i reg at))))))
