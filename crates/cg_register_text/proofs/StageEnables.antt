-- The enables that a stage leaves.
use Rattle.std.proofs.Common.{◌≡◌, ℕ, zero, suc, ◌<◌, ◌≤◌, Bool, true, false, ◌||◌, if◌then◌else◌, List, [], ◌∷◌, ◌++◌, length, slice_get, slice_set, Option, None, Some, refl, sym, ap, ◌∙◌, subst, arith, inl, inr}
use Rattle.std.specs.Option.{option_flatten}
use Rattle.std.proofs.lemmas.Bool.{eq-eqb, ne_eqb}
use Rattle.std.proofs.lemmas.List.{length-append, length-set}
use Rattle.cg_cell.specs.declared.fit.FitKind.{FitKind}
use Rattle.cg_cell.specs.declared.fit.FitKind.TheVariants.{And2, Inv, Or2}
use Rattle.cg_machine.specs.Added.{Added, add_delay, add_gate, find_delay, find_gate, give, or_push, push_delay, push_gate}
use Rattle.cg_machine.specs.Machine.{MachineData, enable_of}
use Rattle.cg_machine.specs.declared.stage.Stage.{Stage}
use Rattle.cg_machine.specs.declared.stage.StageKind.{StageKind}
use Rattle.cg_machine.specs.declared.stage.StageKind.TheVariants.{Hold, Stable, Unseen}
use Rattle.cg_net.specs.NetSets.{is_in}
use Rattle.cg_net.proofs.TableLemmas.{same_or_not, slice_get-set_other, slice_get-set_same}
use Rattle.cg_stage_laws.specs.Effects.{delayed, effect, literal_net, net_by, with_own}
use Rattle.cg_stage_laws.specs.Joined.{join, join_all}
use Rattle.cg_stage_laws.specs.Stages.{enable_nets, first_literal}

-- n has the enables of m
record SameEnables (m n : MachineData) : Type 0 where
  enables : (r : ℕ) → enable_of n r ≡ enable_of m r
  long : length m.enables ≤ length n.enables

itself : (m : MachineData) → SameEnables m m
itself m = record { enables = λ r. refl; long = omega arith }

onward : (m n o : MachineData) → SameEnables m n → SameEnables n o → SameEnables m o
onward m n o first second = record { enables = λ r. second.enables r ∙ first.enables r; long = let a = first.long in let b = second.long in omega (arith, a, b) }

-- none behind the others
one_none : (es : List (Option ℕ)) (r : ℕ) → option_flatten (slice_get (es ++ None ∷ []) r) ≡ option_flatten (slice_get es r)
one_none [] zero = refl
one_none [] (suc r) = refl
one_none (e ∷ es) zero = refl
one_none (e ∷ es) (suc r) = one_none es r

found_or : (m n : MachineData) (found : Option ℕ) → SameEnables m n → SameEnables m (or_push m n found).machine
found_or m n None same = same
found_or m n (Some net) same = itself m

gate_same : (m : MachineData) (kind : FitKind) (inputs : List ℕ) → SameEnables m (add_gate m kind inputs).machine
gate_same m kind inputs = found_or m (push_gate m kind inputs) (find_gate m kind inputs) (record { enables = λ r. refl; long = omega arith })

delay_same : (m : MachineData) (net : ℕ) → SameEnables m (add_delay m net).machine
delay_same m net = found_or m (push_delay m net) (find_delay m net) (record { enables = one_none m.enables; long = let n = length-append m.enables (None ∷ []) in omega (arith, n) })

join_same : (a : Added) (nets : List ℕ) → SameEnables a.machine (join a nets).machine
join_same a [] = itself a.machine
join_same a (y ∷ ys) =
    let b : Added = add_gate a.machine Or2 (a.net ∷ y ∷ []) in
    onward a.machine b.machine (join b ys).machine (gate_same a.machine Or2 (a.net ∷ y ∷ [])) (join_same b ys)

join_all_same : (m : MachineData) (nets : List ℕ) → SameEnables m (join_all m nets).machine
join_all_same m [] = itself m
join_all_same m (y ∷ ys) = join_same (record { machine = m; net = y }) ys

literal_same : (m : MachineData) (net : ℕ) (inverted : Bool) → SameEnables m (literal_net m (net, inverted)).machine
literal_same m net true = gate_same m Inv (net ∷ [])
literal_same m net false = itself m

own_same : (a : Added) (own : Option ℕ) → SameEnables a.machine (with_own a own).machine
own_same a None = itself a.machine
own_same a (Some own) = gate_same a.machine And2 (own ∷ a.net ∷ [])

net_same : (kind : StageKind) (m : MachineData) (s : Stage) → SameEnables m (net_by kind m s).machine
net_same Hold m s = literal_same m (first_literal s.enable).0 (first_literal s.enable).1
net_same Unseen m s = join_all_same m (enable_nets s)
net_same Stable m s =
    let a : Added = join_all m (enable_nets s) in
    onward m a.machine (with_own (delayed a) s.own).machine (join_all_same m (enable_nets s))
    (onward a.machine (delayed a).machine (with_own (delayed a) s.own).machine (delay_same a.machine a.net) (own_same (delayed a) s.own))

-- registers that are given one
given_at : (es : List (Option ℕ)) (G : List ℕ) (e r : ℕ) → r < length es → option_flatten (slice_get (give es G e) r) ≡ (if is_in G r then Some e else option_flatten (slice_get es r))
given_at es [] e r below = refl
given_at es (g ∷ G) e r below =
    given_at (slice_set es g (Some e)) G e r (let l = length-set es g (Some e) in omega (arith, l, below))
    ∙ elim (same_or_not r g) [
      | inl same ↦
          ap (λ o. if is_in G r then Some e else option_flatten o) (ap (slice_get (slice_set es g (Some e))) same ∙ slice_get-set_same es g (Some e) (subst (λ k. k < length es) same below))
          ∙ (both (is_in G r) ∙ ap (λ b. if b || is_in G r then Some e else option_flatten (slice_get es r)) (sym (eq-eqb r g same)))
      | inr other ↦
          ap (λ o. if is_in G r then Some e else option_flatten o) (slice_get-set_other es g r (Some e) other)
          ∙ ap (λ b. if b || is_in G r then Some e else option_flatten (slice_get es r)) (sym (ne_eqb r g other))
    ]
  where
    both : (b : Bool) → (if b then Some e else Some e) ≡ Some e
    both true = refl
    both false = refl

long_given : (es : List (Option ℕ)) (G : List ℕ) (e : ℕ) → length (give es G e) ≡ length es
long_given es [] e = refl
long_given es (g ∷ G) e = long_given (slice_set es g (Some e)) G e ∙ length-set es g (Some e)

-- a stage gives its registers its net, and leaves the others theirs
pub effect_enable : (m : MachineData) (s : Stage) (r : ℕ) → r < length m.enables → enable_of (effect m s) r ≡ (if is_in s.regs r then Some (net_by s.kind m s).net else enable_of m r)
effect_enable m s r below =
    let a : Added = net_by s.kind m s in
    let same = net_same s.kind m s in
    given_at a.machine.enables s.regs a.net r (let l = same.long in omega (arith, l, below))
    ∙ ap (λ o. if is_in s.regs r then Some a.net else o) (same.enables r)

pub effect_long : (m : MachineData) (s : Stage) → length m.enables ≤ length (effect m s).enables
effect_long m s =
    let a : Added = net_by s.kind m s in
    let same = net_same s.kind m s in
    let l = long_given a.machine.enables s.regs a.net in
    let n = same.long in
    omega (arith, l, n)
