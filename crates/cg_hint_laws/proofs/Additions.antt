-- What is added to a machine one after another: each net shows what is said for it, also when more is added.
use Rattle.std.proofs.Common.{◌≡◌, ℕ, Bool, List, [], ◌∷◌, map, length, Option, None, Some, refl, sym}
use Rattle.std.proofs.Common.{◌∙◌, ap, subst, arith, Result, Ok, Err}
use Rattle.std.specs.List.{AllByRecursion, fold}
use Rattle.cg_cell.specs.Cover.{cover_value}
use Rattle.cg_cell.specs.declared.fit.FitKind.{FitKind}
use Rattle.cg_limit.specs.declared.Limit.{Limit}
use Rattle.cg_netlist.specs.Moment.{bit}
use Rattle.cg_netlist.specs.declared.fault.AddFault.{AddFault}
use Rattle.cg_machine.specs.Added.{Added, add_gate, gate_answer, gate_limit, or_limit}
use Rattle.cg_machine.specs.Extends.{Extends, HasGate, old}
use Rattle.cg_machine.specs.Gates.{HasInputs, gate_cover}
use Rattle.cg_machine.specs.Machine.{IsInputs, IsMachine, IsNet, IsState, MachineData, values}
use Rattle.cg_machine.proofs.Extended.{extends_self, extends_then, front_bit, old_long}
use Rattle.cg_machine.proofs.FewValues.{values_two}
use Rattle.cg_machine.proofs.Lists.{take_take}
use Rattle.cg_machine.proofs.Settled.{wide}
use Rattle.cg_machine.proofs.There.{gate_there}
use Rattle.cg_machine.proofs.Extended.{net_kept}
use Rattle.cg_stage_laws.proofs.Joins.{two_nets}
use Rattle.cg_hint_laws.specs.Effects.{AddedNets, and_then, before_nets, for_each, joined_with}

pub and_then_ok : {A B : Type 0} (r : Result A AddFault) (later : A → Result B AddFault) (b : B) → and_then r later ≡ Ok b
    → (a : A) × (r ≡ Ok a) × (later a ≡ Ok b)
and_then_ok (Ok a) later b is = (a, refl, is)
and_then_ok (Err fault) later b is = absurd (cc)

pub or_limit_ok : (o : Option Limit) (a b : Added) → or_limit o a ≡ Ok b → (o ≡ None) × (a ≡ b)
or_limit_ok None a b is = (refl, cc)
or_limit_ok (Some limit) a b is = absurd (cc)

-- the inputs of a machine that extends another
pub inputs_on : (m n : MachineData) → Extends m n → (x : List Bool) → IsInputs m x → IsInputs n x
inputs_on m n e x ins = ins ∙ ap length (sym e.inputs)

pub old_old : (m n : MachineData) → Extends m n → (t : List Bool) → old m (old n t) ≡ old m t
old_old m n e t = take_take (length m.circuit.registers) (length n.circuit.registers) t e.count

-- a net of a machine that extends m, which shows in each cycle what g says of m
pub record Shows (m : MachineData) (g : List Bool → List Bool → Bool) (a : Added) : Type 0 where
  pub good : IsMachine a.machine
  pub extends : Extends m a.machine
  pub is_net : IsNet a.machine a.net
  pub shows : (s x : List Bool) → IsState a.machine s → IsInputs m x → bit (values a.machine s x) a.net ≡ g (old m s) x

pub shown_as : (m : MachineData) (g f : List Bool → List Bool → Bool) (a : Added) → ((s x : List Bool) → g s x ≡ f s x) → Shows m g a → Shows m f a
shown_as m g f a same h = record { good = h.good; extends = h.extends; is_net = h.is_net; shows = λ s x long ins. h.shows s x long ins ∙ same (old m s) x }

pub shown_later : (m : MachineData) (g : List Bool → List Bool → Bool) (a : Added) (n : MachineData) → Shows m g a → IsMachine n → Extends a.machine n
    → Shows m g (record { machine = n; net = a.net })
shown_later m g a n h good e = record {
  good = good;
  extends = extends_then m a.machine n h.extends e;
  is_net = net_kept a.machine n e a.net h.is_net;
  shows = λ s x long ins.
      front_bit a.machine n e s x long (inputs_on m a.machine h.extends x ins) a.net h.is_net.below
      ∙ (h.shows (old a.machine s) x (old_long a.machine n e s long) ins
      ∙ ap (λ u. g u x) (old_old m a.machine h.extends s));
}

-- a net of m itself
pub own_shown : (m n : MachineData) → IsMachine n → Extends m n → (y : ℕ) → IsNet m y → Shows m (λ s x. bit (values m s x) y) (record { machine = n; net = y })
own_shown m n good e y is = record {
  good = good;
  extends = e;
  is_net = net_kept m n e y is;
  shows = λ s x long ins. front_bit m n e s x long ins y is.below;
}

-- an addition to n: its net shows g, and n is in it
pub record Adds (m n : MachineData) (g : List Bool → List Bool → Bool) (a : Added) : Type 0 where
  pub shows : Shows m g a
  pub grows : Extends n a.machine

-- a gate of two nets
pub gate_adds : (m n : MachineData) (kind : FitKind) (op : Bool → Bool → Bool) (g f : List Bool → List Bool → Bool) (y z : ℕ) (a : Added)
    → HasInputs kind 2 → ((p q : Bool) → cover_value (gate_cover kind) (p ∷ q ∷ []) ≡ op p q)
    → Shows m g (record { machine = n; net = y }) → Shows m f (record { machine = n; net = z })
    → gate_answer n kind (y ∷ z ∷ []) ≡ Ok a → Adds m n (λ s x. op (g s x) (f s x)) a
gate_adds m n kind op g f y z a count is hy hz ok =
    let both = or_limit_ok (gate_limit n kind (y ∷ z ∷ [])) (add_gate n kind (y ∷ z ∷ [])) a ok in
    let b : Added = add_gate n kind (y ∷ z ∷ []) in
    let h : HasGate n kind (y ∷ z ∷ []) b = gate_there n kind (y ∷ z ∷ []) hy.good (record { count = count; nets = two_nets n y z hy.is_net hz.is_net }) both.0 in
    let ly = shown_later m g (record { machine = n; net = y }) b.machine hy h.good h.extends in
    let lz = shown_later m f (record { machine = n; net = z }) b.machine hz h.good h.extends in
    subst (Adds m n (λ s x. op (g s x) (f s x))) both.1 (record {
      grows = h.extends;
      shows = record {
        good = h.good;
        extends = ly.extends;
        is_net = h.is_net;
        shows = λ s x long ins.
            let inb = inputs_on m b.machine ly.extends x ins in
            let w = wide b.machine h.good s x long inb in
            h.shows s x long inb
            ∙ (ap (cover_value (gate_cover kind)) (values_two (values b.machine s x) y z (omega (arith, w, ly.is_net.below)) (omega (arith, w, lz.is_net.below)))
            ∙ (is (bit (values b.machine s x) y) (bit (values b.machine s x) z)
            ∙ (ap (λ p. op p (bit (values b.machine s x) z)) (ly.shows s x long ins)
            ∙ ap (op (g (old m s) x)) (lz.shows s x long ins))));
      };
    })

-- nets of n, each of which shows what is said for its item
abbrev pub AreShown : {A : Type 0} → MachineData → (A → List Bool → List Bool → Bool) → MachineData → List A → List ℕ → Type 0
AreShown m g n [] nets = nets ≡ []
AreShown m g n (i ∷ items) [] = ⊥
AreShown m g n (i ∷ items) (y ∷ ys) = Shows m (g i) (record { machine = n; net = y }) × AreShown m g n items ys

pub all_later : {A : Type 0} (m : MachineData) (g : A → List Bool → List Bool → Bool) (n o : MachineData) (items : List A) (ys : List ℕ)
    → IsMachine o → Extends n o → AreShown m g n items ys → AreShown m g o items ys
all_later m g n o [] ys good e are = are
all_later m g n o (i ∷ items) [] good e are = are
all_later m g n o (i ∷ items) (y ∷ ys) good e are =
    (shown_later m (g i) (record { machine = n; net = y }) o are.0 good e, all_later m g n o items ys good e are.1)

-- additions for the items of a list
pub record AddsEach {A : Type 0} (m n : MachineData) (g : A → List Bool → List Bool → Bool) (items : List A) (b : AddedNets) : Type 0 where
  pub good : IsMachine b.machine
  pub extends : Extends m b.machine
  pub grows : Extends n b.machine
  pub shown : AreShown m g b.machine items b.nets

module _ {A : Type 0} (m : MachineData) (g : A → List Bool → List Bool → Bool) (add : MachineData → A → Result Added AddFault) (Item : A → Type 0)
    (each : (n : MachineData) (i : A) (a : Added) → IsMachine n → Extends m n → Item i → add n i ≡ Ok a → Adds m n (g i) a) where
  pub each_adds : (n : MachineData) (items : List A) (b : AddedNets) → IsMachine n → Extends m n → AllByRecursion Item items
      → for_each add n items ≡ Ok b → AddsEach m n g items b
  each_adds n [] b good e are ok =
      let same : record { machine = n; nets = [] } ≡ b = cc in
      subst (AddsEach m n g []) same (record { good = good; extends = e; grows = extends_self n; shown = refl })
  each_adds n (i ∷ items) b good e are ok =
      let first = and_then_ok (add n i) (λ a. and_then (for_each add a.machine items) (before_nets a)) b ok in
      let a : Added = first.0 in
      let head : Adds m n (g i) a = each n i a good e are.0 first.1 in
      let rest = and_then_ok (for_each add a.machine items) (before_nets a) b first.2 in
      let c : AddedNets = rest.0 in
      let tail : AddsEach m a.machine g items c = each_adds a.machine items c head.shows.good head.shows.extends are.1 rest.1 in
      let same : record { machine = c.machine; nets = a.net ∷ c.nets } ≡ b = cc in
      subst (AddsEach m n g (i ∷ items)) same (record {
        good = tail.good;
        extends = tail.extends;
        grows = extends_then n a.machine c.machine head.grows tail.grows;
        shown = (shown_later m (g i) a c.machine head.shows tail.good tail.grows, tail.shown);
      })

-- nets joined by gates of a kind
module _ {A : Type 0} (m : MachineData) (h : A → List Bool → List Bool → Bool) (kind : FitKind) (op : Bool → Bool → Bool) (count : HasInputs kind 2)
    (is : (p q : Bool) → cover_value (gate_cover kind) (p ∷ q ∷ []) ≡ op p q) where
  pub joined_adds : (g : List Bool → List Bool → Bool) (a : Added) (items : List A) (ys : List ℕ) (c : Added) → Shows m g a → AreShown m h a.machine items ys
      → joined_with kind a ys ≡ Ok c → Adds m a.machine (λ s x. fold op (g s x) (map (λ i. h i s x) items)) c
  joined_adds g a [] [] c shown are ok =
      let same : a ≡ c = cc in
      subst (Adds m a.machine g) same (record { shows = shown; grows = extends_self a.machine })
  joined_adds g a [] (y ∷ ys) c shown are ok = absurd (cc)
  joined_adds g a (i ∷ items) [] c shown are ok = absurd are
  joined_adds g a (i ∷ items) (y ∷ ys) c shown are ok =
      let first = and_then_ok (gate_answer a.machine kind (a.net ∷ y ∷ [])) (λ b. joined_with kind b ys) c ok in
      let b : Added = first.0 in
      let gate : Adds m a.machine (λ s x. op (g s x) (h i s x)) b = gate_adds m a.machine kind op g (h i) a.net y b count is shown are.0 first.1 in
      let rest = joined_adds (λ s x. op (g s x) (h i s x)) b items ys c gate.shows (all_later m h a.machine b.machine items ys gate.shows.good gate.grows are.1) first.2 in
      record { shows = rest.shows; grows = extends_then a.machine b.machine c.machine gate.grows rest.grows }
