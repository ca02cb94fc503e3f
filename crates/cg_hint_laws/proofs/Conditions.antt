-- The condition of a hint as it is added: the gates are there, and the last net shows it.
use Rattle.std.proofs.Common.{◌≡◌, ℕ, ◌<◌, Bool, true, false, not, ◌&&◌, ◌||◌, if◌then◌else◌, List, [], ◌∷◌, map, length, refl}
use Rattle.std.proofs.Common.{sym, ◌∙◌, ap, subst, arith, Ok, suc}
use Rattle.std.specs.List.{All, AllByRecursion, fold}
use Rattle.cg_cell.specs.Cover.{cover_value}
use Rattle.cg_cell.specs.Gates.{all_of, any_of}
use Rattle.cg_cell.specs.declared.fit.FitKind.TheVariants.{And2, Inv, Or2}
use Rattle.cg_net.specs.NetSets.{is_in}
use Rattle.cg_net.proofs.Members.{is_in_left, is_in_right}
use Rattle.cg_netlist.specs.Moment.{bit}
use Rattle.cg_netlist.proofs.RisingPlaces.{in_head, in_tail}
use Rattle.cg_machine.specs.Added.{Added, add_gate, gate_answer, gate_limit}
use Rattle.cg_machine.specs.Claims.{Literal, literal_bit}
use Rattle.cg_machine.specs.Extends.{Extends, HasGate, old}
use Rattle.cg_machine.specs.Gates.{inverter_cover}
use Rattle.cg_machine.specs.Machine.{IsMachine, IsNet, MachineData, values}
use Rattle.cg_machine.proofs.Extended.{extends_self, extends_then}
use Rattle.cg_machine.proofs.FewValues.{values_one}
use Rattle.cg_machine.proofs.Lists.{in_one}
use Rattle.cg_machine.proofs.Settled.{wide}
use Rattle.cg_machine.proofs.There.{gate_there}
use Rattle.cg_machine.proofs.GateValues.{and_value, inverter_value, or_value}
use Rattle.cg_hint_laws.specs.Effects.{AddedNets, condition_answer, for_each, joined, joined_from, literal_answer, term_answer}
use Rattle.cg_hint_laws.specs.Hints.{condition_at, condition_nets, term_at}
use Rattle.cg_hint_laws.proofs.Additions.{Adds, AddsEach, AreShown, and_then_ok, each_adds, inputs_on, joined_adds, or_limit_ok, own_shown}
use Rattle.cg_hint_laws.proofs.Additions.{shown_as, shown_later}

fold_and : (b : Bool) (bs : List Bool) → fold (λ p q. p && q) b bs ≡ (b && all_of bs)
fold_and true [] = refl
fold_and false [] = refl
fold_and true (c ∷ bs) = fold_and c bs
fold_and false (c ∷ bs) = fold_and false bs

fold_or : (b : Bool) (bs : List Bool) → fold (λ p q. p || q) b bs ≡ (b || any_of bs)
fold_or true [] = refl
fold_or false [] = refl
fold_or true (c ∷ bs) = fold_or true bs
fold_or false (c ∷ bs) = fold_or c bs

-- what a literal, a term and a condition say of m
abbrev pub literal_says : MachineData → Literal → List Bool → List Bool → Bool
literal_says m l s x = literal_bit (bit (values m s x)) l

abbrev pub term_says : MachineData → List Literal → List Bool → List Bool → Bool
term_says m term s x = term_at (values m s x) term

abbrev pub condition_says : MachineData → List (List Literal) → List Bool → List Bool → Bool
condition_says m terms s x = condition_at (values m s x) terms

abbrev pub IsLiteral : MachineData → Literal → Type 0
IsLiteral m l = IsNet m l.0

abbrev pub IsTerm : MachineData → List Literal → Type 0
IsTerm m term = (0 < length term) × AllByRecursion (IsLiteral m) term

module _ (m : MachineData) where
  literal_adds : (n : MachineData) (l : Literal) (a : Added) → IsMachine n → Extends m n → IsLiteral m l → literal_answer n l ≡ Ok a → Adds m n (literal_says m l) a
  literal_adds n l a good e is ok = go l.1 refl ok
    where
      y : ℕ
      y = l.0

      go : (b : Bool) → l.1 ≡ b → (if b then gate_answer n Inv (l.0 ∷ []) else Ok (record { machine = n; net = l.0 })) ≡ Ok a → Adds m n (literal_says m l) a
      go false plain at =
          let same : record { machine = n; net = l.0 } ≡ a = cc in
          subst (Adds m n (literal_says m l)) same (record {
            grows = extends_self n;
            shows = shown_as m (λ s x. bit (values m s x) l.0) (literal_says m l) (record { machine = n; net = l.0 })
                (λ s x. ap (λ i. if i then not (bit (values m s x) l.0) else bit (values m s x) l.0) (sym plain)) (own_shown m n good e l.0 is);
          })
      go true inverted at =
          let both = or_limit_ok (gate_limit n Inv (l.0 ∷ [])) (add_gate n Inv (l.0 ∷ [])) a at in
          let b : Added = add_gate n Inv (l.0 ∷ []) in
          let own = own_shown m n good e l.0 is in
          let h : HasGate n Inv (l.0 ∷ []) b = gate_there n Inv (l.0 ∷ []) good (record { count = refl; nets = λ z among. subst (IsNet n) (sym (in_one z l.0 among)) own.is_net }) both.0 in
          let later = shown_later m (λ s x. bit (values m s x) l.0) (record { machine = n; net = l.0 }) b.machine own h.good h.extends in
          subst (Adds m n (literal_says m l)) both.1 (record {
            grows = h.extends;
            shows = record {
              good = h.good;
              extends = later.extends;
              is_net = h.is_net;
              shows = λ s x long ins.
                  let inb = inputs_on m b.machine later.extends x ins in
                  let w = wide b.machine h.good s x long inb in
                  h.shows s x long inb
                  ∙ (ap (cover_value inverter_cover) (values_one (values b.machine s x) l.0 (omega (arith, w, later.is_net.below)))
                  ∙ (inverter_value (bit (values b.machine s x) l.0)
                  ∙ (ap not (later.shows s x long ins)
                  ∙ ap (λ i. if i then not (bit (values m (old m s) x) l.0) else bit (values m (old m s) x) l.0) (sym inverted))));
            };
          })

  term_adds : (n : MachineData) (term : List Literal) (a : Added) → IsMachine n → Extends m n → IsTerm m term → term_answer n term ≡ Ok a → Adds m n (term_says m term) a
  term_adds n [] a good e is ok = absurd (omega (arith, is.0))
  term_adds n (l ∷ ls) a good e is ok =
      let each = and_then_ok (for_each literal_answer n (l ∷ ls)) (joined And2) a ok in
      let b : AddedNets = each.0 in
      let are : AddsEach m n (literal_says m) (l ∷ ls) b = each_adds m (literal_says m) literal_answer (IsLiteral m) literal_adds n (l ∷ ls) b good e is.1 each.1 in
      go b.machine b.nets are.grows are.shown each.2
    where
      go : (o : MachineData) (ys : List ℕ) → Extends n o → AreShown m (literal_says m) o (l ∷ ls) ys → joined_from And2 o ys ≡ Ok a → Adds m n (term_says m (l ∷ ls)) a
      go o [] grows are at = absurd are
      go o (y ∷ ys) grows are at =
          let j = joined_adds m (literal_says m) And2 (λ p q. p && q) refl and_value (literal_says m l) (record { machine = o; net = y }) ls ys a are.0 are.1 at in
          record {
            grows = extends_then n o a.machine grows j.grows;
            shows = shown_as m (λ s x. fold (λ p q. p && q) (literal_says m l s x) (map (λ i. literal_says m i s x) ls)) (term_says m (l ∷ ls)) a
                (λ s x. fold_and (literal_says m l s x) (map (λ i. literal_says m i s x) ls)) j.shows;
          }

  pub condition_adds : (n : MachineData) (terms : List (List Literal)) (a : Added) → IsMachine n → Extends m n → 0 < length terms → AllByRecursion (IsTerm m) terms
      → condition_answer n terms ≡ Ok a → Adds m n (condition_says m terms) a
  condition_adds n [] a good e some is ok = absurd (omega arith)
  condition_adds n (term ∷ terms) a good e some is ok =
      let each = and_then_ok (for_each term_answer n (term ∷ terms)) (joined Or2) a ok in
      let b : AddedNets = each.0 in
      let are : AddsEach m n (term_says m) (term ∷ terms) b = each_adds m (term_says m) term_answer (IsTerm m) term_adds n (term ∷ terms) b good e is each.1 in
      go b.machine b.nets are.grows are.shown each.2
    where
      go : (o : MachineData) (ys : List ℕ) → Extends n o → AreShown m (term_says m) o (term ∷ terms) ys → joined_from Or2 o ys ≡ Ok a → Adds m n (condition_says m (term ∷ terms)) a
      go o [] grows are at = absurd are
      go o (y ∷ ys) grows are at =
          let j = joined_adds m (term_says m) Or2 (λ p q. p || q) refl or_value (term_says m term) (record { machine = o; net = y }) terms ys a are.0 are.1 at in
          record {
            grows = extends_then n o a.machine grows j.grows;
            shows = shown_as m (λ s x. fold (λ p q. p || q) (term_says m term s x) (map (λ i. term_says m i s x) terms)) (condition_says m (term ∷ terms)) a
                (λ s x. fold_or (term_says m term s x) (map (λ i. term_says m i s x) terms)) j.shows;
          }

  -- the terms of a hint that fits
  literals_are : (term : List Literal) → ((y : ℕ) → is_in (map (λ (l : Literal). l.0) term) y ≡ true → IsNet m y) → AllByRecursion (IsLiteral m) term
  literals_are [] nets = tt
  literals_are (l ∷ ls) nets = (
    nets l.0 (in_head l.0 (map (λ (l : Literal). l.0) ls)),
    literals_are ls (λ y among. nets y (in_tail y l.0 (map (λ (l : Literal). l.0) ls) among)),
  )

  pub terms_are : (terms : List (List Literal)) → All (λ term. 0 < length term) terms → ((y : ℕ) → is_in (condition_nets terms) y ≡ true → IsNet m y) → AllByRecursion (IsTerm m) terms
  terms_are [] some nets = tt
  terms_are (term ∷ terms) some nets = (
    (some 0 [] (omega arith), literals_are term (λ y among. nets y (is_in_left (map (λ (l : Literal). l.0) term) (condition_nets terms) y among))),
    terms_are terms (λ k d below. some (suc k) d (omega arith)) (λ y among. nets y (is_in_right (map (λ (l : Literal). l.0) term) (condition_nets terms) y among)),
  )
