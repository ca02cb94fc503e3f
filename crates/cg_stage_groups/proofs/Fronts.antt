-- A walk back that may end before it has found a whole cone, one net at a time.
use Rattle.std.proofs.Common.{◌≡◌, ℕ, ◌<◌, true, false, List, [], ◌∷◌, ◌++◌, length, nat_eq, slice_get, Option, Some, refl, sym}
use Rattle.std.proofs.Common.{subst, inl, inr}
use Rattle.std.specs.Option.{IfSome, option_to_list}
use Rattle.std.proofs.lemmas.Bool.{both_ways, eq-eqb, eqb-true, or_cases, or_left}
use Rattle.cg_machine.specs.Added.{own_netlist}
use Rattle.cg_machine.specs.Machine.{MachineData}
use Rattle.cg_net.proofs.FoundNets.{kept_all, only_these, take_some}
use Rattle.cg_net.proofs.Members.{is_in_cases, is_in_left, is_in_right}
use Rattle.cg_net.specs.NetSets.{is_in, with_nets}
use Rattle.cg_netlist.specs.Circuit.{LogicCell}
use Rattle.cg_netlist_cone.proofs.Cones.{longer}
use Rattle.cg_netlist_cone.specs.Cone.{Reaches, here}
use Rattle.cg_stage_groups.specs.inner.Front.{AreAmong, IsFront}
use Rattle.cg_stage_groups.specs.inner.Reaching.{AreOwn}

-- at the start the roots
pub front_first : (m : MachineData) (roots found ahead : List ℕ) → AreOwn m roots → found ≡ with_nets [] roots → AreAmong ahead found → IsFront m roots found ahead
front_first m roots found ahead own is among = record {
  own = λ y there. own y (root y there);
  only = λ y there. record { root = y; among = root y there; reaches = here };
  ahead_found = among;
}
  where
    root : (y : ℕ) → is_in found y ≡ true → is_in roots y ≡ true
    root y there = elim (only_these [] roots y (subst (λ l. is_in l y ≡ true) is there)) [ inl none ↦ absurd (both_ways false refl none) | inr is' ↦ is' ]

-- the inputs of a logic cell with the output of it
pub front_more : (m : MachineData) (roots found ahead more later : List ℕ) (k net : ℕ) (cell : LogicCell ℕ) → slice_get (own_netlist m).cells k ≡ Some cell → cell.output ≡ net → is_in found net ≡ true
    → ((x : ℕ) → is_in cell.inputs x ≡ true → x < length (own_netlist m).names) → more ≡ with_nets found cell.inputs → AreAmong later more → IsFront m roots found ahead → IsFront m roots more later
front_more m roots found ahead more later k net cell at output there inputs is among front = record {
  own = λ y in_more. elim (only_these found cell.inputs y (subst (λ l. is_in l y ≡ true) is in_more)) [ inl old ↦ front.own y old | inr new ↦ inputs y new ];
  only = λ y in_more. elim (only_these found cell.inputs y (subst (λ l. is_in l y ≡ true) is in_more)) [
    | inl old ↦ front.only y old
    | inr new ↦
        let way = front.only net there in
        let on : Reaches m.circuit.cells cell.output way.root = subst (λ z. Reaches m.circuit.cells z way.root) (sym output) way.reaches in
        record { root = way.root; among = way.among; reaches = longer m.circuit.cells k cell y way.root (take_some m.own_cells m.circuit.cells k cell at) new on }
  ];
  ahead_found = among;
}

-- what is among nets that were found is among more of them
pub among_more : (nets found xs more : List ℕ) → more ≡ with_nets found xs → AreAmong nets found → AreAmong nets more
among_more nets found xs more is among y there = subst (λ l. is_in l y ≡ true) (sym is) (kept_all found xs y (among y there))

-- one less, and the one that was taken
pub fewer_among : (nets rest found : List ℕ) (o : Option ℕ) → nets ≡ rest ++ option_to_list o → AreAmong nets found → AreAmong rest found
fewer_among nets rest found o is among y there = among y (subst (λ l. is_in l y ≡ true) (sym is) (is_in_left rest (option_to_list o) y there))

pub taken_among : (nets rest found : List ℕ) (net : ℕ) → nets ≡ rest ++ net ∷ [] → AreAmong nets found → is_in found net ≡ true
taken_among nets rest found net is among = among net (subst (λ l. is_in l net ≡ true) (sym is) (is_in_right rest (net ∷ []) net (or_left (nat_eq net net) _ (eq-eqb net net refl))))

pub one_among : (nets found more : List ℕ) (net : ℕ) → more ≡ nets ++ net ∷ [] → is_in found net ≡ true → AreAmong nets found → AreAmong more found
one_among nets found more net is there among y in_more = elim (is_in_cases nets (net ∷ []) y (subst (λ l. is_in l y ≡ true) is in_more)) [
  | inl old ↦ among y old
  | inr new ↦ subst (λ z. is_in found z ≡ true) (sym (last y new)) there
]
  where
    last : (y : ℕ) → is_in (net ∷ []) y ≡ true → y ≡ net
    last y h = elim (or_cases (nat_eq y net) _ h) [ inl same ↦ eqb-true y net same | inr none ↦ absurd (both_ways false refl none) ]

pub fewer_front : (m : MachineData) (roots found ahead rest : List ℕ) (o : Option ℕ) → ahead ≡ rest ++ option_to_list o → IsFront m roots found ahead → IsFront m roots found rest
fewer_front m roots found ahead rest o is front = record { own = front.own; only = front.only; ahead_found = fewer_among ahead rest found o is front.ahead_found }

-- the next net, where there is one
pub found_some : (found : List ℕ) (o : Option ℕ) (net : ℕ) → o ≡ Some net → IfSome o (λ n. is_in found n ≡ true) → is_in found net ≡ true
found_some found o net is there = subst (λ (z : Option ℕ). IfSome z (λ n. is_in found n ≡ true)) is there
