-- A search from net to net along the cells that read them: at its end all nets at which registers can show were found.
use Rattle.std.proofs.Common.{◌≡◌, ℕ, zero, suc, ◌+◌, ◌<◌, ◌≤◌, Bool, true, false, ◌||◌, ◌&&◌, if◌then◌else◌, List, [], ◌∷◌, ◌++◌}
use Rattle.std.proofs.Common.{length, take, nat_eq, slice_get, Option, Some, None, refl, sym, ◌∙◌, ap, subst, inl, inr}
use Rattle.std.specs.List.{list_any}
use Rattle.std.specs.Option.{option_map_or}
use Rattle.std.proofs.lemmas.Bool.{both_ways, eqb-true, eq-eqb, or_cases, or_left, or_right}
use Rattle.std.proofs.lemmas.Option.{none-some, same_Some}
use Rattle.std.proofs.lemmas.List.{append-nil, append_assoc}
use Rattle.cg_netlist.specs.Circuit.{LogicCell}
use Rattle.cg_net.specs.NetSets.{is_in, with_net}
use Rattle.cg_netlist_cone.specs.Cone.{IsInCone, Reaches, cone_of, through}
use Rattle.cg_netlist_cone.proofs.Cones.{cone_is}
use Rattle.cg_net.proofs.FoundNets.{front, one_more, put_one}
use Rattle.cg_net.proofs.Members.{in_alone, is_in_left}
use Rattle.cg_machine.specs.Machine.{IsMachine, MachineData, walk_of}
use Rattle.cg_claim_reach.specs.Fanout.{readers_at}
use Rattle.cg_claim_reach.specs.inner.Spreading.{AreCellReaders, IsSpreading, is_shown, led_by, led_by_all, led_on, spread, with_cell}
use Rattle.cg_claim_reach.proofs.Filtering.{take_whole}
use Rattle.cg_claim_reach.proofs.SpreadCones.{spread_cone}
use Rattle.cg_claim.proofs.Reached.{and_first}
use Rattle.cg_netlist_cone.proofs.ConeEdge.{any_in}
use Rattle.cg_netlist.proofs.WalkLawsHold.{lone}
use Rattle.cg_netlist_cone.proofs.ConeWalk.{in_next}
use Rattle.std.specs.Cmp.{both_ways as same_truth}

-- some of a list pass where one does
pub any_has : (test : ℕ → Bool) (xs : List ℕ) → list_any test xs ≡ true → (x : ℕ) × ((is_in xs x ≡ true) × (test x ≡ true))
any_has test [] none = absurd (both_ways false refl none)
any_has test (x ∷ xs) some = elim (or_cases (test x) (list_any test xs) some) [
  | inl here ↦ (x, (or_left (nat_eq x x) (is_in xs x) (eq-eqb x x refl), here))
  | inr later ↦ let y = any_has test xs later in (y.0, (or_right (nat_eq y.0 x) (is_in xs y.0) y.1.0, y.1.1))
]

-- a mark stays
spread_has : (cells : List (LogicCell ℕ)) (marked : ℕ → Bool) (y : ℕ) → marked y ≡ true → spread cells marked y ≡ true
spread_has [] marked y is = is
spread_has (cell ∷ cells) marked y is = spread_has cells (with_cell cell marked) y (or_left (marked y) (nat_eq y cell.output && list_any marked cell.inputs) is)

-- marks stay within what has the starts and with an input of a cell its output
pub and_second : (a b : Bool) → (a && b) ≡ true → b ≡ true
and_second true b h = h
and_second false b h = absurd (both_ways false refl h)

spread_within : (cells : List (LogicCell ℕ)) (marked found : ℕ → Bool)
    → ((j : ℕ) (cell : LogicCell ℕ) (x : ℕ) → slice_get cells j ≡ Some cell → found x ≡ true → is_in cell.inputs x ≡ true → found cell.output ≡ true)
    → ((y : ℕ) → marked y ≡ true → found y ≡ true) → (y : ℕ) → spread cells marked y ≡ true → found y ≡ true
spread_within [] marked found closed starts y is = starts y is
spread_within (cell ∷ cells) marked found closed starts y is = spread_within cells (with_cell cell marked) found (λ j. closed (suc j)) more y is
  where
    more : (z : ℕ) → with_cell cell marked z ≡ true → found z ≡ true
    more z marks = elim (or_cases (marked z) (nat_eq z cell.output && list_any marked cell.inputs) marks) [
      | inl before ↦ starts z before
      | inr new ↦
          let some = any_has marked cell.inputs (and_second (nat_eq z cell.output) (list_any marked cell.inputs) new) in
          ap found (eqb-true z cell.output (and_first (nat_eq z cell.output) (list_any marked cell.inputs) new)) ∙ closed 0 cell some.0 refl (starts some.0 some.1.1) some.1.0
    ]

-- the nets that were found before stay in front
led_on_front : (cell : LogicCell ℕ) (found : List ℕ) → (more : List ℕ) × (led_on cell found ≡ found ++ more)
led_on_front cell found = go (list_any (is_in found) cell.inputs)
  where
    go : (b : Bool) → (more : List ℕ) × ((if b then with_net found cell.output else found) ≡ found ++ more)
    go true = front found (cell.output ∷ [])
    go false = ([], sym (append-nil found))

led_front : (m : MachineData) (found : List ℕ) (k : ℕ) → (more : List ℕ) × (led_by m found k ≡ found ++ more)
led_front m found k = go (slice_get m.circuit.cells k)
  where
    go : (o : Option (LogicCell ℕ)) → (more : List ℕ) × (option_map_or (λ cell. led_on cell found) o found ≡ found ++ more)
    go None = ([], sym (append-nil found))
    go (Some cell) = led_on_front cell found

all_front : (m : MachineData) (found ks : List ℕ) → (more : List ℕ) × (led_by_all m found ks ≡ found ++ more)
all_front m found [] = ([], sym (append-nil found))
all_front m found (k ∷ ks) =
    let one = led_front m found k in
    let rest = all_front m (led_by m found k) ks in
    (one.0 ++ rest.0, rest.1 ∙ (ap (λ l. l ++ rest.0) one.1 ∙ append_assoc found one.0 rest.0))

led_kept : (m : MachineData) (found : List ℕ) (k y : ℕ) → is_in found y ≡ true → is_in (led_by m found k) y ≡ true
led_kept m found k y among = let f = led_front m found k in ap (λ l. is_in l y) f.1 ∙ is_in_left found f.0 y among

all_kept : (m : MachineData) (found ks : List ℕ) (y : ℕ) → is_in found y ≡ true → is_in (led_by_all m found ks) y ≡ true
all_kept m found ks y among = let f = all_front m found ks in ap (λ l. is_in l y) f.1 ∙ is_in_left found f.0 y among

-- the output of one of the cells that reads a net found is found
on_put : (cell : LogicCell ℕ) (found : List ℕ) (x : ℕ) → is_in found x ≡ true → is_in cell.inputs x ≡ true → is_in (led_on cell found) cell.output ≡ true
on_put cell found x there input =
    ap (λ b. is_in (if b then with_net found cell.output else found) cell.output) (any_in (is_in found) cell.inputs x input there) ∙ put_one found cell.output

all_put : (m : MachineData) (found ks : List ℕ) (k : ℕ) (cell : LogicCell ℕ) (x : ℕ) → is_in ks k ≡ true → slice_get m.circuit.cells k ≡ Some cell → is_in found x ≡ true → is_in cell.inputs x ≡ true
    → is_in (led_by_all m found ks) cell.output ≡ true
all_put m found [] k cell x among at there input = absurd (both_ways false refl among)
all_put m found (j ∷ ks) k cell x among at there input = elim (or_cases (nat_eq k j) (is_in ks k) among) [
  | inl same ↦ all_kept m (led_by m found j) ks cell.output
      (ap (λ i. is_in (led_by m found i) cell.output) (sym (eqb-true k j same)) ∙ (ap (λ o. is_in (option_map_or (λ (c : LogicCell ℕ). led_on c found) o found) cell.output) at ∙ on_put cell found x there input))
  | inr later ↦ all_put m (led_by m found j) ks k cell x later at (led_kept m found j x there) input
]

-- and only such outputs
module _ (m : MachineData) (test : ℕ → Bool)
    (closed : (k : ℕ) (cell : LogicCell ℕ) (x : ℕ) → slice_get m.circuit.cells k ≡ Some cell → test x ≡ true → is_in cell.inputs x ≡ true → test cell.output ≡ true) where
  led_only : (found : List ℕ) (k : ℕ) → ((y : ℕ) → is_in found y ≡ true → test y ≡ true) → (y : ℕ) → is_in (led_by m found k) y ≡ true → test y ≡ true
  led_only found k only y among = go (slice_get m.circuit.cells k) refl among
    where
      on : (cell : LogicCell ℕ) → slice_get m.circuit.cells k ≡ Some cell → (b : Bool) → list_any (is_in found) cell.inputs ≡ b → is_in (if b then with_net found cell.output else found) y ≡ true → test y ≡ true
      on cell at true some h = elim (one_more found cell.output y h) [
        | inl old ↦ only y old
        | inr new ↦ let x = any_has (is_in found) cell.inputs some in ap test new ∙ closed k cell x.0 at (only x.0 x.1.1) x.1.0
      ]
      on cell at false some h = only y h

      go : (o : Option (LogicCell ℕ)) → slice_get m.circuit.cells k ≡ o → is_in (option_map_or (λ cell. led_on cell found) o found) y ≡ true → test y ≡ true
      go None at h = only y h
      go (Some cell) at h = on cell at (list_any (is_in found) cell.inputs) refl h

  all_only : (found ks : List ℕ) → ((y : ℕ) → is_in found y ≡ true → test y ≡ true) → (y : ℕ) → is_in (led_by_all m found ks) y ≡ true → test y ≡ true
  all_only found [] only y among = only y among
  all_only found (k ∷ ks) only y among = all_only (led_by m found k) ks (led_only found k only) y among

module _ (m : MachineData) (good : IsMachine m) (G : List ℕ) where
  -- with an input of a cell its output
  spread_closed : (k : ℕ) (cell : LogicCell ℕ) (x : ℕ) → slice_get m.circuit.cells k ≡ Some cell → spread (walk_of m) (is_shown m G) x ≡ true → is_in cell.inputs x ≡ true
      → spread (walk_of m) (is_shown m G) cell.output ≡ true
  spread_closed k cell x at is input =
      let walk : List (LogicCell ℕ) = walk_of m in
      let shown : ℕ → Bool = is_shown m G in
      let some = any_has shown (cone_of walk (x ∷ [])) (sym (spread_cone walk shown (x ∷ [])) ∙ or_left (spread walk shown x) false is) in
      let way : IsInCone m.circuit.cells (x ∷ []) some.0 = (cone_is m.circuit.cells walk good.walk (x ∷ []) some.0).0 some.1.0 in
      let to : Reaches m.circuit.cells some.0 x = subst (λ z. Reaches m.circuit.cells some.0 z) (lone x way.root way.among) way.reaches in
      let on : is_in (cone_of walk (cell.output ∷ [])) some.0 ≡ true =
      (cone_is m.circuit.cells walk good.walk (cell.output ∷ []) some.0).1 (record { root = cell.output; among = in_alone cell.output; reaches = through k cell x at input to }) in
      elim (or_cases (spread walk shown cell.output) false (spread_cone walk shown (cell.output ∷ []) ∙ any_in shown (cone_of walk (cell.output ∷ [])) some.0 on some.1.1)) [
        | inl h ↦ h
        | inr none ↦ absurd (both_ways false refl none)
      ]

  pub spreading_first : (old found : List ℕ) → old ≡ [] → ((y : ℕ) → is_in found y ≡ (is_in old y || is_shown m G y)) → IsSpreading m G 0 found
  spreading_first old found none shown = record {
    starts = λ y is. same y ∙ is;
    only = λ y among. spread_has (walk_of m) (is_shown m G) y (sym (same y) ∙ among);
    closed = λ k cell x at nothing. absurd (both_ways false refl nothing);
  }
    where
      same : (y : ℕ) → is_in found y ≡ is_shown m G y
      same y = shown y ∙ ap (λ l. is_in l y || is_shown m G y) none

  pub spreading_more : (found new readers : List ℕ) (lists : List (List ℕ)) (next net : ℕ) → slice_get found next ≡ Some net → next < length found → AreCellReaders m lists → readers ≡ readers_at lists net
      → new ≡ led_by_all m found readers → IsSpreading m G next found → IsSpreading m G (next + 1) new
  spreading_more found new readers lists next net at below known of is s = subst (IsSpreading m G (next + 1)) (sym is) (record {
    starts = λ y shown. all_kept m found readers y (s.starts y shown);
    only = all_only m (spread (walk_of m) (is_shown m G)) spread_closed found readers s.only;
    closed = λ k cell x cell_at among input.
        let f = all_front m found readers in
        elim (in_next found f.0 next net x at below (subst (λ l. is_in (take (next + 1) l) x ≡ true) f.1 among)) [
          | inl before ↦ all_kept m found readers cell.output (s.closed k cell x cell_at before input)
          | inr same ↦
              let reads : is_in readers k ≡ true = ap (λ l. is_in l k) of ∙ known k cell net cell_at (subst (λ z. is_in cell.inputs z ≡ true) same input) in
              all_put m found readers k cell net reads cell_at (here found next net at) (subst (λ z. is_in cell.inputs z ≡ true) same input)
        ];
  })
    where
      here : (xs : List ℕ) (i x : ℕ) → slice_get xs i ≡ Some x → is_in xs x ≡ true
      here [] i x at = absurd (none-some x at)
      here (y ∷ ys) zero x at = or_left (nat_eq x y) (is_in ys x) (eq-eqb x y (sym (same_Some y x at)))
      here (y ∷ ys) (suc i) x at = or_right (nat_eq x y) (is_in ys x) (here ys i x at)

  pub spreading_done : (found : List ℕ) (next : ℕ) → length found ≤ next → IsSpreading m G next found → (y : ℕ) → is_in found y ≡ spread (walk_of m) (is_shown m G) y
  spreading_done found next past s y =
      same_truth (is_in found y) (spread (walk_of m) (is_shown m G) y) (s.only y)
      (spread_within (walk_of m) (is_shown m G) (is_in found)
      (λ j cell x at there input. let k = good.walk.of_cells j cell at in s.closed k.0 cell x k.1 (ap (λ l. is_in l x) (take_whole found next past) ∙ there) input) s.starts y)
