-- A hint deserves what comes of it.
use Rattle.std.proofs.Common.{◌≡◌, ℕ, zero, suc, ◌<◌, Bool, true, false, not, cond, if◌then◌else◌, List, [], ◌∷◌, slice_get, nat_lt, is_some, Option, None, Some, Ok, Err}
use Rattle.std.proofs.Common.{unwrap_or, ◌⊎◌, inl, inr, refl, sym, ◌∙◌, ap, subst, arith}
use Rattle.std.specs.List.{find}
use Rattle.std.specs.Option.{option_map, option_or}
use Rattle.std.proofs.lemmas.Bool.{both_ways, false_from_ne_true, lt-ltb, ltb-true}
use Rattle.std.proofs.lemmas.Option.{none-some, same_Some}
use Rattle.cg_cell.specs.Cell.{CellData}
use Rattle.cg_cell.specs.Library.{first_fit}
use Rattle.cg_cell.specs.declared.fit.FitKind.{FitKind}
use Rattle.cg_limit.specs.declared.Limit.TheVariants.{ClaimNodes}
use Rattle.cg_limit.specs.declared.TheConstants.{MOST_CLAIM_NODES}
use Rattle.cg_machine.specs.Machine.{IsMachine, MachineData, enable_of}
use Rattle.cg_net.proofs.Members.{member_at}
use Rattle.cg_netlist.specs.declared.fault.AddFault.TheVariants.{Limit}
use Rattle.cg_stage_laws.proofs.CellsThere.{first_there}
use Rattle.cg_stage_laws.proofs.Missing.{IsFirstMissing, first_missing as missing_first, no_cell}
use Rattle.cg_stage_laws.specs.Cells.{HasCell}
use Rattle.cg_stage_laws.specs.Needs.{missing}
use Rattle.cg_hint_laws.specs.Answers.{without_bits}
use Rattle.cg_hint_laws.specs.Effects.{and_then, effect}
use Rattle.cg_hint_laws.specs.Hints.{AreFree, Fits}
use Rattle.cg_hint_laws.specs.Laws.{IsFirstRefuted}
use Rattle.cg_hint_laws.specs.Needs.{needs}
use Rattle.cg_hint_laws.specs.Outcomes.{Deserves, IsFirstFalse, IsLacking, IsMeasured, IsNeverIdle, IsReady, IsTaken, IsTooWide, OutcomesAreDeserved, TurnsAreDeserved}
use Rattle.cg_hint_laws.specs.Trying.{Answer, Hinted, Turn, after_outcome, all_claims, claim_holds, claim_nodes, claim_width, first_large, first_missing}
use Rattle.cg_hint_laws.specs.Trying.{first_refuted, first_taken, first_wide, hinted, hold_claims, never_idle, tried, with_turn}
use Rattle.cg_hint_laws.specs.declared.hint.Hint.{Hint}
use Rattle.cg_hint_laws.specs.declared.outcome.HintClaim.{HintClaim}
use Rattle.cg_hint_laws.specs.declared.outcome.HintClaim.TheVariants.{Hold, Idle}
use Rattle.cg_hint_laws.specs.declared.outcome.HintOutcome.{HintOutcome}
use Rattle.cg_hint_laws.specs.declared.outcome.HintOutcome.TheVariants.{Inserted, NeverIdle, NoCell, Refuted, Taken, Wide}
use Rattle.cg_hint_laws.proofs.Additions.{and_then_ok}
use Rattle.cg_hint_laws.proofs.AllSafe.{TurnKeeps, all_later, turn_keeps}
use Rattle.cg_hint_laws.proofs.Exactly.{can, idle_none_there, inserted_exactly, missing_none, taken_none, wide_none}
use Rattle.cg_hint_laws.proofs.Listed.{at_mapped, at_most, found_none, found_none_in, map_none, mapped_at, mapped_none, none_found, not_less, some_false}
use Rattle.cg_hint_laws.proofs.ToldSo.{IsFirst, first_found, is_one, keeps_so, refuted_first, so_keeps}

-- an answer comes of the first that is there, or that is not, and of the next
first_or : (a b : Option Answer) (rest x : Answer) → unwrap_or (option_or a b) rest ≡ x → (a ≡ Some x) ⊎ ((a ≡ None) × (unwrap_or b rest ≡ x))
first_or None b rest x is = inr (refl, is)
first_or (Some y) b rest x is = inl (ap Some is)

last_or : (a : Option Answer) (rest x : Answer) → unwrap_or a rest ≡ x → (a ≡ Some x) ⊎ (rest ≡ x)
last_or None rest x is = inr is
last_or (Some y) rest x is = inl (ap Some is)

-- and so back
here_or : (a b : Option Answer) (rest x : Answer) → a ≡ Some x → unwrap_or (option_or a b) rest ≡ x
here_or a b rest x is = ap (λ (o : Option Answer). unwrap_or (option_or o b) rest) is

next_or : (a b : Option Answer) (rest x : Answer) → a ≡ None → unwrap_or b rest ≡ x → unwrap_or (option_or a b) rest ≡ x
next_or a b rest x none is = ap (λ (o : Option Answer). unwrap_or (option_or o b) rest) none ∙ is

some_there : (o : Option ℕ) → is_some o ≡ true → (net : ℕ) × (o ≡ Some net)
some_there None is = absurd (cc)
some_there (Some net) is = (net, refl)

abbrev never_by : Bool → Option Answer
never_by b = if b then Some (Ok NeverIdle) else None

never_none : (b : Bool) → never_by b ≡ None → b ≡ false
never_none true none = absurd (cc)
never_none false none = refl

-- the first of a list that passes is found
first_is : {T : Type 0} (p : T → Bool) (xs : List T) (x : T) (place : ℕ) → slice_get xs place ≡ Some x → p x ≡ true → ((k : ℕ) (y : T) → k < place → slice_get xs k ≡ Some y → p y ≡ false) → find p xs ≡ Some x
first_is p [] x place at passes before = absurd (cc)
first_is p (y ∷ ys) x zero at passes before =
    let same : y ≡ x = same_Some y x at in
    ap (λ b. cond b (Some y) (find p ys)) (ap p same ∙ passes) ∙ ap Some same
first_is p (y ∷ ys) x (suc k) at passes before =
    ap (λ b. cond b (Some y) (find p ys)) (before 0 y (omega arith) refl)
    ∙ first_is p ys x k at passes (λ j z low there. before (suc j) z (omega (arith, low)) there)

-- the first kind of cell that is lacking
lacking_is : (library : List CellData) (m : MachineData) (h : Hint) (kind : FitKind) → IsLacking library m h kind → missing library (needs h) ≡ Some kind
lacking_is library m h kind l = first_is (λ k. not (is_some (first_fit k library))) (needs h) kind l.place l.needed (ap not (lacks (is_some (first_fit kind library)) refl)) (λ k other low at. ap not (has other (l.before k other low at) (is_some (first_fit other library)) refl))
  where
    lacks : (b : Bool) → is_some (first_fit kind library) ≡ b → is_some (first_fit kind library) ≡ false
    lacks true is = absurd (l.none (first_there library kind [] (ap (λ b. cond (not b) (Some kind) None) is)).0)
    lacks false is = is

    has : (other : FitKind) → HasCell library other → (b : Bool) → is_some (first_fit other library) ≡ b → is_some (first_fit other library) ≡ true
    has other there true is = is
    has other there false is = absurd (no_cell library other is there)

module _ (library : List CellData) (width : ℕ) (m : MachineData) (h : Hint) (good : IsMachine m) (fits : Fits m h) where
  abbrev Good : HintOutcome → Type 0
  Good = Deserves library width m h

  abbrev Ends : Option Answer → HintOutcome → Type 0
  Ends o x = o ≡ Some (Ok x)

  abbrev rest : Answer
  rest = and_then (effect m h) (λ n. Ok Inserted)

  abbrev is_wide : HintClaim → Bool
  is_wide c = nat_lt width (claim_width m h c)

  abbrev is_large : HintClaim → Bool
  is_large c = nat_lt MOST_CLAIM_NODES (claim_nodes m h c)

  abbrev fails : HintClaim → Bool
  fails c = not (claim_holds m h c)

  -- what does not apply
  free_of : first_taken m h ≡ None → AreFree m h
  free_of none r among = some_false (enable_of m r) (found_none_in (λ q. is_some (enable_of m q)) h.regs (mapped_none (λ q. Ok (Taken q)) (find (λ q. is_some (enable_of m q)) h.regs) none) r among)

  ready_of : first_taken m h ≡ None → first_missing library h ≡ None → IsReady library m h
  ready_of taken cells = record { free = free_of taken; cells = mapped_none (λ kind. Ok (NoCell kind)) (missing library (needs h)) cells }

  measured_of : IsReady library m h → first_wide m width h ≡ None → first_large m h ≡ None → IsMeasured library width m h
  measured_of ready narrow small = record {
    ready = ready;
    narrow = λ k c at. not_less width (claim_width m h c) (found_none is_wide (all_claims h) (mapped_none (λ (d : HintClaim). Ok (Wide d (claim_width m h d))) (find is_wide (all_claims h)) narrow) k c at);
    small = λ k c at. not_less MOST_CLAIM_NODES (claim_nodes m h c) (found_none is_large (all_claims h) (mapped_none (λ (d : HintClaim). Err (Limit ClaimNodes)) (find is_large (all_claims h)) small) k c at);
  }

  taken : (o : Option ℕ) → find (λ r. is_some (enable_of m r)) h.regs ≡ o → (x : HintOutcome) → Ends (option_map (λ r. Ok (Taken r)) o) x → Good x
  taken None found x is = absurd (cc)
  taken (Some r) found x is =
      let f : IsFirst (λ q. is_some (enable_of m q)) h.regs r = first_found (λ q. is_some (enable_of m q)) h.regs r found in
      let e = some_there (enable_of m r) f.passes in
      let same : Taken r ≡ x = cc in
      let is_taken : IsTaken m h r = record { place = f.place; at = f.at; enable = e.0; taken = e.1; before = λ k q low at. some_false (enable_of m q) (f.none_before k q low at) } in
      subst Good same is_taken

  lacking : AreFree m h → (o : Option FitKind) → missing library (needs h) ≡ o → (x : HintOutcome) → Ends (option_map (λ kind. Ok (NoCell kind)) o) x → Good x
  lacking free None found x is = absurd (cc)
  lacking free (Some kind) found x is =
      let f : IsFirstMissing library (needs h) kind = missing_first library (needs h) kind found in
      let same : NoCell kind ≡ x = cc in
      let is_lacking : IsLacking library m h kind = record { free = free; place = f.place; needed = f.at; before = f.before; none = f.none } in
      subst Good same is_lacking

  wide : IsReady library m h → (o : Option HintClaim) → find is_wide (all_claims h) ≡ o → (x : HintOutcome) → Ends (option_map (λ (c : HintClaim). Ok (Wide c (claim_width m h c))) o) x → Good x
  wide ready None found x is = absurd (cc)
  wide ready (Some c) found x is =
      let f : IsFirst is_wide (all_claims h) c = first_found is_wide (all_claims h) c found in
      let same : Wide c (claim_width m h c) ≡ x = cc in
      let too_wide : IsTooWide library width m h c (claim_width m h c) = record {
        ready = ready;
        place = f.place;
        named = f.at;
        measured = refl;
        above = ltb-true width (claim_width m h c) f.passes;
        before = λ k d low at. not_less width (claim_width m h d) (f.none_before k d low at);
      } in
      subst Good same too_wide

  large : (o : Option HintClaim) (x : HintOutcome) → Ends (option_map (λ (c : HintClaim). Err (Limit ClaimNodes)) o) x → Good x
  large None x is = absurd (cc)
  large (Some c) x is = absurd (cc)

  never : IsMeasured library width m h → (b : Bool) → claim_holds m h Idle ≡ b → (x : HintOutcome) → Ends (never_by b) x → Good x
  never measured true holds x is =
      let same : NeverIdle ≡ x = cc in
      let is_never : IsNeverIdle library width m h = record { measured = measured; never = is_one m h good fits holds } in
      subst Good same is_never
  never measured false holds x is = absurd (cc)

  refuted : IsMeasured library width m h → claim_holds m h Idle ≡ false → (o : Option HintClaim) → find fails (hold_claims h) ≡ o → (x : HintOutcome)
      → Ends (option_map (λ (c : HintClaim). Ok (Refuted c [])) o) x → Good x
  refuted measured idles None found x is = absurd (cc)
  refuted measured idles (Some c) found x is =
      let same : Refuted c [] ≡ x = cc in
      let is_false : IsFirstFalse library width m h c = record { measured = measured; idles = can library width m h good fits idles; first = refuted_first m h good fits c found } in
      subst Good same is_false

  inserted : (x : HintOutcome) → tried library width m h ≡ Ok x → rest ≡ Ok x → Good x
  inserted x is last =
      let e = and_then_ok (effect m h) (λ n. Ok Inserted) x last in
      let same : Inserted ≡ x = cc in
      subst Good same ((inserted_exactly library width m h good fits).0 (is ∙ ap (λ (o : HintOutcome). Ok o) (sym same)))

  pub deserved : (x : HintOutcome) → tried library width m h ≡ Ok x → Good x
  deserved x is =
      elim (first_or (first_taken m h) _ rest (Ok x) is) [
        | inl a ↦ taken (find (λ r. is_some (enable_of m r)) h.regs) refl x a
        | inr is2 ↦ elim (first_or (first_missing library h) _ rest (Ok x) is2.1) [
          | inl a ↦ lacking (free_of is2.0) (missing library (needs h)) refl x a
          | inr is3 ↦ elim (first_or (first_wide m width h) _ rest (Ok x) is3.1) [
            | inl a ↦ wide (ready_of is2.0 is3.0) (find is_wide (all_claims h)) refl x a
            | inr is4 ↦ elim (first_or (first_large m h) _ rest (Ok x) is4.1) [
              | inl a ↦ large (find is_large (all_claims h)) x a
              | inr is5 ↦ elim (first_or (never_idle m h) (first_refuted m h) rest (Ok x) is5.1) [
                | inl a ↦ never (measured_of (ready_of is2.0 is3.0) is4.0 is5.0) (claim_holds m h Idle) refl x a
                | inr is6 ↦ elim (last_or (first_refuted m h) rest (Ok x) is6.1) [
                  | inl a ↦ refuted (measured_of (ready_of is2.0 is3.0) is4.0 is5.0) (never_none (claim_holds m h Idle) is6.0) (find fails (hold_claims h)) refl x a
                  | inr last ↦ inserted x is last
                ]
              ]
            ]
          ]
        ]
      ]

  -- what an outcome says does not depend on the bits that are told with it
  with_bits : (o : HintOutcome) → Good (without_bits o) → Good o
  with_bits Inserted d = d
  with_bits (Taken r) d = d
  with_bits (NoCell kind) d = d
  with_bits (Wide claim leaves) d = d
  with_bits NeverIdle d = d
  with_bits (Refuted claim bits) d = d

  -- what is deserved comes
  behind_ready : (x : HintOutcome) → IsReady library m h → unwrap_or (option_or (first_wide m width h) (option_or (first_large m h) (option_or (never_idle m h) (first_refuted m h)))) rest ≡ Ok x → tried library width m h ≡ Ok x
  behind_ready x ready is =
      next_or (first_taken m h) _ rest (Ok x) (taken_none library width m h good fits ready.free) (next_or (first_missing library h) _ rest (Ok x) (missing_none library width m h good fits ready.cells) is)

  behind_measured : (x : HintOutcome) → IsMeasured library width m h → unwrap_or (option_or (never_idle m h) (first_refuted m h)) rest ≡ Ok x → tried library width m h ≡ Ok x
  behind_measured x measured is =
      let small : first_large m h ≡ None = map_none (λ (c : HintClaim). Err (Limit ClaimNodes)) (find is_large (all_claims h)) (none_found is_large (all_claims h) (λ k c at. at_most MOST_CLAIM_NODES (claim_nodes m h c) (measured.small k c at))) in
      behind_ready x measured.ready (next_or (first_wide m width h) _ rest (Ok x) (wide_none library width m h good fits measured.narrow) (next_or (first_large m h) _ rest (Ok x) small is))

  -- where the condition is always 1, its claim is never violated
  always : IsNeverIdle library width m h → (b : Bool) → claim_holds m h Idle ≡ b → claim_holds m h Idle ≡ true
  always d true is = is
  always d false is = let w = can library width m h good fits is in absurd (both_ways _ w.idle (d.never w.state w.inputs w.is_state w.is_inputs))

  -- the first register that can change its bit has the first claim that fails
  first_fails : (claim : HintClaim) → IsFirstRefuted m h claim → find fails (hold_claims h) ≡ Some claim
  first_fails claim f =
      first_is fails (hold_claims h) claim f.place (subst (λ (c : HintClaim). slice_get (hold_claims h) f.place ≡ Some c) (sym f.named) (at_mapped Hold h.regs f.place f.register f.at))
      (subst (λ (c : HintClaim). fails c ≡ true) (sym f.named) (ap not (false_from_ne_true (claim_holds m h (Hold f.register)) (λ holds. f.false_there (keeps_so m h good fits f.register (member_at h.regs f.place f.register f.at) holds)))))
      (λ k c low at.
      let r = mapped_at Hold h.regs k c at in
      subst (λ (d : HintClaim). fails d ≡ false) r.2 (ap not (so_keeps m h good fits r.0 (member_at h.regs k r.0 r.1) (f.before k r.0 low r.1))))

  comes : (o : HintOutcome) → Good o → tried library width m h ≡ Ok (without_bits o)
  comes Inserted d = (inserted_exactly library width m h good fits).1 d
  comes (Taken r) d =
      here_or (first_taken m h) _ rest (Ok (Taken r))
      (ap (λ o. option_map (λ q. Ok (Taken q)) o) (first_is (λ q. is_some (enable_of m q)) h.regs r d.place d.at (ap is_some d.taken) (λ k q low at. ap is_some (d.before k q low at))))
  comes (NoCell kind) d =
      next_or (first_taken m h) _ rest (Ok (NoCell kind)) (taken_none library width m h good fits d.free)
      (here_or (first_missing library h) _ rest (Ok (NoCell kind)) (ap (λ o. option_map (λ k. Ok (NoCell k)) o) (lacking_is library m h kind d)))
  comes (Wide claim leaves) d =
      let found : find is_wide (all_claims h) ≡ Some claim = first_is is_wide (all_claims h) claim d.place d.named (lt-ltb width (claim_width m h claim) (omega (arith, d.measured, d.above))) (λ k c low at. at_most width (claim_width m h c) (d.before k c low at)) in
      behind_ready (Wide claim leaves) d.ready
      (here_or (first_wide m width h) _ rest (Ok (Wide claim leaves)) (ap (λ o. option_map (λ (c : HintClaim). Ok (Wide c (claim_width m h c))) o) found ∙ ap (λ (n : ℕ). Some (Ok (Wide claim n))) (sym d.measured)))
  comes NeverIdle d =
      behind_measured NeverIdle d.measured (here_or (never_idle m h) (first_refuted m h) rest (Ok NeverIdle) (ap never_by (always d (claim_holds m h Idle) refl)))
  comes (Refuted claim bits) d =
      behind_measured (Refuted claim []) d.measured
      (next_or (never_idle m h) (first_refuted m h) rest (Ok (Refuted claim [])) (idle_none_there library width m h good fits d.idles)
      (ap (λ (o : Option HintClaim). unwrap_or (option_map (λ (c : HintClaim). Ok (Refuted c [])) o) rest) (first_fails claim d.first)))

pub outcomes_deserved : OutcomesAreDeserved
outcomes_deserved library width m h outcome good fits = (λ is. with_bits library width m h good fits outcome (deserved library width m h good fits (without_bits outcome) is), comes library width m h good fits outcome)

pub turns_deserved : TurnsAreDeserved
turns_deserved library width m [] done good all ok k turn at =
    let same : record { machine = m; turns = [] } ≡ done = cc in
    absurd (none-some turn (ap (λ (d : Hinted). slice_get d.turns k) same ∙ at))
turns_deserved library width m (h ∷ hs) done good all ok k turn at =
    let first = and_then_ok (tried library width m h) (λ outcome. and_then (hinted library width (after_outcome m h outcome) hs) (with_turn (record { machine = m; hint = h; outcome = outcome }))) done ok in
    let n : MachineData = after_outcome m h first.0 in
    let keeps : TurnKeeps library m n = turn_keeps library width m h first.0 good all.0 first.1 in
    let rest = and_then_ok (hinted library width n hs) (with_turn (record { machine = m; hint = h; outcome = first.0 })) done first.2 in
    let same : record { machine = rest.0.machine; turns = record { machine = m; hint = h; outcome = first.0 } ∷ rest.0.turns } ≡ done = cc in
    go first.0 first.1 rest.0.turns (turns_deserved library width n hs rest.0 keeps.safe.is_machine (all_later library m n hs keeps all.1) rest.1) k (ap (λ (d : Hinted). slice_get d.turns k) same ∙ at)
  where
    go : (o : HintOutcome) → tried library width m h ≡ Ok o → (turns : List Turn)
        → ((i : ℕ) (t : Turn) → slice_get turns i ≡ Some t → Deserves library width t.machine t.hint t.outcome)
        → (i : ℕ) → slice_get (record { machine = m; hint = h; outcome = o } ∷ turns) i ≡ Some turn → Deserves library width turn.machine turn.hint turn.outcome
    go o is turns later zero here =
        subst (λ (t : Turn). Deserves library width t.machine t.hint t.outcome) (same_Some (record { machine = m; hint = h; outcome = o }) turn here) (deserved library width m h good all.0 o is)
    go o is turns later (suc i) there = later i turn there
