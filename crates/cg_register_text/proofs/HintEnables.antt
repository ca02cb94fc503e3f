-- The enables that hints leave.
use Rattle.std.proofs.Common.{◌≡◌, ℕ, zero, suc, ◌<◌, true, ◌&&◌, if◌then◌else◌, List, [], ◌∷◌, length, slice_get, Some, Ok, refl, sym, ap, ◌∙◌, subst, arith, inl, inr}
use Rattle.std.proofs.lemmas.Bool.{cases_Bool}
use Rattle.std.proofs.lemmas.Option.{none-some}
use Rattle.cg_cell.specs.Cell.{CellData}
use Rattle.cg_hint_laws.specs.Effects.{and_then, effect, hint_answer}
use Rattle.cg_hint_laws.specs.Hints.{Fits}
use Rattle.cg_hint_laws.specs.Laws.{After, AllFit, IsInsertable}
use Rattle.cg_hint_laws.specs.Trying.{Hinted, Turn, after_outcome, hinted, is_inserted, machine_or, tried, with_turn}
use Rattle.cg_hint_laws.specs.declared.hint.Hint.{Hint}
use Rattle.cg_hint_laws.specs.declared.outcome.HintOutcome.{HintOutcome}
use Rattle.cg_hint_laws.specs.declared.outcome.HintOutcome.TheVariants.{Inserted, NeverIdle, NoCell, Refuted, Taken, Wide}
use Rattle.cg_hint_laws.proofs.Additions.{and_then_ok}
use Rattle.cg_hint_laws.proofs.AllSafe.{TurnKeeps, all_later, turn_keeps}
use Rattle.cg_hint_laws.proofs.Exactly.{inserted_exactly}
use Rattle.cg_hint_laws.proofs.HintSafe.{hint_safe}
use Rattle.cg_hint_laws.proofs.ToldSo.{registers_get}
use Rattle.cg_machine.specs.Added.{Added}
use Rattle.cg_machine.specs.Machine.{IsMachine, MachineData, enable_of}
use Rattle.cg_net.specs.NetSets.{is_in}
use Rattle.cg_stage_laws.specs.Joined.{enabled}
use Rattle.cg_register_text.specs.Meaning.{after_hints, hint_net, net_of}

-- what a hint that is inserted adds
record Adds (m : MachineData) (h : Hint) (n : MachineData) : Type 0 where
  added : Added
  answer : hint_answer m h ≡ Ok added
  effect_is : effect m h ≡ Ok n
  after : After m h n
  has : (r : ℕ) → is_in h.regs r ≡ true → enable_of n r ≡ Some added.net

module _ (library : List CellData) (width : ℕ) where
  adds : (m : MachineData) (h : Hint) → IsMachine m → Fits m h → tried library width m h ≡ Ok Inserted → (n : MachineData) × Adds m h n
  adds m h good fits is =
      let d : IsInsertable library width m h = (inserted_exactly library width m h good fits).0 is in
      let n : MachineData = d.room.0 in
      let c = and_then_ok (hint_answer m h) (λ a. Ok (enabled a h.regs)) n d.room.1 in (
        n,
        record {
          added = c.0;
          answer = c.1;
          effect_is = d.room.1;
          after = hint_safe m h good fits d.free d.holds n d.room.1;
          has = λ r among. registers_get m n h c.0 good fits d.free c.1 d.room.1 r among;
        },
      )

  abbrev turn : MachineData → Hint → HintOutcome → Turn
  turn m h outcome = record { machine = m; hint = h; outcome = outcome }

  -- the enable of a register after a turn
  one_enable : (m : MachineData) (h : Hint) (outcome : HintOutcome) → IsMachine m → Fits m h → tried library width m h ≡ Ok outcome → (r : ℕ) → r < length m.circuit.registers
      → enable_of (after_outcome m h outcome) r ≡ (if is_inserted outcome && is_in h.regs r then hint_net (record { machine = m; hint = h; outcome = outcome }) else enable_of m r)
  one_enable m h Inserted good fits is r below =
      let a = adds m h good fits is in
      let n : MachineData = a.0 in
      ap (λ k. enable_of k r) (let e : machine_or m (effect m h) ≡ n = ap (machine_or m) a.1.effect_is in e)
      ∙ elim (cases_Bool (is_in h.regs r)) [
        | inl among ↦ a.1.has r among ∙ (sym (ap net_of a.1.answer) ∙ ap (λ b. if b then net_of (hint_answer m h) else enable_of m r) (sym among))
        | inr out ↦ a.1.after.enables r below out ∙ ap (λ b. if b then net_of (hint_answer m h) else enable_of m r) (sym out)
      ]
  one_enable m h (Taken q) good fits is r below = refl
  one_enable m h (NoCell kind) good fits is r below = refl
  one_enable m h (Wide claim n) good fits is r below = refl
  one_enable m h NeverIdle good fits is r below = refl
  one_enable m h (Refuted claim bits) good fits is r below = refl

  -- an inserted hint has a net
  one_net : (m : MachineData) (h : Hint) (outcome : HintOutcome) → IsMachine m → Fits m h → tried library width m h ≡ Ok outcome → is_inserted outcome ≡ true → (e : ℕ) × (net_of (hint_answer m h) ≡ Some e)
  one_net m h Inserted good fits is was = let a = adds m h good fits is in (a.1.added.net, ap net_of a.1.answer)
  one_net m h (Taken q) good fits is was = absurd (cc)
  one_net m h (NoCell kind) good fits is was = absurd (cc)
  one_net m h (Wide claim n) good fits is was = absurd (cc)
  one_net m h NeverIdle good fits is was = absurd (cc)
  one_net m h (Refuted claim bits) good fits is was = absurd (cc)

  -- what hints leave
  pub record Leave (m : MachineData) (done : Hinted) : Type 0 where
    pub enables : (r : ℕ) → r < length m.circuit.registers → enable_of done.machine r ≡ after_hints r (enable_of m r) done.turns
    pub nets : (k : ℕ) (t : Turn) → slice_get done.turns k ≡ Some t → is_inserted t.outcome ≡ true → (e : ℕ) × (hint_net t ≡ Some e)

  pub hints_leave : (m : MachineData) (hs : List Hint) (done : Hinted) → IsMachine m → AllFit m hs → hinted library width m hs ≡ Ok done → Leave m done
  hints_leave m [] done good all ok =
      let same : record { machine = m; turns = [] } ≡ done = cc in
      subst (Leave m) same (record { enables = λ r below. refl; nets = λ k t at. absurd (none-some t at) })
  hints_leave m (h ∷ hs) done good all ok =
      let first = and_then_ok (tried library width m h) (λ outcome. and_then (hinted library width (after_outcome m h outcome) hs) (with_turn (record { machine = m; hint = h; outcome = outcome }))) done ok in
      let n : MachineData = after_outcome m h first.0 in
      let k : TurnKeeps library m n = turn_keeps library width m h first.0 good all.0 first.1 in
      let rest = and_then_ok (hinted library width n hs) (with_turn (record { machine = m; hint = h; outcome = first.0 })) done first.2 in
      let later : Leave n rest.0 = hints_leave n hs rest.0 k.safe.is_machine (all_later library m n hs k all.1) rest.1 in
      let same : record { machine = rest.0.machine; turns = record { machine = m; hint = h; outcome = first.0 } ∷ rest.0.turns } ≡ done = cc in
      subst (Leave m) same (record {
        enables = λ r below.
            later.enables r (count m n h hs first.0 good all.0 first.1 r below)
            ∙ ap (λ o. after_hints r o rest.0.turns) (one_enable m h first.0 good all.0 first.1 r below);
        nets = λ j t at was. at_turn m h first.0 rest.0.turns (λ i u there. later.nets i u there) (one_net m h first.0 good all.0 first.1) j t at was;
      })
    where
      at_turn : (m : MachineData) (h : Hint) (outcome : HintOutcome) (turns : List Turn) → ((i : ℕ) (u : Turn) → slice_get turns i ≡ Some u → is_inserted u.outcome ≡ true → (e : ℕ) × (hint_net u ≡ Some e))
          → (is_inserted outcome ≡ true → (e : ℕ) × (net_of (hint_answer m h) ≡ Some e)) → (j : ℕ) (t : Turn) → slice_get (record { machine = m; hint = h; outcome = outcome } ∷ turns) j ≡ Some t → is_inserted t.outcome ≡ true → (e : ℕ) × (hint_net t ≡ Some e)
      at_turn m h outcome turns later here zero t at was =
          let same : record { machine = m; hint = h; outcome = outcome } ≡ t = Rattle.std.proofs.lemmas.Option.same_Some (record { machine = m; hint = h; outcome = outcome }) t at in
          let P : Turn → Type 0 = λ u. is_inserted u.outcome ≡ true → (e : ℕ) × (hint_net u ≡ Some e) in
          subst P same here was
      at_turn m h outcome turns later here (suc j) t at was = later j t at was

      count : (m n : MachineData) (h : Hint) (hs : List Hint) (outcome : HintOutcome) → IsMachine m → Fits m h → tried library width m h ≡ Ok outcome → (r : ℕ) → r < length m.circuit.registers → r < length (after_outcome m h outcome).circuit.registers
      count m n h hs Inserted good fits is r below =
          let a = adds m h good fits is in
          subst (λ (k : MachineData). r < length k.circuit.registers) (sym (let e : machine_or m (effect m h) ≡ a.0 = ap (machine_or m) a.1.effect_is in e)) (let c = a.1.after.count in omega (arith, c, below))
      count m n h hs (Taken q) good fits is r below = below
      count m n h hs (NoCell kind) good fits is r below = below
      count m n h hs (Wide claim w) good fits is r below = below
      count m n h hs NeverIdle good fits is r below = below
      count m n h hs (Refuted claim bits) good fits is r below = below
