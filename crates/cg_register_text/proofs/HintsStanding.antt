-- Hints and their turns, and hints as they are told.
use Rattle.std.proofs.Common.{◌≡◌, [], ◌∷◌, map, refl, sym, ap, ◌∙◌}
use Rattle.cg_hint_laws.specs.Answers.{without_bits}
use Rattle.cg_hint_laws.specs.Effects.{and_then}
use Rattle.cg_hint_laws.specs.Trying.{Hinted, Turn, after_outcome, hinted, is_inserted, tried, with_turn}
use Rattle.cg_hint_laws.specs.declared.hint.Hint.{Hint}
use Rattle.cg_hint_laws.specs.declared.outcome.HintOutcome.{HintOutcome}
use Rattle.cg_hint_laws.specs.declared.outcome.HintOutcome.TheVariants.{Inserted, NeverIdle, NoCell, Refuted, Taken, Wide}
use Rattle.cg_hint_laws.proofs.Additions.{and_then_ok}
use Rattle.cg_machine.specs.Machine.{MachineData}
use Rattle.cg_register_text.specs.Meaning.{hint_turn_trial}
use Rattle.cg_register_text.specs.Trials.{hint_trial, hint_trials}
use Rattle.cg_register_text.specs.Laws.{HintsAreTold, HintsStand}

pub hints_stand : HintsStand
hints_stand library width m [] done ok = let same : record { machine = m; turns = [] } ≡ done = cc in ap (λ (d : Hinted). map (λ (turn : Turn). turn.hint) d.turns) (sym same)
hints_stand library width m (h ∷ hs) done ok =
    let first = and_then_ok (tried library width m h) (λ outcome. and_then (hinted library width (after_outcome m h outcome) hs) (with_turn (record { machine = m; hint = h; outcome = outcome }))) done ok in
    let n : MachineData = after_outcome m h first.0 in
    let rest = and_then_ok (hinted library width n hs) (with_turn (record { machine = m; hint = h; outcome = first.0 })) done first.2 in
    let same : record { machine = rest.0.machine; turns = record { machine = m; hint = h; outcome = first.0 } ∷ rest.0.turns } ≡ done = cc in
    ap (λ (d : Hinted). map (λ (turn : Turn). turn.hint) d.turns) (sym same) ∙ ap (λ l. h ∷ l) (hints_stand library width n hs rest.0 rest.1)

-- bits say nothing of whether a hint was inserted
inserted_so : (o : HintOutcome) → is_inserted (without_bits o) ≡ is_inserted o
inserted_so Inserted = refl
inserted_so (Refuted claim bits) = refl
inserted_so (Taken r) = refl
inserted_so (NoCell kind) = refl
inserted_so (Wide claim n) = refl
inserted_so NeverIdle = refl

pub hints_told : HintsAreTold
hints_told [] [] outcomes same shown = refl
hints_told [] (h ∷ hs) outcomes same shown = absurd (cc)
hints_told (turn ∷ turns) [] outcomes same shown = absurd (cc)
hints_told (turn ∷ turns) (h ∷ hs) [] same shown = absurd shown
hints_told (turn ∷ turns) (h ∷ hs) (outcome ∷ outcomes) same shown =
    let regs : h.regs ≡ turn.hint.regs = cc in
    let others : map (λ (k : Hint). k.regs) hs ≡ map (λ (t : Turn). t.hint.regs) turns = cc in
    let is : turn.outcome ≡ without_bits outcome = cc (shown.0.0) in
    let inserted : is_inserted outcome ≡ is_inserted turn.outcome = sym (inserted_so outcome) ∙ ap is_inserted (sym is) in
    let one : hint_trial h outcome ≡ hint_turn_trial turn = λ i. record { regs = regs i; inserted = inserted i } in
    ap (λ t. t ∷ hint_trials hs outcomes) one ∙ ap (λ l. hint_turn_trial turn ∷ l) (hints_told turns hs outcomes others shown.1)
