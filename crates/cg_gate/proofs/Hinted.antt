-- Hints of a netlist that are tried on its machine: what their literals are, and what is told of them.
use Rattle.std.proofs.Common.{◌≡◌, ℕ, suc, true, List, [], ◌∷◌, map, length, nat_eq, Result, Ok, Err, IfErr, refl, sym, ◌∙◌, ap}
use Rattle.std.specs.List.{All, AllByRecursion}
use Rattle.std.proofs.lemmas.Bool.{eq-eqb, or_left, or_right}
use Rattle.std.proofs.lemmas.List.{length-map}
use Rattle.cg_cell.specs.Cell.{CellData}
use Rattle.cg_extract.specs.Lifted.{lifted}
use Rattle.cg_gate.specs.Gating.{AreHintsTried}
use Rattle.cg_gate.specs.Request.{RequestData, gating_of, hints_of}
use Rattle.cg_gate.specs.declared.planning.TriedHints.{TriedHints}
use Rattle.cg_gate_laws.specs.Begun.{renamed}
use Rattle.cg_hint_laws.proofs.Additions.{and_then_ok}
use Rattle.cg_hint_laws.specs.Answers.{AreCertified, AreShown, RegisterClaim}
use Rattle.cg_hint_laws.specs.Effects.{and_then}
use Rattle.cg_hint_laws.specs.Hints.{condition_nets}
use Rattle.cg_hint_laws.specs.OfNetlist.{IsPlain}
use Rattle.cg_hint_laws.specs.Trying.{Hinted, Turn, after_outcome, hinted, tried, with_turn}
use Rattle.cg_hint_laws.specs.declared.certificate.HintCertificate.{HintCertificate}
use Rattle.cg_hint_laws.specs.declared.hint.Hint.{Hint}
use Rattle.cg_hint_laws.specs.declared.outcome.HintOutcome.{HintOutcome}
use Rattle.cg_machine.specs.Claims.{Literal}
use Rattle.cg_machine.specs.Machine.{MachineData}
use Rattle.cg_net.proofs.Members.{is_in_left, is_in_right}
use Rattle.cg_net.specs.NetSets.{is_in}
use Rattle.cg_netlist.proofs.Each.{from_recursion}
use Rattle.cg_netlist.specs.Circuit.{Circuit}
use Rattle.cg_netlist.specs.declared.fault.AddFault.{AddFault}
use Rattle.cg_plan_text.specs.ProofText.{AreWritableHints, IsWritableHint}

-- the literals of a condition, of whose nets something is known
module _ (P : ℕ → Type 0) where
  of_nets : (term : List Literal) → ((y : ℕ) → is_in (map (λ (l : Literal). l.0) term) y ≡ true → P y) → AllByRecursion (λ (l : Literal). P l.0) term
  of_nets [] each = tt
  of_nets (l ∷ term) each = (
    each l.0 (or_left (nat_eq l.0 l.0) (is_in (map (λ (k : Literal). k.0) term) l.0) (eq-eqb l.0 l.0 refl)),
    of_nets term (λ y among. each y (or_right (nat_eq y l.0) (is_in (map (λ (k : Literal). k.0) term) y) among)),
  )

  of_terms : (terms : List (List Literal)) → ((y : ℕ) → is_in (condition_nets terms) y ≡ true → P y) → AllByRecursion (λ (term : List Literal). All (λ (l : Literal). P l.0) term) terms
  of_terms [] each = tt
  of_terms (term ∷ terms) each = (
    from_recursion (λ (l : Literal). P l.0) term (of_nets term (λ y among. each y (is_in_left (map (λ (l : Literal). l.0) term) (condition_nets terms) y among))),
    of_terms terms (λ y among. each y (is_in_right (map (λ (l : Literal). l.0) term) (condition_nets terms) y among)),
  )

pub all_plain : (c : Circuit) (terms : List (List Literal)) → ((y : ℕ) → is_in (condition_nets terms) y ≡ true → IsPlain c y) → All (λ (term : List Literal). All (λ (l : Literal). IsPlain c l.0) term) terms
all_plain c terms each = from_recursion (λ (term : List Literal). All (λ (l : Literal). IsPlain c l.0) term) terms (of_terms (IsPlain c) terms each)

-- certificates of claims can be written
each_writable : (claims : List RegisterClaim) (certificates : List HintCertificate) → AreCertified claims certificates → AllByRecursion IsWritableHint certificates
each_writable claims [] are = tt
each_writable [] (certificate ∷ certificates) are = absurd (cc)
each_writable (c ∷ claims) (certificate ∷ certificates) are = (record { formula = are.0.formula_fits; log = are.0.log_fits }, each_writable claims certificates are.1)

pub hints_writable : (claims : List RegisterClaim) (certificates : List HintCertificate) → AreCertified claims certificates → AreWritableHints certificates
hints_writable claims certificates are = from_recursion IsWritableHint certificates (each_writable claims certificates are)

-- each hint is told with its outcome
shown_long : (turns : List Turn) (outcomes : List HintOutcome) → AreShown turns outcomes → length turns ≡ length outcomes
shown_long [] outcomes are = ap length (sym are)
shown_long (turn ∷ turns) [] are = absurd are
shown_long (turn ∷ turns) (outcome ∷ outcomes) are = ap suc (shown_long turns outcomes are.1)

turns_long : (library : List CellData) (width : ℕ) (m : MachineData) (hs : List Hint) (done : Hinted) → hinted library width m hs ≡ Ok done → length done.turns ≡ length hs
turns_long library width m [] done ok = let same : record { machine = m; turns = [] } ≡ done = cc in ap (λ (d : Hinted). length d.turns) (sym same)
turns_long library width m (h ∷ hs) done ok =
    let first = and_then_ok (tried library width m h) (λ outcome. and_then (hinted library width (after_outcome m h outcome) hs) (with_turn (record { machine = m; hint = h; outcome = outcome }))) done ok in
    let n : MachineData = after_outcome m h first.0 in
    let rest = and_then_ok (hinted library width n hs) (with_turn (record { machine = m; hint = h; outcome = first.0 })) done first.2 in
    let same : record { machine = rest.0.machine; turns = record { machine = m; hint = h; outcome = first.0 } ∷ rest.0.turns } ≡ done = cc in
    ap (λ (d : Hinted). length d.turns) (sym same) ∙ ap suc (turns_long library width n hs rest.0 rest.1)

pub told_long : (request : RequestData) (read : Circuit) (hints : TriedHints) → AreHintsTried (gating_of request read) read hints → length (hints_of request) ≡ length hints.outcomes
told_long request read hints are =
    sym (length-map (hints_of request) (renamed read))
    ∙ (sym (turns_long request.library request.settings.width (lifted read request.prefix) (map (renamed read) (hints_of request)) are.done are.tried)
    ∙ shown_long are.done.turns hints.outcomes are.outcomes)

-- faults, one after another
pub if_err : {A : Type 0} (P Q : AddFault → Type 0) (r : Result A AddFault) → ((fault : AddFault) → P fault → Q fault) → IfErr r P → IfErr r Q
if_err P Q (Ok x) all is = tt
if_err P Q (Err fault) all is = all fault is
