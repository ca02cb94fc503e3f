-- The nets of a hint have the same names in the netlist and in the machine on which the hint is tried.
use Rattle.std.proofs.Common.{◌≡◌, ℕ, ◌<◌, true, List, [], ◌∷◌, map, take, length, nat_eq, slice_get, unwrap_or, Ok, refl, sym, ◌∙◌, ap, subst, arith}
use Rattle.std.specs.List.{AllByRecursion}
use Rattle.std.proofs.lemmas.Bool.{eq-eqb, or_left, or_right}
use Rattle.std.proofs.lemmas.List.{length-take-le}
use Rattle.cg_cell.specs.Cell.{CellData}
use Rattle.cg_extract.proofs.Bare.{number_within}
use Rattle.cg_extract.proofs.ForGating.{name_kept}
use Rattle.cg_extract.proofs.Kept.{kept_of}
use Rattle.cg_extract.specs.Lifted.{bare, kept_nets, number_of}
use Rattle.cg_gate.specs.HintNames.{AreAsked, SaysSame, with_net_name, with_net_names}
use Rattle.cg_gate_laws.specs.Begun.{renamed, renamed_literal}
use Rattle.cg_hint_laws.proofs.Additions.{and_then_ok}
use Rattle.cg_hint_laws.proofs.AllSafe.{TurnKeeps, all_later, turn_keeps}
use Rattle.cg_hint_laws.specs.Effects.{and_then}
use Rattle.cg_hint_laws.specs.Hints.{condition_nets}
use Rattle.cg_hint_laws.specs.Laws.{AllFit}
use Rattle.cg_hint_laws.specs.OfNetlist.{IsOf, IsPlain}
use Rattle.cg_hint_laws.specs.Trying.{Hinted, after_outcome, hinted, tried, with_turn}
use Rattle.cg_hint_laws.specs.declared.hint.Hint.{Hint}
use Rattle.cg_machine.proofs.Lists.{take_get}
use Rattle.cg_machine.specs.Added.{own_netlist, own_nets}
use Rattle.cg_machine.specs.Claims.{Literal}
use Rattle.cg_machine.specs.Machine.{IsMachine, MachineData}
use Rattle.cg_net.proofs.Members.{is_in_left, is_in_right}
use Rattle.cg_net.specs.NetSets.{is_in}
use Rattle.cg_net.specs.Names.{net_name}
use Rattle.cg_netlist.specs.Circuit.{Circuit}
use Rattle.cg_netlist.specs.Netlist.{IsNetlist}

abbrev nets_of : List Literal → List ℕ
nets_of term = map (λ (l : Literal). l.0) term

-- a machine whose own netlist is what is left of the netlist
module _ (c : Circuit) (whole : IsNetlist c) (m : MachineData) (own : own_netlist m ≡ bare c) where
  net_named : (x : ℕ) → IsPlain c x → net_name m.circuit.names (number_of c x) ≡ net_name c.names x
  net_named x plain =
      let k : ℕ = number_of c x in
      let kept : is_in (kept_nets c) x ≡ true = kept_of c whole x plain.below plain.ungated in
      let low : number_of c x < length (bare c).names = number_within c whole x kept in
      let names : take (own_nets m) m.circuit.names ≡ (bare c).names = ap (λ (d : Circuit). d.names) own in
      let long : length (take (own_nets m) m.circuit.names) ≡ own_nets m = length-take-le (own_nets m) m.circuit.names (omega arith) in
      let same : length (take (own_nets m) m.circuit.names) ≡ length (bare c).names = ap length names in
      let below : number_of c x < own_nets m = omega (arith, low, long, same) in
      ap (λ o. unwrap_or o []) (sym (take_get (own_nets m) m.circuit.names k below) ∙ ap (λ all. slice_get all k) names) ∙ name_kept c whole x kept

  term_named : (term : List Literal) → ((y : ℕ) → is_in (nets_of term) y ≡ true → IsPlain c y) → map (with_net_name m.circuit.names) (map (renamed_literal c) term) ≡ map (with_net_name c.names) term
  term_named [] each = refl
  term_named (l ∷ term) each =
      ap (λ name. (name, l.1) ∷ map (with_net_name m.circuit.names) (map (renamed_literal c) term)) (net_named l.0 (each l.0 (or_left (nat_eq l.0 l.0) (is_in (nets_of term) l.0) (eq-eqb l.0 l.0 refl))))
      ∙ ap (λ more. with_net_name c.names l ∷ more) (term_named term (λ y among. each y (or_right (nat_eq y l.0) (is_in (nets_of term) y) among)))

  terms_named : (terms : List (List Literal)) → ((y : ℕ) → is_in (condition_nets terms) y ≡ true → IsPlain c y) → with_net_names m.circuit.names (map (map (renamed_literal c)) terms) ≡ with_net_names c.names terms
  terms_named [] each = refl
  terms_named (term ∷ terms) each =
      ap (λ first. first ∷ with_net_names m.circuit.names (map (map (renamed_literal c)) terms)) (term_named term (λ y among. each y (is_in_left (nets_of term) (condition_nets terms) y among)))
      ∙ ap (λ more. map (with_net_name c.names) term ∷ more) (terms_named terms (λ y among. each y (is_in_right (nets_of term) (condition_nets terms) y among)))

  hint_named : (h : Hint) → IsOf c h → SaysSame c m h (renamed c h)
  hint_named h is = record { regs = refl; terms = terms_named h.terms is.nets; after = refl }

-- hints keep that netlist, so each is tried on such a machine
pub hints_named : (c : Circuit) → IsNetlist c → (library : List CellData) (width : ℕ) (m : MachineData) (hs : List Hint) (done : Hinted) → own_netlist m ≡ bare c → IsMachine m
    → AllFit m (map (renamed c) hs) → AllByRecursion (IsOf c) hs → hinted library width m (map (renamed c) hs) ≡ Ok done → AreAsked c hs done.turns
hints_named c whole library width m [] done own good fit are ok = let same : record { machine = m; turns = [] } ≡ done = cc in ap (λ (d : Hinted). d.turns) (sym same)
hints_named c whole library width m (h ∷ hs) done own good fit are ok =
    let first = and_then_ok (tried library width m (renamed c h)) (λ outcome. and_then (hinted library width (after_outcome m (renamed c h) outcome) (map (renamed c) hs)) (with_turn (record { machine = m; hint = renamed c h; outcome = outcome }))) done ok in
    let n : MachineData = after_outcome m (renamed c h) first.0 in
    let keeps : TurnKeeps library m n = turn_keeps library width m (renamed c h) first.0 good fit.0 first.1 in
    let rest = and_then_ok (hinted library width n (map (renamed c) hs)) (with_turn (record { machine = m; hint = renamed c h; outcome = first.0 })) done first.2 in
    let later : AreAsked c hs rest.0.turns = hints_named c whole library width n hs rest.0 (keeps.safe.own ∙ own) keeps.safe.is_machine (all_later library m n (map (renamed c) hs) keeps fit.1) are.1 rest.1 in
    let same : record { machine = rest.0.machine; turns = record { machine = m; hint = renamed c h; outcome = first.0 } ∷ rest.0.turns } ≡ done = cc in
    subst (λ (d : Hinted). AreAsked c (h ∷ hs) d.turns) same (hint_named c whole m own h are.0, later)
