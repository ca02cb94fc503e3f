-- Hints of a netlist fit its machine, and the machine that they leave is one to begin a plan with.
use Rattle.std.proofs.Common.{◌≡◌, ℕ, ◌<◌, ◌≤◌, true, false, List, [], ◌∷◌, map, length, nat_eq, Result, Ok, Err, Some, refl, sym, ◌∙◌, ap, subst}
use Rattle.std.proofs.Common.{inl, inr, arith}
use Rattle.std.specs.List.{All, AllByRecursion}
use Rattle.std.proofs.lemmas.Bool.{both_ways, eq-eqb, eqb-true, or_cases, or_left, or_right}
use Rattle.std.proofs.lemmas.List.{length-map, length-take-le}
use Rattle.std.proofs.lemmas.List.Elements.{All-map, All-weaker}
use Rattle.cg_extract.proofs.Bare.{number_within}
use Rattle.cg_extract.proofs.ForGating.{lifted_own}
use Rattle.cg_extract.proofs.Kept.{clock_kept, kept_of, same_number}
use Rattle.cg_extract.proofs.LiftedMachine.{lifted_is_machine, lifted_is_small}
use Rattle.cg_extract.proofs.Lifts.{lifting_lifts}
use Rattle.cg_extract.proofs.Taking.{net_enabled}
use Rattle.cg_extract.specs.Lifted.{CanExtract, bare, kept_nets, lifted, lifted_enables, lifting, number_of}
use Rattle.cg_hint_laws.proofs.AllSafe.{hints_are_safe, safe_itself}
use Rattle.cg_hint_laws.specs.Hints.{condition_nets}
use Rattle.cg_hint_laws.specs.Laws.{AllFit, IsSafe}
use Rattle.cg_hint_laws.specs.OfNetlist.{IsOf, IsPlain}
use Rattle.cg_hint_laws.specs.Trying.{Hinted}
use Rattle.cg_hint_laws.specs.declared.hint.Hint.{Hint}
use Rattle.cg_machine.proofs.Extended.{net_kept}
use Rattle.cg_machine.specs.Added.{own_netlist, own_nets}
use Rattle.cg_machine.specs.Claims.{Literal}
use Rattle.cg_machine.specs.Machine.{IsNet, MachineData}
use Rattle.cg_machine.specs.Start.{machine_of}
use Rattle.cg_net.proofs.Members.{is_in_cases, is_in_left, is_in_right}
use Rattle.cg_net.proofs.TableLemmas.{mapped_at}
use Rattle.cg_net.specs.NetSets.{is_in}
use Rattle.cg_net.specs.Names.{net_name}
use Rattle.cg_netlist.specs.Circuit.{Circuit}
use Rattle.cg_netlist.specs.declared.fault.AddFault.{AddFault}
use Rattle.cg_gate_laws.specs.Begun.{hinted_by, left_by, renamed, renamed_literal}
use Rattle.cg_gate_laws.specs.Gated.{Gating, begun}
use Rattle.cg_gate_laws.specs.Laws.{BegunIsSafe, RenamedFits}

-- a net of a renamed condition is the number of a net of the condition
pub record IsRenamed (c : Circuit) (nets : List ℕ) (y : ℕ) : Type 0 where
  pub net : ℕ
  pub among : is_in nets net ≡ true
  pub number : number_of c net ≡ y

abbrev nets_of : List Literal → List ℕ
nets_of term = map (λ (l : Literal). l.0) term

term_nets : (c : Circuit) (term : List Literal) (y : ℕ) → is_in (nets_of (map (renamed_literal c) term)) y ≡ true → IsRenamed c (nets_of term) y
term_nets c [] y among = absurd (both_ways false refl among)
term_nets c (l ∷ term) y among = elim (or_cases (nat_eq y (number_of c l.0)) (is_in (nets_of (map (renamed_literal c) term)) y) among) [
  | inl here ↦ record { net = l.0; among = or_left (nat_eq l.0 l.0) (is_in (nets_of term) l.0) (eq-eqb l.0 l.0 refl); number = sym (eqb-true y (number_of c l.0) here) }
  | inr later ↦ let r = term_nets c term y later in record { net = r.net; among = or_right (nat_eq r.net l.0) (is_in (nets_of term) r.net) r.among; number = r.number }
]

renamed_nets : (c : Circuit) (terms : List (List Literal)) (y : ℕ) → is_in (condition_nets (map (map (renamed_literal c)) terms)) y ≡ true → IsRenamed c (condition_nets terms) y
renamed_nets c [] y among = absurd (both_ways false refl among)
renamed_nets c (term ∷ terms) y among = elim (is_in_cases (nets_of (map (renamed_literal c) term)) (condition_nets (map (map (renamed_literal c)) terms)) y among) [
  | inl here ↦ let r = term_nets c term y here in record { net = r.net; among = is_in_left (nets_of term) (condition_nets terms) r.net r.among; number = r.number }
  | inr later ↦ let r = renamed_nets c terms y later in record { net = r.net; among = is_in_right (nets_of term) (condition_nets terms) r.net r.among; number = r.number }
]

module _ (c : Circuit) (prefix : List ℕ) (can : CanExtract c prefix) where
  bare_net : (x : ℕ) → IsPlain c x → IsNet (machine_of (bare c) prefix) (number_of c x)
  bare_net x plain =
      let kept : is_in _ x ≡ true = kept_of c can.netlist x plain.below plain.ungated in
      record {
        below = number_within c can.netlist x kept;
        apart = λ clk.
            let old = mapped_at (number_of c) c.clock (number_of c x) clk in
            let same : old.0 ≡ x = same_number c can.netlist old.0 x (clock_kept c can.netlist old.0 old.1) kept old.2 in
            plain.apart (old.1 ∙ ap Some same);
      }

  plain_net : (x : ℕ) → IsPlain c x → IsNet (lifted c prefix) (number_of c x)
  plain_net x plain =
      net_enabled (lifting c prefix).machine (lifted_enables c (lifting c prefix).enables) (number_of c x)
      (net_kept (machine_of (bare c) prefix) (lifting c prefix).machine (lifting_lifts c prefix can).extends (number_of c x) (bare_net x plain))

pub renamed_fits : RenamedFits
renamed_fits c prefix h can is = record {
  registers = λ r among. let low = is.registers r among in let own = (lifted_is_small c prefix can).2 in omega (arith, low, own);
  distinct = is.distinct;
  some = is.some;
  terms = let long = length-map h.terms (map (renamed_literal c)) in let some = is.terms in omega (arith, long, some);
  literals = All-map (λ (term : List Literal). 0 < length term) (map (renamed_literal c)) h.terms
      (All-weaker (λ (term : List Literal). 0 < length term) (λ (term : List Literal). 0 < length (map (renamed_literal c) term))
      (λ term some. let long = length-map term (renamed_literal c) in omega (arith, long, some)) h.terms is.literals);
  nets = λ y among. let r = renamed_nets c h.terms y among in subst (IsNet (lifted c prefix)) r.number (plain_net c prefix can r.net (is.nets r.net r.among));
  after = is.after;
}

pub all_fit : (c : Circuit) (prefix : List ℕ) → CanExtract c prefix → (hs : List Hint) → AllByRecursion (IsOf c) hs → AllFit (lifted c prefix) (map (renamed c) hs)
all_fit c prefix can [] are = tt
all_fit c prefix can (h ∷ hs) are = (renamed_fits c prefix h can are.0, all_fit c prefix can hs are.1)

pub begun_safe : BegunIsSafe
begun_safe by c can hints = go (hinted_by by.library by.settings.width by.prefix by.hints c) refl
  where
    go : (r : Result Hinted AddFault) → hinted_by by.library by.settings.width by.prefix by.hints c ≡ r → IsSafe by.library (lifted c by.prefix) (left_by (lifted c by.prefix) r)
    go (Ok done) is = (hints_are_safe by.library by.settings.width (lifted c by.prefix) (map (renamed c) by.hints) done (lifted_is_machine c by.prefix can) (all_fit c by.prefix can by.hints hints) is).safe
    go (Err fault) is = safe_itself by.library (lifted c by.prefix) (lifted_is_machine c by.prefix can)

-- without hints the plan begins with the machine of the netlist
pub begun_bare : (by : Gating) (c : Circuit) → by.hints ≡ [] → begun by c ≡ lifted c by.prefix
begun_bare by c none = ap (λ hs. left_by (lifted c by.prefix) (hinted_by by.library by.settings.width by.prefix hs c)) none

-- hints that were tried leave the machine with which the plan begins
pub left_is : (by : Gating) (c : Circuit) (done : Hinted) → hinted_by by.library by.settings.width by.prefix by.hints c ≡ Ok done → done.machine ≡ begun by c
left_is by c done tried = sym (ap (left_by (lifted c by.prefix)) tried)

-- it has no fewer nets than are kept of the netlist
pub begun_few : (by : Gating) (c : Circuit) → CanExtract c by.prefix → AllByRecursion (IsOf c) by.hints → length (kept_nets c) ≤ length (begun by c).circuit.names
begun_few by c can hints =
    let n : MachineData = begun by c in
    let own : own_netlist n ≡ bare c = (begun_safe by c can hints).own ∙ (lifted_own c by.prefix can).own in
    let same : length (own_netlist n).names ≡ length (bare c).names = ap (λ (d : Circuit). length d.names) own in
    let front : length (own_netlist n).names ≡ own_nets n = length-take-le (own_nets n) n.circuit.names (omega arith) in
    let kept : length (bare c).names ≡ length (kept_nets c) = length-map (kept_nets c) (net_name c.names) in
    omega (arith, same, front, kept)
