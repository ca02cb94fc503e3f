use Rattle.std.proofs.Common.{◌≡◌, ◌+◌, [], ◌∷◌, ◌++◌, ◌∙◌, false, Some, None, sym, subst, ap, rules}
use Rattle.cg_formula.specs.declared.formula.Lit.{Lit}
use Rattle.cg_formula.specs.Lits.{inverse, is_in}
use Rattle.cg_formula.specs.Assignments.{IsUnassigned}
use Rattle.cg_formula.proofs.Members.{inverse_twice, in_pushed, last_in}
use Rattle.cg_sat_state.specs.declared.trail.Entry.{Entry}
use Rattle.cg_sat_state.specs.Store.{clause_at, live_of}
use Rattle.cg_sat_state.specs.Trail.{lits_of}
use Rattle.cg_sat_state.proofs.Store.{clause_within, live_at}
use Rattle.cg_sat.proofs.UnitClauses.{lits_pushed, follows_more}
use Rattle.cg_sat.proofs.units.take_unit.Goals as goal

pub id-requires : goal.id-requires
id-requires c =
    let alone : clause_at c.args.clauses.now c.unit-place.result ≡ Some (c.inverse-inverse.result ∷ []) = search rules in
    clause_within c.args.clauses.now c.unit-place.result _ alone

pub returns-clause-follows : goal.returns-clause-follows
returns-clause-follows c first follows =
    let before = lits_of c.args.trues.now in
    let one : Lit = c.inverse-inverse.result in
    let entry : Entry = record { lit = one; reason = None } in
    let alone : clause_at c.args.clauses.now c.unit-place.result ≡ Some (one ∷ []) = search rules in
    let trues : lits_of c.push-2.new.self ≡ before ++ one ∷ [] = ap lits_of c.in_ok-push-2.ensures.added ∙ lits_pushed c.args.trues.now entry in
    let hints : c.push.new.self.items ≡ c.args.hints.now.items ++ (c.unit-place.result + 1) ∷ [] = c.in_ok-push.ensures.items ∙ ap (λ n. c.args.hints.now.items ++ n ∷ []) c.id.ensures in
    let new : is_in one before ≡ false = search rules in
    let off : is_in c.args.lit before ≡ false = search rules in
    let back : inverse one ≡ c.args.lit = ap inverse c.inverse-inverse.ensures ∙ inverse_twice c.args.lit in
    let free : IsUnassigned before one = record { not_true = new; not_false = subst (λ l. is_in l before ≡ false) (sym back) off } in
    rw (hints, trues) (follows_more (live_of c.args.clauses.now) first before c.args.hints.now.items (c.unit-place.result + 1) one follows (live_at c.args.clauses.now c.unit-place.result _ alone) free)

pub returns-clause-kept : goal.returns-clause-kept
returns-clause-kept c other e =
    let entry : Entry = record { lit = c.inverse-inverse.result; reason = None } in
    let trues : lits_of c.push-2.new.self ≡ lits_of c.args.trues.now ++ entry.lit ∷ [] = ap lits_of c.in_ok-push-2.ensures.added ∙ lits_pushed c.args.trues.now entry in
    rw trues (in_pushed other entry.lit (lits_of c.args.trues.now) e)

pub returns-clause-off : goal.returns-clause-off
returns-clause-off c found =
    let entry : Entry = record { lit = c.inverse-inverse.result; reason = None } in
    let trues : lits_of c.push-2.new.self ≡ lits_of c.args.trues.now ++ entry.lit ∷ [] = ap lits_of c.in_ok-push-2.ensures.added ∙ lits_pushed c.args.trues.now entry in
    rw (← c.inverse-inverse.ensures, trues) (last_in entry.lit (lits_of c.args.trues.now))
