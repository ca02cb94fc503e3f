use Rattle.std.proofs.Common.{◌≡◌, ◌+◌, [], ◌∷◌, ◌++◌, ◌∙◌, true, subst, ap, arith, rules, get_or, take}
use Rattle.std.proofs.lemmas.List.{take_all}
use Rattle.cg_formula.specs.Lits.{inverse, is_in}
use Rattle.cg_formula.specs.Assignments.{IsFalsified}
use Rattle.cg_sat_state.specs.Store.{live_of}
use Rattle.cg_sat_state.specs.Trail.{lits_of}
use Rattle.cg_sat.proofs.Marks.{blank_lit}
use Rattle.cg_sat_state.proofs.Store.{clause_within, live_at}
use Rattle.cg_sat.proofs.UnitClauses.{follows_ends, falsified_more, falsified_kept}
use Rattle.cg_sat.proofs.units.unit_hints.Goals as goal

pub loop-other-preserved : goal.loop-other-preserved
loop-other-preserved c =
    let clause = c.in-Some.clause.now in
    let one = get_or clause c.loop-other.other-index blank_lit in
    let off : is_in (inverse one) (lits_of c.take_unit.new.trues) ≡ true = search rules in
    record {
      follows = c.in_ok-is_false.ensures.follows _ c.loop-other.invariant.follows;
      off = falsified_more (lits_of c.take_unit.new.trues) clause c.loop-other.other-index (omega arith) off
          (falsified_kept (lits_of c.loop-other.trues) (lits_of c.take_unit.new.trues) (take c.loop-other.other-index clause) c.in_ok-is_false.ensures.kept c.loop-other.invariant.off);
    }

pub id-requires : goal.id-requires
id-requires c = clause_within c.args.clauses.now c.args.reason _ c.in-Some.ensures

pub returns : goal.returns
returns c =
    let clause = c.in-Some.clause.now in
    let whole : take c.loop-other.other-index clause ≡ clause = take_all c.loop-other.other-index clause (omega arith) in
    let off : IsFalsified (lits_of c.loop-other.trues) clause = subst (IsFalsified (lits_of c.loop-other.trues)) whole c.loop-other.invariant.off in
    let hints : c.push-2.new.self.items ≡ c.loop-other.hints.items ++ (c.args.reason + 1) ∷ [] = c.in_ok-push-2.ensures.items ∙ ap (λ n. c.loop-other.hints.items ++ n ∷ []) c.id.ensures in
    rw hints (follows_ends (live_of c.args.clauses.now) c.args.lit (lits_of c.loop-other.trues) c.loop-other.hints.items (c.args.reason + 1) clause c.loop-other.invariant.follows (live_at c.args.clauses.now c.args.reason clause c.in-Some.ensures) off)
