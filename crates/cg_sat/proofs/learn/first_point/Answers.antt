use Rattle.std.proofs.Common.{◌≡◌, ◌+◌, ◌-◌, ◌∙◌, take, arith, subst, sym}
use Rattle.cg_sat_state.specs.Trail.{lits_of}
use Rattle.cg_sat.specs.inner.Learn.{Derives, VariablesBelow}
use Rattle.cg_sat.proofs.learn.first_point.Goals as goal

pub resolve_at-requires : goal.resolve_at-requires
resolve_at-requires c =
    let back : c.loop-at.at ≡ c.loop-at.at - 1 + 1 = omega arith in
    record {
      within = omega arith;
      implied = λ k entry low high is. c.requires.level.implied k entry (omega arith) (omega arith) is;
      trail = c.requires.trail;
      named = subst (λ n. VariablesBelow n c.args.clauses.now c.args.trail.now) (sym c.loop-at.invariant.long) c.requires.named;
      derives = subst (λ k. Derives c.args.clauses.now (lits_of (take k c.args.trail.now)) c.loop-at.work.marks.items c.loop-at.work.kept.items c.loop-at.work.hints.items) back
          c.loop-at.invariant.derives;
    }

pub loop-at-preserved : goal.loop-at-preserved
loop-at-preserved c = record {
  derives = c.in_ok-resolve_at.ensures.derives;
  long = c.resolve_at.ensures.marks ∙ c.loop-at.invariant.long;
  kept = c.resolve_at.ensures.kept ∙ c.loop-at.invariant.kept;
  low = omega arith;
}

pub returns-clause-derives : goal.returns-clause-derives
returns-clause-derives c =
    let end : c.loop-at.at ≡ c.args.from + 1 = omega arith in
    subst (λ k. Derives c.args.clauses.now (lits_of (take k c.args.trail.now)) c.loop-at.work.marks.items c.loop-at.work.kept.items c.loop-at.work.hints.items) end c.loop-at.invariant.derives
