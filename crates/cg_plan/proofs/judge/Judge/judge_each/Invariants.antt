use Rattle.std.proofs.Common.{◌≡◌, drop, take}
use Rattle.cg_plan_laws.specs.StageClaims.{claims_of}
use Rattle.cg_plan_laws.specs.Trying.{decided, measured}
use Rattle.cg_plan.specs.inner.Deciding.{Grow}
use Rattle.cg_plan.specs.inner.Judging.{IsSettled}
use Rattle.cg_plan.specs.inner.Naming.{claims_named}
use Rattle.cg_plan.proofs.judge.Judge.judge_each.Given as goal

abbrev pub invariant-loop-name : goal.invariant-loop-name
invariant-loop-name l = record {
  left : measured l.claims.machine.now l.claims.width (claims_named l.claims.machine.now l.claims.stage.now (drop l.name-index l.claims.names.now)) (decided l.claims.machine.now l.claims.stage.now) ≡ measured l.claims.machine.now l.claims.width (claims_of l.claims.machine.now l.claims.stage.now) (decided l.claims.machine.now l.claims.stage.now);
  settled : IsSettled l.claims.proof l.claims.machine.now l.claims.number l.claims.stage.now (claims_named l.claims.machine.now l.claims.stage.now (take l.name-index l.claims.names.now)) (claims_named l.claims.machine.now l.claims.stage.now (drop l.name-index l.claims.names.now)) l.fn.into.items l.into.items l.settled;
  grown : Grow l.fn.into.items l.into.items;
}
