use Rattle.std.proofs.Common.{◌≡◌, drop, take}
use Rattle.cg_hints.specs.inner.Deciding.{CertifiesThese, Grow}
use Rattle.cg_hints.specs.inner.Judging.{by_claims}
use Rattle.cg_hints.specs.inner.Standing.{IsBackedBy, left_of}
use Rattle.cg_hints.proofs.judge.Judge.judge_each.Given as goal

abbrev pub invariant-loop-claim : goal.invariant-loop-claim
invariant-loop-claim l = record {
  left : left_of l.claims.width l.claims.machine.now l.claims.hint.now l.standing (drop l.claim-index l.names) ≡ by_claims l.claims.width l.claims.machine.now l.claims.hint.now;
  backed : IsBackedBy l.claims.machine.now l.claims.hint.now l.standing;
  certified : CertifiesThese l.claims.proof l.claims.number l.claims.machine.now l.claims.hint.now (take l.claim-index l.names) l.fn.into.items l.into.items l.standing;
  grown : Grow l.fn.into.items l.into.items;
}
