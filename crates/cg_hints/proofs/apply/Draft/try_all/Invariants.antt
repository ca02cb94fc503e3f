use Rattle.std.proofs.Common.{drop}
use Rattle.cg_hints.specs.inner.Drafting.{IsUnderway}
use Rattle.cg_hints.proofs.apply.Draft.try_all.Given as goal

abbrev pub invariant-loop-hint : goal.invariant-loop-hint
invariant-loop-hint l = IsUnderway l.rules.library.now l.rules.width l.rules.proof l.fn.self.machine l.hints (drop l.hint-index l.hints) l.self
