use Rattle.std.proofs.Common.{◌≡◌, drop}
use Rattle.cg_lrat.specs.Accepted.{deletion_fault, without}
use Rattle.cg_lrat.specs.inner.LiveTable.{live_in}
use Rattle.cg_lrat.proofs.progress.delete.Given as goal

abbrev pub invariant-loop-id : goal.invariant-loop-id
invariant-loop-id l = record {
  fault : deletion_fault (live_in l.live) (drop l.id-index l.ids) ≡ deletion_fault (live_in l.fn.live) l.ids;
  gone : without (live_in l.live) (drop l.id-index l.ids) ≡ without (live_in l.fn.live) l.ids;
}
