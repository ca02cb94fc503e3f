use Rattle.std.proofs.Common.{◌≡◌}
use Rattle.cg_cell.specs.Domain.{Keeps, Seen}
use Rattle.cg_aig.specs.Aig.{aig_ops}
use Rattle.cg_unroll.specs.Placing.{IsCopy}
use Rattle.cg_unroll_cycles.specs.inner.Laid.{HoldsCycle, asked_by}
use Rattle.cg_unroll_cycles.proofs.build.lay_later.Given as goal

abbrev pub invariant-loop-behind : goal.invariant-loop-behind
invariant-loop-behind l =
    record {
      first : l.tables.first ≡ l.fn.tables.first;
      keeps : Keeps aig_ops l.fn.aig l.aig;
      last : IsCopy l.unrolling.machine.now l.aig l.tables.last;
      laid : (s : Seen) → HoldsCycle l.unrolling.machine.now (asked_by l.unrolling) s 0 l.fn.aig l.fn.tables.first → HoldsCycle l.unrolling.machine.now (asked_by l.unrolling) s l.behind l.aig l.tables.last;
    }
