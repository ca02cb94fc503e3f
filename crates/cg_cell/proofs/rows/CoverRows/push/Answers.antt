use Rattle.std.proofs.Common.{ap, ◌∙◌, length}
use Rattle.cg_cell.specs.inner.CutRows.{cut_rows}
use Rattle.cg_cell.proofs.CutRows.{pushed, pushed-long}
use Rattle.cg_cell.proofs.rows.CoverRows.push.Goals as goal

pub invariant_of-self-2 : goal.invariant_of-self-2
invariant_of-self-2 c =
    ap length c.in_ok-extend_from_slice.ensures.ok ∙ pushed-long c.self.inside.width c.self.inside.count c.in_ok-count.count c.self.inside.places.items c.args.row.now c.args.self.now c.in_ok-count.ensures c.self.view_is c.self.invariant c.requires

pub returns : goal.returns
returns c =
    ap (λ places. cut_rows (length c.args.row.now) c.in_ok-count.count places) c.in_ok-extend_from_slice.ensures.ok
    ∙ pushed c.self.inside.width c.self.inside.count c.in_ok-count.count c.self.inside.places.items c.args.row.now c.args.self.now c.in_ok-count.ensures c.self.view_is c.self.invariant c.requires
