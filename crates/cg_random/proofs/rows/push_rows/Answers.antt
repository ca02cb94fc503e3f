use Rattle.std.proofs.Common.{refl, ◌∙◌, length}
use Rattle.cg_random.proofs.Making.{makes_first, makes_next}
use Rattle.cg_random.proofs.rows.push_rows.Goals as goal

pub rows-init : goal.rows-init
rows-init c = (
  refl,
  makes_first (length c.args.stimulus.now.inputs) c.args.count c.args.stimulus.now.rows c.in_ok-row.row.items c.new-generator.result c.first_row.new.generator c.width.result
      c.requires.empty c.new-generator.ensures c.width.ensures c.in_ok-row.ensures.row c.in_ok-row.ensures.generator,
)

pub rows-preserved : goal.rows-preserved
rows-preserved c = (
  c.push.ensures.inputs ∙ c.rows.invariant.0,
  makes_next (length c.args.stimulus.now.inputs) c.args.count c.rows._made c.rows.stimulus.rows c.push.new.stimulus.rows c.rows.row.items c.deref.result.now c.deref-in-rows.result.now c.in_ok-row-2.row.items c.rows.generator c.next_row.new.generator
      c.rows-test.true c.rows.invariant.1 c.deref.ensures.value c.in_ok-push.ensures.rows c.deref-in-rows.ensures.value c.in_ok-row-2.ensures.row c.in_ok-row-2.ensures.generator,
)
