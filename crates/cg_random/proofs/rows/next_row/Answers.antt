use Rattle.std.proofs.Common.{false, ◌∙◌}
use Rattle.std.proofs.lemmas.Option.{slice_get-get_or}
use Rattle.cg_random.proofs.Making.{next_both}
use Rattle.cg_random.proofs.rows.next_row.Goals as goal

pub bits-preserved : goal.bits-preserved
bits-preserved c =
    let both = next_both c.args.before.now c.bits.row.items c.bits.bit-index c.next_word.result _ c.next_bit.result c.args.generator.now c.bits.generator c.next_word.new.self
    (slice_get-get_or c.args.before.now c.bits.bit-index false c.bits-test.true) c.bits.invariant c.next_word.ensures c.next_bit.ensures in
    (c.in_ok-push.ensures.items ∙ both.0, both.1)
