use Rattle.std.proofs.Common.{ap, arith, sym, ◌∙◌, length, ◌+◌}
use Rattle.cg_stimulus.specs.inner.CutRows.{cut_rows}
use Rattle.cg_stimulus.proofs.CutRows.{cut_rows-length, pushed, pushed-long}
use Rattle.cg_stimulus.proofs.bit_rows.BitRows.push.Goals as goal

pub invariant_of-self-2 : goal.invariant_of-self-2
invariant_of-self-2 c =
    ap length c.in_ok-extend_from_slice.ensures.items ∙ pushed-long c.self.inside.width c.self.inside.count c.self.inside.bits.items c.args.row.now c.args.self.now c.self.view_is c.self.invariant c.requires.wide

pub returns-clause-added : goal.returns-clause-added
returns-clause-added c =
    ap (λ bits. cut_rows (length c.args.row.now) (c.self.inside.count + 1) bits) c.in_ok-extend_from_slice.ensures.items
    ∙ pushed c.self.inside.width c.self.inside.count c.self.inside.bits.items c.args.row.now c.args.self.now c.self.view_is c.self.invariant c.requires.wide

pub overflow_add-self : goal.overflow_add-self
overflow_add-self c =
    let n = sym (cut_rows-length c.self.inside.width c.self.inside.count c.self.inside.bits.items) ∙ ap length c.self.view_is in
    omega (arith, n, c.requires.few)
