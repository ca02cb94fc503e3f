use Rattle.std.proofs.Common.{ap, arith, drop, take, ◌+◌, ◌*◌, ◌-◌}
use Rattle.cg_stimulus.proofs.CutRows.{row_at, row_room}
use Rattle.cg_stimulus.proofs.bit_rows.BitRows.row.Goals as goal

pub overflow_mul-start : goal.overflow_mul-start
overflow_mul-start c =
    let room = row_room c.self.inside.width c.self.inside.count c.args.number c.self.inside.bits.items c.args.self.now c.self.view_is c.self.invariant c.requires in
    omega arith

pub overflow_add-result : goal.overflow_add-result
overflow_add-result c =
    let room = row_room c.self.inside.width c.self.inside.count c.args.number c.self.inside.bits.items c.args.self.now c.self.view_is c.self.invariant c.requires in
    omega arith

pub slice_bounds-result-end : goal.slice_bounds-result-end
slice_bounds-result-end c =
    let room = row_room c.self.inside.width c.self.inside.count c.args.number c.self.inside.bits.items c.args.self.now c.self.view_is c.self.invariant c.requires in
    omega arith

pub returns : goal.returns
returns c =
    row_at c.self.inside.width c.self.inside.count c.args.number c.self.inside.bits.items _ c.args.self.now c.self.view_is c.requires
    (ap (λ bits. take (c.args.number * c.self.inside.width + c.self.inside.width - c.args.number * c.self.inside.width) (drop (c.args.number * c.self.inside.width) bits)) c.deref.ensures.value)
