use Rattle.std.proofs.Common.{ap, ◌∙◌, arith, drop, length, take, ◌+◌, ◌*◌, ◌-◌}
use Rattle.cg_cell.proofs.CutRows.{row_is, row_room}
use Rattle.cg_cell.proofs.rows.CoverRows.row.Goals as goal

pub overflow_mul-start : goal.overflow_mul-start
overflow_mul-start c =
    let room = row_room c.self.inside.width c.self.inside.count c.args.number c.self.inside.places.items c.args.self.now c.self.view_is c.self.invariant c.requires in
    let long = ap length c.as_slice-places.ensures in
    omega arith

pub overflow_add-result : goal.overflow_add-result
overflow_add-result c =
    let room = row_room c.self.inside.width c.self.inside.count c.args.number c.self.inside.places.items c.args.self.now c.self.view_is c.self.invariant c.requires in
    let long = ap length c.as_slice-places.ensures in
    omega arith

pub offset_bounds-places-start : goal.offset_bounds-places-start
offset_bounds-places-start c =
    let room = row_room c.self.inside.width c.self.inside.count c.args.number c.self.inside.places.items c.args.self.now c.self.view_is c.self.invariant c.requires in
    let long = ap length c.as_slice-places.ensures in
    omega arith

pub slice_bounds-result-end : goal.slice_bounds-result-end
slice_bounds-result-end c =
    let room = row_room c.self.inside.width c.self.inside.count c.args.number c.self.inside.places.items c.args.self.now c.self.view_is c.self.invariant c.requires in
    let long = ap length c.as_slice-places.ensures in
    omega arith

pub returns : goal.returns
returns c =
    ap (λ places. take (c.args.number * c.self.inside.width + c.self.inside.width - c.args.number * c.self.inside.width) (drop (c.args.number * c.self.inside.width) places)) c.as_slice-places.ensures
    ∙ row_is c.self.inside.width c.self.inside.count c.args.number c.self.inside.places.items c.args.self.now c.self.view_is c.requires
