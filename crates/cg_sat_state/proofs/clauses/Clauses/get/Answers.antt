use Rattle.std.proofs.Common.{◌≡◌, ◌-◌, ◌∙◌, Some, None, refl, arith, take, drop}
use Rattle.std.specs.List.{slice_get}
use Rattle.cg_sat_state.specs.inner.Arena.{held}
use Rattle.cg_sat_state.proofs.Arena.{ordered, out_of_order, store_past, store_at, read_at}
use Rattle.cg_sat_state.proofs.clauses.Clauses.get.Goals as goal

pub returns-then-place-len : goal.returns-then-place-len
returns-then-place-len c =
    rw (← c.self.view_is) (store_past c.self.inside.lits.items c.self.inside.spans.items c.args.place (omega arith))

pub returns-then-span : goal.returns-then-span
returns-then-span c =
    let spans = c.self.inside.spans.items in
    let lits = c.self.inside.lits.items in
    let span = c.index-span.result.now in
    let is : slice_get spans c.args.place ≡ Some span = read_at spans c.args.place span (omega arith) c.index-span.ensures in
    let off : held lits span ≡ None = rw (out_of_order span.from span.to (omega arith)) refl in
    rw (← c.self.view_is) (store_at lits spans c.args.place span is ∙ off)

pub returns : goal.returns
returns c =
    let spans = c.self.inside.spans.items in
    let lits = c.self.inside.lits.items in
    let span = c.index-span.result.now in
    let is : slice_get spans c.args.place ≡ Some span = read_at spans c.args.place span (omega arith) c.index-span.ensures in
    let on : held lits span ≡ Some (take (span.to - span.from) (drop span.from lits)) = rw (ordered span.from span.to (omega arith)) refl in
    rw (c.as_slice.ensures.value, ← c.self.view_is) (store_at lits spans c.args.place span is ∙ on)
