use Rattle.std.proofs.Common.{◌≡◌, ◌∙◌, ap, length, refl, sym}
use Rattle.std.specs.Vec.{with_items}
use Rattle.std.proofs.lemmas.List.{with_items_is}
use Rattle.cg_vcd.specs.declared.values.Values.{Values}
use Rattle.cg_vcd.specs.inner.Values.{kept}
use Rattle.cg_vcd.proofs.StepEnds.{ended_values}
use Rattle.cg_vcd.proofs.values.Values.end_step.Goals as goal

pub returns-clause-values : goal.returns-clause-values
returns-clause-values c =
    let before = c.settle.new.before in
    let marks = c.settle.new.marks in
    let long : length c.settle.new.before ≡ length c.args.self.now.before.items = c.settle.ensures.count ∙ ap length c.deref_mut.ensures.value in
    let marks_long : length c.settle.new.marks ≡ length c.args.self.now.marks.items = c.settle.ensures.long ∙ ap length c.deref_mut-2.ensures.value in
    let v : Values = record {
      before = with_items c.args.self.now.before before;
      latest = c.args.self.now.latest;
      given = c.clear.new.self;
      marks = with_items c.args.self.now.marks marks;
    } in
    ended_values v before c.args.self.now.latest.items marks (with_items_is c.args.self.now.before before (c.settle.ensures.count ∙ c.deref_mut.ensures.len)) refl c.clear.ensures.items
    (with_items_is c.args.self.now.marks marks (c.settle.ensures.long ∙ c.deref_mut-2.ensures.len))
    (c.requires.values.latest ∙ sym long) (marks_long ∙ (c.requires.values.marks ∙ sym long)) c.settle.ensures.marked (c.settle.ensures.before ∙ ap kept c.deref.ensures.value)
