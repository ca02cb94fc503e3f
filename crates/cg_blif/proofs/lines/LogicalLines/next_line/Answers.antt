use Rattle.std.proofs.Common.{◌++◌, ◌==◌, refl, ap, sym, ◌∙◌}
use Rattle.std.specs.List.{list_all}
use Rattle.cg_cell.specs.Name.{is_name}
use Rattle.cg_blif_text.specs.LogicalLines.{is_joined}
use Rattle.cg_blif.specs.Joining.{words_in}
use Rattle.cg_blif.specs.Physical.{unjoined}
use Rattle.cg_blif.proofs.Begun.{begun_new, step_empty, step_joined, step_unnamed}
use Rattle.cg_blif.proofs.lines.LogicalLines.next_line.Goals as goal

pub lines-init : goal.lines-init
lines-init c = record { left = rw (c.clear.ensures.items, c.number-number.ensures) (begun_new c.self.inside.physical.number c.self.inside.physical.left ∙ c.self.view_is); named = rw c.clear.ensures.items refl }

pub returns-then-not-branch-clause-bad : goal.returns-then-not-branch-clause-bad
returns-then-not-branch-clause-bad c =
    let pushed = rw c.if-not-branch.true at c.in_ok-push_words.ensures in
    step_unnamed c.lines.number c.lines.self-inside.physical.number c.lines.words.items c.lines.self-inside.physical.left c.next_line.new.self.left c.in-Some.line.now c.args.self.now c.lines.invariant.left c.in-Some.ensures.0
    (ap (λ b. list_all is_name (words_in b)) (sym (c.unjoined.ensures.unjoined ∙ ap unjoined c.bared-line.ensures.bared)) ∙ pushed)

pub lines-preserved-then-not-is_joined : goal.lines-preserved-then-not-is_joined
lines-preserved-then-not-is_joined c =
    let pushed = rw c.if-not-branch.false at c.in_ok-push_words.ensures in
    record {
      left = rw c.number-number-then-not-is_joined.ensures (
          step_empty c.lines.number c.lines.self-inside.physical.number c.next_line.new.self.number c.lines.words.items c.push_words.new.words.items c.lines.self-inside.physical.left c.next_line.new.self.left c.in-Some.line.now c.args.self.now
          c.lines.invariant.left c.in-Some.ensures.0 c.in-Some.ensures.1
          (ap is_joined (sym c.bared-line.ensures.bared) ∙ (sym c.is_joined.ensures ∙ c.if-not-is_joined.true))
          (pushed.0 ∙ ap (λ b. c.lines.words.items ++ words_in b) (c.unjoined.ensures.unjoined ∙ ap unjoined c.bared-line.ensures.bared))
          (ap (λ n. n == 0) (sym c.push_words.new.words.ok.0) ∙ (sym c.is_empty.ensures ∙ c.if-not-is_empty.false)));
      named = pushed.1;
    }

pub lines-preserved : goal.lines-preserved
lines-preserved c =
    let pushed = rw c.if-not-branch.false at c.in_ok-push_words.ensures in
    record {
      left =
          step_joined c.lines.number c.lines.self-inside.physical.number c.next_line.new.self.number c.lines.words.items c.push_words.new.words.items c.lines.self-inside.physical.left c.next_line.new.self.left c.in-Some.line.now c.args.self.now
          c.lines.invariant.left c.in-Some.ensures.0 c.in-Some.ensures.1
          (ap is_joined (sym c.bared-line.ensures.bared) ∙ (sym c.is_joined.ensures ∙ c.if-not-is_joined.false))
          (pushed.0 ∙ ap (λ b. c.lines.words.items ++ words_in b) (c.unjoined.ensures.unjoined ∙ ap unjoined c.bared-line.ensures.bared));
      named = pushed.1;
    }
