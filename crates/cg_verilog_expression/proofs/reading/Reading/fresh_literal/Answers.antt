use Rattle.std.proofs.Common.{sym, ap, ◌∙◌}
use Rattle.std.specs.List.{list_any}
use Rattle.std.specs.Str.{bytes_eq}
use Rattle.cg_net.specs.Names.{NetName}
use Rattle.cg_verilog_text.specs.Forms.{Literal}
use Rattle.cg_verilog_expression.specs.Before.{before_seen}
use Rattle.cg_verilog_expression.proofs.Literals.{fresh_got, fresh_stuck}
use Rattle.cg_verilog_expression.proofs.reading.Reading.fresh_literal.Goals as goal

pub returns-then-stands_before-clause-left : goal.returns-then-stands_before-clause-left
returns-then-stands_before-clause-left c = record {
  left = c.args.self.now.0;
  stuck = fresh_stuck c.args.plain (before_seen c.args.before) c.args.self.now.0 c.in_ok-net.net c.net.new.self.0 c.in_ok-net.ensures.left (ap (λ n. list_any (λ (l : Literal NetName). bytes_eq l.net n) (before_seen c.args.before)) (sym c.bytes.ensures.bytes) ∙ sym c.if-stands_before.ensures);
  line_is = c.line-line.ensures;
}

pub returns-clause-left : goal.returns-clause-left
returns-clause-left c =
    fresh_got c.args.plain (before_seen c.args.before) c.args.self.now.0 c.in_ok-net.net c.net.new.self.0 c.in_ok-net.ensures.left (ap (λ n. list_any (λ (l : Literal NetName). bytes_eq l.net n) (before_seen c.args.before)) (sym c.bytes.ensures.bytes) ∙ sym c.if-stands_before.ensures)
