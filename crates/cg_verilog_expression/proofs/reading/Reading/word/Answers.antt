use Rattle.std.proofs.Common.{sym, ap, ◌∙◌}
use Rattle.cg_verilog_text.specs.Reading.{Got, is_word}
use Rattle.cg_verilog_expression.specs.Readings.{next_text}
use Rattle.cg_verilog_expression.proofs.Passing.{pass_next}
use Rattle.cg_verilog_expression.proofs.reading.Reading.word.Goals as goal

pub returns-clause-left : goal.returns-clause-left
returns-clause-left c = (next_text c.args.self.now.0, pass_next (is_word c.args.text.now) c.args.self.now.0 (sym c.if-not-is_word.ensures) ∙ ap (λ l. Got (next_text c.args.self.now.0) l) (sym c.pass.ensures.left))
