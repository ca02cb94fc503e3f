use Rattle.std.proofs.Common.{◌≡◌, ◌∙◌, [], List, ap, false, if◌then◌else◌, sym}
use Rattle.cg_verilog_text.specs.Forms.{fresh_literal, from_literal}
use Rattle.cg_verilog_text.specs.Reading.{after, behind}
use Rattle.cg_verilog_text.specs.Tokens.{Token}
use Rattle.cg_verilog_expression.specs.FormParts.{inverted_form, inverted_sum}
use Rattle.cg_verilog_expression.proofs.Passing.{read_as}
use Rattle.cg_verilog_expression.proofs.reading.Reading.inverted_form.Goals as goal

pub returns-then-is_mark-clause-left : goal.returns-then-is_mark-clause-left
returns-then-is_mark-clause-left c =
    let tokens = c.args.self.now.0 in
    let same : inverted_form tokens ≡ inverted_sum c.pass.new.self.0 =
    ap (λ b. if b then inverted_sum (behind tokens) else after (fresh_literal false [] tokens) from_literal) (sym c.if-is_mark.ensures)
    ∙ ap (λ (l : List Token). inverted_sum l) (sym c.pass.ensures.left) in
    read_as c.args.self.now.1 c.pass.new.self.1 (inverted_form tokens) (inverted_sum c.pass.new.self.0) c.inverted_sum.new.self.0 c.inverted_sum.result c.pass.ensures.end same c.inverted_sum.ensures.left
