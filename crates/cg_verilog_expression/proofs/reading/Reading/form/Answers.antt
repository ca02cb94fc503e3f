use Rattle.std.proofs.Common.{◌≡◌, ◌∙◌, List, ap, sym}
use Rattle.cg_verilog_text.specs.Forms.{form}
use Rattle.cg_verilog_text.specs.Tokens.{Token}
use Rattle.cg_verilog_expression.specs.FormParts.{inverted_form}
use Rattle.cg_verilog_expression.proofs.Inverted.{form_inverted}
use Rattle.cg_verilog_expression.proofs.Passing.{read_as}
use Rattle.cg_verilog_expression.proofs.reading.Reading.form.Goals as goal

pub returns-then-is_mark-2-clause-left : goal.returns-then-is_mark-2-clause-left
returns-then-is_mark-2-clause-left c =
    let tokens = c.args.self.now.0 in
    let same : form tokens ≡ inverted_form c.pass.new.self.0 =
    form_inverted tokens c.if-is_bit.ensures c.if-is_mark.ensures c.if-is_mark-2.ensures ∙ ap (λ (l : List Token). inverted_form l) (sym c.pass.ensures.left) in
    read_as c.args.self.now.1 c.pass.new.self.1 (form tokens) (inverted_form c.pass.new.self.0) c.inverted_form.new.self.0 c.inverted_form.result c.pass.ensures.end same c.inverted_form.ensures.left
