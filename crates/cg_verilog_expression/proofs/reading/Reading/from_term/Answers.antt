use Rattle.std.proofs.Common.{◌≡◌, ◌∷◌, ◌∙◌, [], List, ap, if◌then◌else◌, sym, ◌++◌}
use Rattle.cg_net.specs.Names.{NetName}
use Rattle.cg_verilog_text.specs.Forms.{Literal, sum}
use Rattle.cg_verilog_text.specs.Reading.{Got, behind}
use Rattle.cg_verilog_text.specs.Tokens.{Token}
use Rattle.cg_verilog_expression.specs.FormParts.{from_term}
use Rattle.cg_verilog_expression.proofs.Passing.{read_as}
use Rattle.cg_verilog_expression.proofs.reading.Reading.from_term.Goals as goal

abbrev Terms : Type 0
Terms = List (List (Literal NetName))

pub returns-then-is_mark-clause-left : goal.returns-then-is_mark-clause-left
returns-then-is_mark-clause-left c =
    let tokens = c.args.self.now.0 in
    let terms : c.push.new.self ≡ c.args.term ∷ [] = c.in_ok-push.ensures.parts ∙ ap (λ (l : Terms). l ++ c.args.term ∷ []) c.new-terms.ensures in
    let goes : from_term c.args.term tokens ≡ sum (c.args.term ∷ []) (behind tokens) = ap (λ b. if b then sum (c.args.term ∷ []) (behind tokens) else Got (c.args.term ∷ []) tokens) (sym c.if-is_mark.ensures) in
    let same : from_term c.args.term tokens ≡ sum c.push.new.self c.pass.new.self.0 =
    goes ∙ (ap (λ (l : Terms). sum l (behind tokens)) (sym terms) ∙ ap (λ (l : List Token). sum c.push.new.self l) (sym c.pass.ensures.left)) in
    read_as c.args.self.now.1 c.pass.new.self.1 (from_term c.args.term tokens) (sum c.push.new.self c.pass.new.self.0) c.sum.new.self.0 c.sum.result c.pass.ensures.end same c.sum.ensures.left
