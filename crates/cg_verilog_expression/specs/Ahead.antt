-- The token that is at hand.
use Rattle.std.specs.Prelude.{List, [], ◌∷◌}
use Rattle.cg_verilog_text.specs.Tokens.{Token as TokenSeen}
use Rattle.cg_verilog_tokens.specs.Marks.{mark_token}
use Rattle.cg_verilog_expression.specs.declared.ahead.Ahead.{Ahead}
use Rattle.cg_verilog_expression.specs.declared.ahead.Ahead.TheVariants.{Over, Mark, Token}

-- the next token before the others; behind none there is none
abbrev pub ahead : Ahead → List TokenSeen → List TokenSeen
ahead Over later = []
ahead (Mark mark) later = mark_token mark ∷ later
ahead (Token token) later = token ∷ later
