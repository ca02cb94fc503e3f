-- Marks as tokens.
use Rattle.std.specs.Prelude.{[], ◌∷◌}
use Rattle.cg_verilog_text.specs.Tokens.{Token}
use Rattle.cg_verilog_text.specs.declared.kind.Kind.TheVariants as kinds
use Rattle.cg_verilog_tokens.specs.declared.mark.Mark.{Mark}

-- the token that a mark is
abbrev pub mark_token : Mark → Token
mark_token mark = record { line = mark.line; kind = kinds.Mark; text = mark.byte ∷ [] }
