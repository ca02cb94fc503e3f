-- The program's tokens as those of the definition.
use Rattle.cg_liberty_expression.specs.Tokens as text
use Rattle.cg_liberty_expression.specs.declared.tokens.TokenKind.{TokenKind}
use Rattle.cg_liberty_expression.specs.declared.tokens.TokenKind.TheVariants.{Word, Or, And, Xor, Not, Prime, Open, Close, Other}
use Rattle.cg_liberty_expression.specs.declared.tokens.Token.{Token}

abbrev pub kind_of : TokenKind → text.TokenKind
kind_of (Word word) = text.Word word.now
kind_of Or = text.OrSign
kind_of And = text.AndSign
kind_of Xor = text.XorSign
kind_of Not = text.NotSign
kind_of Prime = text.PrimeSign
kind_of Open = text.OpenBracket
kind_of Close = text.CloseBracket
kind_of Other = text.Other

abbrev pub token_of : Token → text.Token
token_of token = record { at = token.at; kind = kind_of token.kind }
