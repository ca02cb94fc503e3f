-- A plain identifier is a name, and an escaped one may be known to be one.
use Rattle.std.specs.Prelude.{ℕ, Bool, true, false, IsTrue, List, ◌∷◌, take}
use Rattle.cg_cell.specs.Name.{is_name}
use Rattle.cg_verilog_text.specs.declared.kind.Kind.{Kind}
use Rattle.cg_verilog_text.specs.declared.kind.Kind.TheVariants.{Plain}
use Rattle.cg_verilog_tokens.specs.declared.lexeme.Begun.{Begun}
use Rattle.cg_verilog_tokens.specs.declared.lexeme.Begun.TheVariants.{Token}

-- the bytes of a token of this kind are a name, if it is plain
abbrev pub IsNamedIfPlain : Kind → List ℕ → Type 0
IsNamedIfPlain Plain text = IsTrue (is_name text)
IsNamedIfPlain kind text = Unit {0}

-- what begins at a byte is a name, if it is plain
abbrev pub IsPlainName : ℕ → List ℕ → Begun → Type 0
IsPlainName byte after (Token Plain more) = IsTrue (is_name (byte ∷ take more after))
IsPlainName byte after other = Unit {0}

-- bytes of which it is known or not that they are a name
abbrev pub IsNamedIf : Bool → List ℕ → Type 0
IsNamedIf true text = IsTrue (is_name text)
IsNamedIf false text = Unit {0}
