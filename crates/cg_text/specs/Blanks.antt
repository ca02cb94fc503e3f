-- Which bytes stand between words, and which end a line.
use Rattle.std.specs.Prelude.{ℕ, Bool, ◌==◌, ◌||◌, ◌&&◌, nat_le}
use Rattle.cg_text.specs.declared.blanks.Blanks.{Blanks}
use Rattle.cg_text.specs.declared.blanks.Blanks.TheVariants.{Whitespace, Controls, Spaces}
use Rattle.cg_text.specs.declared.blanks.Separator.{Separator}
use Rattle.cg_text.specs.declared.blanks.Separator.TheVariants.{LineFeed, Blank}

-- space, tab, line feed, vertical tab, form feed and carriage return
abbrev pub is_white_space : ℕ → Bool
is_white_space b = b == 32 || (nat_le 9 b && nat_le b 13)

-- space, tab, line feed and carriage return
abbrev pub is_space : ℕ → Bool
is_space b = b == 32 || b == 9 || b == 10 || b == 13

-- the byte is a blank: white space, or a control, which is any byte up to the space (32), or a space
abbrev pub is_blank : Blanks → ℕ → Bool
is_blank Whitespace b = is_white_space b
is_blank Controls b = nat_le b 32
is_blank Spaces b = is_space b

-- the byte ends a line
abbrev pub is_line_feed : ℕ → Bool
is_line_feed b = b == 10

-- the byte ends a piece of text
abbrev pub separates : Separator → ℕ → Bool
separates LineFeed b = is_line_feed b
separates (Blank blanks) b = is_blank blanks b
