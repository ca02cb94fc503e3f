-- A text as its items, as far as it can be read.
use Rattle.std.specs.Prelude.{ℕ, ◌&&◌, if◌then◌else◌, List, [], ◌∷◌, Option, None, Some}
use Rattle.std.specs.List.{flat_map}
use Rattle.cg_net.specs.Names.{NetName}
use Rattle.cg_text.specs.Lines.{end_line}
use Rattle.cg_verilog_text.specs.Items.{ItemAt, Items, header, items, line_of}
use Rattle.cg_verilog_text.specs.Meaning.{Init, are_inits, inits_in, updated_in}
use Rattle.cg_verilog_text.specs.Reading.{Read, Got, Stuck, behind}
use Rattle.cg_verilog_text.specs.Tokens.{Token, tokens}

-- the model, the items, and the line of the first token that no item allows, if there is one
pub record Text : Type 0 where
  pub model : NetName
  pub items : List ItemAt
  pub bad : Option ℕ

-- the inits of items, and the nets of their registers
abbrev pub inits_of : List ItemAt → List Init
inits_of found = flat_map (λ one. inits_in one.item) found

abbrev pub updated : List ItemAt → List NetName
updated found = flat_map (λ one. updated_in one.item) found

-- behind `endmodule` nothing stands, and at its line the inits are looked at
abbrev pub bad_behind : List Token → Option ℕ
bad_behind [] = None
bad_behind (token ∷ later) = Some token.line

abbrev pub bad_in : ℕ → Items → Option ℕ
bad_in end read =
    if read.whole && are_inits (updated read.found) (inits_of read.found) then bad_behind (behind read.left)
    else Some (line_of end read.left)

abbrev pub text_from : ℕ → Read NetName → Text
text_from end (Stuck left) = record { model = []; items = []; bad = Some (line_of end left) }
text_from end (Got model later) = record { model = model; items = (items later).found; bad = bad_in end (items later) }

abbrev pub text_of : List ℕ → Text
text_of text = text_from (end_line text) (header (tokens text))
