-- Forms, cut into what is read at once.
use Rattle.std.specs.Prelude.{true, false, if◌then◌else◌, List, [], ◌∷◌}
use Rattle.cg_net.specs.Names.{NetName}
use Rattle.cg_verilog_text.specs.Forms.{Constant, Form, Literal, Sum, fresh_literal, from_literal, rest_of_term, sum}
use Rattle.cg_verilog_text.specs.Reading.{Got, Reader, after, behind, bit, ended_by, is_mark, is_next}
use Rattle.cg_verilog_text.specs.Tokens.{Token}

-- a bit
abbrev pub constant : Reader (Form NetName)
constant tokens = after (bit tokens) (λ value later. Got (Constant value) later)

-- a sum
abbrev pub plain_sum : Reader (Form NetName)
plain_sum tokens = after (sum [] tokens) (λ terms later. Got (Sum true terms) later)

-- a sum that is inverted, behind its `~(`
abbrev pub inverted_sum : Reader (Form NetName)
inverted_sum tokens = after (ended_by 41 (sum [] tokens)) (λ terms later. Got (Sum false terms) later)

-- a form behind its first `~`
abbrev pub inverted_form : Reader (Form NetName)
inverted_form tokens =
    if is_next (is_mark 40) tokens then inverted_sum (behind tokens) else after (fresh_literal false [] tokens) from_literal

-- the terms that go on behind a first term, and behind a first literal
abbrev pub from_term : List (Literal NetName) → Reader (List (List (Literal NetName)))
from_term term tokens = if is_next (is_mark 124) tokens then sum (term ∷ []) (behind tokens) else Got (term ∷ []) tokens

abbrev pub rest_of_terms : Literal NetName → Reader (List (List (Literal NetName)))
rest_of_terms first tokens = after (rest_of_term first tokens) from_term
