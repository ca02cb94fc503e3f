-- What stands behind the `=` of an `assign`.
use Rattle.std.specs.Prelude.{Bool, true, false, not, ◌&&◌, if◌then◌else◌, List, [], ◌∷◌, map}
use Rattle.std.specs.List.{flat_map, list_any}
use Rattle.std.specs.Str.{bytes_eq}
use Rattle.cg_net.specs.Names.{NetName}
use Rattle.cg_verilog_text.specs.Reading.{Got, Stuck, Reader, after, behind, bit, ended_by, is_bit, is_mark, is_next, net, parted}

-- a literal: a net, plain or inverted
pub record Literal (N : Type 0) : Type 0 where
  pub net : N
  pub plain : Bool

-- A form: a bit; a sum of terms, which are products of literals, or the inverse of one where `on` is false; two literals that
-- differ; or a choice by the first literal of the second or the third.
pub data Form (N : Type 0) : Type 0 where
  Constant : Bool → Form N
  Sum : Bool → List (List (Literal N)) → Form N
  Differ : Literal N → Literal N → Form N
  Choice : Literal N → Literal N → Literal N → Form N

-- a literal whose net is none of those before it
abbrev pub fresh_literal : Bool → List (Literal NetName) → Reader (Literal NetName)
fresh_literal plain before tokens =
    after (net tokens)
    (λ name later. if list_any (λ literal. bytes_eq literal.net name) before then Stuck tokens
    else Got (record { net = name; plain = plain }) later)

abbrev pub literal : List (Literal NetName) → Reader (Literal NetName)
literal before tokens =
    if is_next (is_mark 126) tokens then fresh_literal false before (behind tokens) else fresh_literal true before tokens

-- a term: literals with `&` between them, in parentheses or not; a sum: terms with `|` between them
abbrev pub product : List (Literal NetName) → Reader (List (Literal NetName))
product before tokens = parted 38 literal before tokens

abbrev pub term : Reader (List (Literal NetName))
term tokens = if is_next (is_mark 40) tokens then ended_by 41 (product [] (behind tokens)) else product [] tokens

abbrev pub sum : List (List (Literal NetName)) → Reader (List (List (Literal NetName)))
sum before tokens = parted 124 (λ before. term) before tokens

-- a sum whose first literal was read
abbrev pub rest_of_term : Literal NetName → Reader (List (Literal NetName))
rest_of_term first tokens = if is_next (is_mark 38) tokens then product (first ∷ []) (behind tokens) else Got (first ∷ []) tokens

abbrev pub rest_of_sum : Literal NetName → Reader (Form NetName)
rest_of_sum first tokens =
    after
    (after (rest_of_term first tokens)
    (λ term later. if is_next (is_mark 124) later then sum (term ∷ []) (behind later) else Got (term ∷ []) later))
    (λ terms later. Got (Sum true terms) later)

-- what goes on from a first literal
abbrev pub differing : Literal NetName → Reader (Form NetName)
differing first tokens = after (literal (first ∷ []) tokens) (λ second later. Got (Differ first second) later)

abbrev pub choosing : Literal NetName → Reader (Form NetName)
choosing first tokens =
    after (ended_by 58 (literal (first ∷ []) tokens))
    (λ second later. after (literal (first ∷ second ∷ []) later) (λ third last. Got (Choice first second third) last))

abbrev pub from_literal : Literal NetName → Reader (Form NetName)
from_literal first tokens =
    if is_next (is_mark 94) tokens then differing first (behind tokens)
    else (if is_next (is_mark 63) tokens then choosing first (behind tokens) else rest_of_sum first tokens)

abbrev pub form : Reader (Form NetName)
form tokens =
    if is_next is_bit tokens then after (bit tokens) (λ value later. Got (Constant value) later)
    else (if is_next (is_mark 40) tokens then after (sum [] tokens) (λ terms later. Got (Sum true terms) later)
    else (if is_next (is_mark 126) tokens && is_next (is_mark 40) (behind tokens)
    then after (ended_by 41 (sum [] (behind (behind tokens)))) (λ terms later. Got (Sum false terms) later)
    else after (literal [] tokens) from_literal))

-- a form as a sum of terms: a differing pair and a choice are sums of two
abbrev pub inverse : {N : Type 0} → Literal N → Literal N
inverse literal = record { net = literal.net; plain = not literal.plain }

abbrev pub terms_of : {N : Type 0} → Form N → List (List (Literal N))
terms_of (Constant true) = [] ∷ []
terms_of (Constant false) = []
terms_of (Sum on terms) = terms
terms_of (Differ a b) = (a ∷ inverse b ∷ []) ∷ (inverse a ∷ b ∷ []) ∷ []
terms_of (Choice a b c) = (a ∷ b ∷ []) ∷ (inverse a ∷ c ∷ []) ∷ []

-- whether it is 1 where a term is, or 0 there
abbrev pub on_of : {N : Type 0} → Form N → Bool
on_of (Sum on terms) = on
on_of other = true

-- the nets of a form, in the order of their first mention
abbrev pub nets_of : {N : Type 0} → Form N → List N
nets_of form = flat_map (λ term. map (λ literal. literal.net) term) (terms_of form)
