-- The value of a form, where each net has a bit.
use Rattle.std.specs.Prelude.{Bool, not, if◌then◌else◌, List}
use Rattle.std.specs.List.{list_all, list_any}
use Rattle.cg_verilog_text.specs.Forms.{Form, Constant, Sum, Differ, Choice, Literal}

abbrev pub literal_value : {N : Type 0} → (N → Bool) → Literal N → Bool
literal_value bit literal = if literal.plain then bit literal.net else not (bit literal.net)

-- a term is 1 where each of its literals is
abbrev pub product_value : {N : Type 0} → (N → Bool) → List (Literal N) → Bool
product_value bit term = list_all (literal_value bit) term

-- a sum is 1 where one of its terms is, or its inverse; two literals differ; or the first chooses
abbrev pub value_of : {N : Type 0} → (N → Bool) → Form N → Bool
value_of bit (Constant value) = value
value_of bit (Sum on terms) = if list_any (product_value bit) terms then on else not on
value_of bit (Differ a b) = if literal_value bit a then not (literal_value bit b) else literal_value bit b
value_of bit (Choice a b c) = if literal_value bit a then literal_value bit b else literal_value bit c
