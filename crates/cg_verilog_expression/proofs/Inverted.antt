-- A form that begins with `~`.
use Rattle.std.proofs.Common.{◌≡◌, ◌∙◌, ◌&&◌, Bool, List, [], true, false, ap, sym, if◌then◌else◌}
use Rattle.cg_net.specs.Names.{NetName}
use Rattle.cg_verilog_text.specs.Forms.{Constant, Form, Sum, form, fresh_literal, from_literal, sum}
use Rattle.cg_verilog_text.specs.Reading.{Got, Read, after, behind, bit, ended_by, is_bit, is_mark, is_next}
use Rattle.cg_verilog_text.specs.Tokens.{Token}
use Rattle.cg_verilog_expression.specs.FormParts.{inverted_form, inverted_sum}

module _ (ts : List Token) where
  abbrev in_parentheses : Bool → Read (Form NetName)
  in_parentheses b = if b then after (sum [] ts) (λ terms later. Got (Sum true terms) later) else
      (if is_next (is_mark 126) ts && is_next (is_mark 40) (behind ts) then inverted_sum (behind (behind ts))
      else after (if is_next (is_mark 126) ts then fresh_literal false [] (behind ts) else fresh_literal true [] ts) from_literal)

  abbrev in_full : Bool → Read (Form NetName)
  in_full b = if b then after (bit ts) (λ value later. Got (Constant value) later) else in_parentheses (is_next (is_mark 40) ts)

  abbrev behind_tilde : Bool → Read (Form NetName)
  behind_tilde b =
      if b && is_next (is_mark 40) (behind ts) then inverted_sum (behind (behind ts))
      else after (if b then fresh_literal false [] (behind ts) else fresh_literal true [] ts) from_literal

  pub form_inverted : false ≡ is_next is_bit ts → false ≡ is_next (is_mark 40) ts → true ≡ is_next (is_mark 126) ts → form ts ≡ inverted_form (behind ts)
  form_inverted no_bit plain tilde = ap in_full (sym no_bit) ∙ (ap in_parentheses (sym plain) ∙ ap behind_tilde (sym tilde))
