-- Terms as they are held.
use Rattle.std.specs.Prelude.{ℕ, List, [], ◌∷◌}
use Rattle.cg_verilog_text.specs.Forms.{Literal}
use Rattle.cg_verilog_expression.specs.declared.terms.TermsKind.{TermsKind}
use Rattle.cg_verilog_expression.specs.declared.terms.TermsKind.TheVariants.{One, Any}

abbrev pub terms_seen : TermsKind → List (List (Literal (List ℕ)))
terms_seen (One term) = term ∷ []
terms_seen (Any terms) = terms
