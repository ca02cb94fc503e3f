-- Forms as they are read.
use Rattle.std.specs.Prelude.{◌≡◌, ◌<◌, ℕ, false, List, length}
use Rattle.cg_verilog_text.specs.Forms.{Form, on_of, terms_of}
use Rattle.cg_verilog_text.specs.Forms as forms
use Rattle.cg_verilog_expression.specs.declared.form.FormKind.{FormKind}
use Rattle.cg_verilog_expression.specs.declared.form.FormKind.TheVariants.{Constant, Sum, Differ, Choice}

abbrev pub form_seen : FormKind → Form (List ℕ)
form_seen (Constant value) = forms.Constant value
form_seen (Sum on terms) = forms.Sum on terms
form_seen (Differ pair) = forms.Differ pair.value.first pair.value.second
form_seen (Choice choice) = forms.Choice choice.value.condition choice.value.chosen.first choice.value.chosen.second

-- a form that is 0 where a term is has a term
abbrev pub HasTerms : Form (List ℕ) → Type 0
HasTerms form = on_of form ≡ false → 0 < length (terms_of form)
