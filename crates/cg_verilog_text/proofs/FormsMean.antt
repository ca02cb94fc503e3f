-- The cover of a form that is read has the form's value.
use Rattle.std.proofs.Common.{◌≡◌, Bool, true, false, not, ◌&&◌, ◌||◌, refl, ap, ◌∙◌, if◌then◌else◌}
use Rattle.std.specs.Str.{bytes_eq}
use Rattle.std.proofs.lemmas.Slice.Eq.{bytes_eq-Decides}
use Rattle.cg_net.specs.Names.{NetName}
use Rattle.cg_verilog_text.specs.FormValues.{literal_value, value_of}
use Rattle.cg_verilog_text.specs.Forms.{Form, Constant, Sum, Differ, Choice, Literal, inverse}
use Rattle.cg_verilog_text.specs.Laws.{FormsAreMeant}
use Rattle.cg_verilog_text.proofs.FormCells.{own_value}
use Rattle.cg_verilog_text.proofs.FormValues.{form_value}
use Rattle.cg_verilog_text.proofs.FormsApart.{form_apart}

module _ (bit : NetName → Bool) where
  abbrev of : Literal NetName → Bool
  of l = literal_value bit l

  turned : (l : Literal NetName) → of (inverse l) ≡ not (of l)
  turned l = go l.plain (bit l.net)
    where
      go : (p v : Bool) → (if not p then v else not v) ≡ not (if p then v else not v)
      go true v = refl
      go false true = refl
      go false false = refl

  two : (a b : Bool) → (if (a && (not b && true)) || ((not a && (b && true)) || false) then true else false) ≡ (if a then not b else b)
  two true true = refl
  two true false = refl
  two false true = refl
  two false false = refl

  chosen : (a b c : Bool) → (if (a && (b && true)) || ((not a && (c && true)) || false) then true else false) ≡ (if a then b else c)
  chosen true true c = refl
  chosen true false c = refl
  chosen false b true = refl
  chosen false b false = refl

  means : (f : Form NetName) → form_value bytes_eq bytes_eq-Decides bit f ≡ value_of bit f
  means (Constant true) = refl
  means (Constant false) = refl
  means (Sum on terms) = refl
  means (Differ a b) =
      ap (λ v. if (of a && (v && true)) || ((of (inverse a) && (of b && true)) || false) then true else false) (turned b)
      ∙ (ap (λ v. if (of a && (not (of b) && true)) || ((v && (of b && true)) || false) then true else false) (turned a) ∙ two (of a) (of b))
  means (Choice a b c) =
      ap (λ v. if (of a && (of b && true)) || ((v && (of c && true)) || false) then true else false) (turned a) ∙ chosen (of a) (of b) (of c)

pub forms_mean : FormsAreMeant
forms_mean tokens later read is bit = own_value bytes_eq bytes_eq-Decides bit read (form_apart tokens later read is) ∙ means bit read
