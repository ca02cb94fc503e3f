-- What was read before the rest of a log, put before what the rest gives.
use Rattle.std.proofs.Common.{◌≡◌, ℕ, List, [], ◌∷◌, ◌++◌, Result, Ok, Err, refl, sym, ap, ◌∙◌, append_assoc}
use Rattle.cg_text.specs.declared.lines.Line.{Line}
use Rattle.cg_formula.specs.declared.formula.Lit.{Lit}
use Rattle.cg_lrat.specs.declared.log.Step.{Step}
use Rattle.cg_lrat.specs.declared.lrat.LratFault.{LratFault}
use Rattle.cg_lrat.specs.LratReading.{◌>>=◌, step_of, steps_of}

abbrev pub lits_before : List Lit → Result (List Lit × List (List ℕ)) LratFault → Result (List Lit × List (List ℕ)) LratFault
lits_before front (Ok r) = Ok (front ++ r.0, r.1)
lits_before front (Err e) = Err e

abbrev pub ids_before : List ℕ → Result (List ℕ) LratFault → Result (List ℕ) LratFault
ids_before front (Ok ids) = Ok (front ++ ids)
ids_before front (Err e) = Err e

abbrev pub steps_before : List Step → Result (List Step) LratFault → Result (List Step) LratFault
steps_before front (Ok steps) = Ok (front ++ steps)
steps_before front (Err e) = Err e

-- one more line is read
step_after : (front : List Step) (step : Step) (r : Result (List Step) LratFault)
    → steps_before front (◌>>=◌ {B = List Step} r (λ steps. Ok (step ∷ steps))) ≡ steps_before (front ++ step ∷ []) r
step_after front step (Ok steps) = ap Ok (sym (append_assoc front (step ∷ []) steps))
step_after front step (Err e) = refl

pub steps_go : (front new : List Step) (left : List Line) (line : Line) (later : List Line) (step : Step) (whole : Result (List Step) LratFault)
    → new ≡ front ++ step ∷ [] → left ≡ line ∷ later → step_of line ≡ Ok step → steps_before front (steps_of left) ≡ whole
    → steps_before new (steps_of later) ≡ whole
steps_go front new left line later step whole pushed split e so_far =
    rw pushed (sym (step_after front step (steps_of later)) ∙ sym (rw (split, e) refl) ∙ so_far)
