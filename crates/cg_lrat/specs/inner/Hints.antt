-- One hint before the last, whatever comes behind it.
use Rattle.std.specs.Prelude.{◌≡◌, ℕ, List, [], ◌∷◌, ◌++◌, Option, Some, None}
use Rattle.cg_formula.specs.declared.formula.Lit.{Lit}
use Rattle.cg_lrat.specs.declared.verdict.Why.{Why}
use Rattle.cg_lrat.specs.Accepted.{Live, non_false_of, non_false_lits, unit_then, false_at, known_then}

abbrev pub hint_then : Live → List Lit → ℕ → (List Lit → Option Why) → Option Why
hint_then live trues hint later =
    known_then (live hint) hint
    (λ lits. unit_then (non_false_of (non_false_lits trues lits)) trues hint (λ lit. later (trues ++ lit ∷ [])))

abbrev pub last_fault : Live → List Lit → ℕ → Option Why
last_fault live trues hint = known_then (live hint) hint (λ lits. false_at (non_false_of (non_false_lits trues lits)) hint)

-- a fault, or what comes where there is none
abbrev pub fault_or : Option Why → Option Why → Option Why
fault_or (Some why) later = Some why
fault_or None later = later

-- a hint before the last has this fault, or leads to where these literals are true, whatever comes later
abbrev pub Propagates : Live → List Lit → ℕ → Option Why → List Lit → Type 0
Propagates live trues hint fault after = (later : List Lit → Option Why) →
    hint_then live trues hint later ≡ fault_or fault (later after)
