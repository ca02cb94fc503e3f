-- Hints, the last of them apart.
use Rattle.std.proofs.Common.{◌≡◌, ℕ, ◌+◌, ◌<◌, ◌≤◌, List, [], ◌∷◌, ◌++◌, length, get_or, drop, drop-cons, add-one, Option, Some}
use Rattle.std.proofs.Common.{refl, ap, sym, ◌∙◌}
use Rattle.std.proofs.Math.ListN.{drop_of_length-le}
use Rattle.std.proofs.Math.Path.{fun_ext}
use Rattle.cg_formula.specs.declared.formula.Lit.{Lit}
use Rattle.cg_lrat.specs.declared.verdict.Why.{Why}
use Rattle.cg_lrat.specs.Accepted.{Live, hints_fault}
use Rattle.cg_lrat.specs.inner.Hints.{hint_then, last_fault, fault_or}

abbrev pub chain_fault : Live → List Lit → List ℕ → ℕ → Option Why
chain_fault live trues [] last = last_fault live trues last
chain_fault live trues (hint ∷ later) last = hint_then live trues hint (λ now. chain_fault live now later last)

pub chain_fault-hints : (live : Live) (trues : List Lit) (others : List ℕ) (last : ℕ)
    → hints_fault live trues (others ++ last ∷ []) ≡ chain_fault live trues others last
chain_fault-hints live trues [] last = refl
chain_fault-hints live trues (hint ∷ []) last = refl
chain_fault-hints live trues (hint ∷ next ∷ later) last =
    ap (λ (f : List Lit → Option Why). hint_then live trues hint f) (fun_ext (λ now. chain_fault-hints live now (next ∷ later) last))

-- the last hint decides
pub fault_at_last : (live : Live) (start now : List Lit) (hints others : List ℕ) (i last : ℕ) (found : Option Why)
    → hints ≡ others ++ last ∷ [] → length others ≤ i → chain_fault live now (drop i others) last ≡ chain_fault live start others last
    → found ≡ last_fault live now last → found ≡ hints_fault live start hints
fault_at_last live start now hints others i last found split done so_far e =
    let none : drop i others ≡ [] = drop_of_length-le others done in
    e ∙ ap (λ left. chain_fault live now left last) (sym none) ∙ so_far ∙ sym (chain_fault-hints live start others last)
    ∙ ap (hints_fault live start) (sym split)

-- a hint before it is refused
pub fault_before_last : (live : Live) (start now new : List Lit) (hints others : List ℕ) (i last hint : ℕ) (why : Why) (fault : Option Why)
    → hints ≡ others ++ last ∷ [] → i < length others → hint ≡ get_or others i 0
    → ((later : List Lit → Option Why) → hint_then live now hint later ≡ fault_or fault (later new)) → fault ≡ Some why
    → chain_fault live now (drop i others) last ≡ chain_fault live start others last → Some why ≡ hints_fault live start hints
fault_before_last live start now new hints others i last hint why fault split inside here then_by refused so_far =
    let next : drop i others ≡ hint ∷ drop (i + 1) others = rw (here, add-one, drop-cons others i 0) refl in
    let step : hint_then live now hint (λ trues. chain_fault live trues (drop (i + 1) others) last) ≡ Some why =
    then_by (λ trues. chain_fault live trues (drop (i + 1) others) last) ∙ rw refused refl in
    sym step ∙ ap (λ left. chain_fault live now left last) (sym next) ∙ so_far ∙ sym (chain_fault-hints live start others last)
    ∙ ap (hints_fault live start) (sym split)
