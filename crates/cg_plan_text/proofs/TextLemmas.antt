-- Texts that are written piece by piece.
use Rattle.std.proofs.Common.{◌≡◌, ℕ, suc, Bool, cond, ◌+◌, ◌<◌, List, [], ◌∷◌, ◌++◌, length, drop, get_or, map, refl, sym, ap, ◌∙◌}
use Rattle.std.proofs.Common.{add-one, drop-cons, append_assoc, append-nil, arith}
use Rattle.std.proofs.lemmas.Grind.{flat_map-append}
use Rattle.std.specs.List.{count_by, flat_map}
use Rattle.std.proofs.lemmas.List.Sums.{count_by-le-length, sum_by-cons}
use Rattle.cg_hint_laws.specs.declared.certificate.HintCertificate.{HintCertificate}
use Rattle.cg_hint_laws.specs.declared.hint.Hint.{Hint}
use Rattle.cg_hint_laws.specs.declared.outcome.HintOutcome.{HintOutcome}
use Rattle.cg_machine.specs.Machine.{MachineData}
use Rattle.cg_machine.specs.declared.stage.Stage.{Stage}
use Rattle.cg_plan_laws.specs.declared.certificate.Certificate.{Certificate}
use Rattle.cg_plan_laws.specs.declared.outcome.Outcome.{Outcome}
use Rattle.cg_text.specs.Written.{joined, line_text, text_of}
use Rattle.cg_plan_text.specs.HintWords.{hint_words, hints_from}
use Rattle.cg_plan_text.specs.ProofText.{certificate_text, hint_certificate_text}
use Rattle.cg_plan_text.specs.StageLines.{stages_from}
use Rattle.cg_plan_text.specs.inner.Spaced.{spaced}
use Rattle.cg_plan_text.specs.Words.{Word, stage_words}

-- a line is its first word, the others each behind a space, and a line feed
joined-spaced : (word : Word) (words : List Word) → joined (word ∷ words) ≡ word ++ spaced words
joined-spaced word [] = sym (append-nil word)
joined-spaced word (next ∷ words) = ap (λ later. word ++ (32 ∷ later)) (joined-spaced next words)

pub line_text-spaced : (word : Word) (words : List Word) → line_text (word ∷ words) ≡ word ++ (spaced words ++ 10 ∷ [])
line_text-spaced word words = ap (λ line. line ++ 10 ∷ []) (joined-spaced word words) ∙ append_assoc word (spaced words) (10 ∷ [])

pub spaced-append : (words more : List Word) → spaced (words ++ more) ≡ spaced words ++ spaced more
spaced-append words more = flat_map-append (λ (word : Word). 32 ∷ word) words more

-- what is left to write at k is the word there and what is left behind it
pub spaced_map-drop : {A : Type 0} (word : A → Word) (xs : List A) (k : ℕ) (d : A) → k < length xs → spaced (map word (drop k xs)) ≡ (32 ∷ word (get_or xs k d)) ++ spaced (map word (drop (k + 1) xs))
spaced_map-drop word xs k d below = rw (add-one, drop-cons xs k d) refl

pub stages_from-drop : (m : MachineData) (stages : List (Stage × Outcome)) (k : ℕ) (d : Stage × Outcome) → k < length stages
    → text_of (stages_from m (k + 1) (drop k stages)) ≡ line_text (stage_words m (k + 1) (get_or stages k d)) ++ text_of (stages_from m (k + 1 + 1) (drop (k + 1) stages))
stages_from-drop m stages k d below = rw (add-one k, drop-cons stages k d) refl

pub hints_from-drop : (m : MachineData) (hints : List Hint) (outcomes : List HintOutcome) (k : ℕ) (d : Hint) (e : HintOutcome) → k < length hints → length hints ≡ length outcomes
    → text_of (hints_from m (k + 1) (drop k hints) (drop k outcomes)) ≡ line_text (hint_words m (k + 1) (get_or hints k d) (get_or outcomes k e)) ++ text_of (hints_from m (k + 1 + 1) (drop (k + 1) hints) (drop (k + 1) outcomes))
hints_from-drop m hints outcomes k d e below same =
    let below_too : k < length outcomes = omega (arith, below, same) in
    rw (add-one k, drop-cons hints k d below, drop-cons outcomes k e below_too) refl

pub hint_certificates-drop : (m : MachineData) (certificates : List HintCertificate) (k : ℕ) (d : HintCertificate) → k < length certificates
    → flat_map (hint_certificate_text m) (drop k certificates) ≡ hint_certificate_text m (get_or certificates k d) ++ flat_map (hint_certificate_text m) (drop (k + 1) certificates)
hint_certificates-drop m certificates k d below = rw (add-one, drop-cons certificates k d) refl

pub certificates-drop : (m : MachineData) (certificates : List Certificate) (k : ℕ) (d : Certificate) → k < length certificates
    → flat_map (certificate_text m) (drop k certificates) ≡ certificate_text m (get_or certificates k d) ++ flat_map (certificate_text m) (drop (k + 1) certificates)
certificates-drop m certificates k d below = rw (add-one, drop-cons certificates k d) refl

-- what is left to count at k
pub count_by-drop : {A : Type 0} (p : A → Bool) (xs : List A) (k : ℕ) (d : A) → k < length xs → count_by p (drop k xs) ≡ cond (p (get_or xs k d)) 1 0 + count_by p (drop (k + 1) xs)
count_by-drop {A} p xs k d below = rw (add-one, drop-cons xs k d) (sum_by-cons (λ x. cond (p x) 1 0) (get_or xs k d) (drop (suc k) xs))

pub ruleset counts = (count_by-drop, count_by-le-length)

pub ruleset pieces = (spaced-append, append_assoc, append-nil)

pub ruleset lines = (line_text-spaced, spaced-append, append_assoc, append-nil)

pub ruleset turns = (spaced_map-drop, stages_from-drop, hints_from-drop, certificates-drop, hint_certificates-drop, append_assoc)
