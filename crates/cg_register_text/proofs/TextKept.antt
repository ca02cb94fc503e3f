-- The text is the same on the plan's machine as on the one with which the plan began.
use Rattle.std.proofs.Common.{◌≡◌, ℕ, zero, suc, ◌+◌, ◌<◌, List, [], ◌∷◌, ◌++◌, length, map, Option, refl, sym, ap, ◌∙◌, subst, arith}
use Rattle.std.specs.List.{range_with_len}
use Rattle.std.specs.Prelude.{codes}
use Rattle.cg_machine.specs.Machine.{MachineData}
use Rattle.cg_plan_text.specs.Words.{Word, register_word}
use Rattle.cg_text.specs.Written.{text_of}
use Rattle.cg_register_text.specs.Causes.{Tried, cause_of, causes_of}
use Rattle.cg_register_text.specs.Laws.{TextIsKept}
use Rattle.cg_register_text.specs.Words.{GatedData, cause_words, clock_word, line_words, register_edges, sums_words, tried_of}
use Rattle.cg_register_text.specs.declared.cause.Cause.{Cause}
use Rattle.cg_register_text.specs.declared.cause.Cause.TheVariants.{Free, Gated, Given, Hint, Stage, Wide}
use Rattle.cg_register_text.specs.declared.rises.BothRises.{BothRises}
use Rattle.cg_register_text.proofs.CausesMeant.{widths_are_kept}

-- functions that agree within a range
same_within : {A : Type 0} (f h : ℕ → A) (s n : ℕ) → ((r : ℕ) → r < s + n → f r ≡ h r) → map f (range_with_len s n) ≡ map h (range_with_len s n)
same_within f h s zero same = refl
same_within f h s (suc n) same =
    ap (λ x. x ∷ map f (range_with_len (s + 1) n)) (same s (omega arith))
    ∙ ap (λ l. h s ∷ l) (same_within f h (s + 1) n (λ r below. same r (omega (arith, below))))

-- the machine stands in the causes alone
same_words : (g : GatedData) (m : MachineData) (r : ℕ) (cause : Cause) → cause_words (record g { began = m }) r cause ≡ cause_words g r cause
same_words g m r Gated = refl
same_words g m r Given = refl
same_words g m r (Stage number) = refl
same_words g m r (Hint number) = refl
same_words g m r (Wide width) = refl
same_words g m r Free = refl

same_line : (g : GatedData) (m : MachineData) (rises : Option BothRises) (r : ℕ) → cause_of (tried_of (record g { began = m })) r ≡ cause_of (tried_of g) r
    → line_words (record g { began = m }) rises r ≡ line_words g rises r
same_line g m rises r same =
    let line : List Word → List Word = λ words. codes "register" ∷ register_word g.plan.machine r ∷ codes "clock" ∷ clock_word g.written r ∷ (words ++ register_edges rises r) in
    ap line (same_words g m r (cause_of (tried_of (record g { began = m })) r) ∙ ap (cause_words g r) same)

pub text_is_kept : TextIsKept
text_is_kept library settings counts prefix hints w right g is rises =
    let n : ℕ = length g.read.registers in
    let long : n ≡ length w.read.registers = ap (λ (t : Tried). length t.read.registers) is in
    let each : (r : ℕ) → r < 0 + n → cause_of (tried_of (record g { began = w.ended })) r ≡ cause_of (tried_of g) r =
    λ r below.
    let P : Tried → Type 0 = λ t. cause_of (record t { began = w.ended }) r ≡ cause_of t r in
    subst P (sym is) (widths_are_kept library settings counts prefix hints w right r (omega (arith, below, long))) in
    let lines = same_within (line_words (record g { began = w.ended }) rises) (line_words g rises) 0 n (λ r below. same_line g w.ended rises r (each r below)) in
    let sums : causes_of (tried_of (record g { began = w.ended })) ≡ causes_of (tried_of g) =
    same_within (cause_of (tried_of (record g { began = w.ended }))) (cause_of (tried_of g)) 0 n each in
    ap (λ ls. text_of (ls ++ sums_words (causes_of (tried_of (record g { began = w.ended }))) rises ∷ [])) lines
    ∙ ap (λ cs. text_of (map (line_words g rises) (range_with_len 0 n) ++ sums_words cs rises ∷ [])) sums
