-- The texts of what is left of hints and a plan are those of the hints and the plan themselves: but for the proof file, no text reads
-- certificates.
use Rattle.std.proofs.Common.{◌≡◌, ◌∙◌, ℕ, Bool, List, [], ◌∷◌, ◌++◌, codes, length, map, Option, ap, refl, sym, subst}
use Rattle.std.specs.List.{range_with_len}
use Rattle.cg_gate.specs.Gating.{SaysDemo, TellsGated, TellsRegisters, gated_data, told_outcomes, where_asked}
use Rattle.cg_gate.specs.Left.{IsGatedAs, TellsLeft, uncertified}
use Rattle.cg_gate.specs.Played.{Saying}
use Rattle.cg_gate.specs.Request.{RequestData, hints_of}
use Rattle.cg_gate.specs.declared.gate.Texts.{Texts}
use Rattle.cg_gate.specs.declared.planning.Gated.{Gated}
use Rattle.cg_hint_laws.specs.declared.outcome.HintOutcome.{HintOutcome}
use Rattle.cg_netlist.specs.Circuit.{Circuit}
use Rattle.cg_plan.specs.Planning.{told}
use Rattle.cg_plan_laws.specs.Reported.{ReportedPlan}
use Rattle.cg_plan_text.specs.Summary.{demo_text, report_text, said_text}
use Rattle.cg_plan_text.specs.Words.{Word, register_word}
use Rattle.cg_register_text.specs.Causes.{cause_of, causes_of}
use Rattle.cg_register_text.specs.Words.{GatedData, cause_words, clock_word, line_words, register_edges, registers_text, sums_words, tried_of}
use Rattle.cg_register_text.specs.declared.cause.Cause.{Cause}
use Rattle.cg_register_text.specs.declared.cause.Cause.TheVariants as causes
use Rattle.cg_register_text.specs.declared.rises.BothRises.{BothRises}
use Rattle.cg_text.specs.Written.{text_of}

same_map : {A B : Type 0} (f g : A → B) → ((x : A) → f x ≡ g x) → (xs : List A) → map f xs ≡ map g xs
same_map f g same [] = refl
same_map f g same (x ∷ xs) = ap (λ y. y ∷ map f xs) (same x) ∙ ap (λ ys. g x ∷ ys) (same_map f g same xs)

module _ (request : RequestData) (read written : Circuit) (outcomes : List HintOutcome) (plan : ReportedPlan) where
  abbrev whole : GatedData
  whole = gated_data request read written outcomes plan

  abbrev less : GatedData
  less = gated_data request read written outcomes (uncertified plan)

  same_cause : (r : ℕ) (cause : Cause) → cause_words less r cause ≡ cause_words whole r cause
  same_cause r causes.Gated = refl
  same_cause r causes.Given = refl
  same_cause r (causes.Stage number) = refl
  same_cause r (causes.Hint number) = refl
  same_cause r (causes.Wide width) = refl
  same_cause r causes.Free = refl

  same_line : (rises : Option BothRises) (r : ℕ) → line_words less rises r ≡ line_words whole rises r
  same_line rises r =
      ap (λ (words : List Word). codes "register" ∷ register_word plan.machine r ∷ codes "clock" ∷ clock_word written r ∷ (words ++ register_edges rises r))
      (same_cause r (cause_of (tried_of whole) r))

  pub same_registers : (rises : Option BothRises) → registers_text less rises ≡ registers_text whole rises
  same_registers rises =
      ap (λ (lines : List (List Word)). text_of (lines ++ sums_words (causes_of (tried_of whole)) rises ∷ []))
      (same_map (line_words less rises) (line_words whole rises) (same_line rises) (range_with_len 0 (length read.registers)))

-- the texts of what is left, with the proof file
pub tells_all : (request : RequestData) (says : Option Saying) (read : Circuit) (gated : Gated) (is : IsGatedAs request read gated) (texts : Texts)
    → TellsLeft request says read gated texts → TellsGated request says read gated.netlist is.hints is.plan texts
tells_all request says read gated is texts left =
    let played = left.tells.played in
    let gives = left.tells.gives in
    let n : ℕ = length gated.netlist.gaters in
    subst (TellsGated request says read gated.netlist is.hints is.plan) (sym left.is) (record {
      played = played;
      what = left.tells.what;
      gives = record {
        out = refl;
        proof = is.proof;
        report = gives.report
            ∙ (ap (λ (t : ReportedPlan). where_asked request.report (report_text t (hints_of request) gated.outcomes n played)) is.uncertified
            ∙ ap (λ (os : List HintOutcome). where_asked request.report (report_text is.plan (hints_of request) os n played)) is.outcomes);
        verilog = gives.verilog;
        registers = record {
          rises = gives.registers.rises;
          counted = gives.registers.counted;
          is = gives.registers.is
              ∙ (ap (λ (t : ReportedPlan). where_asked request.registers (registers_text (gated_data request read gated.netlist gated.outcomes t) gives.registers.rises)) is.uncertified
              ∙ (ap (where_asked request.registers) (same_registers request read gated.netlist gated.outcomes is.plan gives.registers.rises)
              ∙ ap (λ (os : List HintOutcome). where_asked request.registers (registers_text (gated_data request read gated.netlist os is.plan) gives.registers.rises)) is.outcomes));
        };
        said = gives.said
            ∙ (ap (λ (t : ReportedPlan). said_text t (told_outcomes request gated.outcomes) played) is.uncertified
            ∙ ap (λ (os : List HintOutcome). said_text is.plan (told_outcomes request os) played) is.outcomes);
      };
    })

-- and what is said of a generated pipeline
pub says_all : (request : RequestData) (size : ℕ) (rows : List (List Bool)) (read : Circuit) (gated : Gated) (is : IsGatedAs request read gated) (text : List ℕ)
    → SaysDemo size rows read gated.netlist (told gated.plan) text → SaysDemo size rows read gated.netlist is.plan text
says_all request size rows read gated is text says =
    record { both = says.both; edges = says.edges; said = says.said ∙ ap (λ (t : ReportedPlan). demo_text size t (length gated.netlist.gaters) says.both) is.uncertified }
