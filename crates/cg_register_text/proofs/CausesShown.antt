-- What each cause says of its register, each by what was tried for it.
use Rattle.std.proofs.Common.{◌≡◌, ℕ, ◌<◌, true, false, not, ◌&&◌, List, [], ◌∷◌, length, slice_get, nat_lt, Option, None, Some, is_some, refl, sym, ap, ◌∙◌, arith, inl, inr}
use Rattle.std.proofs.lemmas.Bool.{and_parts, both_ways, cases_Bool, ltb-false, ltb-true}
use Rattle.cg_cell.specs.Cell.{CellData}
use Rattle.cg_claim.specs.LeafBits.{is_never}
use Rattle.cg_claim.specs.Question.{hold_question, idle_question}
use Rattle.cg_claim.specs.Violates.{violates}
use Rattle.cg_claim.proofs.ClaimsHold.{hold_never, idle_some}
use Rattle.cg_claim.proofs.HoldWidths.{hold_widths}
use Rattle.cg_claim.proofs.Tried.{is_never_says}
use Rattle.cg_hint_laws.specs.Trying.{is_inserted as is_inserted_hint}
use Rattle.cg_hint_laws.specs.declared.hint.Hint.{Hint}
use Rattle.cg_machine.specs.Claims.{CanIdle, Hold, Literal}
use Rattle.cg_machine.specs.Machine.{IsMachine, enable_of}
use Rattle.cg_machine.specs.declared.stage.Stage.{Stage}
use Rattle.cg_net.specs.NetSets.{is_in}
use Rattle.cg_plan_laws.specs.Plan.{plan_of}
use Rattle.cg_plan_laws.specs.declared.settings.Settings.{Settings}
use Rattle.cg_stage_laws.specs.Effects.{net_by}
use Rattle.cg_stage_list_laws.specs.HoldList.{chosen, hold_width, serves}
use Rattle.cg_stage_list_laws.specs.Literals.{ZeroCounts}
use Rattle.cg_register_text.specs.Causes.{is_given}
use Rattle.cg_register_text.specs.Laws.{IsRightCourse}
use Rattle.cg_register_text.specs.Meaning.{AreNumbers, Course, IsFree, IsGated, IsGiven, IsTooWide, IsTriedInHint, IsTriedInStage, IsUngated, after_hints, hint_gave, hint_net, hint_turn_trial, stage_gave, stage_net, tried_in, turn_trial}
use Rattle.cg_register_text.specs.Trials.{gave, givers, last_failed}
use Rattle.cg_register_text.proofs.CourseFacts.{began_enable, began_of, ended_enable, from_netlist, left_by_hints}
use Rattle.cg_register_text.proofs.HoldChosen.{HasStage, free_listed, has_stage, none_serves}
use Rattle.cg_register_text.proofs.LeftEnables.{left_none, left_some}
use Rattle.cg_register_text.proofs.StageTurns.{HasTurn, hold_has_turn}
use Rattle.cg_register_text.proofs.TrialNumbers.{IsLastFailed, apart, givers_are, last_one, none_inserted}

none_of : (o : Option ℕ) → is_some o ≡ false → o ≡ None
none_of None is = refl
none_of (Some x) is = absurd (both_ways true is refl)

some_of : (o : Option ℕ) → is_some o ≡ true → (x : ℕ) × (o ≡ Some x)
some_of None is = absurd (both_ways false refl is)
some_of (Some x) is = (x, refl)

module _ (library : List CellData) (settings : Settings) (counts : Option ZeroCounts) (prefix : List ℕ) (hints : List Hint) (w : Course) (right : IsRightCourse library settings counts prefix hints w) (r : ℕ) (below : r < length w.read.registers) where
  began_is : enable_of w.began r ≡ after_hints r (enable_of w.lifted r) w.hints
  began_is = began_enable library settings counts prefix hints w right r below

  -- what hints and stages leave that gave it none
  by_stages : givers (tried_in w).stages r ≡ [] → enable_of w.ended r ≡ enable_of w.began r
  by_stages none = ended_enable library settings counts prefix hints w right r below ∙ left_none (gave r) turn_trial stage_net 1 w.stages (enable_of w.began r) none

  by_hints : givers (tried_in w).hints r ≡ [] → enable_of w.began r ≡ enable_of w.lifted r
  by_hints none = began_is ∙ left_none (gave r) hint_turn_trial hint_net 1 w.hints (enable_of w.lifted r) none

  pub by_both : givers (tried_in w).hints r ≡ [] → givers (tried_in w).stages r ≡ [] → enable_of w.ended r ≡ enable_of w.lifted r
  by_both hint stage = by_stages stage ∙ by_hints hint

  -- what gave it one is told by its number
  of_hints : AreNumbers (hint_gave r) w.hints (givers (tried_in w).hints r)
  of_hints = givers_are hint_turn_trial w.hints r

  of_stages : AreNumbers (stage_gave r) w.stages (givers (tried_in w).stages r)
  of_stages = givers_are turn_trial w.stages r

  -- it is gated where a stage gave it one, and where a hint did and no stage
  pub gated_by_stages : (k : ℕ) (ks : List ℕ) → givers (tried_in w).stages r ≡ k ∷ ks → IsGated w r
  gated_by_stages k ks some =
      let left = left_some (gave r) turn_trial stage_net 1 w.stages (λ j x at gives. ((net_by x.stage.kind x.machine x.stage).net, refl)) k ks some in
      record {
        enable = left.0;
        gave = left.1 (after_hints r None w.hints);
        has = ended_enable library settings counts prefix hints w right r below ∙ left.1 (enable_of w.began r);
        hints = of_hints;
        stages = of_stages;
      }

  pub gated_by_hints : (k : ℕ) (ks : List ℕ) → givers (tried_in w).hints r ≡ k ∷ ks → givers (tried_in w).stages r ≡ [] → IsGated w r
  gated_by_hints k ks some none =
      let leave = left_by_hints library settings counts prefix hints w right in
      let left = left_some (gave r) hint_turn_trial hint_net 1 w.hints
      (λ j x at gives. leave.nets j x at (and_parts (is_inserted_hint x.outcome) (is_in x.hint.regs r) gives).0) k ks some in
      record {
        enable = left.0;
        gave = left_none (gave r) turn_trial stage_net 1 w.stages (after_hints r None w.hints) none ∙ left.1 None;
        has = by_stages none ∙ (began_is ∙ left.1 (enable_of w.lifted r));
        hints = of_hints;
        stages = of_stages;
      }

  module _ (no_hint : givers (tried_in w).hints r ≡ []) (no_stage : givers (tried_in w).stages r ≡ []) where
    was_given : is_some (enable_of w.lifted r) ≡ is_given w.read r
    was_given = (from_netlist library settings counts prefix hints w right).enabled r below

    -- it has what it had, where no stage has it
    pub given_shown : last_failed (tried_in w).stages r ≡ None → is_given w.read r ≡ true → IsGiven w r
    given_shown last given =
        let e = some_of (enable_of w.lifted r) (was_given ∙ given) in
        record { enable = e.0; had = e.1; has = by_both no_hint no_stage ∙ e.1; apart = λ k turn at. apart turn_trial w.stages r no_stage last k turn at }

    pub stage_shown : (n : ℕ) → last_failed (tried_in w).stages r ≡ Some n → IsTriedInStage w n r
    stage_shown n is =
        let l : IsLastFailed turn_trial w.stages r no_stage n = last_one turn_trial w.stages r no_stage n is in
        record {
          counted = l.counted;
          turn = l.item;
          at = l.at;
          among = l.among;
          none = λ k other at among. none_inserted turn_trial w.stages r no_stage k other at among;
          last = λ k later at. l.last k later at;
          keeps = by_both no_hint no_stage;
        }

    module _ (last : last_failed (tried_in w).stages r ≡ None) (given : is_given w.read r ≡ false) where
      pub ungated : IsUngated w r
      ungated = record {
        none = by_both no_hint no_stage ∙ none_of (enable_of w.lifted r) (was_given ∙ given);
        apart = λ k turn at. apart turn_trial w.stages r no_stage last k turn at;
      }

      pub began_none : enable_of w.began r ≡ None
      began_none = by_hints no_hint ∙ none_of (enable_of w.lifted r) (was_given ∙ given)

      good : IsMachine w.began
      good = (began_of library settings counts prefix hints w right).good

      pub wide_shown : nat_lt w.width (hold_width w.began r) ≡ true → IsTooWide w (hold_width w.began r) r
      wide_shown wide = record {
        ungated = ungated;
        measured = refl;
        above = ltb-true w.width (hold_width w.began r) wide;
        is = λ e among. hold_widths w.began good e r among;
      }

      module _ (narrow : nat_lt w.width (hold_width w.began r) ≡ false) where
        pub hint_shown : (n : ℕ) → last_failed (tried_in w).hints r ≡ Some n → IsTriedInHint w n r
        hint_shown n is =
            let l : IsLastFailed hint_turn_trial w.hints r no_hint n = last_one hint_turn_trial w.hints r no_hint n is in
            record {
              ungated = ungated;
              narrow = ltb-false w.width (hold_width w.began r) narrow;
              counted = l.counted;
              turn = l.item;
              at = l.at;
              among = l.among;
              none = λ k other at among. none_inserted hint_turn_trial w.hints r no_hint k other at among;
              last = λ k later at. l.last k later at;
            }

        -- where it takes a literal, a stage has it
        takes_none : (o : Option Literal) → chosen w.began counts settings.width r ≡ o → chosen w.began counts settings.width r ≡ None
        takes_none None is = is
        takes_none (Some l) is =
            let free = free_listed w.began r (let own = (began_of library settings counts prefix hints w right).own in omega (arith, below, own)) began_none in
            let has : HasStage w.began good counts settings.width r = has_stage w.began good counts settings.width r l free is in
            let turn : HasTurn has.stage (plan_of library settings counts w.began) = hold_has_turn library settings has.stage counts w.began right.course.whole has.listed in
            let at : slice_get w.stages turn.place ≡ Some turn.turn = ap (λ ts. slice_get ts turn.place) (sym right.course.stages) ∙ turn.at in
            absurd (both_ways (is_in turn.turn.stage.regs r) (ungated.apart turn.place turn.turn at) (ap (λ (s : Stage). is_in s.regs r) turn.is ∙ has.among))

        never_idle : (e : Literal) → Hold w.began e r → CanIdle w.began (e ∷ []) → serves w.began r e ≡ true
        never_idle e holds can =
            let inside : r < length w.began.circuit.registers = (let own = (began_of library settings counts prefix hints w right).own in let few = good.own_registers in omega (arith, below, own, few)) in
            let held : is_never w.began (hold_question e r) ≡ true = (is_never_says w.began (hold_question e r) good (inside, inside)).1 (hold_never w.began e r holds) in
            let idle : is_never w.began (idle_question (e ∷ [])) ≡ false = elim (cases_Bool (is_never w.began (idle_question (e ∷ [])))) [
              | inl never ↦
                  let one = idle_some w.began (e ∷ []) can in
                  absurd (both_ways (violates w.began (idle_question (e ∷ [])) one.0) ((is_never_says w.began (idle_question (e ∷ [])) good tt).0 never one.0 one.1) one.2)
              | inr is ↦ is
            ] in
            ap (λ b. b && not (is_never w.began (idle_question (e ∷ [])))) held ∙ ap not idle

        pub free_shown : last_failed (tried_in w).hints r ≡ None → IsFree w r
        free_shown untried =
            let fits : nat_lt settings.width (hold_width w.began r) ≡ false = ap (λ n. nat_lt n (hold_width w.began r)) right.course.width ∙ narrow in
            record {
              ungated = ungated;
              narrow = ltb-false w.width (hold_width w.began r) narrow;
              untried = λ k turn at. apart hint_turn_trial w.hints r no_hint untried k turn at;
              none = λ e among holds can.
                  both_ways (serves w.began r e)
                  (none_serves w.began good counts settings.width r (takes_none (chosen w.began counts settings.width r) refl) fits e among)
                  (never_idle e holds can);
            }
