-- The cause of a register is found by what was tried for it.
use Rattle.std.proofs.Common.{◌≡◌, ℕ, ◌+◌, Bool, true, false, not, ◌&&◌, ◌||◌, if◌then◌else◌, List, [], ◌∷◌, nat_lt, Option, None, Some, refl, sym}
use Rattle.std.specs.Prelude.{is_some, unwrap_or}
use Rattle.std.specs.List.{list_any}
use Rattle.std.specs.Option.{option_map, option_or}
use Rattle.cg_net.specs.NetSets.{is_in}
use Rattle.cg_register_text.specs.declared.cause.Cause.{Cause}
use Rattle.cg_register_text.specs.declared.cause.Cause.TheVariants.{Free, Gated, Given, Hint, Stage, Wide}
use Rattle.cg_stage_list_laws.specs.HoldList.{hold_width}
use Rattle.cg_stage_list_laws.specs.Rounds.{is_empty}
use Rattle.cg_register_text.specs.Causes.{Tried, cause_of, is_given}
use Rattle.cg_register_text.specs.Trials.{Trial, failed, gave, givers, has, last_failed, last_of, numbers_from}
use Rattle.cg_register_text.specs.inner.Finding.{cause_by_width, cause_seen, or_free}
use Rattle.cg_register_text.specs.inner.Seeing.{seen_of}

-- where no trial gave a register its enable, one has it where the last of those that have it is known
some_last : (n : ℕ) (ns : List ℕ) → is_some (last_of (n ∷ ns)) ≡ true
some_last n [] = refl
some_last n (k ∷ ns) = some_last k ns

pub failed_tells : (r number : ℕ) (trials : List Trial) → numbers_from (gave r) number trials ≡ [] → list_any (has r) trials ≡ is_some (last_of (numbers_from (failed r) number trials))
failed_tells r number [] none = refl
failed_tells r number (t ∷ trials) none = go (failed_tells r (number + 1) trials) t.inserted (is_in t.regs r) none
  where
    go : (numbers_from (gave r) (number + 1) trials ≡ [] → list_any (has r) trials ≡ is_some (last_of (numbers_from (failed r) (number + 1) trials)))
        → (inserted among : Bool) → (if inserted && among then number ∷ numbers_from (gave r) (number + 1) trials else numbers_from (gave r) (number + 1) trials) ≡ []
        → (among || list_any (has r) trials) ≡ is_some (last_of (if not inserted && among then number ∷ numbers_from (failed r) (number + 1) trials else numbers_from (failed r) (number + 1) trials))
    go later true true h = absurd (cc)
    go later true false h = later h
    go later false true h = sym (some_last number (numbers_from (failed r) (number + 1) trials))
    go later false false h = later h

-- the first cause that applies, by what is known of a register
abbrev first_cause : List ℕ → List ℕ → Bool → Bool → Option ℕ → Option ℕ → ℕ → ℕ → Cause
first_cause hg sg given any sf hf most width =
    unwrap_or
    (option_or (if not (is_empty hg) || not (is_empty sg) then Some Gated else None)
    (option_or (if given && not any then Some Given else None)
    (option_or (option_map Stage sf) (option_or (if nat_lt most width then Some (Wide width) else None) (option_map Hint hf))))) Free

-- it is found in another order
found_so : (hg sg : List ℕ) (given any : Bool) (sf hf : Option ℕ) (most width : ℕ) → (sg ≡ [] → any ≡ is_some sf)
    → unwrap_or (cause_seen (record { givers = hg; failed = hf }) (record { givers = sg; failed = sf }) given) (cause_by_width most hf width) ≡ first_cause hg sg given any sf hf most width
found_so (h ∷ hg) sg given any sf hf most width tells = refl
found_so [] (s ∷ sg) given any sf hf most width tells = refl
found_so [] [] given any sf hf most width tells = go given any sf hf (nat_lt most width) (tells refl)
  where
    go : (given any : Bool) (sf hf : Option ℕ) (b : Bool) → any ≡ is_some sf
        → unwrap_or (cause_seen (record { givers = []; failed = hf }) (record { givers = []; failed = sf }) given) (if b then Wide width else or_free hf)
        ≡ unwrap_or (option_or (if given && not any then Some Given else None) (option_or (option_map Stage sf) (option_or (if b then Some (Wide width) else None) (option_map Hint hf)))) Free
    go given true None hf b is = absurd (cc)
    go true false None hf b is = refl
    go false false None hf true is = refl
    go false false None None false is = refl
    go false false None (Some n) false is = refl
    go true true (Some k) hf b is = refl
    go false true (Some k) hf b is = refl
    go given false (Some k) hf b is = absurd (cc)

pub cause_found : (t : Tried) (r : ℕ) → unwrap_or (cause_seen (seen_of t.hints r) (seen_of t.stages r) (is_given t.read r)) (cause_by_width t.width (last_failed t.hints r) (hold_width t.began r)) ≡ cause_of t r
cause_found t r =
    found_so (givers t.hints r) (givers t.stages r) (is_given t.read r) (list_any (has r) t.stages) (last_failed t.stages r) (last_failed t.hints r) t.width (hold_width t.began r) (failed_tells r 1 t.stages)
