-- A history that a simulator shows goes on by a moment that follows, and by no other.
use Rattle.std.proofs.Common.{◌≡◌, Bool, false, List, [], ◌∷◌, ◌++◌, length, replicate, Option, None, Some, refl, sym, ◌∙◌, subst}
use Rattle.std.proofs.Common.{ap}
use Rattle.cg_netlist.specs.Circuit.{Circuit, data_inputs}
use Rattle.cg_netlist.specs.History.{AreTicks, BeginsLow, IsLawful, IsWaveform, LawfulFrom, Moment, MomentFollows, Tick}
use Rattle.cg_netlist.specs.WellFormed.{IsWellFormed}
use Rattle.cg_netlist.proofs.Histories.{has_one_history}
use Rattle.cg_edge.specs.Simulated.{MayTick, Simulated, Ticks, fresh, rises_at}
use Rattle.cg_edge.specs.Shows.{Shows, ShowsOn, last_moment, last_rises}

lawful_push : (c : Circuit) (start : List Bool) (before : Option Moment) (wave : List Tick) (history : List Moment) (tick : Tick) (now : Moment)
    → LawfulFrom c start before wave history → MomentFollows c start (last_moment before history) tick now → LawfulFrom c start before (wave ++ tick ∷ []) (history ++ now ∷ [])
lawful_push c start before [] [] tick now lawful follows = (follows, tt)
lawful_push c start before [] (m ∷ history) tick now lawful follows = absurd lawful
lawful_push c start before (t ∷ wave) [] tick now lawful follows = absurd lawful
lawful_push c start before (t ∷ wave) (m ∷ history) tick now lawful follows = (lawful.0, lawful_push c start (Some m) wave history tick now lawful.1 follows)

last_moment-push : (before : Option Moment) (history : List Moment) (now : Moment) → last_moment before (history ++ now ∷ []) ≡ Some now
last_moment-push before [] now = refl
last_moment-push before (m ∷ history) now = last_moment-push (Some m) history now

pub last_rises-push : (c : Circuit) (before : Option Moment) (rose : List Bool) (history : List Moment) (now : Moment) → last_rises c before rose (history ++ now ∷ []) ≡ rises_at c (last_moment before history) now
last_rises-push c before rose [] now = refl
last_rises-push c before rose (m ∷ history) now = last_rises-push c (Some m) (rises_at c before m) history now

ticks_push : (c : Circuit) (wave : List Tick) (tick : Tick) → AreTicks c wave → length tick.inputs ≡ length (data_inputs c) → AreTicks c (wave ++ tick ∷ [])
ticks_push c [] tick ticks long = (long, tt)
ticks_push c (t ∷ wave) tick ticks long = (ticks.0, ticks_push c wave tick ticks.1 long)

low_push : (c : Circuit) (start : List Bool) (wave : List Tick) (history : List Moment) (tick : Tick) → BeginsLow wave → IsLawful c start wave history → (last_moment None history ≡ None → tick.clock ≡ false) → BeginsLow (wave ++ tick ∷ [])
low_push c start [] [] tick begins lawful low = low refl
low_push c start [] (m ∷ history) tick begins lawful low = absurd lawful
low_push c start (t ∷ wave) history tick begins lawful low = begins

-- of no waveform a simulator that has not ticked shows the history without moments
pub shows_fresh : (c : Circuit) (start : List Bool) → length start ≡ length c.registers → Shows (fresh c start) [] []
shows_fresh c start long = record { started = long; waveform = (tt, tt); lawful = tt; present = refl; rose = refl }

pub shows_on : (old new : Simulated) (tick : Tick) → IsWellFormed old.circuit → MayTick old tick → Ticks old new tick → ShowsOn old new tick
shows_on old new tick good may ticks wave history shows =
    let c : Circuit = old.circuit in
    let follows : MomentFollows c old.start (last_moment None history) tick ticks.now = subst (λ before. MomentFollows c old.start before tick ticks.now) shows.present ticks.follows in
    let lawful : IsLawful c old.start (wave ++ tick ∷ []) (history ++ ticks.now ∷ []) = lawful_push c old.start None wave history tick ticks.now shows.lawful follows in
    let waves : IsWaveform c (wave ++ tick ∷ []) = (
      ticks_push c wave tick shows.waveform.0 may.inputs,
      low_push c old.start wave history tick shows.waveform.1 shows.lawful (λ none. may.low (shows.present ∙ none)),
    ) in
    let rose : new.rose ≡ last_rises c None (replicate (length c.registers) false) (history ++ ticks.now ∷ []) =
    ticks.rose ∙ (ap (λ before. rises_at c before ticks.now) shows.present ∙ sym (last_rises-push c None (replicate (length c.registers) false) history ticks.now)) in (
      ticks.now,
      ticks.present,
      record {
        started = ap length ticks.start ∙ (shows.started ∙ ap (λ (n : Circuit). length n.registers) (sym ticks.circuit));
        waveform = subst (λ n. IsWaveform n (wave ++ tick ∷ [])) (sym ticks.circuit) waves;
        lawful = subst (λ n. IsLawful n new.start (wave ++ tick ∷ []) (history ++ ticks.now ∷ [])) (sym ticks.circuit) (subst (λ s. IsLawful c s (wave ++ tick ∷ []) (history ++ ticks.now ∷ [])) (sym ticks.start) lawful);
        present = ticks.present ∙ sym (last_moment-push None history ticks.now);
        rose = subst (λ n. new.rose ≡ last_rises n None (replicate (length n.registers) false) (history ++ ticks.now ∷ [])) (sym ticks.circuit) rose;
      },
      λ other lawful_other. has_one_history c good old.start (wave ++ tick ∷ []) shows.started waves other (history ++ ticks.now ∷ []) lawful_other lawful,
    )
