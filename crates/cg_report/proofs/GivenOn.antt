-- A watcher that is given the moment of a step stands for that moment more.
use Rattle.std.proofs.Common.{◌≡◌, ℕ, Bool, false, List, [], ◌∷◌, ◌++◌, length, drop, replicate, Option, None, Some, refl, sym, ap}
use Rattle.std.proofs.Common.{subst, ◌∙◌}
use Rattle.cg_netlist.specs.Circuit.{Circuit}
use Rattle.cg_netlist.specs.History.{LawfulFrom, Moment, Tick}
use Rattle.cg_edge.specs.Shows.{last_moment}
use Rattle.cg_edge.specs.Simulated.{Simulated, rises_at}
use Rattle.cg_report.specs.Place.{Gives, Place, Plays, shown_from}
use Rattle.cg_report.specs.Shown.{Shown}
use Rattle.cg_report.specs.declared.player.Next.{Next}
use Rattle.cg_report.specs.declared.player.Next.TheVariants.{Low, High, Ended}
use Rattle.cg_report.specs.inner.Giving.{Given}
use Rattle.cg_report.specs.inner.Playing.{left_of, low_from, padded}
use Rattle.cg_edge.proofs.Shown.{last_rises-push}

low_first : (width : ℕ) (inputs : List Bool) (rows : List (List Bool)) (tick : Tick) (later : List Tick) → low_from width inputs rows ≡ tick ∷ later → false ≡ tick.clock
low_first width inputs [] tick later is = let first : record { clock = false; inputs = inputs } ≡ tick = cc in ap (λ (t : Tick). t.clock) first
low_first width inputs (row ∷ rows) tick later is = let first : record { clock = false; inputs = padded width row } ≡ tick = cc in ap (λ (t : Tick). t.clock) first

-- where no high moment is next, the clock is low at the next one
pub low_clock : (width : ℕ) (next : Next) (inputs : List Bool) (row : ℕ) (rows : List (List Bool)) (tick : Tick) (later : List Tick) → (next ≡ High → ⊥) → left_of width next inputs row rows ≡ tick ∷ later → false ≡ tick.clock
low_clock width Low inputs row rows tick later other is = low_first width inputs (drop row rows) tick later is
low_clock width High inputs row rows tick later other is = absurd (other refl)
low_clock width Ended inputs row rows tick later other is = absurd (cc)

-- the moments that are shown of a history with one moment more
shown_on : (c : Circuit) (start : List Bool) (before : Option Moment) (wave : List Tick) (played : List Moment) (tick : Tick) (now : Moment) → LawfulFrom c start before wave played
    → shown_from c before (wave ++ tick ∷ []) (played ++ now ∷ []) ≡ shown_from c before wave played ++ record { clock = tick.clock; nets = now.nets; rose = rises_at c (last_moment before played) now } ∷ []
shown_on c start before [] [] tick now lawful = refl
shown_on c start before (t ∷ wave) (m ∷ played) tick now lawful = ap (λ later. record { clock = t.clock; nets = m.nets; rose = rises_at c before m } ∷ later) (shown_on c start (Some m) wave played tick now lawful.1)
shown_on c start before [] (m ∷ played) tick now lawful = absurd lawful
shown_on c start before (t ∷ wave) [] tick now lawful = absurd lawful

gives_on : (old new : Place) (old_stands new_stands : Circuit → List Shown → Type 0) (clock : Bool) → Plays old new → ((tick : Tick) (later : List Tick) → old.left ≡ tick ∷ later → clock ≡ tick.clock)
    → Given old_stands new_stands new.simulated clock → Gives old_stands new_stands old new
gives_on old new old_stands new_stands clock plays high given =
    let c = old.simulated.circuit in
    let same : clock ≡ plays.tick.clock = high plays.tick new.left plays.left in
    let more : (before : List Shown) → old_stands c before → new_stands c (before ++ record { clock = plays.tick.clock; nets = plays.now.nets; rose = new.simulated.rose } ∷ []) =
    λ before. let G : Circuit → Bool → Type 0 = λ d k. old_stands d before → new_stands d (before ++ record { clock = k; nets = plays.now.nets; rose = new.simulated.rose } ∷ []) in
    subst (λ k. G c k) same (subst (λ d. G d clock) plays.circuit (given plays.now plays.present before)) in
    record {
      tick = plays.tick;
      now = plays.now;
      left = plays.left;
      present = plays.present;
      given = more;
      further = λ wave played at stands.
          let on = (plays.further wave played at).shows in
          let rose : new.simulated.rose ≡ rises_at c (last_moment None played) plays.now =
          on.rose ∙ (last_rises-push new.simulated.circuit None (replicate (length (new.simulated.circuit).registers) false) played plays.now ∙ ap (λ d. rises_at d (last_moment None played) plays.now) plays.circuit) in
          let S : List Bool → Type 0 = λ bits. new_stands c (shown_from c None wave played ++ record { clock = plays.tick.clock; nets = plays.now.nets; rose = bits } ∷ []) in
          subst (λ shown. new_stands c shown) (sym (shown_on c old.simulated.start None wave played plays.tick plays.now at.shows.lawful)) (subst S rose (more (shown_from c None wave played) stands));
    }

-- the same where the simulator is known as that of the player
pub gives_by : (old new : Place) (simulated : Simulated) (old_stands new_stands : Circuit → List Shown → Type 0) (clock : Bool) → Plays old new → ((tick : Tick) (later : List Tick) → old.left ≡ tick ∷ later → clock ≡ tick.clock)
    → simulated ≡ new.simulated → Given old_stands new_stands simulated clock → Gives old_stands new_stands old new
gives_by old new simulated old_stands new_stands clock plays high is given =
    let G : Simulated → Type 0 = λ s. Given old_stands new_stands s clock in
    gives_on old new old_stands new_stands clock plays high (subst G is given)
