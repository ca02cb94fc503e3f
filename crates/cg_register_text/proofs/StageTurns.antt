-- What a plan keeps of its stages: the enables that they leave, and that each hold stage has its turn.
use Rattle.std.proofs.Common.{◌≡◌, ℕ, zero, suc, ◌<◌, Bool, true, false, ◌&&◌, if◌then◌else◌, List, [], ◌∷◌, ◌++◌, length, slice_get}
use Rattle.std.proofs.Common.{Option, None, Some, refl, sym, ap, ◌∙◌, subst, arith, inl, inr}
use Rattle.cg_cell.specs.Cell.{CellData}
use Rattle.cg_limit.specs.declared.Limit.{Limit}
use Rattle.cg_machine.specs.Machine.{MachineData, enable_of}
use Rattle.cg_machine.specs.declared.stage.Stage.{Stage}
use Rattle.cg_machine.specs.declared.stage.StageKind.{StageKind}
use Rattle.cg_machine.specs.declared.stage.StageKind.TheVariants.{Stable, Unseen}
use Rattle.cg_net.specs.NetSets.{is_in}
use Rattle.cg_net.proofs.TableLemmas.{front_get}
use Rattle.cg_netlist.proofs.SearchSteps.{get_last}
use Rattle.cg_plan_laws.specs.Plan.{Plan, Turn, after_try, begin, is_inserted, list_by, plan_of, rounds, try_all, try_one, unless_stopped}
use Rattle.cg_plan_laws.specs.Trying.{Ends, Passes, Tried, tried}
use Rattle.cg_plan_laws.specs.declared.settings.Settings.{Settings}
use Rattle.cg_stage_laws.specs.Effects.{effect, net_by}
use Rattle.cg_stage_list_laws.specs.HoldList.{hold_list}
use Rattle.cg_stage_list_laws.specs.Literals.{ZeroCounts}
use Rattle.cg_stage_list_laws.proofs.Among.{Among, among_cons, among_none}
use Rattle.cg_register_text.specs.Meaning.{after_stages, left_by, stage_net, turn_trial}
use Rattle.cg_register_text.specs.Trials.{gave}
use Rattle.cg_register_text.proofs.StageEnables.{effect_enable, effect_long}

left_more : {T : Type 0} (gives : T → Bool) (net : T → Option ℕ) (enable : Option ℕ) (xs : List T) (x : T) → left_by gives net enable (xs ++ x ∷ []) ≡ (if gives x then net x else left_by gives net enable xs)
left_more gives net enable [] x = refl
left_more gives net enable (y ∷ xs) x = left_more gives net (if gives y then net y else enable) xs x

module _ (r : ℕ) (m : MachineData) where
  -- the enable of a register so far is what the stages left
  pub record Enabled (p : Plan) : Type 0 where
    pub long : r < length p.machine.enables
    pub is : enable_of p.machine r ≡ after_stages r (enable_of m r) p.turns

  one_enable : (p : Plan) (s : Stage) (inserted : Bool) → r < length p.machine.enables → enable_of (if inserted then effect p.machine s else p.machine) r ≡ (if inserted && is_in s.regs r then Some (net_by s.kind p.machine s).net else enable_of p.machine r)
  one_enable p s true long = effect_enable p.machine s r long
  one_enable p s false long = refl

  one_long : (p : Plan) (s : Stage) (inserted : Bool) → r < length p.machine.enables → r < length (if inserted then effect p.machine s else p.machine).enables
  one_long p s true long = let more = effect_long p.machine s in omega (arith, more, long)
  one_long p s false long = long

  tried_enabled : (p : Plan) (s : Stage) (result : Tried) → Enabled p → Enabled (after_try p s result)
  tried_enabled p s (Passes limit) e = record { long = e.long; is = e.is }
  tried_enabled p s (Ends outcome) e =
      let turn : Turn = record { machine = p.machine; stage = s; outcome = outcome } in
      record {
        long = one_long p s (is_inserted outcome) e.long;
        is =
            one_enable p s (is_inserted outcome) e.long
            ∙ (ap (λ o. if is_inserted outcome && is_in s.regs r then stage_net turn else o) e.is
            ∙ sym (left_more (λ (t : Turn). gave r (turn_trial t)) stage_net (enable_of m r) p.turns turn));
      }

  stopped_enabled : (limit : Option Limit) (stopped on : Plan) → Enabled stopped → Enabled on → Enabled (unless_stopped limit stopped on)
  stopped_enabled None stopped on one two = two
  stopped_enabled (Some limit) stopped on one two = one

  module _ (library : List CellData) (settings : Settings) where
    all_enabled : (p : Plan) (stages : List Stage) → Enabled p → Enabled (try_all library settings p stages)
    all_enabled p [] e = e
    all_enabled p (s ∷ stages) e =
        let q : Plan = try_one library settings p s in
        let one : Enabled q = tried_enabled p s (tried library settings p.machine s) e in
        stopped_enabled q.limit q (try_all library settings q stages) one (all_enabled q stages one)

    rounds_enabled : (kind : StageKind) (n : ℕ) (p : Plan) → Enabled p → Enabled (rounds library settings kind n p)
    rounds_enabled kind zero p e = e
    rounds_enabled kind (suc n) p e =
        let q : Plan = try_all library settings p (list_by kind settings p) in
        let one : Enabled q = all_enabled p (list_by kind settings p) e in
        stopped_enabled q.limit q (rounds library settings kind n q) one (rounds_enabled kind n q one)

    -- in the end it is what they all left
    pub plan_enabled : (counts : Option ZeroCounts) → r < length m.enables → Enabled (plan_of library settings counts m)
    plan_enabled counts long =
        let p : Plan = begin m counts settings in
        let b : Enabled p = record { long = long; is = refl } in
        let hold : Plan = try_all library settings p (hold_list m counts settings.width) in
        let held : Plan = unless_stopped p.limit p hold in
        let one : Enabled held = stopped_enabled p.limit p hold b (all_enabled p (hold_list m counts settings.width) b) in
        let further : Plan = rounds library settings Stable settings.rounds held in
        let stable : Plan = unless_stopped held.limit held further in
        let two : Enabled stable = stopped_enabled held.limit held further one (rounds_enabled Stable settings.rounds held one) in
        let last : Plan = rounds library settings Unseen settings.rounds stable in
        stopped_enabled stable.limit stable last two (rounds_enabled Unseen settings.rounds stable two)

-- a stage has a turn in a plan
pub record HasTurn (s : Stage) (p : Plan) : Type 0 where
  pub place : ℕ
  pub turn : Turn
  pub at : slice_get p.turns place ≡ Some turn
  pub is : turn.stage ≡ s

module _ (library : List CellData) (settings : Settings) (s : Stage) where
  stays : (p : Plan) (t : Stage) (result : Tried) → HasTurn s p → HasTurn s (after_try p t result)
  stays p t (Passes limit) h = record { place = h.place; turn = h.turn; at = h.at; is = h.is }
  stays p t (Ends outcome) h = record { place = h.place; turn = h.turn; at = front_get p.turns (record { machine = p.machine; stage = t; outcome = outcome } ∷ []) h.place h.turn h.at; is = h.is }

  unless : (limit : Option Limit) (stopped on : Plan) → HasTurn s stopped → HasTurn s on → HasTurn s (unless_stopped limit stopped on)
  unless None stopped on one two = two
  unless (Some limit) stopped on one two = one

  stays_all : (p : Plan) (stages : List Stage) → HasTurn s p → HasTurn s (try_all library settings p stages)
  stays_all p [] h = h
  stays_all p (t ∷ stages) h =
      let q : Plan = try_one library settings p t in
      let one : HasTurn s q = stays p t (tried library settings p.machine t) h in
      unless q.limit q (try_all library settings q stages) one (stays_all q stages one)

  stays_rounds : (kind : StageKind) (n : ℕ) (p : Plan) → HasTurn s p → HasTurn s (rounds library settings kind n p)
  stays_rounds kind zero p h = h
  stays_rounds kind (suc n) p h =
      let q : Plan = try_all library settings p (list_by kind settings p) in
      let one : HasTurn s q = stays_all p (list_by kind settings p) h in
      unless q.limit q (rounds library settings kind n q) one (stays_rounds kind n q one)

  -- a plan that goes on had not stopped
  went_on : (p q : Plan) → (unless_stopped p.limit p q).limit ≡ None → (p.limit ≡ None) × (unless_stopped p.limit p q ≡ q)
  went_on p q whole = go p.limit refl whole
    where
      go : (o : Option Limit) → p.limit ≡ o → (unless_stopped o p q).limit ≡ None → (p.limit ≡ None) × (unless_stopped p.limit p q ≡ q)
      go None is h = (is, ap (λ l. unless_stopped l p q) is)
      go (Some limit) is h = let no : Some limit ≡ None = sym is ∙ h in absurd (cc)

  -- a stage that was tried has its turn
  has_own : (p : Plan) (result : Tried) → (after_try p s result).limit ≡ None → HasTurn s (after_try p s result)
  has_own p (Passes limit) whole = absurd (cc)
  has_own p (Ends outcome) whole = record { place = length p.turns; turn = record { machine = p.machine; stage = s; outcome = outcome }; at = get_last p.turns (record { machine = p.machine; stage = s; outcome = outcome }); is = refl }

  all_have : (p : Plan) (stages : List Stage) → (try_all library settings p stages).limit ≡ None → Among s stages → HasTurn s (try_all library settings p stages)
  all_have p [] whole a = absurd (among_none s a)
  all_have p (t ∷ stages) whole a =
      let q : Plan = try_one library settings p t in
      let on = went_on q (try_all library settings q stages) whole in
      let rest : (try_all library settings q stages).limit ≡ None = sym (ap (λ (o : Plan). o.limit) on.1) ∙ whole in
      subst (HasTurn s) (sym on.1) (elim (among_cons s t stages a) [
        | inl same ↦ stays_all q stages (own p t same on.0)
        | inr more ↦ all_have q stages rest more
      ])
    where
      own : (p : Plan) (t : Stage) → t ≡ s → (try_one library settings p t).limit ≡ None → HasTurn s (try_one library settings p t)
      own p t same limit =
          let P : Stage → Type 0 = λ u. (try_one library settings p u).limit ≡ None → HasTurn s (try_one library settings p u) in
          subst P (sym same) (λ h. has_own p (tried library settings p.machine s) h) limit

  -- each hold stage of a plan that came to its end
  pub hold_has_turn : (counts : Option ZeroCounts) (m : MachineData) → (plan_of library settings counts m).limit ≡ None → Among s (hold_list m counts settings.width) → HasTurn s (plan_of library settings counts m)
  hold_has_turn counts m whole a =
      let p : Plan = begin m counts settings in
      let hold : Plan = try_all library settings p (hold_list m counts settings.width) in
      let held : Plan = unless_stopped p.limit p hold in
      let further : Plan = rounds library settings Stable settings.rounds held in
      let stable : Plan = unless_stopped held.limit held further in
      let last : Plan = rounds library settings Unseen settings.rounds stable in
      let three = went_on stable last whole in
      let two = went_on held further three.0 in
      let one = went_on p hold two.0 in
      let first : HasTurn s hold = all_have p (hold_list m counts settings.width) (sym (ap (λ (o : Plan). o.limit) one.1) ∙ two.0) a in
      let there : HasTurn s held = subst (HasTurn s) (sym one.1) first in
      let later : HasTurn s stable = unless held.limit held further there (stays_rounds Stable settings.rounds held there) in
      unless stable.limit stable last later (stays_rounds Unseen settings.rounds stable later)
