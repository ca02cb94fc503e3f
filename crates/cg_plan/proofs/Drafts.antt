-- Drafts that are led from one to the next.
use Rattle.std.proofs.Common.{◌≡◌, OnOk, Result, Ok, Err, Some, sym, ◌∙◌, ap, subst}
use Rattle.cg_netlist.specs.declared.fault.AddFault.{AddFault}
use Rattle.cg_netlist.specs.declared.fault.AddFault.TheVariants.{Limit as LimitFault, NoMemory}
use Rattle.cg_limit.specs.declared.Limit.{Limit}
use Rattle.cg_plan_laws.specs.Plan.{Plan, unless_stopped}
use Rattle.cg_plan_laws.specs.declared.settings.Settings.{Settings}
use Rattle.cg_plan.specs.declared.plan.Draft.{Draft}
use Rattle.cg_plan.specs.inner.Drafting.{IsDraft, IsLeft, Leads, Left, MayStop, in_turn}

-- a plan that a call led to has not stopped
going : (f g : Plan → Plan) (settings : Settings) (p : Plan) (d : Draft) → IsDraft settings (f p) d → in_turn f g p ≡ g (f p)
going f g settings p d draft = ap (λ o. unless_stopped o (f p) (g (f p))) draft.going

stopped : (f g : Plan → Plan) (p : Plan) (limit : Limit) → (f p).limit ≡ Some limit → (in_turn f g p).limit ≡ Some limit
stopped f g p limit at = ap (λ o. (unless_stopped o (f p) (g (f p))).limit) at ∙ at

module _ (settings : Settings) where
  -- one more call in a loop
  pub left_more : (f g h : Plan → Plan) (c d e : Draft) → IsLeft settings f (in_turn g h) c d → Leads settings g d e → IsLeft settings f h c e
  left_more f g h c d e left leads p draft =
      let l : Left settings (f p) (in_turn g h) d = left p draft in
      let next : IsDraft settings (g l.plan) e = leads l.plan l.tells in
      record { plan = g l.plan; tells = next; same = sym (going g h settings l.plan e next) ∙ l.same }

  pub left_none : (f g : Plan → Plan) (c d : Draft) → IsLeft settings f g c d → ((p : Plan) → IsDraft settings p d → g p ≡ p) → Leads settings f c d
  left_none f g c d left none p draft =
      let l : Left settings (f p) g d = left p draft in
      subst (λ q. IsDraft settings q d) (sym (none l.plan l.tells) ∙ l.same) l.tells

  pub left_stops : (f g h : Plan → Plan) (c d : Draft) (fault : AddFault) → IsLeft settings f (in_turn g h) c d → MayStop settings g d fault → MayStop settings f c fault
  left_stops f g h c d NoMemory left may p draft = tt
  left_stops f g h c d (LimitFault limit) left may p draft =
      let l : Left settings (f p) (in_turn g h) d = left p draft in
      ap (λ (q : Plan). q.limit) (sym l.same) ∙ stopped g h l.plan limit (may l.plan l.tells)

  -- one after the other
  pub leads_on : (f g : Plan → Plan) (c d e : Draft) → Leads settings f c d → Leads settings g d e → Leads settings (in_turn f g) c e
  leads_on f g c d e first second p draft =
      let after : IsDraft settings (f p) d = first p draft in
      subst (λ q. IsDraft settings q e) (sym (going f g settings p d after)) (second (f p) after)

  pub leads_last : (r : Result (Unit {0}) AddFault) (f g : Plan → Plan) (c d e : Draft) → Leads settings f c d → OnOk r (Leads settings g d e) → OnOk r (Leads settings (in_turn f g) c e)
  leads_last (Ok done) f g c d e first second = leads_on f g c d e first second
  leads_last (Err fault) f g c d e first second = tt
