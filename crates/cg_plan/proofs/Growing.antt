-- A plan in the making grows by the turn of a stage.
use Rattle.std.proofs.Common.{◌≡◌, ℕ, ◌+◌, Bool, true, false, if◌then◌else◌, List, [], ◌∷◌, ◌++◌, length, refl, sym, ◌∙◌, ap, subst, arith}
use Rattle.std.proofs.lemmas.List.{map-append}
use Rattle.std.proofs.lemmas.Option.{none-some}
use Rattle.cg_cell.specs.Cell.{CellData}
use Rattle.cg_stage_list_laws.specs.Fit.{AllFit}
use Rattle.cg_machine.proofs.Simulation.{same_self}
use Rattle.cg_machine.specs.Machine.{IsMachine, MachineData}
use Rattle.cg_machine.specs.declared.stage.Earlier.{Earlier}
use Rattle.cg_machine.specs.declared.stage.Stage.{Stage}
use Rattle.cg_netlist.specs.declared.fault.AddFault.{AddFault}
use Rattle.cg_netlist.specs.declared.fault.AddFault.TheVariants.{Limit as LimitFault, NoMemory}
use Rattle.cg_plan_laws.proofs.PlanSafe.{IsSafe, Next, one_safe}
use Rattle.cg_plan_laws.proofs.Telling.{certificates_reported, stages_reported}
use Rattle.cg_plan_laws.specs.Plan.{Plan, Turn, after_outcome, after_try, earlier_of, is_inserted, try_one}
use Rattle.cg_plan_laws.specs.Reported.{AreAppended, AreCertified, AreTold, IsBacked, MayFail, TellsOutcome, certified_claims, claims_for, plan_claims, without_bits}
use Rattle.cg_plan_laws.specs.Trying.{Ends, tried}
use Rattle.cg_plan_laws.specs.declared.outcome.Outcome.{Outcome}
use Rattle.cg_plan_laws.specs.declared.outcome.Outcome.TheVariants.{Inserted, NeverIdle, NoCell, Refuted, Small, Wide}
use Rattle.cg_plan_laws.specs.declared.settings.Settings.{Settings}
use Rattle.cg_plan.specs.Planning.{StayWritable}
use Rattle.cg_plan.specs.declared.plan.Draft.{Draft}
use Rattle.cg_plan.specs.inner.Drafting.{IsDraft, Leads, MayStop, StillFit, earlier_by, kept, unbegun}
use Rattle.cg_stage_laws.specs.Effects.{effect}
use Rattle.cg_stage_laws.specs.Stages.{Fits}

-- whether a stage is inserted does not hang on the bits that are told
same_inserted : (outcome : Outcome) → is_inserted (without_bits outcome) ≡ is_inserted outcome
same_inserted Inserted = refl
same_inserted (Refuted claim bits) = refl
same_inserted (Wide claim width) = refl
same_inserted NeverIdle = refl
same_inserted (Small regs) = refl
same_inserted (NoCell kind) = refl

reported_length : (turns : List Turn) (told : List (Stage × Outcome)) → AreTold turns told → length told ≡ length turns
reported_length [] told are = ap length are
reported_length (turn ∷ turns) [] are = absurd are
reported_length (turn ∷ turns) (t ∷ told) are = omega (arith, reported_length turns told are.2)

module _ (library : List CellData) (settings : Settings) where
  -- this came of a stage on the machine of the draft d, and e is the draft after it, which does not tell it yet
  pub record ComesOf (number : ℕ) (s : Stage) (outcome : Outcome) (d e : Draft) : Type 0 where
    pub count : number ≡ 1 + length d.stages
    pub tells : TellsOutcome d.machine s (tried library settings d.machine s) outcome
    pub machine : e.machine ≡ after_outcome d.machine s outcome
    pub stages : e.stages ≡ d.stages
    pub earlier : e.earlier ≡ d.earlier
    pub certificates : AreAppended (if settings.proof then claims_for number d.machine s outcome else []) d.certificates.items e.certificates.items
    pub writable : StayWritable d.certificates.items e.certificates.items

  abbrev turn_of : Plan → Stage → Outcome → Turn
  turn_of p s outcome = record { machine = p.machine; stage = s; outcome = without_bits outcome }

  -- what is told after one more turn
  grown : (p : Plan) (d e : Draft) (number : ℕ) (s : Stage) (outcome : Outcome) → IsDraft settings p d → ComesOf number s outcome d e → IsDraft settings (after_try p s (Ends (without_bits outcome))) (kept e s outcome)
  grown p d e number s outcome draft comes = record {
    going = refl;
    machine = comes.machine ∙ (ap (λ m. after_outcome m s outcome) draft.machine ∙ ap (λ b. if b then effect p.machine s else p.machine) (sym (same_inserted outcome)));
    stages = subst (λ l. AreTold (p.turns ++ turn_of p s outcome ∷ []) (l ++ (s, outcome) ∷ [])) (sym comes.stages)
        (stages_reported p.turns d.stages (turn_of p s outcome) outcome draft.stages (refl, subst (λ m. IsBacked m s outcome) draft.machine comes.tells.1));
    earlier = ap (λ l. l ++ earlier_by s outcome ∷ []) (comes.earlier ∙ draft.earlier)
        ∙ (ap (λ b. earlier_of p ++ record { stage = s; inserted = b } ∷ []) (sym (same_inserted outcome)) ∙ sym (map-append earlier_turn p.turns (turn_of p s outcome ∷ [])));
    certificates = certified settings.proof draft.certificates comes.certificates;
    writable = comes.writable draft.writable;
  }
    where
      earlier_turn : Turn → Earlier
      earlier_turn turn = record { stage = turn.stage; inserted = is_inserted turn.outcome }

      count : number ≡ 1 + length p.turns
      count = comes.count ∙ ap (λ n. 1 + n) (reported_length p.turns d.stages draft.stages)

      appended : AreAppended (claims_for number d.machine s outcome) d.certificates.items e.certificates.items
          → AreAppended (claims_for (1 + length p.turns) p.machine s (without_bits outcome)) d.certificates.items e.certificates.items
      appended given = subst (λ b. AreAppended (if b then certified_claims (1 + length p.turns) p.machine s else []) d.certificates.items e.certificates.items) (sym (same_inserted outcome))
          (subst (λ n. AreAppended (claims_for n p.machine s outcome) d.certificates.items e.certificates.items) count
          (subst (λ m. AreAppended (claims_for number m s outcome) d.certificates.items e.certificates.items) draft.machine given))

      certified : (b : Bool) → AreCertified (if b then plan_claims 1 p.turns else []) d.certificates.items
          → AreAppended (if b then claims_for number d.machine s outcome else []) d.certificates.items e.certificates.items
          → AreCertified (if b then plan_claims 1 (p.turns ++ turn_of p s outcome ∷ []) else []) e.certificates.items
      certified true before given = certificates_reported p.turns (turn_of p s outcome) d.certificates.items e.certificates.items before (appended given)
      certified false before given = given.whole ∙ (ap (λ l. l ++ given.more) before ∙ given.certified)

  -- what comes of the stage on the machine of the plan
  comes_on : (p : Plan) (d e : Draft) (number : ℕ) (s : Stage) (outcome : Outcome) → IsDraft settings p d → ComesOf number s outcome d e → tried library settings p.machine s ≡ Ends (without_bits outcome)
  comes_on p d e number s outcome draft comes = ap (λ m. tried library settings m s) (sym draft.machine) ∙ comes.tells.0

  pub leads_one : (d e : Draft) (number : ℕ) (s : Stage) (outcome : Outcome) → ComesOf number s outcome d e → Leads settings (λ p. try_one library settings p s) d (kept e s outcome)
  leads_one d e number s outcome comes p draft =
      subst (λ t. IsDraft settings (after_try p s t) (kept e s outcome)) (sym (comes_on p d e number s outcome draft comes)) (grown p d e number s outcome draft comes)

  pub stops_one : (d : Draft) (s : Stage) (fault : AddFault) → MayFail (tried library settings d.machine s) fault → MayStop settings (λ p. try_one library settings p s) d fault
  stops_one d s NoMemory may p draft = tt
  stops_one d s (LimitFault limit) may p draft = ap (λ t. (after_try p s t).limit) (ap (λ m. tried library settings m s) (sym draft.machine) ∙ may)

  -- a machine on which nothing was tried
  safe_self : (m : MachineData) → IsMachine m → IsSafe library settings m (unbegun m)
  safe_self m good = record { good = good; same = same_self m; cells = λ has. has; turns = λ k turn at. absurd (none-some turn at) }

  pub still_fit : (m : MachineData) (s : Stage) (outcome : Outcome) → IsMachine m → Fits m s → tried library settings m s ≡ Ends (without_bits outcome) → StillFit s m (after_outcome m s outcome)
  still_fit m s outcome good fits comes stages apart fit =
      let next : Next library settings m (unbegun m) (try_one library settings (unbegun m) s) stages = one_safe library settings m (unbegun m) s stages (safe_self m good) fits apart fit in
      let same : (try_one library settings (unbegun m) s).machine ≡ after_outcome m s outcome = ap (λ t. (after_try (unbegun m) s t).machine) comes ∙ ap (λ b. if b then effect m s else m) (same_inserted outcome) in
      subst (λ n. AllFit n stages) same next.fit
