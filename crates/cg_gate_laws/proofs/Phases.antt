-- The inserted stages of a plan: first stages of holding and stability, then stages of unobservability, of which no guard ever
-- gets an enable.
use Rattle.std.proofs.Common.{◌≡◌, ℕ, zero, suc, ◌≤◌, Bool, true, false, ◌&&◌, if◌then◌else◌, List, [], ◌∷◌, ◌++◌, map, length}
use Rattle.std.proofs.Common.{Option, None, Some, option_and_then, refl, sym, ◌∙◌, ap, subst, inl, inr, ◌⊎◌, arith}
use Rattle.std.proofs.lemmas.Bool.{both_ways, false_from_ne_true}
use Rattle.std.proofs.lemmas.Option.{none-some, same_Some, slice_get_past}
use Rattle.std.specs.List.{flat_map}
use Rattle.std.specs.Option.{option_flatten}
use Rattle.cg_cell.specs.Cell.{CellData}
use Rattle.cg_limit.specs.declared.Limit.{Limit}
use Rattle.cg_stage_list_laws.proofs.HoldFits.{hold_fits}
use Rattle.cg_stage_list_laws.proofs.StableFits.{stable_fits}
use Rattle.cg_stage_list_laws.proofs.UnseenFits.{unseen_fits}
use Rattle.cg_stage_list_laws.specs.Fit.{AllFit}
use Rattle.cg_stage_list_laws.specs.Groups.{Group}
use Rattle.cg_stage_list_laws.specs.HoldList.{chosen_regs, choices, hold_list, hold_stage, unless_empty}
use Rattle.cg_stage_list_laws.specs.Literals.{ZeroCounts, both_literals}
use Rattle.cg_stage_list_laws.specs.Rounds.{same_kind}
use Rattle.cg_stage_list_laws.specs.StableList.{StableKey, stable_list, stable_stage}
use Rattle.cg_stage_list_laws.specs.Supports.{all_nets}
use Rattle.cg_stage_list_laws.specs.UnseenList.{guards_kept, taken_at, taken_net, unseen_groups, unseen_list}
use Rattle.cg_machine.proofs.Lists.{below_or}
use Rattle.cg_machine.proofs.Simulation.{same_self}
use Rattle.cg_machine.specs.Claims.{Literal}
use Rattle.cg_machine.specs.Machine.{MachineData, enable_of, IsMachine}
use Rattle.cg_machine.specs.declared.stage.Earlier.{Earlier}
use Rattle.cg_machine.specs.declared.stage.Stage.{Stage}
use Rattle.cg_machine.specs.declared.stage.StageKind.TheVariants.{Stable, Unseen}
use Rattle.cg_net.proofs.Members.{is_in_cases, is_in_left, is_in_right}
use Rattle.cg_netlist.proofs.Values.{element_at}
use Rattle.cg_net.specs.NetSets.{is_in}
use Rattle.cg_plan_laws.proofs.PlanSafe.{IsSafe, all_safe, rounds_safe, unless}
use Rattle.cg_plan_laws.specs.Plan.{Plan, begin, earlier_of, is_inserted, plan_of, rounds, try_all, unless_stopped, Turn}
use Rattle.cg_plan_laws.specs.declared.outcome.Outcome.{Outcome}
use Rattle.cg_plan_laws.specs.declared.outcome.Outcome.TheVariants.{Inserted}
use Rattle.cg_plan_laws.specs.declared.settings.Settings.{Settings}
use Rattle.cg_stage_laws.specs.Effects.{effect}
use Rattle.cg_stage_laws.specs.Laws.{After}
use Rattle.cg_stage_laws.specs.Stages.{enable_nets}
use Rattle.cg_gate_laws.proofs.Guards.{UnseenIn, group_guards, list_asked}
use Rattle.cg_gate_laws.proofs.Path.{Grows, Every, IsPath, Step, all_inv, every_map, every_mapped, every_one, path_grows}
use Rattle.cg_gate_laws.proofs.Path.{step_after, turn_of}
use Rattle.std.proofs.Math.Bool.{and-false}

-- registers beyond the netlist's own have no enable
pub beyond_none : (m : MachineData) → IsMachine m → (r : ℕ) → m.own_registers ≤ r → enable_of m r ≡ None
beyond_none m good r past = elim (below_or (length m.circuit.registers) r) [
  | inl below ↦ let c = element_at m.circuit.registers r below in (good.delays r c.0 past c.1).free
  | inr far ↦ ap option_flatten (slice_get_past m.enables r (omega (arith, far, good.enables)))
]

-- a register without an enable, that is none of a stage's, has none after it
pub still_none : (m : MachineData) (s : Stage) → Step m s → (r : ℕ) → is_in s.regs r ≡ false → enable_of m r ≡ None → enable_of (effect m s) r ≡ None
still_none m s step r out none = elim (below_or m.own_registers r) [
  | inl below ↦ after.enables r (omega (arith, below, step.good.own_registers)) out ∙ none
  | inr past ↦ beyond_none (effect m s) after.is_machine r (omega (arith, past, after.same.own))
]
  where
    after : After m s (effect m s)
    after = step_after m s step

-- the guards of inserted stages of unobservability
abbrev pub entry_of : Turn → Earlier
entry_of t = record { stage = t.stage; inserted = is_inserted t.outcome }

abbrev pub guards_if : Earlier → List ℕ
guards_if e = if same_kind e.stage.kind Unseen && e.inserted then e.stage.guards else []

abbrev pub old_of : List Turn → List ℕ
old_of turns = flat_map guards_if (map entry_of turns)

old_cases : (xs : List Turn) (y : Turn) (q : ℕ) → is_in (old_of (xs ++ y ∷ [])) q ≡ true → (is_in (old_of xs) q ≡ true) ⊎ (is_in (guards_if (entry_of y)) q ≡ true)
old_cases [] y q among = elim (is_in_cases (guards_if (entry_of y)) [] q among) [ inl here ↦ inr here | inr none ↦ absurd (both_ways false refl none) ]
old_cases (x ∷ xs) y q among = elim (is_in_cases (guards_if (entry_of x)) (old_of (xs ++ y ∷ [])) q among) [
  | inl here ↦ inl (is_in_left (guards_if (entry_of x)) (old_of xs) q here)
  | inr later ↦ elim (old_cases xs y q later) [ inl more ↦ inl (is_in_right (guards_if (entry_of x)) (old_of xs) q more) | inr last ↦ inr last ]
]

old_left : (xs ys : List Turn) (q : ℕ) → is_in (old_of xs) q ≡ true → is_in (old_of (xs ++ ys)) q ≡ true
old_left [] ys q among = absurd (both_ways false refl among)
old_left (x ∷ xs) ys q among = elim (is_in_cases (guards_if (entry_of x)) (old_of xs) q among) [
  | inl here ↦ is_in_left (guards_if (entry_of x)) (old_of (xs ++ ys)) q here
  | inr later ↦ is_in_right (guards_if (entry_of x)) (old_of (xs ++ ys)) q (old_left xs ys q later)
]

old_right : (xs : List Turn) (y : Turn) (q : ℕ) → is_in (guards_if (entry_of y)) q ≡ true → is_in (old_of (xs ++ y ∷ [])) q ≡ true
old_right [] y q among = is_in_left (guards_if (entry_of y)) [] q among
old_right (x ∷ xs) y q among = is_in_right (guards_if (entry_of x)) (old_of (xs ++ y ∷ [])) q (old_right xs y q among)

guards_in : (p : Plan) (s : Stage) (q : ℕ) → s.kind ≡ Unseen → is_in s.guards q ≡ true → is_in (guards_if (entry_of (turn_of p s Inserted))) q ≡ true
guards_in p s q kind among = subst (λ k. is_in (if same_kind k Unseen && true then s.guards else []) q ≡ true) (sym kind) among

guards_from : (p : Plan) (s : Stage) (o : Outcome) (q : ℕ) → is_in (guards_if (entry_of (turn_of p s o))) q ≡ true → is_in s.guards q ≡ true
guards_from p s o q among = go (same_kind s.kind Unseen && is_inserted o) among
  where
    go : (b : Bool) → is_in (if b then s.guards else []) q ≡ true → is_in s.guards q ≡ true
    go true h = h
    go false h = absurd (both_ways false refl h)

not_there : (p : Plan) (s : Stage) (o : Outcome) (q : ℕ) → (same_kind s.kind Unseen && is_inserted o) ≡ false → is_in (guards_if (entry_of (turn_of p s o))) q ≡ true → ⊥
not_there p s o q off among = both_ways false refl (sym (ap (λ b. is_in (if b then s.guards else []) q) off) ∙ among)

-- the first phase
abbrev pub IsEarly : Stage → Type 0
IsEarly s = same_kind s.kind Unseen ≡ false

pub record First (m : MachineData) (p : Plan) : Type 0 where
  pub path : List (MachineData × Stage)
  pub is : IsPath m path p.machine
  pub kinds : Every (λ (e : MachineData × Stage). IsEarly e.1) path
  pub none : (q : ℕ) → is_in (old_of p.turns) q ≡ true → ⊥

-- an inserted stage of unobservability, in terms of the machine that its phase began with
pub record IsDone (b : MachineData) (old : List ℕ) (e : MachineData × Stage) : Type 0 where
  pub kind : e.1.kind ≡ Unseen
  pub guards : (q : ℕ) → is_in e.1.guards q ≡ true → is_in old q ≡ true
  pub decides : (y : ℕ) → is_in (enable_nets e.1) y ≡ true → (q : ℕ) × (is_in e.1.guards q ≡ true) × (taken_at b q ≡ Some y)

pub record Second (b : MachineData) (K : List ℕ) (p : Plan) : Type 0 where
  pub path : List (MachineData × Stage)
  pub is : IsPath b path p.machine
  pub done : Every (IsDone b (old_of p.turns)) path
  pub free : (q : ℕ) → is_in K q ≡ true → enable_of p.machine q ≡ None
  pub within : (q : ℕ) → is_in (old_of p.turns) q ≡ true → is_in K q ≡ true

module _ (library : List CellData) (settings : Settings) (m : MachineData) where
  first_all : (p : Plan) (stages : List Stage) → IsSafe library settings m p → AllFit p.machine stages → Every IsEarly stages → First m p → First m (try_all library settings p stages)
  first_all p stages safe fit early first = all_inv library settings m IsEarly (First m)
      (λ p s inv asked step. record {
        path = (p.machine, s) ∷ inv.path;
        is = (refl, step, inv.is);
        kinds = (asked, inv.kinds);
        none = λ q among. elim (old_cases p.turns (turn_of p s Inserted) q among) [ inl before ↦ inv.none q before | inr last ↦ not_there p s Inserted q (ap (λ b. b && true) asked) last ];
      })
      (λ p s o off inv. record {
        path = inv.path;
        is = inv.is;
        kinds = inv.kinds;
        none = λ q among. elim (old_cases p.turns (turn_of p s o) q among) [ inl before ↦ inv.none q before | inr last ↦ not_there p s o q (ap (λ b. same_kind s.kind Unseen && b) off ∙ and-false (same_kind s.kind Unseen)) last ];
      })
      (λ p limit inv. record { path = inv.path; is = inv.is; kinds = inv.kinds; none = inv.none })
      p stages safe fit early first

  second_all : (b : MachineData) (K : List ℕ) (p : Plan) (stages : List Stage) → IsSafe library settings m p → AllFit p.machine stages → Every (UnseenIn b K) stages → Second b K p → Second b K (try_all library settings p stages)
  second_all b K p stages safe fit asked second = all_inv library settings m (UnseenIn b K) (Second b K)
      (λ p s inv asked step. record {
        path = (p.machine, s) ∷ inv.path;
        is = (refl, step, inv.is);
        done = (
          record { kind = asked.kind; guards = λ q among. old_right p.turns (turn_of p s Inserted) q (guards_in p s q asked.kind among); decides = asked.decides },
          more b p (turn_of p s Inserted) inv.path inv.done,
        );
        free = λ q among. still_none p.machine s step q (false_from_ne_true (is_in s.regs q) (λ inside. both_ways (is_in K q) (asked.out q inside) among)) (inv.free q among);
        within = λ q among. elim (old_cases p.turns (turn_of p s Inserted) q among) [ inl before ↦ inv.within q before | inr last ↦ asked.kept q (guards_from p s Inserted q last) ];
      })
      (λ p s o off inv. record {
        path = inv.path;
        is = inv.is;
        done = more b p (turn_of p s o) inv.path inv.done;
        free = inv.free;
        within = λ q among. elim (old_cases p.turns (turn_of p s o) q among) [ inl before ↦ inv.within q before | inr last ↦ absurd (not_there p s o q (ap (λ b. same_kind s.kind Unseen && b) off ∙ and-false (same_kind s.kind Unseen)) last) ];
      })
      (λ p limit inv. record { path = inv.path; is = inv.is; done = inv.done; free = inv.free; within = inv.within })
      p stages safe fit asked second
    where
      more : (b : MachineData) (p : Plan) (y : Turn) (path : List (MachineData × Stage)) → Every (IsDone b (old_of p.turns)) path → Every (IsDone b (old_of (p.turns ++ y ∷ []))) path
      more b p y path done = every_map (IsDone b (old_of p.turns)) (IsDone b (old_of (p.turns ++ y ∷ []))) (λ e d. record { kind = d.kind; guards = λ q among. old_left p.turns (y ∷ []) q (d.guards q among); decides = d.decides }) path done

  -- the lists of the first phase
  hold_early : (counts : Option ZeroCounts) (width : ℕ) → Every IsEarly (hold_list m counts width)
  hold_early counts width = every_mapped (λ l. unless_empty (hold_stage l) (chosen_regs (choices m counts width) l)) (λ _. Unit {0}) IsEarly
      (λ l s u is. go l (chosen_regs (choices m counts width) l) s is) (both_literals (all_nets m)) (every_one (λ _. Unit {0}) (λ _. tt) (both_literals (all_nets m)))
    where
      go : (l : Literal) (regs : List ℕ) (s : Stage) → unless_empty (hold_stage l) regs ≡ Some s → IsEarly s
      go l [] s is = absurd (none-some s is)
      go l (r ∷ regs) s is = subst IsEarly (same_Some (hold_stage l (r ∷ regs)) s is) refl

  stable_early : (groups : List (Group StableKey)) → Every IsEarly (map stable_stage groups)
  stable_early [] = tt
  stable_early (g ∷ groups) = (refl, stable_early groups)

  first_rounds : (n : ℕ) (p : Plan) → IsSafe library settings m p → First m p → First m (rounds library settings Stable n p)
  first_rounds zero p safe first = first
  first_rounds (suc n) p safe first =
      let stages : List Stage = stable_list p.machine (earlier_of p) in
      let fit : AllFit p.machine stages = stable_fits p.machine safe.good (earlier_of p) in
      let q : Plan = try_all library settings p stages in
      let done : First m q = first_all p stages safe fit (stable_early _) first in
      stop q.limit q (rounds library settings Stable n q) done (first_rounds n q (all_safe library settings m p stages safe fit) done)
    where
      stop : (o : Option Limit) (p q : Plan) → First m p → First m q → First m (unless_stopped o p q)
      stop None p q fp fq = fq
      stop (Some limit) p q fp fq = fp

  -- the second phase
  pub record Later (b : MachineData) (p : Plan) : Type 0 where
    pub kept : List ℕ
    pub second : Second b kept p

  later_rounds : settings.test ≡ true → (b : MachineData) → IsMachine b → (n : ℕ) (p : Plan) → IsSafe library settings m p → Later b p → Later b (rounds library settings Unseen n p)
  later_rounds test b good zero p safe later = later
  later_rounds test b good (suc n) p safe later =
      let stages : List Stage = unseen_list p.machine settings.test (earlier_of p) in
      let fit : AllFit p.machine stages = unseen_fits p.machine safe.good (earlier_of p) settings.test in
      let q : Plan = try_all library settings p stages in
      let done : Later b q = record { kept = K; second = second_all b K p stages safe fit asked begins } in
      stop q.limit q (rounds library settings Unseen n q) done (later_rounds test b good n q (all_safe library settings m p stages safe fit) done)
    where
      stop : (o : Option Limit) (p q : Plan) → Later b p → Later b q → Later b (unless_stopped o p q)
      stop None p q fp fq = fq
      stop (Some limit) p q fp fq = fp

      K : List ℕ
      K = guards_kept (unseen_groups p.machine (earlier_of p)) (earlier_of p)

      grows : Grows b p.machine
      grows = path_grows b later.second.path p.machine later.second.is

      begins : Second b (guards_kept (unseen_groups p.machine (earlier_of p)) (earlier_of p)) p
      begins = record {
        path = later.second.path;
        is = later.second.is;
        done = later.second.done;
        free = λ q among. elim (is_in_cases (flat_map (λ (g : Group (List ℕ)). g.key) (unseen_groups p.machine (earlier_of p))) (old_of p.turns) q among) [
          | inl here ↦ (group_guards p.machine safe.good (earlier_of p) q here).none
          | inr before ↦ later.second.free q (later.second.within q before)
        ];
        within = λ q among. is_in_right (flat_map (λ (g : Group (List ℕ)). g.key) (unseen_groups p.machine (earlier_of p))) (old_of p.turns) q among;
      }

      asked : Every (UnseenIn b (guards_kept (unseen_groups p.machine (earlier_of p)) (earlier_of p))) (unseen_list p.machine settings.test (earlier_of p))
      asked = subst (λ t. Every (UnseenIn b (guards_kept (unseen_groups p.machine (earlier_of p)) (earlier_of p))) (unseen_list p.machine t (earlier_of p))) (sym test)
          (every_map (UnseenIn p.machine (guards_kept (unseen_groups p.machine (earlier_of p)) (earlier_of p))) (UnseenIn b (guards_kept (unseen_groups p.machine (earlier_of p)) (earlier_of p)))
          (λ s a. record {
            kind = a.kind;
            kept = a.kept;
            below = λ q among. let c = a.below q among in omega (arith, c, grows.own);
            out = a.out;
            decides = λ y among. let d = a.decides y among in (d.0, d.1, ap (option_and_then taken_net) (sym (grows.registers d.0 (let c = a.below d.0 d.1 in omega (arith, c, grows.own, good.own_registers)))) ∙ d.2);
          })
          (unseen_list p.machine true (earlier_of p)) (list_asked p.machine safe.good (earlier_of p)))

  pub record Phases (p : Plan) : Type 0 where
    pub middle : Plan
    pub safe : IsSafe library settings m middle
    pub first : First m middle
    pub later : Later middle.machine p

  pub phases : IsMachine m → settings.test ≡ true → (counts : Option ZeroCounts) → Phases (plan_of library settings counts m)
  phases good test counts =
      let p : Plan = begin m counts settings in
      let s0 : IsSafe library settings m p = record { good = good; same = same_self m; cells = λ has. has; turns = λ k turn at. absurd (none-some turn at) } in
      let f0 : First m p = record { path = []; is = refl; kinds = tt; none = λ q among. both_ways false refl among } in
      let list : List Stage = hold_list m counts settings.width in
      let fit : AllFit m list = hold_fits m good counts settings.width in
      let tried : Plan = try_all library settings p list in
      let held : Plan = unless_stopped p.limit p tried in
      let s1 : IsSafe library settings m held = unless library settings m p.limit p tried s0 (all_safe library settings m p list s0 fit) in
      let f1 : First m held = stop p.limit p tried f0 (first_all p list s0 fit (hold_early counts settings.width) f0) in
      let more : Plan = rounds library settings Stable settings.rounds held in
      let stable : Plan = unless_stopped held.limit held more in
      let s2 : IsSafe library settings m stable = unless library settings m held.limit held more s1 (rounds_safe library settings m Stable (λ q g. stable_fits q.machine g (earlier_of q)) settings.rounds held s1) in
      let f2 : First m stable = stop held.limit held more f1 (first_rounds settings.rounds held s1 f1) in
      let l0 : Later stable.machine stable = record { kept = []; second = record { path = []; is = refl; done = tt; free = λ q among. absurd (both_ways false refl among); within = λ q among. absurd (f2.none q among) } } in
      record { middle = stable; safe = s2; first = f2; later = stop2 stable.machine stable.limit stable (rounds library settings Unseen settings.rounds stable) l0 (later_rounds test stable.machine s2.good settings.rounds stable s2 l0) }
    where
      stop : (o : Option Limit) (p q : Plan) → First m p → First m q → First m (unless_stopped o p q)
      stop None p q fp fq = fq
      stop (Some limit) p q fp fq = fp

      stop2 : (b : MachineData) (o : Option Limit) (p q : Plan) → Later b p → Later b q → Later b (unless_stopped o p q)
      stop2 b None p q fp fq = fq
      stop2 b (Some limit) p q fp fq = fp
