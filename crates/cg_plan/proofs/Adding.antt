-- Nets that are added to a machine, and the limits that this passes.
use Rattle.std.proofs.Common.{◌≡◌, ℕ, suc, ◌+◌, ◌<◌, true, List, [], ◌∷◌, map, length, slice_get, drop, take, false, ◌-◌, nat_eq}
use Rattle.std.proofs.Common.{zero, Option, None, Some, Result, Ok, Err, IfOk, IfErr, OnErr, refl, sym, ◌∙◌, ap, arith, ◌⊎◌}
use Rattle.std.proofs.Common.{inl, inr}
use Rattle.std.specs.Option.{option_map, option_or}
use Rattle.std.proofs.lemmas.Bool.{both_ways, eq-eqb, or_left, or_right}
use Rattle.std.proofs.lemmas.Option.{slice_get-map}
use Rattle.cg_cell.specs.declared.fit.FitKind.{FitKind}
use Rattle.cg_cell.specs.declared.fit.FitKind.TheVariants.{Or2}
use Rattle.cg_limit.specs.Answers.{OrNoMemory}
use Rattle.cg_limit.specs.declared.Limit.{Limit}
use Rattle.cg_machine.specs.Added.{Added, add_delay, add_gate, delay_answer, delay_limit, gate_answer, gate_limit, or_limit}
use Rattle.cg_machine.specs.Claims.{Literal}
use Rattle.cg_machine.specs.Extends.{GateFits, HasDelay, HasGate}
use Rattle.cg_machine.specs.Gates.{HasInputs}
use Rattle.cg_machine.specs.Machine.{IsMachine, IsNet, MachineData, enable_of}
use Rattle.cg_machine.specs.declared.stage.Stage.{Stage}
use Rattle.cg_net.specs.NetSets.{is_in}
use Rattle.cg_netlist.specs.declared.fault.AddFault.{AddFault}
use Rattle.cg_netlist.specs.declared.fault.AddFault.TheVariants.{Limit as LimitFault, NoMemory}
use Rattle.cg_net.proofs.Members.{member_at}
use Rattle.cg_stage_laws.specs.Effects.{delayed, own_limit}
use Rattle.cg_stage_laws.specs.Joined.{join, join_all, join_all_limit, join_limit}
use Rattle.cg_stage_laws.specs.Stages.{Fits}
use Rattle.cg_stage_laws.proofs.Joins.{two_nets}
use Rattle.cg_plan.specs.inner.Inserting.{AddsNet, MayPass, delayed_limit}

-- what an addition answers
adds : (limit : Option Limit) (added : Added) (n : MachineData) (net : ℕ) → or_limit limit added ≡ Ok (record { machine = n; net = net }) → IsNet n net → AddsNet limit added n net
adds None added n net is is_net = record { room = refl; is = cc; is_net = is_net }
adds (Some limit) added n net is is_net = absurd (cc)

passes : (limit : Option Limit) (added : Added) (fault : AddFault) → (fault ≡ NoMemory) ⊎ (or_limit limit added ≡ Err fault) → MayPass limit fault
passes limit added NoMemory h = tt
passes limit added (LimitFault passed) (inl is) = absurd (cc)
passes None added (LimitFault passed) (inr h) = absurd (cc)
passes (Some limit) added (LimitFault passed) (inr h) = cc

abbrev with_net : MachineData → ℕ → Added
with_net n net = record { machine = n; net = net }

pub on_err : {A : Type 0} (P : Type 0) (r : Result A AddFault) → P → OnErr r P
on_err P (Ok x) is = tt
on_err P (Err fault) is = is

module _ (m n : MachineData) (kind : FitKind) (inputs : List ℕ) where
  pub gate_ok : (r : Result ℕ AddFault) → OrNoMemory NoMemory (with_net n) r (gate_answer m kind inputs) → IfOk r (λ net. HasGate m kind inputs (with_net n net)) → IfOk r (AddsNet (gate_limit m kind inputs) (add_gate m kind inputs) n)
  gate_ok (Ok net) answer there = adds (gate_limit m kind inputs) (add_gate m kind inputs) n net answer there.is_net
  gate_ok (Err fault) answer there = tt

  pub gate_err : (r : Result ℕ AddFault) → OrNoMemory NoMemory (with_net n) r (gate_answer m kind inputs) → IfErr r (MayPass (gate_limit m kind inputs))
  gate_err (Ok net) answer = tt
  gate_err (Err fault) answer = passes (gate_limit m kind inputs) (add_gate m kind inputs) fault answer

module _ (m n : MachineData) (x : ℕ) where
  pub delay_ok : (r : Result ℕ AddFault) → OrNoMemory NoMemory (with_net n) r (delay_answer m x) → IfOk r (λ net. HasDelay m x (with_net n net)) → IfOk r (AddsNet (delay_limit m x) (add_delay m x) n)
  delay_ok (Ok net) answer there = adds (delay_limit m x) (add_delay m x) n net answer there.is_net
  delay_ok (Err fault) answer there = tt

  pub delay_err : (r : Result ℕ AddFault) → OrNoMemory NoMemory (with_net n) r (delay_answer m x) → IfErr r (MayPass (delay_limit m x))
  delay_err (Ok net) answer = tt
  delay_err (Err fault) answer = passes (delay_limit m x) (add_delay m x) fault answer

-- a first limit, and one behind it
pub passes_first : (a b : Option Limit) (fault : AddFault) → MayPass a fault → MayPass (option_or a b) fault
passes_first a b NoMemory may = tt
passes_first a b (LimitFault limit) may = ap (λ o. option_or o b) may

pub passes_same : (a b : Option Limit) (fault : AddFault) → a ≡ b → MayPass a fault → MayPass b fault
passes_same a b NoMemory same may = tt
passes_same a b (LimitFault limit) same may = sym same ∙ may

-- one more net is joined
pub join_on : (a : Added) (y : ℕ) (ys : List ℕ) (n : MachineData) (net : ℕ) → AddsNet (gate_limit a.machine Or2 (a.net ∷ y ∷ [])) (add_gate a.machine Or2 (a.net ∷ y ∷ [])) n net → join a (y ∷ ys) ≡ join (with_net n net) ys
join_on a y ys n net added = ap (λ (b : Added). join b ys) added.is

pub limit_on : (a : Added) (y : ℕ) (ys : List ℕ) (n : MachineData) (net : ℕ) → AddsNet (gate_limit a.machine Or2 (a.net ∷ y ∷ [])) (add_gate a.machine Or2 (a.net ∷ y ∷ [])) n net → join_limit a (y ∷ ys) ≡ join_limit (with_net n net) ys
limit_on a y ys n net added =
    ap (λ o. option_or o (join_limit (add_gate a.machine Or2 (a.net ∷ y ∷ [])) ys)) added.room ∙ ap (λ (b : Added). join_limit b ys) added.is

-- nets of literals
abbrev pub nets_of : List Literal → List ℕ
nets_of E = map (λ (l : Literal). l.0) E

pub nets_at : (E : List Literal) (i : ℕ) (l : Literal) → slice_get E i ≡ Some l → nets_of (drop i E) ≡ l.0 ∷ nets_of (drop (i + 1) E)
nets_at E i l at = let e : i + 1 ≡ suc i = omega arith in ap nets_of (go E i at) ∙ ap (λ n. l.0 ∷ nets_of (drop n E)) (sym e)
  where
    go : (xs : List Literal) (k : ℕ) → slice_get xs k ≡ Some l → drop k xs ≡ l ∷ drop (suc k) xs
    go [] k is = absurd (cc)
    go (x ∷ xs) zero is = ap (λ y. y ∷ xs) (let e : x ≡ l = cc in e)
    go (x ∷ xs) (suc k) is = go xs k is

pub net_among : (E : List Literal) (i : ℕ) (l : Literal) → slice_get E i ≡ Some l → is_in (nets_of E) l.0 ≡ true
net_among E i l at = member_at (nets_of E) i l.0 (slice_get-map (λ (k : Literal). k.0) E i ∙ ap (option_map (λ (k : Literal). k.0)) at)

pub gate_fits : (m : MachineData) (kind : FitKind) (a b : ℕ) → HasInputs kind 2 → IsNet m a → IsNet m b → GateFits m kind (a ∷ b ∷ [])
gate_fits m kind a b count is it = record { count = count; nets = two_nets m a b is it }

-- the nets of literals behind the first
pub rest_is : (l : Literal) (E : List Literal) → take (length (l ∷ E) - 1) (drop 1 (l ∷ E)) ≡ E
rest_is l E = go E (length (l ∷ E) - 1) (omega arith)
  where
    go : (xs : List Literal) (n : ℕ) → n ≡ length xs → take n xs ≡ xs
    go [] zero is = refl
    go [] (suc n) is = absurd (omega (arith, is))
    go (x ∷ xs) zero is = absurd (omega (arith, is))
    go (x ∷ xs) (suc n) is = ap (λ ys. x ∷ ys) (go xs n (omega (arith, is)))

pub rest_among : (E : List Literal) (net : ℕ) → is_in (nets_of (take (length E - 1) (drop 1 E))) net ≡ true → is_in (nets_of E) net ≡ true
rest_among [] net among = absurd (both_ways false refl among)
rest_among (l ∷ E) net among = or_right (nat_eq net l.0) (is_in (nets_of E) net) (ap (λ F. is_in (nets_of F) net) (sym (rest_is l E)) ∙ among)

-- the limit that is passed behind joined nets, and that of what is added last
abbrev later : Option ℕ → Added → Option Limit
later own a = option_or (delay_limit a.machine a.net) (own_limit (delayed a) own)

pub delayed_limit_on : (m : MachineData) (nets : List ℕ) (own : Option ℕ) (n o : MachineData) (joined late : ℕ) → AddsNet (join_all_limit m nets) (join_all m nets) n joined → AddsNet (delay_limit n joined) (add_delay n joined) o late
    → delayed_limit m nets own ≡ own_limit (with_net o late) own
delayed_limit_on m nets own n o joined late first second =
    ap (λ (l : Option Limit). option_or l (later own (join_all m nets))) first.room
    ∙ (ap (later own) first.is
    ∙ (ap (λ (l : Option Limit). option_or l (own_limit (add_delay n joined) own)) second.room ∙ ap (λ (a : Added). own_limit a own) second.is))

-- the enable that the registers of a stage have before
pub own_net : (m : MachineData) (s : Stage) → IsMachine m → Fits m s → (net : ℕ) → s.own ≡ Some net → IsNet m net
own_net m s good fits net is = go s.regs fits.some fits.own
  where
    go : (rs : List ℕ) → 0 < length rs → ((r : ℕ) → is_in rs r ≡ true → enable_of m r ≡ s.own) → IsNet m net
    go [] some had = absurd (omega arith)
    go (r ∷ rs) some had =
        let has : enable_of m r ≡ Some net = had r (or_left (nat_eq r r) (is_in rs r) (eq-eqb r r refl)) ∙ is in
        good.enabled r net has
