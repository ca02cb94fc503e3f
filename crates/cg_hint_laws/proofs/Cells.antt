-- An inserted hint adds gates of which the library has cells.
use Rattle.std.proofs.Common.{◌≡◌, ℕ, zero, suc, ◌<◌, Bool, true, false, if◌then◌else◌, List, [], ◌∷◌, length}
use Rattle.std.proofs.Common.{nat_lt, None, refl, sym, ◌∙◌, ap, arith, subst, Result, Ok}
use Rattle.std.specs.List.{AllByRecursion, list_any}
use Rattle.std.proofs.lemmas.Bool.{lt-ltb, or_left, or_right}
use Rattle.cg_cell.specs.Cell.{CellData}
use Rattle.cg_cell.specs.declared.fit.FitKind.{FitKind}
use Rattle.cg_cell.specs.declared.fit.FitKind.TheVariants.{And2, Gater, Inv, Or2}
use Rattle.cg_machine.specs.Added.{Added, add_delay, add_gate, delay_answer, delay_limit, gate_answer, gate_limit}
use Rattle.cg_machine.specs.Claims.{Literal}
use Rattle.cg_machine.specs.Machine.{MachineData}
use Rattle.cg_netlist.specs.declared.fault.AddFault.{AddFault}
use Rattle.cg_stage_laws.proofs.CellsThere.{AllThere, first_there, where_there, gate_there as gate_added_there, delay_there as delay_added_there}
use Rattle.cg_stage_laws.specs.Cells.{HasCell, HasCells}
use Rattle.cg_stage_laws.specs.Joined.{enabled}
use Rattle.cg_stage_laws.specs.Needs.{missing, where_needed}
use Rattle.cg_stage_laws.specs.Stages.{has_inverted}
use Rattle.cg_hint_laws.specs.declared.hint.Hint.{Hint}
use Rattle.cg_hint_laws.specs.Effects.{AddedNets, and_then, before_nets, condition_answer, delayed_by, effect, for_each, hint_answer, joined, joined_from}
use Rattle.cg_hint_laws.specs.Effects.{joined_with, literal_answer, term_answer}
use Rattle.cg_hint_laws.specs.Needs.{has_more, needs}
use Rattle.cg_hint_laws.proofs.Additions.{and_then_ok, or_limit_ok}

-- the cells that a hint needs
record HintCells (library : List CellData) (h : Hint) : Type 0 where
  gater : HasCell library Gater
  inverter : list_any has_inverted h.terms ≡ true → HasCell library Inv
  joiner : has_more h.terms ≡ true → HasCell library Or2
  term_joiner : list_any has_more h.terms ≡ true → HasCell library And2

hint_cells : (library : List CellData) (h : Hint) → missing library (needs h) ≡ None → HintCells library h
hint_cells library h none =
    let ands : List FitKind = where_needed (list_any has_more h.terms) And2 [] in
    let ors : List FitKind = where_needed (has_more h.terms) Or2 ands in
    let a = first_there library Gater (where_needed (list_any has_inverted h.terms) Inv ors) none in
    let b = where_there library (list_any has_inverted h.terms) Inv ors a.1 in
    let c = where_there library (has_more h.terms) Or2 ands b.1 in
    let d = where_there library (list_any has_more h.terms) And2 [] c.1 in
    record { gater = a.0; inverter = b.0; joiner = c.0; term_joiner = d.0 }

module _ (library : List CellData) where
  gate_there : (m : MachineData) (kind : FitKind) (inputs : List ℕ) (a : Added) → gate_answer m kind inputs ≡ Ok a → HasCell library kind → AllThere library m.gates → AllThere library a.machine.gates
  gate_there m kind inputs a ok has all = subst (λ (b : Added). AllThere library b.machine.gates) (or_limit_ok (gate_limit m kind inputs) (add_gate m kind inputs) a ok).1 (gate_added_there library m kind inputs has all)

  delay_there : (m : MachineData) (net : ℕ) (a : Added) → delay_answer m net ≡ Ok a → AllThere library m.gates → AllThere library a.machine.gates
  delay_there m net a ok all = subst (λ (b : Added). AllThere library b.machine.gates) (or_limit_ok (delay_limit m net) (add_delay m net) a ok).1 (delay_added_there library m net all)

  module _ {A : Type 0} (add : MachineData → A → Result Added AddFault) (Item : A → Type 0)
      (each : (m : MachineData) (i : A) (a : Added) → Item i → add m i ≡ Ok a → AllThere library m.gates → AllThere library a.machine.gates) where
    each_there : (m : MachineData) (items : List A) (b : AddedNets) → AllByRecursion Item items → for_each add m items ≡ Ok b → AllThere library m.gates → AllThere library b.machine.gates
    each_there m [] b are ok all =
        let same : record { machine = m; nets = [] } ≡ b = cc in
        subst (λ (c : AddedNets). AllThere library c.machine.gates) same all
    each_there m (i ∷ items) b are ok all =
        let first = and_then_ok (add m i) (λ a. and_then (for_each add a.machine items) (before_nets a)) b ok in
        let a : Added = first.0 in
        let rest = and_then_ok (for_each add a.machine items) (before_nets a) b first.2 in
        let c : AddedNets = rest.0 in
        let same : record { machine = c.machine; nets = a.net ∷ c.nets } ≡ b = cc in
        subst (λ (d : AddedNets). AllThere library d.machine.gates) same (each_there a.machine items c are.1 rest.1 (each m i a are.0 first.1 all))

    -- as many nets as items
    each_long : (m : MachineData) (items : List A) (b : AddedNets) → for_each add m items ≡ Ok b → length b.nets ≡ length items
    each_long m [] b ok =
        let same : record { machine = m; nets = [] } ≡ b = cc in
        subst (λ (c : AddedNets). length c.nets ≡ 0) same refl
    each_long m (i ∷ items) b ok =
        let first = and_then_ok (add m i) (λ a. and_then (for_each add a.machine items) (before_nets a)) b ok in
        let a : Added = first.0 in
        let rest = and_then_ok (for_each add a.machine items) (before_nets a) b first.2 in
        let c : AddedNets = rest.0 in
        let same : record { machine = c.machine; nets = a.net ∷ c.nets } ≡ b = cc in
        subst (λ (d : AddedNets). length d.nets ≡ suc (length items)) same (ap suc (each_long a.machine items c rest.1))

  joined_there : (kind : FitKind) (a : Added) (ys : List ℕ) (c : Added) → joined_with kind a ys ≡ Ok c → (0 < length ys → HasCell library kind) → AllThere library a.machine.gates → AllThere library c.machine.gates
  joined_there kind a [] c ok has all = let same : a ≡ c = cc in subst (λ (b : Added). AllThere library b.machine.gates) same all
  joined_there kind a (y ∷ ys) c ok has all =
      let here : HasCell library kind = has (omega arith) in
      let first = and_then_ok (gate_answer a.machine kind (a.net ∷ y ∷ [])) (λ b. joined_with kind b ys) c ok in
      joined_there kind first.0 ys c first.2 (λ some. here) (gate_there a.machine kind (a.net ∷ y ∷ []) first.0 first.1 here all)

  from_there : (kind : FitKind) (m : MachineData) (ys : List ℕ) (c : Added) → joined_from kind m ys ≡ Ok c → (has_more ys ≡ true → HasCell library kind) → AllThere library m.gates → AllThere library c.machine.gates
  from_there kind m [] c ok has all = let same : record { machine = m; net = 0 } ≡ c = cc in subst (λ (b : Added). AllThere library b.machine.gates) same all
  from_there kind m (y ∷ ys) c ok has all = joined_there kind (record { machine = m; net = y }) ys c ok (λ some. has (lt-ltb 1 (length (y ∷ ys)) (omega (arith, some)))) all

  literal_there : (m : MachineData) (l : Literal) (a : Added) → (l.1 ≡ true → HasCell library Inv) → literal_answer m l ≡ Ok a → AllThere library m.gates → AllThere library a.machine.gates
  literal_there m l a has ok all = go l.1 refl ok
    where
      go : (b : Bool) → l.1 ≡ b → (if b then gate_answer m Inv (l.0 ∷ []) else Ok (record { machine = m; net = l.0 })) ≡ Ok a → AllThere library a.machine.gates
      go true is at = gate_there m Inv (l.0 ∷ []) a at (has is) all
      go false is at = let same : record { machine = m; net = l.0 } ≡ a = cc in subst (λ (b : Added). AllThere library b.machine.gates) same all

  abbrev Term : List Literal → Type 0
  Term term = (has_inverted term ≡ true → HasCell library Inv) × (has_more term ≡ true → HasCell library And2)

  literals : (term : List Literal) → (has_inverted term ≡ true → HasCell library Inv) → AllByRecursion (λ (l : Literal). l.1 ≡ true → HasCell library Inv) term
  literals [] has = tt
  literals (l ∷ ls) has = ((λ is. has (or_left l.1 (has_inverted ls) is)), literals ls (λ is. has (or_right l.1 (has_inverted ls) is)))

  term_there : (m : MachineData) (term : List Literal) (a : Added) → Term term → term_answer m term ≡ Ok a → AllThere library m.gates → AllThere library a.machine.gates
  term_there m term a has ok all =
      let first = and_then_ok (for_each literal_answer m term) (joined And2) a ok in
      let b : AddedNets = first.0 in
      let long : length b.nets ≡ length term = each_long literal_answer (λ (l : Literal). l.1 ≡ true → HasCell library Inv) literal_there m term b first.1 in
      from_there And2 b.machine b.nets a first.2 (λ more. has.1 (ap (nat_lt 1) (sym long) ∙ more))
      (each_there literal_answer (λ (l : Literal). l.1 ≡ true → HasCell library Inv) literal_there m term b (literals term has.0) first.1 all)

  terms_have : (terms : List (List Literal)) → (list_any has_inverted terms ≡ true → HasCell library Inv) → (list_any has_more terms ≡ true → HasCell library And2) → AllByRecursion Term terms
  terms_have [] inv more = tt
  terms_have (term ∷ terms) inv more = (
    ((λ is. inv (or_left (has_inverted term) (list_any has_inverted terms) is)), (λ is. more (or_left (has_more term) (list_any has_more terms) is))),
    terms_have terms (λ is. inv (or_right (has_inverted term) (list_any has_inverted terms) is)) (λ is. more (or_right (has_more term) (list_any has_more terms) is)),
  )

  delayed_there : (k : ℕ) (a c : Added) → delayed_by k a ≡ Ok c → AllThere library a.machine.gates → AllThere library c.machine.gates
  delayed_there zero a c ok all = let same : a ≡ c = cc in subst (λ (b : Added). AllThere library b.machine.gates) same all
  delayed_there (suc k) a c ok all =
      let first = and_then_ok (delay_answer a.machine a.net) (delayed_by k) c ok in
      delayed_there k first.0 c first.2 (delay_there a.machine a.net first.0 first.1 all)

  pub effect_there : (m n : MachineData) (h : Hint) → missing library (needs h) ≡ None → effect m h ≡ Ok n → HasCells library false m → HasCells library false n
  effect_there m n h none ok has =
      let cells : HintCells library h = hint_cells library h none in
      let last = and_then_ok (hint_answer m h) (λ a. Ok (enabled a h.regs)) n ok in
      let c : Added = last.0 in
      let first = and_then_ok (condition_answer m h.terms) (delayed_by h.after) c last.1 in
      let a : Added = first.0 in
      let each = and_then_ok (for_each term_answer m h.terms) (joined Or2) a first.1 in
      let b : AddedNets = each.0 in
      let long : length b.nets ≡ length h.terms = each_long term_answer Term term_there m h.terms b each.1 in
      let same : enabled c h.regs ≡ n = cc in
      record {
        gates = subst (λ (o : MachineData). AllThere library o.gates) same
            (delayed_there h.after a c first.2
            (from_there Or2 b.machine b.nets a each.2 (λ more. cells.joiner (ap (nat_lt 1) (sym long) ∙ more))
            (each_there term_answer Term term_there m h.terms b (terms_have h.terms cells.inverter cells.term_joiner) each.1 has.gates)));
        gater = λ r e is. cells.gater;
      }
