-- The cells of a library that a text says are cells.
use Rattle.std.proofs.Common.{◌≡◌, ◌+◌, ◌==◌, ℕ, Bool, true, false, cond, not, ◌&&◌, ◌||◌, IsTrue, List, [], ◌∷◌, ◌++◌}
use Rattle.std.proofs.Common.{length, length-append, Option, None, Some, Result, Ok, Err, refl, sym, ◌∙◌, ap, subst, arith}
use Rattle.std.specs.Prelude.{IfSome, codes}
use Rattle.std.proofs.Common.{lit<, lit≤}
use Rattle.std.proofs.lemmas.Bool.Decides.{nat_tests}
use Rattle.std.specs.List.{AllByRecursion}
use Rattle.std.specs.Global.{Box, Vec}
use denote.RawPtr.{null_ptr}
use Rattle.cg_cell.specs.Cell.{CellData, IsCell}
use Rattle.cg_cell.specs.Expr.{term_of, term_step}
use Rattle.cg_cell.specs.Name.{are_distinct, is_name}
use Rattle.cg_cell.specs.Pins.{PinData}
use Rattle.cg_cell.specs.Term.{Term, Bit, Input, Inverse, Both, Either, Differ, has_input, is_within, lone_input}
use Rattle.cg_cell.specs.declared.cell.CellKind.TheVariants as kinds
use Rattle.cg_cell.specs.declared.expr.Expr.{Expr, roll-Expr}
use Rattle.cg_cell.specs.declared.expr.Expr.TheOpen as nodes
use Rattle.cg_cell.specs.declared.expr.Expr.TheFolds.{fold-roll-Expr}
use Rattle.cg_liberty_expression.specs.Reading.{read_text}
use Rattle.cg_liberty_expression.specs.declared.fault.ExprFault.{ExprFault}
use Rattle.cg_liberty_expression.specs.declared.fault.ExprFault.TheVariants as exprs
use Rattle.cg_liberty_expression.proofs.Within.{read_within}
use Rattle.cg_liberty_group.specs.Group.{is_there, states, text_of}
use Rattle.cg_liberty_group.specs.declared.group.CellGroup.{CellGroup}
use Rattle.cg_liberty_group.specs.declared.group.FlopGroup.{FlopGroup}
use Rattle.cg_liberty_group.specs.declared.group.Flops.{Flops}
use Rattle.cg_liberty_group.specs.declared.group.Flops.TheVariants.{Absent, One, Several}
use Rattle.cg_liberty.specs.Kinds.{all_known, are_flop_pins, are_gater_pins, cell_by_flops, cell_of, cell_with_ports, flop_clocked, flop_of, flop_pins}
use Rattle.cg_liberty.specs.Kinds.{gater_of, gater_pins, gater_with, gating_cell, input_names, inverses_read, is_plain_flop, logic_of, output_texts, restated, state_names, unusable}
use Rattle.cg_liberty.specs.LibText.{Describe, LibText, named_groups}
use Rattle.cg_liberty.specs.Library.{cell_groups}
use Rattle.cg_liberty.specs.Port.{ArePorts, ports_of}
use Rattle.cg_liberty.specs.Reading.{reading, readings, taken, then_read}
use Rattle.cg_liberty.specs.declared.fault.CellFault.{CellFault}
use Rattle.cg_liberty.specs.declared.port.Port.{Port}
use Rattle.cg_liberty.proofs.FlopCells.{flop_is_cell, lone_below}
use Rattle.cg_liberty.proofs.GaterCells.{gater_is_cell}
use Rattle.cg_liberty.proofs.LogicCells.{logic_is_cell}
use Rattle.cg_liberty.proofs.PortFacts.{found_facts}

-- each term is that of some expression, as a reading gives them
abbrev pair : Expr → Expr → Vec Expr
pair s t = record { ptr = null_ptr; len = 2; cap = 2; alloc = record { memory = record { seal = tt } }; items = s ∷ t ∷ []; ok = (refl, lit≤ tt); small = lit< tt }

abbrev boxed : Expr → Box Expr
boxed t = record { ptr = null_ptr; alloc = record { memory = record { seal = tt } }; value = t }

abbrev expr_of : Term → Expr
expr_of (Bit bit) = roll-Expr (nodes.Constant bit)
expr_of (Input k) = roll-Expr (nodes.Variable k)
expr_of (Inverse t) = roll-Expr (nodes.Not 1 (boxed (expr_of t)))
expr_of (Both s t) = roll-Expr (nodes.And (pair (expr_of s) (expr_of t)))
expr_of (Either s t) = roll-Expr (nodes.Or (pair (expr_of s) (expr_of t)))
expr_of (Differ s t) = roll-Expr (nodes.Xor (pair (expr_of s) (expr_of t)))

both_ap : (f : Term → Term → Term) (a b c d : Term) → a ≡ c → b ≡ d → f a b ≡ f c d
both_ap f a b c d first second = ap (λ u. f u b) first ∙ ap (λ u. f c u) second

term_back : (t : Term) → term_of (expr_of t) ≡ t
term_back (Bit bit) = fold-roll-Expr Term term_step (nodes.Constant bit)
term_back (Input k) = fold-roll-Expr Term term_step (nodes.Variable k)
term_back (Inverse t) = fold-roll-Expr Term term_step (nodes.Not 1 (boxed (expr_of t))) ∙ ap Inverse (term_back t)
term_back (Both s t) = fold-roll-Expr Term term_step (nodes.And (pair (expr_of s) (expr_of t))) ∙ both_ap Both (term_of (expr_of s)) (term_of (expr_of t)) s t (term_back s) (term_back t)
term_back (Either s t) = fold-roll-Expr Term term_step (nodes.Or (pair (expr_of s) (expr_of t))) ∙ both_ap Either (term_of (expr_of s)) (term_of (expr_of t)) s t (term_back s) (term_back t)
term_back (Differ s t) = fold-roll-Expr Term term_step (nodes.Xor (pair (expr_of s) (expr_of t))) ∙ both_ap Differ (term_of (expr_of s)) (term_of (expr_of t)) s t (term_back s) (term_back t)

-- what is read of an expression names no input but those that there are
text_within : (names : List (List ℕ)) (text : List ℕ) (t : Term) → read_text names text ≡ Ok t → IsTrue (is_within (length names) t)
text_within names text t is =
    let W : Term → Type 0 = λ u. IsTrue (is_within (length names) u) in
    subst W (term_back t) (read_within names text (Ok (expr_of t)) (is ∙ ap Ok (sym (term_back t))))

taken_ok : (r : Result Term ExprFault) (t : Term) → taken r ≡ Ok (Some t) → r ≡ Ok t
taken_ok (Ok found) t is = cc
taken_ok (Err (exprs.UnknownPin at)) t is = cc
taken_ok (Err (exprs.BadExpr at)) t is = cc
taken_ok (Err (exprs.TooDeep at)) t is = cc
taken_ok (Err exprs.NoMemory) t is = cc

reading_within : (names : List (List ℕ)) (text : Option (List ℕ)) (t : Term) → reading names text ≡ Ok (Some t) → IsTrue (is_within (length names) t)
reading_within names None t is = cc
reading_within names (Some text) t is = text_within names text t (taken_ok (read_text names text) t is)

read_ok : {A B : Type 0} (r : Result A CellFault) (next : A → Result B CellFault) (y : B) → then_read r next ≡ Ok y → (x : A) × (r ≡ Ok x) × (next x ≡ Ok y)
read_ok (Ok found) next y is = (found, refl, is)
read_ok (Err fault) next y is = absurd (cc)

-- a cell that is known by name alone
unusable_proper : (name : List ℕ) → IsTrue (is_name name) → IsCell (unusable name)
unusable_proper name named = record { named = named; pins_named = tt; few = lit≤ tt; distinct = refl; unsplit = tt; roles = refl; computes = tt }

cond_proper : (b : Bool) (x y : CellData) → (b ≡ true → IsCell x) → IsCell y → IsCell (cond b x y)
cond_proper true x y first second = first refl
cond_proper false x y first second = second

second_holds : (a b : Bool) → (a && b) ≡ true → b ≡ true
second_holds true b is = is
second_holds false b is = cc

two_states : (a b : ℕ) (c : Bool) → (a == 2 && (b == 2 && c)) ≡ true → b ≡ 2
two_states a b c is = grind (arith, nat_tests)

module _ (name : List ℕ) (named : IsTrue (is_name name)) (ports : List Port) (are : ArePorts ports) where
  -- gating cells
  gater_case : (tested : Bool) (found : Option (List PinData)) → found ≡ gater_pins tested ports → IsCell (gater_with name tested found)
  gater_case tested None is = unusable_proper name named
  gater_case tested (Some pins) is =
      cond_proper (are_gater_pins tested pins) (record { name = name; kind = kinds.Gater; pins = pins; function = None }) (unusable name) (λ fits. gater_is_cell tested name ports pins named are is fits) (unusable_proper name named)

  gater_proper : (tested : Bool) → IsCell (gater_of name tested ports)
  gater_proper tested = gater_case tested (gater_pins tested ports) refl

  -- logic cells
  one_function : (names : List (List ℕ)) (texts : List (Option (List ℕ))) (function : Term) → readings names texts ≡ Ok (Some function ∷ []) → (length texts ≡ 1) × IsTrue (is_within (length names) function)
  one_function names [] function is = absurd (cc)
  one_function names (text ∷ []) function is =
      let r = read_ok (reading names text) (λ term. then_read (Ok []) (λ terms. Ok (term ∷ terms))) (Some function ∷ []) is in
      let same : r.0 ≡ Some function = let whole : ◌≡◌ {A = Result (List (Option Term)) CellFault} (Ok (r.0 ∷ [])) (Ok (Some function ∷ [])) = r.2 in cc in
      (refl, reading_within names text function (r.1 ∙ ap Ok same))
  one_function names (text ∷ other ∷ rest) function is =
      let r = read_ok (reading names text) (λ term. then_read (readings names (other ∷ rest)) (λ terms. Ok (term ∷ terms))) (Some function ∷ []) is in
      let s = read_ok (readings names (other ∷ rest)) (λ terms. Ok (r.0 ∷ terms)) (Some function ∷ []) r.2 in
      let q = read_ok (reading names other) (λ term. then_read (readings names rest) (λ terms. Ok (term ∷ terms))) s.0 s.1 in
      let p = read_ok (readings names rest) (λ terms. Ok (q.0 ∷ terms)) s.0 q.2 in
      let none : s.0 ≡ [] = let whole : ◌≡◌ {A = Result (List (Option Term)) CellFault} (Ok (r.0 ∷ s.0)) (Ok (Some function ∷ [])) = s.2 in cc in
      absurd (let some : ◌≡◌ {A = Result (List (Option Term)) CellFault} (Ok (q.0 ∷ p.0)) (Ok s.0) = p.2 in let both : ◌≡◌ {A = List (Option Term)} (q.0 ∷ p.0) [] = (let t : q.0 ∷ p.0 ≡ s.0 = cc in t) ∙ none in cc)

  logic_case : (functions : List (Option Term)) → readings (input_names ports) (output_texts ports) ≡ Ok functions → IsCell (logic_of name ports functions)
  logic_case [] is = unusable_proper name named
  logic_case (None ∷ functions) is = unusable_proper name named
  logic_case (Some function ∷ []) is = let one = one_function (input_names ports) (output_texts ports) function is in logic_is_cell name ports function named are one.0 one.1
  logic_case (Some function ∷ other ∷ functions) is = unusable_proper name named

  -- registers
  clocked_case : (next clocked : Term) (inverses : List Bool) (clock : Option ℕ) → clock ≡ lone_input clocked → IsTrue (is_within (length (input_names ports)) clocked) → IsTrue (is_within (length (input_names ports) + 2) next)
      → IsCell (flop_clocked name ports next clock inverses)
  clocked_case next clocked inverses None is inside within = unusable_proper name named
  clocked_case next clocked inverses (Some clock) is inside within =
      let pins = flop_pins clock 0 inverses ports in
      cond_proper (not (has_input clock next) && are_flop_pins pins) (record { name = name; kind = kinds.Flop; pins = pins; function = Some (restated (length (input_names ports)) clock next) }) (unusable name)
      (λ fits. flop_is_cell name ports next clock inverses named are (second_holds (not (has_input clock next)) (are_flop_pins pins) fits) (lone_below (length (input_names ports)) clocked clock is inside) within)
      (unusable_proper name named)

  flop_case : (flop : FlopGroup) (next clocked : Option Term) (known : Option (List Bool)) → reading (input_names ports ++ state_names flop.names) (text_of flop.next_state) ≡ Ok next
      → reading (input_names ports) (text_of flop.clocked_on) ≡ Ok clocked → IsCell (flop_of name ports (is_plain_flop (input_names ports) flop) next clocked known)
  flop_case flop None clocked known first second = unusable_proper name named
  flop_case flop (Some next) None known first second = unusable_proper name named
  flop_case flop (Some next) (Some clocked) None first second = unusable_proper name named
  flop_case flop (Some next) (Some clocked) (Some inverses) first second =
      let inputs = input_names ports in
      let states_of = state_names flop.names in
      cond_proper (is_plain_flop inputs flop) (flop_clocked name ports next (lone_input clocked) inverses) (unusable name)
      (λ plain.
      let two : length states_of ≡ 2 = two_states (length flop.names) (length states_of) (are_distinct (inputs ++ states_of) && not (is_there flop.clear || (is_there flop.preset || is_there flop.clocked_on_also))) plain in
      let long : length (inputs ++ states_of) ≡ length inputs + 2 = length-append inputs states_of ∙ ap (λ n. length inputs + n) two in
      let W : ℕ → Type 0 = λ n. IsTrue (is_within n next) in
      clocked_case next clocked inverses (lone_input clocked) refl (reading_within inputs (text_of flop.clocked_on) clocked second) (subst W long (reading_within (inputs ++ states_of) (text_of flop.next_state) next first)))
      (unusable_proper name named)

-- all kinds
same_cell : (x cell : CellData) → ◌≡◌ {A = Result CellData CellFault} (Ok x) (Ok cell) → IsCell x → IsCell cell
same_cell x cell is proper = let same : x ≡ cell = cc in subst IsCell same proper

cond_cell : (b : Bool) (r s : Result CellData CellFault) (cell : CellData) → (r ≡ Ok cell → IsCell cell) → (s ≡ Ok cell → IsCell cell) → cond b r s ≡ Ok cell → IsCell cell
cond_cell true r s cell first second is = first is
cond_cell false r s cell first second is = second is

module _ (group : CellGroup) (named : IsTrue (is_name group.name)) (cell : CellData) where
  flops_case : (ports : List Port) → ArePorts ports → (flops : Flops) → cell_by_flops group ports flops ≡ Ok cell → IsCell cell
  flops_case ports are Absent is =
      let r = read_ok (readings (input_names ports) (output_texts ports)) (λ functions. Ok (logic_of group.name ports functions)) cell is in
      same_cell (logic_of group.name ports r.0) cell r.2 (logic_case group.name named ports are r.0 r.1)
  flops_case ports are (One flop) is =
      let inputs = input_names ports in
      let last = λ (next clocked : Option Term) (outputs : List (Option Bool)). flop_of group.name ports (is_plain_flop inputs flop) next clocked (all_known outputs) in
      let found : Result (List (Option Bool)) CellFault = inverses_read (state_names flop.names) (output_texts ports) in
      let r = read_ok (reading (inputs ++ state_names flop.names) (text_of flop.next_state)) (λ next. then_read (reading inputs (text_of flop.clocked_on)) (λ clocked. then_read found (λ outputs. Ok (last next clocked outputs)))) cell is in
      let s = read_ok (reading inputs (text_of flop.clocked_on)) (λ clocked. then_read found (λ outputs. Ok (last r.0 clocked outputs))) cell r.2 in
      let t = read_ok found (λ outputs. Ok (last r.0 s.0 outputs)) cell s.2 in
      same_cell (last r.0 s.0 t.0) cell t.2 (flop_case group.name named ports are flop r.0 s.0 (all_known t.0) r.1 s.1)
  flops_case ports are Several is = same_cell (unusable group.name) cell is (unusable_proper group.name named)

  gating_proper : (ports : List Port) → ArePorts ports → IsCell (gating_cell group ports)
  gating_proper ports are =
      cond_proper (states group.gating (codes "latch_posedge")) (gater_of group.name false ports) (cond (states group.gating (codes "latch_posedge_precontrol")) (gater_of group.name true ports) (unusable group.name)) (λ says. gater_proper group.name named ports are false)
      (cond_proper (states group.gating (codes "latch_posedge_precontrol")) (gater_of group.name true ports) (unusable group.name) (λ says. gater_proper group.name named ports are true) (unusable_proper group.name named))

  ports_case : (found : Option (List Port)) → IfSome found ArePorts → cell_with_ports group found ≡ Ok cell → IsCell cell
  ports_case None are is = same_cell (unusable group.name) cell is (unusable_proper group.name named)
  ports_case (Some ports) are is =
      cond_cell (is_there group.gating) (Ok (gating_cell group ports)) (cond group.has_bank (Ok (unusable group.name)) (cell_by_flops group ports group.flops)) cell
      (λ gating. same_cell (gating_cell group ports) cell gating (gating_proper ports are))
      (cond_cell group.has_bank (Ok (unusable group.name)) (cell_by_flops group ports group.flops) cell (λ bank. same_cell (unusable group.name) cell bank (unusable_proper group.name named)) (flops_case ports are group.flops)) is

  cell_proper : cell_of group ≡ Ok cell → IsCell cell
  cell_proper is = ports_case (ports_of group) (found_facts group (ports_of group) refl) is

group_case : (group : CellGroup) (rest : List CellGroup) (cells : List CellData) (named : Bool) → is_name group.name ≡ named → Describe (cond named (group ∷ rest) rest) cells
    → ((cells : List CellData) → Describe rest cells → AllByRecursion IsCell cells) → AllByRecursion IsCell cells
group_case group rest [] true is described others = absurd described
group_case group rest (cell ∷ cells) true is described others = (cell_proper group is cell described.0, others cells described.1)
group_case group rest cells false is described others = others cells described

groups_proper : (groups : List CellGroup) (cells : List CellData) → Describe (named_groups groups) cells → AllByRecursion IsCell cells
groups_proper [] [] described = tt
groups_proper [] (cell ∷ cells) described = absurd described
groups_proper (group ∷ groups) cells described = group_case group (named_groups groups) cells (is_name group.name) refl described (groups_proper groups)

pub library_proper : (text : List ℕ) (library : List CellData) → LibText text library → AllByRecursion IsCell library
library_proper text library says = groups_proper (cell_groups says.read) library says.described
