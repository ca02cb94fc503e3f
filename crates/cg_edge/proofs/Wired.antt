-- Registers that stand as wires.
use Rattle.std.proofs.Common.{◌≡◌, ◌<◌, ◌+◌, ℕ, Bool, true, false, not, List, [], ◌∷◌, ◌++◌, inl, inr, length, map, if◌then◌else◌}
use Rattle.std.proofs.Common.{get_or, slice_get, slice_index_or, slice_set, Option, Some, nat_eq, refl, sym, ap, ◌∙◌, subst, arith}
use Rattle.std.specs.Prelude.{IfSome, unwrap_or}
use Rattle.std.specs.List.{cons_option}
use Rattle.std.proofs.lemmas.Bool.{eq-eqb, or_left}
use Rattle.std.proofs.lemmas.List.{length-append}
use Rattle.std.proofs.lemmas.Option.{slice_get-get_or, slice_get_within, unwrap_or-slice_get}
use Rattle.cg_netlist.specs.Circuit.{Circuit, RegisterCell, cell_nets, shown_nets}
use Rattle.cg_net.specs.NetSets.{is_in}
use Rattle.cg_netlist.specs.History.{next_value}
use Rattle.cg_netlist.specs.Moment.{bit, shown_bits, values_at}
use Rattle.cg_netlist.specs.WellFormed.{IsWellFormed}
use Rattle.cg_net.proofs.Members.{All-member, member_at}
use Rattle.cg_net.proofs.TableLemmas.{slice_get-set_same}
use Rattle.cg_netlist.proofs.Used.{in_flat}
use Rattle.cg_netlist.proofs.SearchSteps.{push_cases}
use Rattle.cg_netlist.proofs.Values.{length-values_at, value_at}
use Rattle.cg_edge.specs.declared.wire.Wire.{Wire}
use Rattle.cg_edge.specs.inner.Keeping.{SameBut}
use Rattle.cg_edge.specs.inner.Wires.{AreWires, IsWire}
use Rattle.cg_edge.proofs.Chained.{same_set}
use Rattle.cg_edge.proofs.Facts.{register_inputs, register_no_cell, shown_within}
use Rattle.cg_edge.proofs.Puts.{same_none}

pub wires_none : (rs : List (RegisterCell ℕ ℕ)) (wires : List (Option Wire)) → wires ≡ [] → AreWires rs 0 wires
wires_none rs wires none = record {
  long = ap length none;
  wired = λ k r wire at here. absurd (let low = slice_get_within wires k (Some wire) here in let long = ap length none in omega (arith, low, long));
}

-- one more register
pub wires_more : (rs : List (RegisterCell ℕ ℕ)) (n : ℕ) (found : Option Wire) (old new : List (Option Wire)) → new ≡ old ++ found ∷ [] → ((r : RegisterCell ℕ ℕ) → slice_get rs n ≡ Some r → IfSome found (IsWire r)) → AreWires rs n old → AreWires rs (n + 1) new
wires_more rs n found old new is own are = record {
  long = ap length is ∙ (length-append old (found ∷ []) ∙ ap (λ m. m + 1) are.long);
  wired = λ k r wire at here. elim (push_cases old found (Some wire) k (ap (λ l. slice_get l k) (sym is) ∙ here)) [
    | inl earlier ↦ are.wired k r wire at earlier
    | inr last ↦ subst (λ o. IfSome o (IsWire r)) last.1 (own r (ap (slice_get rs) (sym (last.0 ∙ are.long)) ∙ at))
  ];
}

-- a register whose function is one of its inputs, and which shows its bit at one net
pub wire_is : (r : RegisterCell ℕ ℕ) (place : ℕ) (wire : Wire) → slice_get r.inputs place ≡ Some wire.input → r.outputs ≡ (wire.output, false) ∷ []
    → ((bits : List Bool) (own : Bool) → place < length bits → next_value r.kind bits own ≡ slice_index_or bits place false) → IsWire r wire
wire_is r place wire at shows takes = record {
  among = member_at r.inputs place wire.input at;
  takes = λ nets own within.
      let bits : List Bool = values_at nets r.inputs in
      let low : place < length bits = let long = length-values_at nets r.inputs within in let below = slice_get_within r.inputs place wire.input at in omega (arith, long, below) in
      takes bits own low ∙ (sym (unwrap_or-slice_get bits place false) ∙ (ap (λ o. unwrap_or o false) (value_at nets r.inputs place wire.input within at) ∙ unwrap_or-slice_get nets wire.input false));
  shows = shows;
}

-- what stands at a register's place
pub wire_found : (rs : List (RegisterCell ℕ ℕ)) (wires : List (Option Wire)) (k place : ℕ) (found : Option Wire) (r : RegisterCell ℕ ℕ) (wire : Wire) → AreWires rs (length rs) wires → slice_get rs k ≡ Some r → place ≡ k → found ≡ get_or wires place found → found ≡ Some wire → IsWire r wire
wire_found rs wires k place found r wire are at same read some =
    let low : place < length wires = let long = are.long in let below = slice_get_within rs k r at in omega (arith, long, below, same) in
    are.wired k r wire at (ap (slice_get wires) (sym same) ∙ (slice_get-get_or wires place found low ∙ (ap (λ o. Some o) (sym read) ∙ ap (λ o. Some o) some)))

module _ (c : Circuit) (good : IsWellFormed c) (k : ℕ) (r : RegisterCell ℕ ℕ) (wire : Wire) (at : slice_get c.registers k ≡ Some r) (is : IsWire r wire) where
  wire_among : is_in (shown_nets r) wire.output ≡ true
  wire_among = ap (λ outputs. is_in (map (λ (output : ℕ × Bool). output.0) outputs) wire.output) is.shows ∙ or_left (nat_eq wire.output wire.output) false (eq-eqb wire.output wire.output refl)

  pub wire_given : is_in (cell_nets c) wire.output ≡ false
  wire_given = register_no_cell c good wire.output (in_flat shown_nets c.registers k r wire.output at wire_among)

  pub wire_net : (n : ℕ) → n ≡ length c.names → wire.output < n
  wire_net n long = All-member (λ net. net < n) (shown_nets r) wire.output (shown_within c good k r at n long) wire_among

  pub wire_input : (n : ℕ) → n ≡ length c.names → wire.input < n
  wire_input n long = All-member (λ net. net < n) r.inputs wire.input (register_inputs c good k r at n long) is.among

  pub wire_value : (before : List Bool) (own : Bool) → length before ≡ length c.names → next_value r.kind (values_at before r.inputs) own ≡ bit before wire.input
  wire_value before own long = is.takes before own (register_inputs c good k r at (length before) long)

  pub wire_same : (nets : List Bool) (b : Bool) → SameBut (shown_nets r) nets (slice_set nets wire.output b)
  wire_same nets b = same_set (shown_nets r) nets nets wire.output b (same_none (shown_nets r) nets) wire_among

  pub wire_shown : (nets : List Bool) (b : Bool) → length nets ≡ length c.names → values_at (slice_set nets wire.output b) (shown_nets r) ≡ shown_bits r b
  wire_shown nets b long =
      ap (λ outputs. values_at (slice_set nets wire.output b) (map (λ (output : ℕ × Bool). output.0) outputs)) is.shows
      ∙ (ap (λ o. cons_option o []) (slice_get-set_same nets wire.output b (wire_net (length nets) long))
      ∙ sym (ap (map (λ (output : ℕ × Bool). if output.1 then not b else b)) is.shows))
