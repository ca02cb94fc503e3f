-- A netlist that taken parts say is what every netlist is: well formed, in net order and within the limits.
use Rattle.std.specs.Prelude.{◌≡◌, ◌≤◌, ◌<◌, ◌^◌, ℕ, true, false, List, [], ◌∷◌, map, length, nat_eq}
use Rattle.std.proofs.Common.{refl, ap, ◌∙◌, sym, subst, inl, inr, arith}
use Rattle.std.specs.List.{All, AllByRecursion, IsDistinct, filter_map}
use Rattle.std.proofs.lemmas.Bool.{both_ways, false_from_ne_true, or_cases, eqb-true}
use Rattle.std.proofs.lemmas.List.{length-map}
use Rattle.cg_limit.specs.declared.TheConstants.{MOST_NETS, MOST_REGISTERS}
use Rattle.cg_net.proofs.Members.{distinct_cons}
use Rattle.cg_netlist_parts.proofs.ByKind.{kind_each, picks_cell}
use Rattle.cg_netlist_parts.proofs.Different.{Apart, apart_from, apart_once, no_more}
use Rattle.cg_netlist.proofs.Each.{each, from_recursion}
use Rattle.cg_netlist_parts.proofs.KnownNames.{known_head, known_tail}
use Rattle.cg_netlist_parts.proofs.Mentioned.{driver_mentioned}
use Rattle.cg_netlist_parts.proofs.NoneBeside.{cells_are, drivers_are}
use Rattle.cg_netlist.specs.Circuit.{Circuit, LogicCell}
use Rattle.cg_net.specs.NetSets.{is_in}
use Rattle.cg_net.specs.Names.{NetName, is_known, net_name}
use Rattle.cg_netlist.specs.Netlist.{IsNetlist}
use Rattle.cg_netlist_parts.specs.Part.{Logic, Part, cell_in, clock_of, nets, on_clock, output_in, registers}
use Rattle.cg_netlist_parts.specs.Says.{AreTaken, CellFits, IsPart, PartFits, Says}
use Rattle.cg_netlist.specs.Wiring.{map_cell, map_register}

-- a net that is among others is under its name among their names
pub named_among : (name : ℕ → NetName) (xs : List ℕ) (x : ℕ) → is_in xs x ≡ true → is_known (map name xs) (name x) ≡ true
named_among name [] x i = absurd (both_ways false refl i)
named_among name (y ∷ ys) x i = elim (or_cases (nat_eq x y) (is_in ys x) i) [
  | inl here ↦ ap (λ z. is_known (name y ∷ map name ys) (name z)) (eqb-true x y here) ∙ known_head (name y) (map name ys)
  | inr later ↦ known_tail (name y) (name x) (map name ys) (named_among name ys x later)
]

-- nets of which no name stands twice
pub apart_nets : (name : ℕ → NetName) (xs : List ℕ) → Apart (map name xs) → IsDistinct nat_eq xs
unfolding IsDistinct
apart_nets name [] apart = tt
apart_nets name (x ∷ xs) apart = distinct_cons x xs (false_from_ne_true (is_in xs x) (λ again. both_ways (is_known (map name xs) (name x)) apart.0 (named_among name xs x again))) (apart_nets name xs apart.1)

-- what holds of the elements under a map
pub each_under : {X Y : Type 0} (P : Y → Type 0) (f : X → Y) (xs : List X) → AllByRecursion P (map f xs) → AllByRecursion (λ x. P (f x)) xs
each_under P f [] all = tt
each_under P f (x ∷ xs) all = (all.0, each_under P f xs all.1)

module _ (model : List ℕ) (parts : List Part) (c : Circuit) (taken : AreTaken model parts) (says : Says model parts c) where
  abbrev name : ℕ → NetName
  name = net_name c.names

  pub fits_each : AllByRecursion PartFits parts
  fits_each = each IsPart PartFits (λ p is. is.fits) parts taken.each

  few_names : length c.names ≤ MOST_NETS
  few_names =
      let few : length c.names ≤ length (nets parts) = no_more c.names (nets parts) (apart_from c.names says.formed.different) (λ x i. driver_mentioned parts x (ap (λ xs. is_known xs x) (drivers_are model parts c says) ∙ i)) in
      omega (arith, few, taken.few_nets)

  few_registers : length c.registers ≤ MOST_REGISTERS
  few_registers =
      let same : map (map_register name) c.registers ≡ map (on_clock (clock_of parts)) (registers parts) = ap (λ v. v.registers) says.wired_is in
      let long : length c.registers ≡ length (registers parts) = sym (length-map c.registers (map_register name)) ∙ (ap length same ∙ length-map (registers parts) (on_clock (clock_of parts))) in
      omega (arith, long, taken.few_registers)

  cells_named : AllByRecursion (λ (k : LogicCell ℕ). CellFits (map_cell name k)) c.cells
  cells_named = each_under CellFits (map_cell name) c.cells (subst (AllByRecursion CellFits) (cells_are model parts c says) (kind_each cell_in (λ k. Logic k) picks_cell PartFits parts fits_each))

  few_inputs : All (λ (k : LogicCell ℕ). length k.inputs < 2 ^ 32) c.cells
  few_inputs = from_recursion (λ (k : LogicCell ℕ). length k.inputs < 2 ^ 32) c.cells (each (λ (k : LogicCell ℕ). CellFits (map_cell name k)) (λ (k : LogicCell ℕ). length k.inputs < 2 ^ 32) (λ k fits. subst (λ n. n < 2 ^ 32) (length-map k.inputs name) fits.few) c.cells cells_named)

  pub said_is_netlist : IsNetlist c
  said_is_netlist = record { well_formed = says.formed; in_order = says.ordered; nets = few_names; registers = few_registers; inputs = few_inputs }

  pub said_outputs_once : IsDistinct nat_eq c.outputs
  said_outputs_once = apart_nets name c.outputs (subst Apart (sym (ap (λ v. v.outputs) says.wired_is)) (apart_once (filter_map output_in parts)))
