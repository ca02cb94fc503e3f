-- The parts of a placeable netlist can be placed.
use Rattle.std.proofs.Common.{[], ℕ, Bool, List, ◌∷◌, ◌++◌, map, length, sym, subst}
use Rattle.std.specs.List.{AllByRecursion}
use Rattle.std.specs.Option.{option_to_list}
use Rattle.std.proofs.lemmas.List.{length-map}
use Rattle.cg_cell.specs.Cell.{CellData}
use Rattle.cg_net.specs.Names.{NetName, net_name}
use Rattle.cg_netlist.specs.Circuit.{Circuit, GatingCell, LogicCell, RegisterCell}
use Rattle.cg_netlist.specs.Wiring.{map_cell, map_gater, map_register, named}
use Rattle.cg_netlist.proofs.Each.{by_recursion, each_together}
use Rattle.cg_netlist_parts.specs.Part.{Part, Input, Output, Clock, Logic, GaterPart}
use Rattle.cg_netlist_parts.specs.Says.{parts_from, register_part}
use Rattle.cg_netlist_parts.specs.Writable.{FunctionIsOf, IsOf, IsPlaceable, IsPlaceablePart, KindIsOf}
use Rattle.cg_netlist_parts.proofs.SaidByItsParts.{p1, p2, p3, p4, p5, p6}

module _ (library : List CellData) (c : Circuit) (is : IsPlaceable library c) (leaves : RegisterCell NetName NetName → Bool) where
  abbrev name : ℕ → NetName
  name = net_name c.names

  abbrev Fits : Part → Type 0
  Fits p = IsPlaceablePart library p

  wrapped : {X : Type 0} (wrap : X → Part) (xs : List X) → AllByRecursion (λ x. Fits (wrap x)) xs → AllByRecursion Fits (map wrap xs)
  wrapped wrap [] all = tt
  wrapped wrap (x ∷ xs) all = (all.0, wrapped wrap xs all.1)

  nothing_asked : {X : Type 0} (wrap : X → Part) → ((x : X) → Fits (wrap x)) → (xs : List X) → AllByRecursion Fits (map wrap xs)
  nothing_asked wrap one [] = tt
  nothing_asked wrap one (x ∷ xs) = (one x, nothing_asked wrap one xs)

  cells_fit : (ks : List (LogicCell ℕ)) → AllByRecursion (λ (k : LogicCell ℕ). FunctionIsOf library (length k.inputs) k.function) ks → AllByRecursion (λ (k : LogicCell NetName). Fits (Logic k)) (map (map_cell name) ks)
  cells_fit [] all = tt
  cells_fit (k ∷ ks) all = (subst (λ n. FunctionIsOf library n k.function) (sym (length-map k.inputs name)) all.0, cells_fit ks all.1)

  gaters_fit : (gs : List (GatingCell ℕ)) → AllByRecursion (λ (g : GatingCell ℕ). IsOf library g.cell) gs → AllByRecursion (λ (g : GatingCell NetName). Fits (GaterPart g)) (map (map_gater name) gs)
  gaters_fit [] all = tt
  gaters_fit (g ∷ gs) all = (all.0, gaters_fit gs all.1)

  registers_fit : (rs : List (RegisterCell ℕ ℕ)) → AllByRecursion (λ (r : RegisterCell ℕ ℕ). KindIsOf library r.init r.kind) rs → AllByRecursion (λ (r : RegisterCell NetName NetName). Fits (register_part leaves r)) (map (map_register name) rs)
  registers_fit [] all = tt
  registers_fit (r ∷ rs) all = (all.0, registers_fit rs all.1)

  pub placeable_parts : AllByRecursion Fits (parts_from leaves (named c))
  placeable_parts =
      let w = named c in
      let q1 = p1 leaves w in
      let q2 = q1 ++ p2 leaves w in
      let q3 = q2 ++ p3 leaves w in
      let q4 = q3 ++ p4 leaves w in
      let q5 = q4 ++ p5 leaves w in
      each_together Fits q5 (p6 leaves w)
      (each_together Fits q4 (p5 leaves w)
      (each_together Fits q3 (p4 leaves w)
      (each_together Fits q2 (p3 leaves w)
      (each_together Fits q1 (p2 leaves w) (nothing_asked (λ net. Input net) (λ x. tt) w.inputs) (nothing_asked (λ net. Output net) (λ x. tt) w.outputs))
      (nothing_asked (λ net. Clock net) (λ x. tt) (option_to_list w.clock)))
      (wrapped (λ k. Logic k) w.cells (cells_fit c.cells (by_recursion (λ (k : LogicCell ℕ). FunctionIsOf library (length k.inputs) k.function) c.cells is.functions))))
      (wrapped (λ g. GaterPart g) w.gaters (gaters_fit c.gaters (by_recursion (λ (g : GatingCell ℕ). IsOf library g.cell) c.gaters is.gating))))
      (wrapped (register_part leaves) w.registers (registers_fit c.registers (by_recursion (λ (r : RegisterCell ℕ ℕ). KindIsOf library r.init r.kind) c.registers is.kinds)))
