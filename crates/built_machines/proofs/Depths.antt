-- What a walk over a cone asks for.
use Rattle.std.proofs.Common.{◌≡◌, ℕ, ◌<◌, true, false, List, [], ◌∷◌, length, slice_get, slice_set, Option, None, Some, refl, ap, sym, subst}
use Rattle.std.specs.Borrow.{Bor, MutBor}
use Rattle.std.specs.List.{All, filter}
use Rattle.std.specs.Option.{option_map_or}
use Rattle.std.proofs.lemmas.Bool.{both_ways}
use Rattle.std.proofs.lemmas.Option.{slice_get_within}
use Rattle.cg_machine.specs.Machine.{MachineData, order_of, walk_of}
use Rattle.cg_machine.specs.Tries.{MayTry, TakesEach, Trial}
use Rattle.cg_net.proofs.Members.{All-from_members}
use Rattle.cg_net.specs.NetSets.{is_in}
use Rattle.cg_netlist.specs.Circuit.{LogicCell}
use Rattle.cg_netlist.proofs.Filtered.{in_filter}
use Rattle.cg_netlist_cone.specs.Cone.{cell_feeds, cone_at, cone_of}
use Rattle.cg_netlist_cone.specs.declared.cone.Cone.{Cone}

-- a closure that may always be called may be tried on any cells
takes_always : {F S T E : Type 0} (g : Trial F S T E) (f : F) (cells : List (LogicCell ℕ)) → ((args : MutBor S × (ℕ × (Bor (List T) × Unit {0}))) → g.pre f args)
    → (ks : List ℕ) (s : S) (values : List T) → TakesEach g f cells ks s values
takes_always g f cells always [] s values = tt
takes_always g f cells always (k ∷ ks) s values = λ cell at. (
  (λ held shown is shows. always (held, (k, (shown, tt)))),
  (λ y s' called. takes_always g f cells always ks s' (slice_set values cell.output y)),
)

pub may_always : {F S T E : Type 0} (g : Trial F S T E) (f : F) (cells : List (LogicCell ℕ)) (ks : List ℕ) (s : S) (values : List T)
    → ((args : MutBor S × (ℕ × (Bor (List T) × Unit {0}))) → g.pre f args) → MayTry g f cells ks s values
may_always g f cells ks s values always = record { takes = takes_always g f cells always ks s values }

-- the cells of a cone are there
pub cells_there : (m : MachineData) (roots : List ℕ) (cone : Cone) → cone ≡ cone_at m.circuit (order_of m) roots → All (λ k. k < length m.circuit.cells) cone.cells
cells_there m roots cone is =
    let nets = cone_of (walk_of m) roots in
    let found : cone.cells ≡ filter (cell_feeds m.circuit nets) (order_of m) = ap (λ (c : Cone). c.cells) is in
    subst (All (λ k. k < length m.circuit.cells)) (sym found) (All-from_members (λ k. k < length m.circuit.cells) (filter (cell_feeds m.circuit nets) (order_of m)) (λ k among. below k (in_filter (cell_feeds m.circuit nets) (order_of m) k among).1))
  where
    go : (k : ℕ) (o : Option (LogicCell ℕ)) → slice_get m.circuit.cells k ≡ o → option_map_or (λ (cell : LogicCell ℕ). is_in (cone_of (walk_of m) roots) cell.output) o false ≡ true → k < length m.circuit.cells
    go k None at h = elim (both_ways false refl h) [ ]
    go k (Some cell) at h = slice_get_within m.circuit.cells k cell at

    below : (k : ℕ) → cell_feeds m.circuit (cone_of (walk_of m) roots) k ≡ true → k < length m.circuit.cells
    below k h = go k (slice_get m.circuit.cells k) refl h
