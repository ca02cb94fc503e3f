-- The gates of a machine, one after another.
use Rattle.std.proofs.Common.{◌≡◌, ℕ, suc, ◌+◌, Bool, true, false, not, ◌&&◌, ◌||◌, max, List, [], ◌∷◌, drop}
use Rattle.std.proofs.Common.{length, map, set, slice_get, Some, refl, ap, sym, ◌∙◌, add-one, drop-cons}
use Rattle.std.proofs.lemmas.Option.{get_or_from_slice_get, slice_get_within}
use Rattle.cg_cell.specs.Cover.{cover_value}
use Rattle.cg_netlist.specs.Moment.{values_at}
use Rattle.cg_netlist.specs.Netlist.{widest_of}
use Rattle.cg_netlist.specs.Nets.{put_cells}
use Rattle.cg_machine.specs.Gates.{AddedGate, and_cover, gate_cell, gate_cover, inverter_cover, or_cover}

-- what a gate of each kind shows
pub inverter_value : (b : Bool) → cover_value inverter_cover (b ∷ []) ≡ not b
inverter_value true = refl
inverter_value false = refl

pub and_value : (a b : Bool) → cover_value and_cover (a ∷ b ∷ []) ≡ (a && b)
and_value true true = refl
and_value true false = refl
and_value false b = refl

pub or_value : (a b : Bool) → cover_value or_cover (a ∷ b ∷ []) ≡ (a || b)
or_value true b = refl
or_value false true = refl
or_value false false = refl

-- from a place on
gates_drop : (gs : List AddedGate) (k : ℕ) (g : AddedGate) → slice_get gs k ≡ Some g → drop k gs ≡ g ∷ drop (k + 1) gs
gates_drop gs k g at =
    let one : suc k ≡ k + 1 = sym (add-one k) in
    drop-cons gs k g (slice_get_within gs k g at) ∙ (ap (λ (x : AddedGate). x ∷ drop (suc k) gs) (get_or_from_slice_get gs k g g at) ∙ ap (λ i. g ∷ drop i gs) one)

pub gates_put : (gs : List AddedGate) (values : List Bool) (k : ℕ) (g : AddedGate) → slice_get gs k ≡ Some g
    → put_cells (map gate_cell (drop k gs)) values ≡ put_cells (map gate_cell (drop (k + 1) gs)) (set values g.output (cover_value (gate_cover g.kind) (values_at values g.inputs)))
gates_put gs values k g at = ap (λ l. put_cells (map gate_cell l) values) (gates_drop gs k g at)

pub gates_widest : (gs : List AddedGate) (k : ℕ) (g : AddedGate) → slice_get gs k ≡ Some g → widest_of (map gate_cell (drop k gs)) ≡ max (length g.inputs) (widest_of (map gate_cell (drop (k + 1) gs)))
gates_widest gs k g at = ap (λ l. widest_of (map gate_cell l)) (gates_drop gs k g at)
