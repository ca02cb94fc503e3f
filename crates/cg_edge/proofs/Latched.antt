-- The next bits of latches, one after another.
use Rattle.std.proofs.Common.{◌≡◌, ℕ, ◌<◌, Bool, false, List, length, slice_get, slice_index_or, Some, sym, ◌∙◌, ap, arith}
use Rattle.std.specs.Option.{option_map}
use Rattle.std.proofs.lemmas.Option.{get_or_from_slice_get}
use Rattle.cg_netlist.specs.Circuit.{GatingCell}
use Rattle.cg_netlist.specs.History.{next_latch}
use Rattle.cg_netlist.specs.Moment.{zip_with}
use Rattle.cg_netlist.proofs.Values.{element_at, zip_with_at}
use Rattle.cg_edge.specs.inner.Stepped.{IsWritten}

pub latched : (nets : List Bool) (gaters : List (GatingCell ℕ)) (old cur : List Bool) (k : ℕ) (v : Bool) → length old ≡ length gaters → k < length gaters → IsWritten k old (zip_with (next_latch nets) gaters old) cur
    → option_map (λ gater. next_latch nets gater (slice_index_or cur k false)) (slice_get gaters k) ≡ Some v → slice_get (zip_with (next_latch nets) gaters old) k ≡ Some v
latched nets gaters old cur k v long below written next =
    let g : (g : GatingCell ℕ) × (slice_get gaters k ≡ Some g) = element_at gaters k below in
    let b : (b : Bool) × (slice_get old k ≡ Some b) = element_at old k (omega (arith, long)) in
    let own : slice_index_or cur k false ≡ b.0 = get_or_from_slice_get cur k b.0 false (written.left k (omega arith) ∙ b.1) in
    zip_with_at (next_latch nets) gaters old k g.0 b.0 g.1 b.1
    ∙ (ap (λ o. Some (next_latch nets g.0 o)) (sym own) ∙ (ap (option_map (λ gater. next_latch nets gater (slice_index_or cur k false))) (sym g.1) ∙ next))
