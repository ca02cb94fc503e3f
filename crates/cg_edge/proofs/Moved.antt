-- The next bits of registers, register by register.
use Rattle.std.proofs.Common.{◌≡◌, ℕ, ◌<◌, Bool, true, false, if◌then◌else◌, List, length, slice_get, slice_index_or, Some, refl}
use Rattle.std.proofs.Common.{sym, ◌∙◌, ap, arith}
use Rattle.std.specs.Option.{option_map}
use Rattle.std.proofs.lemmas.Option.{get_or_from_slice_get, same_Some}
use Rattle.cg_netlist.specs.Circuit.{RegisterCell}
use Rattle.cg_netlist.specs.History.{next_bit, next_value, rises}
use Rattle.cg_netlist.specs.Moment.{values_at, zip_with}
use Rattle.cg_netlist.proofs.Values.{element_at, zip_with_at}
use Rattle.cg_edge.specs.inner.Stepped.{IsWritten}

-- what a register that rises and one that does not has next
pub moved : (before nets : List Bool) (rs : List (RegisterCell ℕ ℕ)) (old cur : List Bool) (k : ℕ) (rise v : Bool) → length old ≡ length rs → k < length rs
    → IsWritten k old (zip_with (next_bit before nets) rs old) cur → option_map (rises before nets) (slice_get rs k) ≡ Some rise
    → (rise ≡ true → option_map (λ (r : RegisterCell ℕ ℕ). next_value r.kind (values_at before r.inputs) (slice_index_or cur k false)) (slice_get rs k) ≡ Some v)
    → slice_get (zip_with (next_bit before nets) rs old) k ≡ Some (if rise then v else slice_index_or cur k false)
moved before nets rs old cur k rise v long below written rose next =
    let r : (r : RegisterCell ℕ ℕ) × (slice_get rs k ≡ Some r) = element_at rs k below in
    let b : (b : Bool) × (slice_get old k ≡ Some b) = element_at old k (omega (arith, long)) in
    let own : slice_index_or cur k false ≡ b.0 = get_or_from_slice_get cur k b.0 false (written.left k (omega arith) ∙ b.1) in
    let rises_so : rises before nets r.0 ≡ rise = same_Some (rises before nets r.0) rise (ap (option_map (rises before nets)) (sym r.1) ∙ rose) in
    zip_with_at (next_bit before nets) rs old k r.0 b.0 r.1 b.1 ∙ go r.0 b.0 own rises_so rise refl (λ is. same_Some (next_value r.0.kind (values_at before r.0.inputs) (slice_index_or cur k false)) v (ap (option_map (λ (r : RegisterCell ℕ ℕ). next_value r.kind (values_at before r.inputs) (slice_index_or cur k false))) (sym r.1) ∙ next is))
  where
    go : (r : RegisterCell ℕ ℕ) (b : Bool) → slice_index_or cur k false ≡ b → rises before nets r ≡ rise → (w : Bool) → rise ≡ w → (rise ≡ true → next_value r.kind (values_at before r.inputs) (slice_index_or cur k false) ≡ v)
        → Some (next_bit before nets r b) ≡ Some (if rise then v else slice_index_or cur k false)
    go r b own is true w value =
        ap (λ t. Some (if t then next_value r.kind (values_at before r.inputs) b else b)) (is ∙ w)
        ∙ (ap (λ o. Some (next_value r.kind (values_at before r.inputs) o)) (sym own) ∙ (ap (λ x. Some x) (value w) ∙ ap (λ t. Some (if t then v else slice_index_or cur k false)) (sym w)))
    go r b own is false w value =
        ap (λ t. Some (if t then next_value r.kind (values_at before r.inputs) b else b)) (is ∙ w)
        ∙ (ap (λ o. Some o) (sym own) ∙ ap (λ t. Some (if t then v else slice_index_or cur k false)) (sym w))
