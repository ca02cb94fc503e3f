use Rattle.std.proofs.Common.{◌≡◌, Some, get_or, length, ◌∙◌, ap, arith, ◌<◌, ℕ, Bool, List}
use Rattle.std.specs.List.{slice_get, slice_set}
use Rattle.std.proofs.lemmas.Option.{slice_get-get_or}
use Rattle.cg_netlist_builder.specs.inner.Renumbering.{number_in}
use Rattle.cg_netlist_builder.proofs.InPlace.{All-next, All-unmapped, change_next}
use Rattle.cg_netlist_builder.proofs.order.renumber_outputs.Goals as goal

pub number-requires : goal.number-requires
number-requires c =
    let now = c.loop-output.outputs in
    let i = c.loop-output.output-index in
    let f : ℕ × Bool → ℕ × Bool = λ output. (number_in c.args.places.now output.0, output.1) in
    let x = get_or now i c.output-item.result in
    let at : slice_get now i ≡ Some x = slice_get-get_or now i c.output-item.result (omega arith) in
    All-next (λ output. output.0 < length c.args.places.now) f c.args.outputs.now now i x (All-unmapped (λ net. net < length c.args.places.now) (λ output. output.0) c.args.outputs.now c.requires) c.loop-output.invariant at

pub loop-output-preserved : goal.loop-output-preserved
loop-output-preserved c =
    let now = c.loop-output.outputs in
    let i = c.loop-output.output-index in
    let f : ℕ × Bool → ℕ × Bool = λ output. (number_in c.args.places.now output.0, output.1) in
    let x = get_or now i c.output-item.result in
    let at : slice_get now i ≡ Some x = slice_get-get_or now i c.output-item.result (omega arith) in
    let written : ℕ → List (ℕ × Bool) = λ n. slice_set now i (n, x.1) in
    ap written c.number.ensures ∙ change_next f c.args.outputs.now now i x c.loop-output.invariant at
