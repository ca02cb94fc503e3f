use Rattle.std.proofs.Common.{◌≡◌, ◌-◌, ℕ, List, drop, length, nat_eq, take, ap, ◌∙◌, arith}
use Rattle.std.specs.Int.{bit_at}
use Rattle.std.proofs.lemmas.List.{length-drop, take_all}
use Rattle.std.proofs.lemmas.Nat.Bits.{shr_and_one}
use Rattle.cg_netlist.specs.Moment.{values_at}
use Rattle.cg_edge.specs.inner.Flat.{row_of}
use Rattle.cg_edge.proofs.flat.look_up.Goals as goal

pub returns : goal.returns
returns c =
    let table : ℕ = c.args.laid.table in
    let all : List ℕ = c.args.inputs.now in
    let first : ℕ = c.args.laid.first in
    let rest : take (length all - first) (drop first all) ≡ drop first all = take_all (length all - first) (drop first all) (let long = length-drop first all in omega (arith, long)) in
    ap (λ n. nat_eq n 1) (shr_and_one table c.row.result ∙ (ap (bit_at table) c.row.ensures.row ∙ ap (λ l. bit_at table (row_of (values_at c.args.nets.now (take c.args.laid.count l)))) rest))
