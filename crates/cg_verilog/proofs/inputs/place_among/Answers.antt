use Rattle.std.proofs.Common.{◌<◌, ◌∙◌, Bor, List, length, sym, ℕ, arith}
use Rattle.cg_verilog.proofs.FewNames.{found_at}
use Rattle.cg_verilog.proofs.inputs.place_among.Goals as goal

pub returns-then-eq : goal.returns-then-eq
returns-then-eq c =
    let within : c.names.i < length c.args.names.now = omega (arith, c.names-test.true) in
    found_at (λ (b : Bor (List ℕ)). b.now) c.args.names.now c.names.i _ c.args.name.now within (sym c.eq.ensures ∙ c.if-eq.true)
