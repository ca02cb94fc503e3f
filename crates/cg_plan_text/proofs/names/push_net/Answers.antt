use Rattle.std.proofs.Common.{◌≡◌, ◌++◌, ◌<◌, ap, ◌∙◌, sym, length, arith}
use Rattle.std.specs.Fmt.{decimal}
use Rattle.cg_plan_text.specs.Words.{net_word}
use Rattle.cg_plan_text.proofs.NetNames.{net_word-placed}
use Rattle.cg_plan_text.proofs.names.push_net.Goals as goal

pub returns-in-Some : goal.returns-in-Some
returns-in-Some c =
    let below : c.args.net < length c.args.machine.now.circuit.names = omega arith in
    let same : net_word c.args.machine.now c.args.net ≡ c.prefix-prefix.result.now ++ decimal c.in-Some.place =
    net_word-placed c.args.machine.now c.args.net c.in-Some.place c.prefix-prefix.ensures.names below c.in-Some.ensures ∙ ap (λ p. p ++ decimal c.in-Some.place) (sym c.prefix-prefix.ensures.prefix) in
    rw same c.push_numbered.ensures
