use Rattle.std.proofs.Common.{◌≡◌, ℕ, ◌<◌, List, Option, None, Some, length, ap, sym, ◌∙◌, arith}
use Rattle.std.specs.Option.{option_flatten}
use Rattle.cg_machine.specs.Machine.{enable_of}
use Rattle.cg_netlist.proofs.Values.{element_at}
use Rattle.cg_insert.proofs.Lookups.{collect_step, with_enable}
use Rattle.cg_insert.specs.Insert.{with_net}
use Rattle.cg_insert.proofs.clocked.Enables.of.Goals as goal
use Rattle.cg_insert.proofs.clocked.Enables.of.Goals.{in-Some+in_ok-insert, in_default}

pub loop-number-preserved : goal.loop-number-preserved
loop-number-preserved c =
    let os : List (Option ℕ) = c.args.machine.now.enables in
    let n : ℕ = c.loop-number.number in
    let keys : List ℕ = c.loop-number.nets.keys in
    let below : n < length os = omega (arith, c.loop-number-test.true, c.registers-number-end.ensures, c.netlist-netlist.ensures.machine.enables) in
    let at = element_at os n below in
    let own : c.enable.result ≡ at.0 = c.enable.ensures ∙ (ap (enable_of c.args.machine.now) c.new.ensures ∙ ap option_flatten at.1) in
    elim c.match-enable.branch [
      | in-Some+in_ok-insert w ↦
          let is : at.0 ≡ Some w.in-Some.net = sym own ∙ w.in-Some.is in
          collect_step os n at.0 keys c.match-enable.nets.keys at.1 c.loop-number.invariant
          (ap (λ s. s.keys) w.nets-is ∙ (w.in_ok-insert.ensures.keys ∙ (ap (with_net keys) w.number.ensures.number ∙ ap (with_enable keys) (sym is))))
      | in_default w ↦
          let is : at.0 ≡ None = sym own ∙ w.in_default.is in
          collect_step os n at.0 keys c.match-enable.nets.keys at.1 c.loop-number.invariant (ap (λ s. s.keys) w.nets-is ∙ ap (with_enable keys) (sym is))
    ]
