use Rattle.std.proofs.Common.{◌≡◌, ◌+◌, ◌-◌, ◌<◌, ℕ, Some, length, sym, ◌∙◌, ap, subst, arith}
use Rattle.std.proofs.lemmas.Option.{slice_get-get_or}
use Rattle.cg_netlist.specs.Drivers.{IsDriver}
use Rattle.cg_machine.specs.Machine.{MachineData}
use Rattle.cg_machine.specs.inner.Kept.{grown}
use Rattle.cg_machine.proofs.machine.Machine.driver.Goals as goal

pub returns-else-number-own : goal.returns-else-number-own
returns-else-number-own c =
    let i = c.self.inside in
    let d = c.index.result.now in
    let k : ℕ = c.number-else-number-own.result - c.nets-own.result in
    let number : c.number-else-number-own.result ≡ c.args.net = c.number-else-number-own.ensures.number in
    let first : c.number.result ≡ c.args.net = c.number.ensures.number in
    let own : c.nets-own.result ≡ length i.netlist.names = c.nets-own.ensures.count in
    let whole = ap (λ (m : MachineData). length m.circuit.names) c.self.view_is in
    let within : k < length i.drivers.items = omega (arith, number, first, own, whole, c.requires, c.if-number-own.false, c.self.invariant.added.long) in
    let net : length i.netlist.names + k ≡ c.args.net = omega (arith, number, first, own, c.if-number-own.false) in
    let told : IsDriver (grown i.netlist i.prefix i.gates i.delays) (length i.netlist.names + k) d = c.self.invariant.added.each k d (slice_get-get_or i.drivers.items k d within ∙ ap Some (sym c.index.ensures)) in
    subst (λ (m : MachineData). IsDriver m.circuit c.args.net d) c.self.view_is (subst (λ n. IsDriver (grown i.netlist i.prefix i.gates i.delays) n d) net told)
