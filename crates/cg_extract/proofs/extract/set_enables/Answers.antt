use Rattle.std.proofs.Common.{◌≡◌, ◌-◌, ℕ, List, Option, None, length, slice_get, replicate, ap, sym, ◌∙◌, subst, arith}
use Rattle.std.specs.Option.{option_flatten}
use Rattle.std.proofs.lemmas.Option.{slice_get-get_or}
use Rattle.cg_machine.specs.Machine.{IsNet, MachineData}
use Rattle.cg_machine.specs.Run.{with_enables}
use Rattle.cg_netlist.specs.Circuit.{RegisterCell}
use Rattle.cg_netlist.specs.View.{register_seen}
use Rattle.cg_extract.proofs.NetPlaces.{clock_within}
use Rattle.cg_extract.proofs.Taking.{enables_all, enables_more, enables_so_far, net_enabled}
use Rattle.cg_extract.specs.inner.Taking.{entry_at, given}
use Rattle.cg_extract.proofs.extract.set_enables.Goals as goal

pub loop-number-init : goal.loop-number-init
loop-number-init c =
    let m : MachineData = c.args.machine.now in
    let n : ℕ = length c.args.netlist.now.registers in
    ap (with_enables m) (c.requires.free ∙ ap (λ k. replicate k None) (let all : n ≡ n - 0 = omega arith in all))

pub bounds-enables-number : goal.bounds-enables-number
bounds-enables-number c =
    let r : RegisterCell ℕ ℕ = register_seen c.register-clock.result in
    let pin = clock_within c.args.netlist.now c.registers-number-end.ensures.netlist c.new-id.result r c.register-clock.ensures in
    omega (arith, pin, c.number.ensures.number, c.requires.table)

pub set_enable-requires-clause-net : goal.set_enable-requires-clause-net
set_enable-requires-clause-net c net is =
    let r : RegisterCell ℕ ℕ = register_seen c.register-clock.result in
    let table : List (Option ℕ) = c.args.enables.now in
    let pin = clock_within c.args.netlist.now c.registers-number-end.ensures.netlist c.new-id.result r c.register-clock.ensures in
    let at : entry_at table c.number.result ≡ c.index-enables-number.result =
    ap option_flatten (slice_get-get_or table c.number.result c.index-enables-number.result (omega (arith, pin, c.number.ensures.number, c.requires.table))) ∙ sym c.index-enables-number.is in
    subst (λ m. IsNet m net) (sym c.loop-number.invariant) (net_enabled c.args.machine.now (enables_so_far table c.args.netlist.now.registers c.loop-number.number) net (c.requires.nets c.number.result net (at ∙ is)))

pub loop-number-preserved : goal.loop-number-preserved
loop-number-preserved c =
    let m : MachineData = c.args.machine.now in
    let registers = c.args.netlist.now.registers in
    let k : ℕ = c.loop-number.number in
    let r : RegisterCell ℕ ℕ = register_seen c.register-clock.result in
    let table : List (Option ℕ) = c.args.enables.now in
    let o : Option ℕ = c.index-enables-number.result in
    let so_far : List (Option ℕ) = enables_so_far table registers k in
    let pin = clock_within c.args.netlist.now c.registers-number-end.ensures.netlist c.new-id.result r c.register-clock.ensures in
    let at : entry_at table c.number.result ≡ o =
    ap option_flatten (slice_get-get_or table c.number.result o (omega (arith, pin, c.number.ensures.number, c.requires.table))) ∙ sym c.index-enables-number.is in
    let is : o ≡ entry_at table r.clock = sym at ∙ ap (entry_at table) c.number.ensures.number in
    c.set_enable.ensures
    ∙ (ap (λ (n : MachineData). with_enables n (given n.enables c.new-id.result o)) c.loop-number.invariant
    ∙ (ap (λ j. with_enables m (given so_far j o)) c.new-id.ensures
    ∙ (ap (λ z. with_enables m (given so_far k z)) is
    ∙ ap (with_enables m) (enables_more table registers k r (ap (slice_get registers) (sym c.new-id.ensures) ∙ c.register-clock.ensures)))))

pub returns : goal.returns
returns c =
    c.loop-number.invariant ∙ ap (with_enables c.args.machine.now) (enables_all c.args.enables.now c.args.netlist.now.registers c.loop-number.number (omega (arith, c.loop-number-test.false, c.registers-number-end.ensures.count)))
