use Rattle.std.proofs.Common.{◌≡◌, ℕ, Some, slice_get, refl, ap, sym, ◌∙◌, subst, arith}
use Rattle.std.proofs.lemmas.List.{length-map}
use Rattle.cg_netlist.proofs.Values.{element_at}
use Rattle.cg_netlist_telling.proofs.OwnPart.{own_part}
use Rattle.cg_netlist_telling.proofs.ToldParts.{end_at, may_at, told_at}
use Rattle.cg_netlist_telling.specs.NamedParts.{clocked_part}
use Rattle.cg_netlist_telling.specs.Telling.{MayTell, told}
use Rattle.cg_extract.proofs.BareParts.{register_at}
use Rattle.cg_extract.specs.Lifted.{on_clock, ungated}
use Rattle.cg_extract.proofs.extract.tell_registers.Goals as goal

pub tell_on_clock-requires-clause-parts : goal.tell_on_clock-requires-clause-parts
tell_on_clock-requires-clause-parts c =
    let d = c.args.netlist.now in
    let names = c.args.names.now in
    let n : ℕ = c.loop-number.number in
    let clock : ℕ = c.clock_or_first-clock.result in
    let r = element_at d.registers n (omega (arith, c.loop-number-test.true, c.registers-number-end.ensures.count)) in
    let at : slice_get d.registers c.new.result ≡ Some r.0 = ap (slice_get d.registers) c.new.ensures ∙ r.1 in
    subst (MayTell c.loop-number.builder) (sym (own_part names (Some clock) (slice_get d.registers c.new.result) r.0 clock at refl))
    (may_at (clocked_part names) c.args.builder.now c.loop-number.builder (ungated d).registers n (record r.0 { clock = clock }) (register_at d n r.0 clock r.1 c.clock_or_first-clock.ensures) c.requires c.loop-number.invariant)

pub loop-number-preserved : goal.loop-number-preserved
loop-number-preserved c =
    let d = c.args.netlist.now in
    let names = c.args.names.now in
    let n : ℕ = c.loop-number.number in
    let clock : ℕ = c.clock_or_first-clock.result in
    let r = element_at d.registers n (omega (arith, c.loop-number-test.true, c.registers-number-end.ensures.count)) in
    let at : slice_get d.registers c.new.result ≡ Some r.0 = ap (slice_get d.registers) c.new.ensures ∙ r.1 in
    told_at (clocked_part names) c.args.builder.now c.loop-number.builder c.tell_on_clock.new.builder (ungated d).registers n (record r.0 { clock = clock }) (register_at d n r.0 clock r.1 c.clock_or_first-clock.ensures) c.loop-number.invariant
    (c.in_ok-tell_on_clock.ensures ∙ ap (told c.loop-number.builder) (own_part names (Some clock) (slice_get d.registers c.new.result) r.0 clock at refl))

pub returns : goal.returns
returns c =
    let d = c.args.netlist.now in
    end_at (clocked_part c.args.names.now) c.args.builder.now c.loop-number.builder (ungated d).registers c.loop-number.number
    (let long = length-map d.registers (on_clock d) in omega (arith, long, c.loop-number-test.false, c.registers-number-end.ensures.count)) c.loop-number.invariant
