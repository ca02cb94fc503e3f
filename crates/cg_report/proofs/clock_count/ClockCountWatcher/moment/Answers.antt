use Rattle.std.proofs.Common.{◌≡◌, ◌<◌, ◌∙◌, List, ap, sym, subst, length, map, drop}
use Rattle.std.specs.List.{All}
use Rattle.cg_netlist.specs.Circuit.{clock_nets}
use Rattle.cg_netlist.specs.Moment.{bit}
use Rattle.cg_report.specs.Shown.{Shown}
use Rattle.cg_report.specs.declared.clock_count.ClockNet.{ClockNet}
use Rattle.cg_report.specs.inner.ClockCounting.{kept, with_bit}
use Rattle.cg_report.proofs.ClockCounting.{all_kept_on, kept_within}
use Rattle.cg_report.proofs.PlayedOn.{take_front}
use Rattle.cg_report.proofs.clock_count.ClockCountWatcher.moment.Goals as goal

pub take_bits-requires : goal.take_bits-requires
take_bits-requires c =
    let P : List ClockNet → Type 0 = λ clocks. All (λ (clock : ClockNet). clock.net < length c.args.nets.now) clocks in
    subst P (sym c.as_mut_slice.ensures.value) (kept_within c.requires.circuit c.requires.before (length c.args.nets.now) c.args.self.now.clocks.items c.requires.stands_for.0 c.requires.stands_for.1 c.requires.shown.nets)

pub returns-clause-shown : goal.returns-clause-shown
returns-clause-shown c circuit before stands shown =
    let m : Shown = record { clock = c.args._clock; nets = c.args.nets.now; rose = c.args._rose.now } in
    let f : ClockNet → ClockNet = λ (clock : ClockNet). with_bit clock (bit c.args.nets.now clock.net) in
    let old = c.args.self.now.clocks in
    let new = c.take_bits.new.clocks in
    let long : length new ≡ old.len = c.take_bits.auto.clocks ∙ c.as_mut_slice.ensures.len in
    let is : new ≡ map f (map (kept circuit before) (clock_nets circuit)) = c.take_bits.ensures ∙ ap (map f) (c.as_mut_slice.ensures.value ∙ stands.0) in
    (take_front old.len new (drop (length new) old.items) long ∙ (is ∙ all_kept_on circuit before m (clock_nets circuit)), stands.1)
