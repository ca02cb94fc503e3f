use Rattle.std.proofs.Common.{◌≡◌, ◌+◌, ◌∙◌, sym, ap, length, Some, None, if◌then◌else◌}
use Rattle.cg_report.specs.Counts.{capped, toggled}
use Rattle.cg_report.proofs.Counting.{capped_toggles_on, last_on}
use Rattle.cg_report.proofs.toggle_count.ToggleCountWatcher.moment.Goals as goal

pub returns-clause-shown : goal.returns-clause-shown
returns-clause-shown c circuit before stands shown =
    let before_bits = if c.args.self.now.begun then Some c.args.self.now.last.items else None in
    let more : c.toggled-more.result ≡ toggled before_bits c.args.nets.now = c.toggled-more.ensures ∙ ap (λ bits. toggled (if c.args.self.now.begun then Some bits else None) c.args.nets.now) c.deref.ensures.value in
    let sum : c.saturating_add-self.result ≡ capped (c.args.self.now.toggles + c.toggled-more.result) = c.saturating_add-self.ensures in
    let long : length c.copy_from_slice.new.self.items ≡ length circuit.names = ap length c.copy_from_slice.ensures.items ∙ shown.nets in (
      capped_toggles_on before (record { clock = c.args._clock; nets = c.args.nets.now; rose = c.args._rose.now }) c.args.self.now.toggles c.saturating_add-self.result c.toggled-more.result before_bits
          stands.0 stands.2 more sum,
      long,
      last_on None before (record { clock = c.args._clock; nets = c.args.nets.now; rose = c.args._rose.now }) ∙ ap Some (sym c.copy_from_slice.ensures.items),
    )
