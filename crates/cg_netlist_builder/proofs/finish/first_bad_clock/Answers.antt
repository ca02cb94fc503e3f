use Rattle.std.proofs.Common.{◌||◌, get_or, false, sym, ◌∙◌, ap}
use Rattle.cg_netlist_builder.specs.inner.FirstNet.{marked_before}
use Rattle.cg_netlist_builder.proofs.MarkLemmas.{before_more, good_more, marked_or}
use Rattle.cg_netlist_builder.proofs.finish.first_bad_clock.Goals as goal

pub loop-net-preserved : goal.loop-net-preserved
loop-net-preserved c =
    let clocks = c.args.clocks.now in
    let net = c.loop-net.net in
    record {
      before = ap (λ b. b || get_or clocks net false) c.loop-net.invariant.before ∙ (ap (λ b. marked_before clocks net || b) (sym (marked_or clocks net)) ∙ sym (before_more clocks net));
      good = good_more clocks c.args.inputs.now c.args.used.now net c.loop-net.before c.loop-net.invariant.before (sym c.is_bad.ensures ∙ c.if-is_bad.false) c.loop-net.invariant.good;
    }
