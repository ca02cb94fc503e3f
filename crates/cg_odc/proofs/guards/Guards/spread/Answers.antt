use Rattle.std.proofs.Common.{◌≡◌, ◌+◌, ◌&&◌, Some, not, nat_eq, take, slice_get, refl, ◌∙◌, arith}
use Rattle.std.proofs.lemmas.Option.{slice_get_read}
use Rattle.cg_net.specs.NetSets.{is_in}
use Rattle.cg_odc.specs.inner.Guarding.{list_at}
use Rattle.cg_odc.proofs.Lists.{in_taken, spread_three}
use Rattle.cg_odc.proofs.guards.Guards.spread.Goals as goal

pub loop-under-preserved : goal.loop-under-preserved
loop-under-preserved c =
    let regs = c.args.registers.now in
    let i = c.loop-under.under-index in
    let u = c.under-item.result in
    let at : slice_get regs i ≡ Some u = slice_get_read regs _ i u refl c.loop-under-test.true c.under-item.is in
    record {
      count = c.in_ok-put_apart.ensures.count ∙ c.loop-under.invariant.count;
      each = λ g within q.
          spread_three (is_in (list_at c.args.self.now.lists.items g) q) (is_in (list_at c.loop-under.self.lists.items g) q) (is_in (list_at c.put_apart.new.self.lists.items g) q)
          (is_in (take i regs) g) (nat_eq g u) (is_in (take (i + 1) regs) g) (not (nat_eq g c.args.reg) && not (nat_eq g c.args.guard)) (nat_eq q c.args.guard)
          (in_taken regs i u g at) (c.loop-under.invariant.each g within q) (c.in_ok-put_apart.ensures.each g (let e = c.loop-under.invariant.count in omega (arith, e, within)) q);
    }
