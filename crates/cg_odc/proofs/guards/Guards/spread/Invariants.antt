use Rattle.std.proofs.Common.{◌≡◌, ◌<◌, ◌||◌, ◌&&◌, ℕ, not, nat_eq, length, take}
use Rattle.cg_net.specs.NetSets.{is_in}
use Rattle.cg_odc.specs.inner.Guarding.{list_at}
use Rattle.cg_odc.proofs.guards.Guards.spread.Given as goal

abbrev pub invariant-loop-under : goal.invariant-loop-under
invariant-loop-under l = record {
  count : length l.self.lists.items ≡ length l.initial.self.lists.items;
  each : (g : ℕ) → g < length l.initial.self.lists.items → (q : ℕ)
      → is_in (list_at l.self.lists.items g) q ≡ (is_in (list_at l.initial.self.lists.items g) q || (is_in (take l.under-index l.registers) g && (not (nat_eq g l.reg) && not (nat_eq g l.guard)) && nat_eq q l.guard));
}
