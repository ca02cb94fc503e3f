use Rattle.std.proofs.Common.{◌≡◌, take}
use Rattle.std.specs.List.{flat_map}
use Rattle.cg_claim.specs.Reach.{next_nets}
use Rattle.cg_hold_widths.specs.inner.Marked.{next_nets_at}
use Rattle.cg_hold_widths.specs.inner.Masks.{AreMasks}
use Rattle.cg_hold_widths.proofs.roots.roots.Given as goal

abbrev pub invariant-loop-place : goal.invariant-loop-place
invariant-loop-place l = record {
  roots : l.roots.items ≡ flat_map (next_nets l.machine) (take l.place l.regs);
  masks : AreMasks (next_nets_at l.machine (take l.place l.regs)) l.masks;
}
