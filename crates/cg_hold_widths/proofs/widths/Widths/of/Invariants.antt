use Rattle.std.proofs.Common.{◌≡◌, ◌≤◌, ◌-◌, length, map, take}
use Rattle.cg_stage_list_laws.specs.HoldList.{hold_width}
use Rattle.cg_hold_widths.proofs.widths.Widths.of.Given as goal

abbrev pub invariant-loop-next : goal.invariant-loop-next
invariant-loop-next l = record {
  within : l.next ≤ length l.regs;
  widths : l.widths.items ≡ map (hold_width l.machine) (take l.next l.regs);
}

abbrev pub decreases-loop-next : goal.decreases-loop-next
decreases-loop-next l = length l.regs - l.next
