use Rattle.std.proofs.Common.{◌≡◌, take}
use Rattle.std.specs.Option.{option_copied}
use Rattle.cg_insert.specs.inner.GatedParts.{gated_registers}
use Rattle.cg_netlist_telling.specs.NamedParts.{clocked_parts}
use Rattle.cg_netlist_telling.specs.Telling.{told}
use Rattle.cg_insert.proofs.clocked.tell_registers.Given as goal

abbrev pub invariant-loop-number : goal.invariant-loop-number
invariant-loop-number l = l.builder ≡ told l.initial.builder (clocked_parts l.names (take l.number (gated_registers (option_copied l.gating.test) l.gating.machine.now)))
