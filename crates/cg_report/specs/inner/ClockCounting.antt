-- What the watcher of clocks keeps of the moments that it was shown.
use Rattle.std.specs.Prelude.{◌≡◌, ◌<◌, ◌+◌, ℕ, Bool, true, not, ◌&&◌, if◌then◌else◌, List, length, map, slice_get, Some, nat_eq, take}
use Rattle.std.specs.List.{All, count_by}
use Rattle.std.specs.Option.{option_map_or}
use Rattle.cg_net.specs.Names.{net_name}
use Rattle.cg_netlist.specs.Circuit.{Circuit, clock_nets}
use Rattle.cg_netlist.specs.Moment.{bit}
use Rattle.cg_report.specs.ClockLines.{ClockLine, net_rises, registers_on}
use Rattle.cg_report.specs.Counts.{capped, last_nets}
use Rattle.cg_report.specs.Shown.{Shown}
use Rattle.cg_report.specs.declared.clock_count.ClockCount.{ClockCount}
use Rattle.cg_report.specs.declared.clock_count.ClockNet.{ClockNet}

-- what is kept of a clock net. Before the first moment it counts as high, so that it does not rise there.
abbrev pub kept : Circuit → List Shown → ℕ → ClockNet
kept c moments net = record {
  net = net;
  name = net_name c.names net;
  registers = registers_on c net;
  high = option_map_or (λ nets. bit nets net) (last_nets moments) true;
  rises = capped (net_rises net moments);
}

-- a clock net that takes this bit at the next moment
abbrev pub with_bit : ClockNet → Bool → ClockNet
with_bit clock now =
    record clock { high = now; rises = if now && not clock.high then capped (clock.rises + 1) else clock.rises }

-- the line of a clock net
abbrev pub line_of : ClockNet → ClockLine
line_of clock = record { name = clock.name; registers = clock.registers; rises = clock.rises }

-- each clock net is kept, and is one of the netlist's nets
abbrev pub Stands : ClockCount → Circuit → List Shown → Type 0
Stands w c moments = (w.clocks.items ≡ map (kept c moments) (clock_nets c)) × All (λ net. net < length c.names) (clock_nets c)

-- for each net how many of the first registers have it as their clock net
pub record AreClocked (c : Circuit) (count : ℕ) (registers : List ℕ) : Type 0 where
  pub long : length registers ≡ length c.names
  pub each : (net : ℕ) → net < length c.names
      → slice_get registers net ≡ Some (count_by (λ r. nat_eq r.clock net) (take count c.registers))
