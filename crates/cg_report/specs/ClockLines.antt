-- What the watcher of clocks counts, and what it says: a line for each clock net.
use Rattle.std.specs.Prelude.{ℕ, ◌+◌, ◌*◌, Bool, not, ◌&&◌, if◌then◌else◌, List, [], ◌∷◌, ◌++◌, codes, map, nat_eq, Option, None, Some}
use Rattle.std.specs.Fmt.{decimal}
use Rattle.std.specs.List.{count_by, flat_map, sum_by}
use Rattle.cg_net.specs.Names.{net_name}
use Rattle.cg_netlist.specs.Circuit.{Circuit, clock_nets}
use Rattle.cg_netlist.specs.Moment.{bit}
use Rattle.cg_report.specs.Counts.{capped}
use Rattle.cg_report.specs.Shown.{Shown}

-- how many registers have this net as their clock net
abbrev pub registers_on : Circuit → ℕ → ℕ
registers_on c net = count_by (λ r. nat_eq r.clock net) c.registers

-- whether a net rises, as the clock net of a register does: it was 0 a moment before, if there was one, and is 1 now
abbrev pub net_rise : ℕ → Option (List Bool) → List Bool → ℕ
net_rise net None now = 0
net_rise net (Some before) now = if not (bit before net) && bit now net then 1 else 0

-- at how many moments a net rises, behind these bits
abbrev pub net_rises_from : ℕ → Option (List Bool) → List Shown → ℕ
net_rises_from net before [] = 0
net_rises_from net before (now ∷ later) = net_rise net before now.nets + net_rises_from net (Some now.nets) later

abbrev pub net_rises : ℕ → List Shown → ℕ
net_rises net moments = net_rises_from net None moments

-- of a clock net its name, how many registers it clocks, and how often it rises
pub record ClockLine : Type 0 where
  pub name : List ℕ
  pub registers : ℕ
  pub rises : ℕ

abbrev pub clock_line : Circuit → List Shown → ℕ → ClockLine
clock_line c moments net =
    record { name = net_name c.names net; registers = registers_on c net; rises = capped (net_rises net moments) }

-- of each clock net: the clock, and then the outputs of gating cells, which a netlist has in net order
abbrev pub clock_lines : Circuit → List Shown → List ClockLine
clock_lines c moments = map (clock_line c moments) (clock_nets c)

-- the edges that lines account for
abbrev pub line_edges : List ClockLine → ℕ
line_edges lines = sum_by (λ line. line.registers * line.rises) lines

abbrev pub clock_text : ClockLine → List ℕ
clock_text line =
    codes "clock " ++ line.name ++ codes " registers " ++ decimal line.registers ++ codes " rises " ++ decimal line.rises

-- lines with an end of line between them, and none behind the last
abbrev pub lines_text : List (List ℕ) → List ℕ
lines_text [] = []
lines_text (line ∷ lines) = line ++ flat_map (λ later. 10 ∷ later) lines

-- what the watcher says; of a netlist without a clock it is nothing
abbrev pub clocks_text : Circuit → List Shown → List ℕ
clocks_text c moments = lines_text (map clock_text (clock_lines c moments))
