-- How a netlist is to be gated, which netlists may be gated so, and what gating is then asked for.
use Rattle.std.specs.Prelude.{ℕ, ◌||◌, if◌then◌else◌, List, [], ◌++◌, codes, slice_get, Option, None, Some, is_some, Result, Ok, Err}
use Rattle.cg_cell.specs.Cell.{CellData}
use Rattle.cg_gate_laws.specs.Gated.{refused_gater}
use Rattle.cg_gate.specs.Request.{RequestData}
use Rattle.cg_hint_laws.specs.declared.hint.Hint.{Hint}
use Rattle.cg_machine.specs.Start.{begins, first_clash}
use Rattle.cg_netlist.specs.Circuit.{Circuit, GatingCell}
use Rattle.cg_net.specs.Names.{NetName, is_known, net_name}
use Rattle.cg_run.specs.declared.refusal.Owner.TheVariants as owners
use Rattle.cg_run.specs.declared.refusal.Trouble.{Trouble}
use Rattle.cg_source.specs.Refused.{refused_for, then_found}
use Rattle.cg_stimulus.specs.Inputs.{Rows}
use Rattle.cg_command_line.specs.declared.options.Options.{Options}
use Rattle.cg_tool.specs.declared.modes.wanted.Wanted.{Wanted}

-- how a netlist is to be gated, by what the options say; gating cells have a test input exactly where one is named, and proofs are
-- kept exactly where a file of them is asked for
abbrev pub wanted_by : Options → Wanted
wanted_by options =
    record {
      prefix = options.prefix;
      test = options.test;
      settings = record options.settings { test = is_some options.test; proof = options.asked.proof };
      asked = options.asked;
    }

-- a netlist with a net whose name begins with the prefix is refused, for the first of them
abbrev pub unprefixed : Circuit → Option ℕ → Result Circuit Trouble
unprefixed c None = Ok c
unprefixed c (Some net) = Err (refused_for owners.Netlist (codes "netlist: prefix taken " ++ net_name c.names net))

-- so is one with a net that has the name of the test input, or may come to have it
abbrev pub untested : List ℕ → Option NetName → Circuit → Result Circuit Trouble
untested prefix None c = Ok c
untested prefix (Some test) c =
    if is_known c.names test || begins prefix test then Err (refused_for owners.Netlist (codes "netlist: test taken " ++ test)) else Ok c

-- so is one with a gating cell that is not lifted, for the first of them
abbrev pub output_name : Circuit → Option (GatingCell ℕ) → NetName
output_name c None = []
output_name c (Some gater) = net_name c.names gater.output

abbrev pub unlifted : Circuit → Option ℕ → Result Circuit Trouble
unlifted c None = Ok c
unlifted c (Some gater) =
    Err (refused_for owners.Netlist (codes "netlist: gating cell " ++ output_name c (slice_get c.gaters gater)))

-- a netlist that may be gated so
abbrev pub gateable : List CellData → Wanted → Circuit → Result Circuit Trouble
gateable library wanted c =
    then_found (unprefixed c (first_clash wanted.prefix c.names))
    (λ c. then_found (untested wanted.prefix wanted.test c) (λ c. unlifted c (refused_gater library wanted.test c)))

-- what gating is asked for, with this stimulus and these hints, where there are some
abbrev pub request_by : List CellData → Wanted → Option Rows → Option (List Hint) → RequestData
request_by library wanted stimulus hints = record {
  library = library;
  settings = wanted.settings;
  prefix = wanted.prefix;
  test = wanted.test;
  stimulus = stimulus;
  hints = hints;
  report = wanted.asked.report;
  verilog = wanted.asked.verilog;
  registers = wanted.asked.registers;
}
