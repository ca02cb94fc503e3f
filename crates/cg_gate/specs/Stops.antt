-- What stops the gating of a netlist.
use Rattle.std.specs.Prelude.{◌≡◌, ℕ, Bool, true, false, List, Option, None, Some}
use Rattle.std.specs.Option.{option_map, option_or}
use Rattle.cg_gate_laws.specs.Gated.{gated_by}
use Rattle.cg_net.specs.Names.{NetName}
use Rattle.cg_netlist.specs.Circuit.{Circuit}
use Rattle.cg_netlist.specs.declared.fault.AddFault.{AddFault}
use Rattle.cg_netlist.specs.declared.fault.AddFault.TheVariants as adding
use Rattle.cg_verilog_out.specs.declared.fault.VerilogOutFault.{VerilogOutFault}
use Rattle.cg_verilog_out.specs.declared.fault.VerilogOutFault.TheVariants as writing
use Rattle.cg_verilog_text.specs.HasText.{bad_name, port_twice}
use Rattle.cg_gate.specs.Request.{RequestData, gating_of, stops_at}
use Rattle.cg_gate.specs.declared.fault.GateFault.{GateFault}
use Rattle.cg_gate.specs.declared.fault.GateFault.TheVariants as faults

-- what keeps a netlist from having a Verilog text: a name that is no name of such texts, or else an output that is an input
abbrev pub no_text : Option (List ℕ) → Option NetName → Option GateFault
no_text (Some name) port = Some (faults.BadName name)
no_text None (Some net) = Some (faults.PortTwice net)
no_text None None = None

-- what keeps a netlist from having the Verilog text that is asked for
abbrev pub verilog_stop : Bool → Circuit → Option GateFault
verilog_stop false c = None
verilog_stop true c = no_text (bad_name c) (port_twice c)

-- what stops gating: the limit at which the plan stops or that the gated netlist would pass, or else what keeps the gated netlist
-- from having the Verilog text that is asked for
abbrev pub gating_stop : RequestData → Circuit → Option GateFault
gating_stop request c =
    option_or (option_map faults.Limit (stops_at request c)) (verilog_stop request.verilog (gated_by (gating_of request c) c))

-- a fault is what stops, or want of memory
abbrev pub GatingMayFail : Option GateFault → GateFault → Type 0
GatingMayFail stop faults.NoMemory = Unit {0}
GatingMayFail stop fault = stop ≡ Some fault

-- the faults of a plan, and those of a Verilog text, as faults of gating
abbrev pub fault_of_limit : AddFault → GateFault
fault_of_limit (adding.Limit limit) = faults.Limit limit
fault_of_limit adding.NoMemory = faults.NoMemory

abbrev pub fault_of_text : VerilogOutFault → GateFault
fault_of_text (writing.BadName name) = faults.BadName name
fault_of_text (writing.PortTwice net) = faults.PortTwice net
fault_of_text writing.NoMemory = faults.NoMemory
