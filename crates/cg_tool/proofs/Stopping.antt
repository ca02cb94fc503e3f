-- What is complained of what stops gating.
use Rattle.std.proofs.Common.{Option, Err, ap}
use Rattle.std.specs.Option.{option_map}
use Rattle.cg_gate.specs.Stops.{GatingMayFail}
use Rattle.cg_gate.specs.declared.fault.GateFault.{GateFault}
use Rattle.cg_gate.specs.declared.fault.GateFault.TheVariants as faults
use Rattle.cg_run.specs.Verdict.{Concludes}
use Rattle.cg_run.specs.declared.writing.Output.{Output}
use Rattle.cg_tool.specs.Gate.{gate_trouble}

pub stops_so : (stop : Option GateFault) (gives : Output → Type 0) (fault : GateFault) → GatingMayFail stop fault → Concludes (option_map gate_trouble stop) gives (Err (gate_trouble fault))
stops_so stop gives (faults.Limit limit) is = ap (option_map gate_trouble) is
stops_so stop gives (faults.BadName name) is = ap (option_map gate_trouble) is
stops_so stop gives (faults.PortTwice net) is = ap (option_map gate_trouble) is
stops_so stop gives faults.NoMemory is = tt
