-- An added gate as its view shows it.
use Rattle.cg_machine.specs.declared.view.GateView.{GateView}
use Rattle.cg_machine.specs.Gates.{AddedGate}

abbrev pub gate_seen : GateView → AddedGate
gate_seen view = record { kind = view.kind; inputs = view.inputs.now; output = view.output }
