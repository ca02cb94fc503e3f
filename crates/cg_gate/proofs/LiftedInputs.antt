-- The machine of a netlist has as many data inputs as it.
use Rattle.std.proofs.Common.{◌≡◌, ℕ, List, length, ◌∙◌, ap}
use Rattle.std.proofs.lemmas.List.{length-map}
use Rattle.cg_extract.proofs.Bare.{data_is}
use Rattle.cg_extract.proofs.Lifts.{lifting_lifts}
use Rattle.cg_extract.specs.Lifted.{CanExtract, lifted, number_of}
use Rattle.cg_netlist.specs.Circuit.{Circuit, data_inputs}

pub lifted_inputs : (c : Circuit) (prefix : List ℕ) → CanExtract c prefix → length (data_inputs (lifted c prefix).circuit) ≡ length (data_inputs c)
lifted_inputs c prefix can = ap length ((lifting_lifts c prefix can).extends.inputs ∙ data_is c can.netlist) ∙ length-map (data_inputs c) (number_of c)
