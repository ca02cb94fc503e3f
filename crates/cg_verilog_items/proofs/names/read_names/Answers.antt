use Rattle.std.proofs.Common.{refl, subst}
use Rattle.cg_verilog_text.specs.Reading.{name, separated}
use Rattle.cg_verilog_expression.specs.Readings.{Stops}
use Rattle.cg_verilog_expression.proofs.Parting.{begins_empty, stops_whole}
use Rattle.cg_verilog_expression.proofs.Shorter.{name_shorter}
use Rattle.cg_verilog_items.proofs.names.read_names.Goals as goal

pub names-init : goal.names-init
names-init c = record { left = begins_empty 44 (λ _. name) (λ _. name_shorter) c.new-names.result c.args.reading.now.0 c.new-names.ensures; end = refl }

pub returns-in-Err-clause-left : goal.returns-in-Err-clause-left
returns-in-Err-clause-left c =
    subst (λ end. Stops end (separated 44 name c.args.reading.now.0) c.in-Err.stop) c.names.invariant.end
    (stops_whole 44 (λ _. name) (λ _. name_shorter) c.names.reading.1 c.names.names c.names.reading.0 (separated 44 name c.args.reading.now.0) c.in-Err.stop c.names.invariant.left c.in-Err.ensures.left)
