use Rattle.std.proofs.Common.{◌≡◌, Err, Result, rules, subst, sym}
use Rattle.cg_netlist.specs.Circuit.{Circuit}
use Rattle.cg_verilog_text.specs.declared.fault.VerilogFault.{VerilogFault}
use Rattle.cg_verilog.specs.Reads.{IsReadFrom}
use Rattle.cg_verilog.proofs.NetlistLemmas.{built_first, finished}
use Rattle.cg_verilog.proofs.reader.read.Goals as goal

pub returns-in_err-builder : goal.returns-in_err-builder
returns-in_err-builder c =
    let same : c.from_residual.result ≡ Err c.in_err-builder.field-0.0 = search rules in
    let P : Result Circuit VerilogFault → Type 0 = λ r. IsReadFrom c.args.text.now c.args.library.now c.args.options.now.clock r in
    subst P (sym same) (built_first c.args.text.now c.args.library.now c.args.options.now.clock c.in_err-builder.field-0.0 c.in_err-builder.ensures.built)

pub returns : goal.returns
returns c = finished c.args.text.now c.args.library.now c.args.options.now.clock c.in_ok-builder.builder c.finish.result c.in_ok-builder.ensures.named c.in_ok-builder.ensures.built.1 c.finish.ensures
