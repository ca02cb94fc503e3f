use Rattle.std.proofs.Common.{◌≡◌, Err, Result, rules, subst, sym}
use Rattle.cg_netlist.specs.Circuit.{Circuit}
use Rattle.cg_blif_text.specs.declared.fault.BlifFault.{BlifFault}
use Rattle.cg_blif.specs.Resuming.{IsReadFrom}
use Rattle.cg_blif.proofs.NetlistLemmas.{line_first}
use Rattle.cg_blif.proofs.reader.read.Goals as goal

pub returns-in_err-builder : goal.returns-in_err-builder
returns-in_err-builder c =
    let same : c.from_residual.result ≡ Err c.in_err-builder.field-0.0 = search rules in
    let P : Result Circuit BlifFault → Type 0 = λ r. IsReadFrom c.args.text.now c.args.library.now c.args.options.now.clock r in
    subst P (sym same) (line_first c.args.text.now c.args.library.now c.args.options.now.clock c.in_err-builder.field-0.0 c.in_err-builder.ensures)
