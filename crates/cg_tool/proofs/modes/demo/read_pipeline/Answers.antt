use Rattle.std.proofs.Common.{◌≡◌, None, Ok, subst}
use Rattle.std.proofs.lemmas.Result.{err_from_is_err_and}
use Rattle.cg_source.specs.Design.{permitted}
use Rattle.cg_source.specs.declared.netlist.NetlistForm.TheVariants.{Blif}
use Rattle.cg_tool.specs.Demo.{lines_text}
use Rattle.cg_tool.specs.Wanted.{gateable}
use Rattle.cg_tool.specs.declared.modes.wanted.Wanted.{Wanted}
use Rattle.cg_tool.proofs.DemoMeans.{rows_refused}
use Rattle.cg_tool.proofs.modes.demo.read_pipeline.Goals as goal

pub returns-in_err-stimulus : goal.returns-in_err-stimulus
returns-in_err-stimulus c =
    let p = err_from_is_err_and c.from_residual-in_err-stimulus.result c.from_residual-in_err-stimulus.ensures.1 in
    let G : Wanted → Type 0 = λ w. permitted gateable Blif c.in_ok-library.library None w (lines_text c.args.size) ≡ Ok c.in_ok-netlist.netlist in
    rw (p.1, p.2) (rows_refused c.args.size c.in_ok-library.library c.in_ok-netlist.netlist c.in_err-stimulus.field-0.0 c.in_ok-library.ensures (subst G c.requires c.in_ok-netlist.ensures) c.in_err-stimulus.ensures)
