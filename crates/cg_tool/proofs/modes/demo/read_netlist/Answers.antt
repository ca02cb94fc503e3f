use Rattle.std.proofs.Common.{ℕ, List, None, subst, sym, ◌∙◌}
use Rattle.cg_run.specs.Verdict.{Answers}
use Rattle.cg_source.specs.Design.{permitted}
use Rattle.cg_source.specs.declared.netlist.NetlistForm.TheVariants.{Blif}
use Rattle.cg_tool.specs.Wanted.{gateable}
use Rattle.cg_tool.proofs.DemoMeans.{same_lines}
use Rattle.cg_tool.proofs.modes.demo.read_netlist.Goals as goal

pub returns : goal.returns
returns c =
    let A : List ℕ → Type 0 = λ t. Answers (permitted gateable Blif c.args.library.now None c.args.wanted.now t) c.take_permitted.result in
    subst A (c.from_vec-text.ensures ∙ c.in_ok-generated.ensures ∙ sym (same_lines c.args.size)) c.take_permitted.ensures
