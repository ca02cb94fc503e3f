use Rattle.std.proofs.Common.{◌∙◌, ap, sym}
use Rattle.cg_vcd.specs.inner.Sampling.{begun_by}
use Rattle.cg_vcd.specs.inner.Values.{Begun, all_rows, kept}
use Rattle.cg_vcd.proofs.ChangesReadOn.{change_read_on, same_begun}
use Rattle.cg_vcd.proofs.sampler.Sampler.take.Goals as goal

pub returns-clause-rows : goal.returns-clause-rows
returns-clause-rows c = λ later.
    change_read_on c.args.self.now.inputs.items c.args.self.now.clock (begun_by c.args.self.now) c.args.self.now.stimulus.rows c.args.change later
    ∙ ap (λ (b : Begun). all_rows c.args.self.now.inputs.items c.args.self.now.clock b c.args.self.now.stimulus.rows later)
    (same_begun _ _ _ _ _ _ (ap kept (sym c.in_ok-give.ensures.before)) (sym c.in_ok-give.ensures.latest) (sym c.line_after-self.ensures))
