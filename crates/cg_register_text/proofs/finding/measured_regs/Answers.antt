use Rattle.std.proofs.Common.{◌≡◌, ◌++◌, ◌∷◌, [], ℕ, Bool, if◌then◌else◌, ap, sym, ◌∙◌}
use Rattle.cg_register_text.specs.Causes.{Tried}
use Rattle.cg_register_text.specs.Words.{tried_of}
use Rattle.cg_register_text.specs.inner.Finding.{is_measured}
use Rattle.cg_register_text.proofs.Measured.{filter_more}
use Rattle.cg_register_text.proofs.finding.measured_regs.Goals as goal

pub loop-number-preserved : goal.loop-number-preserved
loop-number-preserved c =
    let t : Tried = tried_of c.args.told.now in
    let n : ℕ = c.loop-number.number in
    let test : ℕ → Bool = is_measured t in
    c.in_ok-push_measured.ensures
    ∙ (ap (λ r. if test r then c.loop-number.regs.items ++ r ∷ [] else c.loop-number.regs.items) c.new.ensures
    ∙ (ap (λ l. if test n then l ++ n ∷ [] else l) c.loop-number.invariant
    ∙ sym (filter_more test n)))
