use Rattle.std.proofs.Common.{◌≡◌, ◌++◌, ◌∷◌, [], ℕ, List, true, false, if◌then◌else◌, is_none, ap, sym, ◌∙◌}
use Rattle.cg_register_text.specs.Causes.{Tried}
use Rattle.cg_register_text.specs.Words.{tried_of}
use Rattle.cg_register_text.specs.inner.Finding.{is_measured}
use Rattle.cg_register_text.proofs.finding.push_measured.Goals as goal

pub returns-in-Some : goal.returns-in-Some
returns-in-Some c =
    let t : Tried = tried_of c.args.told.now in
    let old : List ℕ = c.args.regs.now.items in
    let off : is_measured t c.args.reg ≡ false = ap is_none (sym c.seen_cause.ensures ∙ c.in-Some.is) in
    sym (ap (λ b. if b then old ++ c.args.reg ∷ [] else old) off)

pub returns-in_ok-push-in-None : goal.returns-in_ok-push-in-None
returns-in_ok-push-in-None c =
    let t : Tried = tried_of c.args.told.now in
    let old : List ℕ = c.args.regs.now.items in
    let on : is_measured t c.args.reg ≡ true = ap is_none (sym c.seen_cause.ensures ∙ c.in-None.is) in
    c.in_ok-push-in-None.ensures.items ∙ sym (ap (λ b. if b then old ++ c.args.reg ∷ [] else old) on)
