use Rattle.std.proofs.Common.{◌≡◌, Some, is_some, slice_get, refl, sym, ◌∙◌, ap}
use Rattle.std.proofs.lemmas.Option.{slice_get_read}
use Rattle.cg_machine.specs.Machine.{enable_of}
use Rattle.cg_hints.proofs.Adding.{found_here, found_on}
use Rattle.cg_hints.proofs.cells.first_taken.Goals as goal

pub returns-then-is_some : goal.returns-then-is_some
returns-then-is_some c =
    let regs = c.args.regs.now in
    let i = c.loop-reg.reg-index in
    let r = c.reg-item.result in
    let at : slice_get regs i ≡ Some r = slice_get_read regs _ i r refl c.loop-reg-test.true c.reg-item.is in
    sym (sym c.loop-reg.invariant ∙ found_here (λ k. is_some (enable_of c.args.machine.now k)) regs i r at (ap is_some (sym c.enable.ensures) ∙ (sym c.is_some.ensures ∙ c.if-is_some.true)))

pub loop-reg-preserved : goal.loop-reg-preserved
loop-reg-preserved c =
    let regs = c.args.regs.now in
    let i = c.loop-reg.reg-index in
    let r = c.reg-item.result in
    let at : slice_get regs i ≡ Some r = slice_get_read regs _ i r refl c.loop-reg-test.true c.reg-item.is in
    sym (found_on (λ k. is_some (enable_of c.args.machine.now k)) regs i r at (ap is_some (sym c.enable.ensures) ∙ (sym c.is_some.ensures ∙ c.if-is_some.false))) ∙ c.loop-reg.invariant
