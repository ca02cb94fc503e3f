use Rattle.std.proofs.Common.{◌<◌, ℕ, length, ap, sym, ◌∙◌, subst, arith}
use Rattle.std.specs.List.{All}
use Rattle.cg_register_text.specs.Causes.{Tried}
use Rattle.cg_register_text.specs.Words.{GatedData, tried_of}
use Rattle.cg_register_text.specs.inner.Finding.{is_measured}
use Rattle.cg_register_text.proofs.Measured.{filtered_below}
use Rattle.cg_register_text.proofs.finding.causes.Goals as goal

pub of-requires : goal.of-requires
of-requires c = λ k d within.
    let t : Tried = tried_of c.args.told.now in
    let all : All (λ r. r < length t.read.registers) c.deref.result.now = subst (All (λ r. r < length t.read.registers)) (sym (c.deref.ensures.value ∙ c.in_ok-regs.ensures)) (filtered_below (is_measured t) (length t.read.registers)) in
    let low = all k d within in
    let there = c.requires.told.machine in
    let seen = ap (λ (g : GatedData). length g.plan.machine.circuit.registers) c.told.view_is in
    omega (arith, low, there, seen)
