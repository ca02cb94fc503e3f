use Rattle.std.proofs.Common.{◌≡◌, ◌+◌, take, sym, ◌∙◌, ap, ◌++◌, [], ◌∷◌, Some}
use Rattle.std.proofs.lemmas.Option.{slice_get-get_or}
use Rattle.cg_net.proofs.TableLemmas.{take_next}
use Rattle.cg_register_text.proofs.SeenTrials.{noted_more}
use Rattle.cg_register_text.proofs.seen.note_all.Goals as goal

pub regs-preserved : goal.regs-preserved
regs-preserved c =
    let regs = c.args.regs.now in
    let k = c.regs.reg-index in
    let q = c.reg-item.result in
    let more : take (k + 1) regs ≡ take k regs ++ q ∷ [] = take_next regs k q (slice_get-get_or regs k q c.regs-test.true ∙ ap Some (sym c.reg-item.is)) in
    rw (more, c.in_ok-note_at.ensures) (noted_more c.args.number c.args.inserted (take k regs) q c.args.seen.now c.regs.seen c.regs.invariant)
