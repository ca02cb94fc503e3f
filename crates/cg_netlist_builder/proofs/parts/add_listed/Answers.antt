use Rattle.std.proofs.Common.{◌++◌, ◌∷◌, [], take, sym, ◌∙◌, ap, append_assoc}
use Rattle.cg_net.proofs.TableLemmas.{take_next}
use Rattle.cg_netlist_builder.proofs.parts.add_listed.Goals as goal

pub loop-place-preserved : goal.loop-place-preserved
loop-place-preserved c =
    c.in_ok-push.ensures.items ∙ (ap (λ xs. xs ++ c.net.result ∷ []) c.loop-place.invariant
    ∙ (append_assoc c.args.nets.now.items (take c.loop-place.place c.args.set.now) (c.net.result ∷ [])
    ∙ ap (λ xs. c.args.nets.now.items ++ xs) (sym (take_next c.args.set.now c.loop-place.place c.net.result c.net.ensures))))
