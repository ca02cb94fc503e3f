use Rattle.std.proofs.Common.{◌++◌, ◌∷◌, [], map, sym, ◌∙◌, ap}
use Rattle.std.proofs.lemmas.Iterator.Adapters.{YieldsList-from_vec}
use Rattle.std.proofs.lemmas.Iterator.Consumers.{YieldsList-end}
use Rattle.std.proofs.lemmas.List.{map-append, map-id}
use Rattle.cg_netlist_builder.specs.inner.Numbers.{on_number}
use Rattle.cg_netlist_builder.proofs.order.clocked.Goals as goal

pub loop-register-init : goal.loop-register-init
loop-register-init c = c.in_ok-clocked.ensures.items

pub loop-register-preserved : goal.loop-register-preserved
loop-register-preserved c =
    c.in_ok-push.ensures.items ∙ (ap (λ xs. xs ++ c.on_clock.result ∷ []) c.loop-register.invariant ∙ (ap (λ r. map (on_number c.args.clock.now) c.loop-register.yielded ++ r ∷ []) c.on_clock.ensures
    ∙ sym (map-append (on_number c.args.clock.now) c.loop-register.yielded (c.in-Some.register ∷ []))))

pub returns : goal.returns
returns c =
    let given = c.into_iter-register-iterator.ensures.into_iter_gives in
    let all = YieldsList-end (YieldsList-from_vec {s = c.into_iter-register-iterator.result} c.args.registers.items given.0 (given.1 ∙ c.args.registers.ok.0)) c.loop-register.yielded c.loop-register.register-iterator c.loop-register.yielded_by c.next.result c.next.new.self c.in-None.is c.next.ensures.steps in
    c.loop-register.invariant ∙ ap (map (on_number c.args.clock.now)) (sym (map-id c.loop-register.yielded) ∙ all.0)
