use Rattle.std.proofs.Common.{◌≡◌, List, ◌++◌, Some, map, slice_get, refl, ◌∙◌, ap}
use Rattle.std.proofs.lemmas.Option.{slice_get_read}
use Rattle.cg_machine.specs.Claims.{Literal}
use Rattle.cg_unroll_cycles.proofs.Reaching.{flat_more}
use Rattle.cg_unroll_cycles.proofs.asked.push_condition.Goals as goal

pub loop-term-preserved : goal.loop-term-preserved
loop-term-preserved c =
    let terms : List (List Literal) = c.args.terms.now in
    let at : slice_get terms c.loop-term.term-index ≡ Some c.term-item.result = slice_get_read terms _ c.loop-term.term-index c.term-item.result refl c.loop-term-test.true c.term-item.is in
    flat_more (map (λ (l : Literal). l.0)) terms c.args.nets.now.items c.loop-term.nets.items c.push_enables.new.roots.items c.loop-term.term-index c.term-item.result at
    (c.in_ok-push_enables.ensures ∙ ap (λ (ls : List Literal). c.loop-term.nets.items ++ map (λ (l : Literal). l.0) ls) c.as_slice.ensures.parts) c.loop-term.invariant
