use Rattle.std.proofs.Common.{◌≡◌, ◌+◌, Some, refl, slice_get, slice_index_or, sym, ◌∙◌, ap, subst}
use Rattle.std.proofs.lemmas.Option.{slice_get_read}
use Rattle.cg_machine.specs.Claims.{Literal}
use Rattle.cg_hold.specs.inner.Choosing.{IsLiteralOf}
use Rattle.cg_hold.proofs.Marked.{MarkedTo, marked_more}
use Rattle.cg_hold.proofs.trial.marks_of.Goals as goal

pub show_move-moves-requires-clause-net : goal.show_move-moves-requires-clause-net
show_move-moves-requires-clause-net c =
    let look = c.args.look.now in
    let literals = look.literals.now in
    let place = c.loop-place.place in
    let l : Literal = c.index-look-place.result in
    let at : slice_get literals place ≡ Some l = slice_get_read literals _ place l refl c.loop-place-test.true c.index-look-place.is in
    (subst (IsLiteralOf look.search.now.machine.now look.reg) c.index-look-place.is (c.requires.look.literals_of place l at)).1

pub loop-place-preserved : goal.loop-place-preserved
loop-place-preserved c =
    let look = c.args.look.now in
    let m = look.search.now.machine.now in
    let literals = look.literals.now in
    let place = c.loop-place.place in
    let l : Literal = c.index-look-place.result in
    let at : slice_get literals place ≡ Some l = slice_get_read literals _ place l refl c.loop-place-test.true c.index-look-place.is in
    subst (λ marks. MarkedTo m look.reg literals marks (place + 1)) (sym c.in_ok-push.ensures.items)
    (marked_more m look.reg literals c.loop-place.marks.items place (slice_index_or literals place l) c.show_move-moves.result (at ∙ ap (λ (k : Literal). Some k) c.index-look-place.is) c.show_move-moves.ensures c.loop-place.invariant)
