use Rattle.std.proofs.Common.{◌≡◌, Some, refl, slice_get, slice_index_or, sym, ◌∙◌, ap, subst}
use Rattle.std.proofs.lemmas.Option.{slice_get_read}
use Rattle.cg_machine.specs.Claims.{Literal}
use Rattle.cg_hold.specs.inner.Choosing.{IsLiteralOf}
use Rattle.cg_hold.specs.inner.Looking.{AreMarked}
use Rattle.cg_hold.proofs.Marked.{marked_at}
use Rattle.cg_hold.proofs.trial.mark.Goals as goal
use Rattle.cg_hold.proofs.trial.mark.Goals.{then-not-marked, else-not-marked}

pub show_move-moves-requires-clause-literal : goal.show_move-moves-requires-clause-literal
show_move-moves-requires-clause-literal c =
    let look = c.args.look.now in
    let literals = look.literals.now in
    let place = c.loop-place.place in
    let l : Literal = c.index-look-place.result in
    let at : slice_get literals place ≡ Some l = slice_get_read literals _ place l refl c.loop-place-test.true c.index-look-place.is in
    subst (IsLiteralOf look.search.now.machine.now look.reg) c.index-look-place.is (c.requires.look.literals_of place l at)

pub loop-place-preserved : goal.loop-place-preserved
loop-place-preserved c =
    let look = c.args.look.now in
    let m = look.search.now.machine.now in
    let literals = look.literals.now in
    let place = c.loop-place.place in
    elim c.if-not-marked.branch [
      | then-not-marked w ↦
          let l : Literal = w.index-look-place.result in
          let at : slice_get literals place ≡ Some l = slice_get_read literals _ place l refl c.loop-place-test.true w.index-look-place.is in
          marked_at m look.reg literals c.loop-place.marks c.if-not-marked.marks place (slice_index_or literals place l) w.show_move-moves.result (at ∙ ap (λ (k : Literal). Some k) w.index-look-place.is) w.show_move-moves.ensures w.marks-is c.loop-place.invariant
      | else-not-marked w ↦ subst (AreMarked m look.reg literals) (sym w.marks-is) c.loop-place.invariant
    ]
