use Rattle.std.proofs.Common.{◌+◌, ◌*◌, ℕ, subst}
use Rattle.cg_decide.specs.inner.Assignments.{IsPlaceWord}
use Rattle.cg_decide.proofs.Quads.{leaf_is}
use Rattle.cg_decide.proofs.lanes.leaf_quad.Goals as goal

pub returns : goal.returns
returns c = λ s leaf below place.
    let number = c.args.number in
    record {
      first = leaf_is s leaf (4 * number) c.place_word.result below (subst (λ p. IsPlaceWord p (4 * number) c.place_word.result) place c.place_word.ensures);
      second = leaf_is s leaf (4 * number + 1) c.place_word-2.result below (subst (λ p. IsPlaceWord p (4 * number + 1) c.place_word-2.result) place c.place_word-2.ensures);
      third = leaf_is s leaf (4 * number + 2) c.place_word-3.result below (subst (λ p. IsPlaceWord p (4 * number + 2) c.place_word-3.result) place c.place_word-3.ensures);
      fourth = leaf_is s leaf (4 * number + 3) c.place_word-4.result below (subst (λ p. IsPlaceWord p (4 * number + 3) c.place_word-4.result) place c.place_word-4.ensures);
    }
