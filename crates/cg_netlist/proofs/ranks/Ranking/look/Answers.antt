use Rattle.std.proofs.Common.{◌≡◌, ℕ, ◌<◌, List, Option, Some, length, is_some, sym, ap, ◌∙◌, arith, subst}
use Rattle.std.proofs.lemmas.List.Sums.{count_by-le-length}
use Rattle.cg_netlist.specs.inner.Ranking.{entry}
use Rattle.cg_netlist.proofs.SearchSteps.{top_stacked, top_within}
use Rattle.cg_netlist.proofs.ranks.Ranking.look.Goals as goal

pub of-requires : goal.of-requires
of-requires c = top_within c.args.fan_in.now c.args.self.now c.args.progress.now c.requires.sound

pub look_on-requires-clause-ranks : goal.look_on-requires-clause-ranks
look_on-requires-clause-ranks c =
    let P : List (Option ℕ) → Type 0 = λ ranks. (k rank : ℕ) → entry ranks k ≡ Some rank → rank < length ranks in
    subst P (sym (c.deref.ensures.value ∙ ap (λ s. s.ranks) c.self.view_is))
    (λ k rank is. omega (arith, c.requires.sound.small k rank is, count_by-le-length is_some c.args.self.now.ranks))

pub look_on-requires-clause-looked : goal.look_on-requires-clause-looked
look_on-requires-clause-looked c =
    rw (c.deref.ensures.value, c.of.ensures, ap (λ s. s.ranks) c.self.view_is)
    (top_stacked c.args.fan_in.now c.args.self.now c.args.progress.now c.requires.sound).looked
