use Rattle.std.proofs.Common.{◌≡◌, Result, Ok, Err, OnOk, sym, ◌∙◌, subst, true}
use Rattle.cg_netlist.specs.inner.Ranking.{IsSound, was_seen}
use Rattle.cg_netlist.proofs.SearchLemmas.{comes_back, passed_over, sets_out}
use Rattle.cg_netlist.proofs.ranks.Ranking.visit.Goals as goal

pub returns-then-has_seen : goal.returns-then-has_seen
returns-then-has_seen c =
    passed_over c.args.fan_in.now c.args.self.now c.args.cell c.requires.visited (sym c.has_seen.ensures ∙ c.if-has_seen.true)

pub climb-requires-clause-sound : goal.climb-requires-clause-sound
climb-requires-clause-sound c =
    subst (IsSound c.args.fan_in.now) (sym c.in_ok-enter.ensures)
    (sets_out c.args.fan_in.now c.args.self.now c.args.cell c.requires.visited c.requires.cell (sym c.has_seen.ensures ∙ c.if-has_seen.false)).sound

joined : {T E P Q R S : Type 0} (r : Result T E) → (P → Q → R → S) → OnOk r P → OnOk r Q → OnOk r R → OnOk r S
joined (Ok x) f p q r = f p q r
joined (Err e) f p q r = tt

pub returns : goal.returns
returns c =
    joined c.climb.result
    (λ sound back kept. comes_back c.args.fan_in.now c.args.self.now c.climb.new.self c.args.cell
    c.requires.visited c.requires.cell (sym c.has_seen.ensures ∙ c.if-has_seen.false)
    sound back (λ j is. kept j (subst (λ s. was_seen s j ≡ true) (sym c.in_ok-enter.ensures) is)))
    c.climb.ensures.sound c.climb.ensures.back c.climb.ensures.seen
