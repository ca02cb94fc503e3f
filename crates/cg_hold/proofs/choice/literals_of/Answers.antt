use Rattle.std.proofs.Common.{◌≡◌, IfOk, List, ap, sym, ◌∙◌, subst}
use Rattle.std.specs.Option.{option_copied}
use Rattle.cg_stage_list_laws.specs.Literals.{both_literals, by_count}
use Rattle.cg_machine.specs.Claims.{Literal}
use Rattle.cg_hold.proofs.Ranked.{by_none}
use Rattle.cg_hold.proofs.choice.literals_of.Goals as goal

pub returns-in-None : goal.returns-in-None
returns-in-None c =
    let nets = c.args.nets.now in
    let whole : both_literals nets ≡ by_count (option_copied c.args.counts) (both_literals nets) = sym (by_none (both_literals nets)) ∙ ap (λ o. by_count (option_copied o) (both_literals nets)) (sym c.in-None.is) in
    subst (λ (l : List Literal). IfOk c.both.result (λ literals. literals.items ≡ l)) whole c.both.ensures
