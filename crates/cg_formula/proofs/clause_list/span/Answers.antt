use Rattle.cg_formula.proofs.ClauseLists.{stands_at}
use Rattle.cg_formula.proofs.clause_list.span.Goals as goal

pub returns : goal.returns
returns c =
    let here = stands_at 0 c.args.count c.args.ends.now c.args.place c.requires.ends c.requires.place in
    rw c.start-from.ensures (record { ordered = here.ordered; within = here.within; stands = here.is })
