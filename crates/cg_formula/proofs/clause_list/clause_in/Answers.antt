use Rattle.cg_formula.proofs.clause_list.clause_in.Goals as goal

pub returns : goal.returns
returns c = c.span-from.ensures.stands c.args.lits.now
