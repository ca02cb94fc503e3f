use Rattle.std.proofs.Common.{ap, length, arith}
use Rattle.cg_formula.proofs.ClauseLists.{count_of}
use Rattle.cg_formula.proofs.clause_list.ClauseList.len.Goals as goal

pub returns : goal.returns
returns c =
    let count = count_of 0 c.self.inside.lits.items c.self.inside.ends.items in
    record { count = omega (arith, count, ap length c.self.view_is, ap length c.as_slice.ensures.value) }
