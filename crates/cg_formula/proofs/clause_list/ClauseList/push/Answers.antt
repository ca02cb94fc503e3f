use Rattle.std.proofs.Common.{◌≡◌, ◌+◌, ◌++◌, length, length-append, arith}
use Rattle.cg_formula.proofs.ClauseLists.{ends_pushed, clauses_pushed}
use Rattle.cg_formula.proofs.clause_list.ClauseList.push.Goals as goal

pub invariant_of-self-in-Ok : goal.invariant_of-self-in-Ok
invariant_of-self-in-Ok c =
    let lits = c.self.inside.lits.items in
    let more = c.args.lits.now in
    let long : length (lits ++ more) ≡ length lits + length more = length-append lits more in
    rw (c.in-Ok.ensures, c.as_slice.ensures.value, c.in_ok-extend_from_slice.ensures.items)
    (ends_pushed 0 (length lits) (length (lits ++ more)) c.self.inside.ends.items c.self.invariant (omega (arith, long)))

pub returns-in-Ok : goal.returns-in-Ok
returns-in-Ok c =
    let lits = c.self.inside.lits.items in
    let more = c.args.lits.now in
    rw (c.in-Ok.ensures, c.as_slice.ensures.value, c.in_ok-extend_from_slice.ensures.items, ← c.self.view_is)
    (record { clauses = clauses_pushed 0 lits more (length (lits ++ more)) c.self.inside.ends.items c.self.invariant (length-append lits more) })
