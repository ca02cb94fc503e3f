use Rattle.std.proofs.Common.{◌≡◌, ◌+◌, suc, true, arith}
use Rattle.cg_formula.specs.declared.formula.Clause.{Clause}
use Rattle.cg_formula.specs.Satisfiable.{clause_bit}
use Rattle.cg_sat.proofs.Chosen.{clause_named, satisfied_more}
use Rattle.cg_sat.proofs.choose.unsatisfied.Goals as goal

pub is_satisfied-requires : goal.is_satisfied-requires
is_satisfied-requires c lit e =
    let named = clause_named c.args.formula.now c.loop-place.place (record { lits = c.at.result.now }) lit c.requires.formula c.at.ensures.clause e in
    (named.0, omega (arith, named.1, c.requires.long))

pub loop-place-preserved : goal.loop-place-preserved
loop-place-preserved c =
    let clause : Clause = record { lits = c.at.result.now } in
    let on : clause_bit c.args.bits.now clause ≡ true = cc in
    let next : c.loop-place.place + 1 ≡ suc c.loop-place.place = omega arith in
    rw next (satisfied_more c.args.bits.now c.args.formula.now.clauses c.loop-place.place clause c.at.ensures.clause on c.loop-place.invariant)

pub returns-then-not-is_satisfied : goal.returns-then-not-is_satisfied
returns-then-not-is_satisfied c = record { clause = record { lits = c.at.result.now }; is = c.at.ensures.clause; off = cc }
