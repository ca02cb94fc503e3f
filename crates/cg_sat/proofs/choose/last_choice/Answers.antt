use Rattle.std.proofs.Common.{◌≡◌, false, Some, arith, subst}
use Rattle.std.proofs.lemmas.Option.{slice_get_within}
use Rattle.cg_formula.specs.declared.formula.Clause.{Clause}
use Rattle.cg_formula.specs.Satisfiable.{clause_bit}
use Rattle.cg_sat_state.specs.Trail.{lits_of}
use Rattle.cg_sat.specs.inner.Search.{IsUnsatisfied}
use Rattle.cg_sat_state.specs.Store.{clause_at}
use Rattle.cg_sat.proofs.Chosen.{clause_named, open_by_bits}
use Rattle.cg_sat.proofs.choose.last_choice.Goals as goal

pub at-requires : goal.at-requires
at-requires c =
    let formula = c.args.problem.now.formula.now in
    let u : IsUnsatisfied c.in_ok-bits.bits.items formula c.in-Some.place = subst (λ bs. IsUnsatisfied bs formula c.in-Some.place) c.as_slice.ensures.value c.in-Some.ensures in
    slice_get_within formula.clauses c.in-Some.place u.clause u.is

pub returns-in-Some-open_lit : goal.returns-in-Some-open_lit
returns-in-Some-open_lit c =
    let formula = c.args.problem.now.formula.now in
    let place = c.in-Some.place in
    let lit = c.in-Some-open_lit.lit in
    let lits = c.at.result.now in
    let clause : Clause = record { lits = lits } in
    let u : IsUnsatisfied c.in_ok-bits.bits.items formula place = subst (λ bs. IsUnsatisfied bs formula place) c.as_slice.ensures.value c.in-Some.ensures in
    let at = c.at.ensures.clause in
    let same : u.clause ≡ clause = cc (u.is, at) in
    let off : clause_bit c.in_ok-bits.bits.items clause ≡ false = subst (λ (cl : Clause). clause_bit c.in_ok-bits.bits.items cl ≡ false) same u.off in
    let among = c.in-Some-open_lit.ensures.0 in
    let named = clause_named formula place clause lit c.requires.formula at among in
    let whole : clause_at c.args.clauses.now place ≡ Some lits = c.requires.prefix.all place clause at in (
      open_by_bits (lits_of c.args.trail.now) c.in_ok-bits.bits.items lits lit c.in_ok-bits.ensures.bits named.0 (omega (arith, named.1, c.in_ok-bits.ensures.long)) off among c.in-Some-open_lit.ensures.1,
      c.requires.search.named.in_clauses place lits lit whole among,
      named.0,
    )

pub returns : goal.returns
returns c = record {
  clause = c.at.result.now;
  is = c.requires.prefix.all c.in-Some.place (record { lits = c.at.result.now }) c.at.ensures.clause;
  off = c.in-None.ensures;
}
