use Rattle.std.proofs.Common.{◌≡◌, arith}
use Rattle.cg_formula.proofs.ClauseLists.{starts_first, starts_later}
use Rattle.cg_formula.proofs.clause_list.start.Goals as goal

pub returns-then-place-eq0 : goal.returns-then-place-eq0
returns-then-place-eq0 c = let first : c.args.place ≡ 0 = omega arith in rw first (starts_first 0 c.args.ends.now)

pub returns : goal.returns
returns c = starts_later 0 c.args.ends.now c.args.place (omega arith) c.requires
