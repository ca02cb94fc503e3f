use Rattle.std.proofs.Common.{◌==◌, sym}
use Rattle.std.proofs.lemmas.List.Sums.{position_or_len_is}
use Rattle.cg_scan.proofs.first.first_at.Goals as goal

pub returns-clause-first : goal.returns-clause-first
returns-clause-first c =
    sym (position_or_len_is (λ b. b == c.args.value) c.args.text.now c.search.result 0 c.search.ensures.within c.search.ensures.before c.search.ensures.ends)
