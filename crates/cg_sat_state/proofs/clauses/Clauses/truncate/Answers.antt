use Rattle.std.proofs.Common.{sym}
use Rattle.std.proofs.lemmas.List.{take-map}
use Rattle.cg_sat_state.specs.inner.Arena.{held}
use Rattle.cg_sat_state.proofs.clauses.Clauses.truncate.Goals as goal

pub returns : goal.returns
returns c =
    rw (c.truncate.ensures.items, ← c.self.view_is) (sym (take-map (λ span. held c.self.inside.lits.items span) c.args.count c.self.inside.spans.items))
