use Rattle.std.proofs.Common.{◌/◌, ◌*◌, arith}
use Rattle.std.proofs.lemmas.Option.{slice_get-get_or}
use Rattle.cg_decide.proofs.Quads.{inverted_is, plain_is}
use Rattle.cg_decide.proofs.lanes.literal_quad.Goals as goal

pub returns-then-literal-eq0 : goal.returns-then-literal-eq0
returns-then-literal-eq0 c = λ s number are.
    let node = c.args.literal / 2 in
    plain_is s c.args.literal number _ c.if-literal-eq0.true
    (are node _ (slice_get-get_or c.args.quads.now node (record { first = 0; second = 0; third = 0; fourth = 0 }) c.requires))

pub returns-else-literal-eq0 : goal.returns-else-literal-eq0
returns-else-literal-eq0 c = λ s number are.
    let node = c.args.literal / 2 in
    inverted_is s c.args.literal number c.inverse.result (omega (arith, c.if-literal-eq0.false))
    (c.inverse.ensures s (2 * node) number
    (are node _ (slice_get-get_or c.args.quads.now node (record { first = 0; second = 0; third = 0; fourth = 0 }) c.requires)))
