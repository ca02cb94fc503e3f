use Rattle.std.proofs.Common.{sym, arith}
use Rattle.cg_cell.proofs.Exprs.{parity}
use Rattle.cg_cell.proofs.expr.invert.Goals as goal

pub returns-then-signs-eq0 : goal.returns-then-signs-eq0
returns-then-signs-eq0 c = sym ((parity c.args.signs c.args.bit).even c.if-signs-eq0.true)

pub returns-else-signs-eq0 : goal.returns-else-signs-eq0
returns-else-signs-eq0 c = sym ((parity c.args.signs c.args.bit).odd (omega arith))
