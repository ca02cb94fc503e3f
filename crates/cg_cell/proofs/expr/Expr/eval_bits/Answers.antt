use Rattle.std.proofs.Common.{◌∙◌, sym}
use Rattle.cg_cell.specs.Bits.{no_pairs}
use Rattle.cg_cell.specs.Expr.{term_of}
use Rattle.cg_cell.proofs.BitsEvals.{bits_term, bits_valid}
use Rattle.cg_cell.proofs.Terms.{says_term}
use Rattle.cg_cell.proofs.expr.Expr.eval_bits.Goals as goal

pub eval-requires-clause-valid : goal.eval-requires-clause-valid
eval-requires-clause-valid c = bits_valid c.args.bits.now

pub returns : goal.returns
returns c =
    bits_term c.args.bits.now (term_of c.args.self.now) no_pairs c.in-Ok.bit c.in-Ok.ensures.built
    ∙ sym ((says_term c.args.self.now).value c.args.bits.now)
