use Rattle.std.proofs.Common.{subst, IfErr}
use Rattle.std.specs.Prelude.{false}
use Rattle.std.specs.Option.{option_map_or}
use Rattle.cg_aig.specs.Aig.{aig_ops}
use Rattle.cg_aig.proofs.RunsFit.{aig_growing}
use Rattle.cg_cell.proofs.RunsGrow.{grows_term}
use Rattle.cg_cell.specs.Eval.{build_term}
use Rattle.cg_cell.specs.Expr.{term_of}
use Rattle.cg_cell.specs.Term.{Bit}
use Rattle.cg_unroll.specs.Building.{MayFail}
use Rattle.cg_unroll.proofs.Building.{if_err, stops_fails}
use Rattle.cg_unroll.proofs.next.build_register.Goals as goal

pub returns-in-Some-clause-failed : goal.returns-in-Some-clause-failed
returns-in-Some-clause-failed c =
    subst (λ o. IfErr c.expression.result (λ fault. MayFail (build_term aig_ops c.args.inputs.now (option_map_or (λ t. t) o (Bit false)) c.args.aig.now).domain fault)) c.in-Some.ensures.function
    (if_err _ _ c.expression.result (λ fault h. stops_fails c.args.aig.now c.expression.new.self (build_term aig_ops c.args.inputs.now (term_of c.in-Some.function.now) c.args.aig.now) fault
    (grows_term aig_ops aig_growing (term_of c.in-Some.function.now) c.args.inputs.now c.args.aig.now) h) c.expression.ensures.stopped)
