use Rattle.std.proofs.Common.{subst, sym, IfErr}
use Rattle.std.specs.Prelude.{false}
use Rattle.std.specs.Option.{option_map_or}
use Rattle.cg_aig.specs.Aig.{aig_ops}
use Rattle.cg_aig.proofs.RunsFit.{aig_growing}
use Rattle.cg_cell.proofs.RunsGrow.{grows_term}
use Rattle.cg_cell.specs.Eval.{build_term}
use Rattle.cg_cell.specs.EvalCover.{cover_term}
use Rattle.cg_cell.specs.Expr.{term_of}
use Rattle.cg_cell.specs.Term.{Bit}
use Rattle.cg_netlist.specs.View.{function_seen}
use Rattle.cg_claim.specs.Build.{function_term}
use Rattle.cg_unroll.specs.Building.{MayFail}
use Rattle.cg_unroll.proofs.Building.{if_err, stops_fails}
use Rattle.cg_unroll.proofs.lay.build_function.Goals as goal

pub returns-in-Cover-clause-failed : goal.returns-in-Cover-clause-failed
returns-in-Cover-clause-failed c =
    subst (λ f. IfErr c.cover.result (λ fault. MayFail (build_term aig_ops c.args.inputs.now (function_term (function_seen f)) c.args.aig.now).domain fault)) (sym c.in-Cover.is)
    (if_err _ _ c.cover.result (λ fault h. stops_fails c.args.aig.now c.cover.new.self (build_term aig_ops c.args.inputs.now (cover_term c.in-Cover.cover.now) c.args.aig.now) fault
    (grows_term aig_ops aig_growing (cover_term c.in-Cover.cover.now) c.args.inputs.now c.args.aig.now) h) c.cover.ensures.stopped)

pub returns-in-Some-clause-failed : goal.returns-in-Some-clause-failed
returns-in-Some-clause-failed c =
    subst (λ f. IfErr c.expression.result (λ fault. MayFail (build_term aig_ops c.args.inputs.now (function_term (function_seen f)) c.args.aig.now).domain fault)) (sym c.in-Cell.is)
    (subst (λ o. IfErr c.expression.result (λ fault. MayFail (build_term aig_ops c.args.inputs.now (option_map_or (λ t. t) o (Bit false)) c.args.aig.now).domain fault)) c.in-Some.ensures.function
    (if_err _ _ c.expression.result (λ fault h. stops_fails c.args.aig.now c.expression.new.self (build_term aig_ops c.args.inputs.now (term_of c.in-Some.function.now) c.args.aig.now) fault
    (grows_term aig_ops aig_growing (term_of c.in-Some.function.now) c.args.inputs.now c.args.aig.now) h) c.expression.ensures.stopped))
