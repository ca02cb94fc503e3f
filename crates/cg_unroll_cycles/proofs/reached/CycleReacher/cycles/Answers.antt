use Rattle.cg_unroll_cycles.specs.Asking.{question_of}
use Rattle.cg_unroll_cycles.proofs.Reaching.{cycles_are}
use Rattle.cg_unroll_cycles.proofs.reached.CycleReacher.cycles.Goals as goal

pub returns : goal.returns
returns c =
    cycles_are c.args.machine.now (question_of c.args.question.now) c.in_ok-cycles.cycles c.push.new.self c.in_ok-first.first c.in_ok-cycles.ensures.cycles c.in_ok-cycles.ensures.count c.in_ok-first.ensures c.in_ok-push.ensures.parts
