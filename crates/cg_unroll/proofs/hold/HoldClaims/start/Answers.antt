use Rattle.std.proofs.Common.{ap}
use Rattle.cg_unroll.proofs.Holds.{asked_of, holds_of}
use Rattle.cg_unroll.proofs.hold.HoldClaims.start.Goals as goal

pub returns-clause-holding : goal.returns-clause-holding
returns-clause-holding c =
    let built = c.build_narrow-built.new.self in
    holds_of c.build_narrow-built.result c.args.machine.now c.args.reg c.args.width (asked_of c.keeps.result) built.aig built.goal c.in_ok-reached.reached.leaves c.leaves_alone.result built.tables.before.nets
    c.ands-self-inside.result (ap asked_of c.keeps.ensures) c.leaves_alone.ensures c.ands-self-inside.ensures.ands c.build_narrow-built.ensures.claim c.build_narrow-built.ensures.nets
