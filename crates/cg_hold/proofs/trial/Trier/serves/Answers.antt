use Rattle.std.proofs.Common.{◌≡◌, ◌<◌, length, sym, ◌∙◌, ap, arith}
use Rattle.std.specs.Prelude.{is_none}
use Rattle.cg_claim.specs.LeafBits.{is_never}
use Rattle.cg_claim.specs.Question.{hold_question}
use Rattle.cg_hold.proofs.Decided.{found, found_there, never_there}
use Rattle.cg_hold.proofs.Trials.{fails_moved, serves_held}
use Rattle.cg_hold.proofs.trial.Trier.serves.Goals as goal

pub is_never_idle-requires-clause-small : goal.is_never_idle-requires-clause-small
is_never_idle-requires-clause-small c =
    let small = c.requires.claim.small in
    let less = c.claim_laws.ensures.no_larger c.args.look.now.search.now.machine.now c.args.literal c.args.look.now.reg c.netlist-netlist.ensures.machine in
    omega (arith, small, less)

pub returns-in_ok-mark_near-in-Some-clause-good : goal.returns-in_ok-mark_near-in-Some-clause-good
returns-in_ok-mark_near-in-Some-clause-good c =
    let look = c.args.look.now in
    let m = look.search.now.machine.now in
    let r = look.reg in
    let l = c.args.literal in
    let w = look.search.now.width in
    let good = c.netlist-netlist.ensures.machine in
    let own = good.own_registers in
    let below : r < length m.circuit.registers = (let less = c.requires.look.own in omega (arith, own, less)) in
    let claim = c.args.self.now.claims.claim in
    let o = c.in_ok-found.found in
    let held : is_none o ≡ is_never m (hold_question l r) = found c.claim_laws.ensures.never m (hold_question l r) w claim good (below, below) c.requires.claim o
    (never_there c.aig.result.now claim.aig c.goal.result claim.goal o c.aig.ensures c.goal.ensures c.in_ok-found.ensures.never)
    (found_there c.aig.result.now claim.aig c.goal.result claim.goal o c.aig.ensures c.goal.ensures c.in_ok-found.ensures.sometimes) in
    fails_moved m r l (sym (ap is_none c.in-Some.is) ∙ held)

pub returns-in_ok-stays-in-None-clause-good : goal.returns-in_ok-stays-in-None-clause-good
returns-in_ok-stays-in-None-clause-good c =
    let look = c.args.look.now in
    let m = look.search.now.machine.now in
    let r = look.reg in
    let l = c.args.literal in
    let w = look.search.now.width in
    let good = c.netlist-netlist.ensures.machine in
    let own = good.own_registers in
    let below : r < length m.circuit.registers = (let less = c.requires.look.own in omega (arith, own, less)) in
    let claim = c.args.self.now.claims.claim in
    let o = c.in_ok-found.found in
    let held : is_none o ≡ is_never m (hold_question l r) = found c.claim_laws.ensures.never m (hold_question l r) w claim good (below, below) c.requires.claim o
    (never_there c.aig.result.now claim.aig c.goal.result claim.goal o c.aig.ensures c.goal.ensures c.in_ok-found.ensures.never)
    (found_there c.aig.result.now claim.aig c.goal.result claim.goal o c.aig.ensures c.goal.ensures c.in_ok-found.ensures.sometimes) in
    serves_held m r l c.in_ok-stays-in-None.stays (sym (ap is_none c.in-None.is) ∙ held) c.in_ok-stays-in-None.ensures.never
