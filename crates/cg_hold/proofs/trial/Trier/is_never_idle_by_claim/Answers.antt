use Rattle.std.proofs.Common.{[], ◌∷◌, ◌∙◌}
use Rattle.cg_claim.specs.Question.{idle_question}
use Rattle.cg_hold.proofs.Decided.{found, found_there, never_there, none_told, told}
use Rattle.cg_hold.proofs.Trials.{wants_memory}
use Rattle.cg_hold.proofs.trial.Trier.is_never_idle_by_claim.Goals as goal

pub wanting-requires : goal.wanting-requires
wanting-requires c = wants_memory c.args.machine.now c.netlist-netlist.ensures.machine (idle_question (c.args.literal ∷ [])) c.in-Err.fault c.requires.small c.in-Err.ensures.refused

pub returns-in_ok-found-in-Ok-clause-never : goal.returns-in_ok-found-in-Ok-clause-never
returns-in_ok-found-in-Ok-clause-never c =
    let m = c.args.machine.now in
    let q = idle_question (c.args.literal ∷ []) in
    let claim = c.idle.new.self in
    let o = c.in_ok-found-in-Ok.found in
    none_told o c.is_none-stays.result c.is_none-stays.ensures
    ∙ found c.claim_laws.ensures.never m q 4294967295 claim c.netlist-netlist.ensures.machine tt (told m q 4294967295 claim c.in-Ok.ensures.claim) o
    (never_there c.aig.result.now claim.aig c.goal.result claim.goal o c.aig.ensures c.goal.ensures c.in_ok-found-in-Ok.ensures.never)
    (found_there c.aig.result.now claim.aig c.goal.result claim.goal o c.aig.ensures c.goal.ensures c.in_ok-found-in-Ok.ensures.sometimes)
