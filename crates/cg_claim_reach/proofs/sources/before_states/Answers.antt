use Rattle.std.proofs.Common.{ℕ, List, ◌++◌, ◌∙◌, ap}
use Rattle.cg_claim.specs.Question.{Before}
use Rattle.cg_claim.specs.Reach.{after_states}
use Rattle.cg_claim_reach.specs.Asking.{question_of}
use Rattle.cg_claim_reach.proofs.RootsThere.{registers_there}
use Rattle.cg_claim_reach.proofs.StatesReached.{asked_in, before_are}
use Rattle.cg_claim_reach.proofs.sources.before_states.Goals as goal

pub push_origins-requires : goal.push_origins-requires
push_origins-requires c = registers_there c.args.machine.now (after_states c.args.machine.now (question_of c.args.asked.now)) c.as_slice-2.result.now (c.as_slice-2.ensures.parts ∙ c.requires.later.states)

pub returns : goal.returns
returns c =
    let first = c.in_ok-push_all.ensures ∙ (ap (λ (l : List ℕ). l ++ c.as_slice.result.now) c.in_ok-numbers.ensures.items ∙ c.as_slice.ensures.parts) in
    before_are c.args.machine.now (question_of c.args.asked.now) c.requires.asked c.args.before.now c.push_all.new.numbers.items c.push_asked.new.numbers.items c.push_origins.new.numbers.items c.in_ok-regs.regs c.as_slice-2.result.now
    c.requires.cone first (c.as_slice-2.ensures.parts ∙ c.requires.later.states) (asked_in c.args.machine.now (question_of c.args.asked.now).sides Before c.push_all.new.numbers.items c.push_asked.new.numbers.items c.in_ok-push_asked.ensures) (c.in_ok-push_origins.ensures (question_of c.args.asked.now) c.requires.named.follows) c.in_ok-regs.ensures
