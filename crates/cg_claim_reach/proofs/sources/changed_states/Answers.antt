use Rattle.std.proofs.Common.{ℕ, List, ◌++◌, ◌∙◌, ap}
use Rattle.cg_claim.specs.Question.{Changed}
use Rattle.cg_claim_reach.specs.Asking.{question_of}
use Rattle.cg_claim_reach.proofs.StatesReached.{asked_in, changed_are}
use Rattle.cg_claim_reach.proofs.sources.changed_states.Goals as goal

pub returns : goal.returns
returns c =
    let first = c.in_ok-push_all.ensures ∙ (ap (λ (l : List ℕ). l ++ c.as_slice.result.now) c.new-numbers.ensures.items ∙ c.as_slice.ensures.parts) in
    changed_are c.args.machine.now (question_of c.args.asked.now) c.requires.asked c.args.changed.now c.push_all.new.numbers.items c.push_asked.new.numbers.items c.in_ok-regs.regs c.requires.cone first (asked_in c.args.machine.now (question_of c.args.asked.now).sides Changed c.push_all.new.numbers.items c.push_asked.new.numbers.items c.in_ok-push_asked.ensures) c.in_ok-regs.ensures
