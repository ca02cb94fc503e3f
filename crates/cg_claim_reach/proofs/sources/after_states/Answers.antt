use Rattle.std.proofs.Common.{◌≡◌, ℕ, List, ◌++◌, not, ◌∙◌, ap}
use Rattle.std.specs.List.{filter}
use Rattle.cg_net.specs.NetSets.{is_in}
use Rattle.cg_claim.specs.Question.{After}
use Rattle.cg_claim_reach.specs.Asking.{question_of}
use Rattle.cg_claim_reach.proofs.StatesReached.{after_are, asked_in}
use Rattle.cg_claim_reach.proofs.sources.after_states.Goals as goal

pub returns : goal.returns
returns c =
    let first = c.in_ok-push_all.ensures ∙ (ap (λ (l : List ℕ). l ++ c.as_slice-2.result.now) c.new-numbers.ensures.items ∙ c.as_slice-2.ensures.parts) in
    let same : c.in_ok-same.same.items ≡ filter (λ r. not (is_in c.args.named.now.changes.keys r)) c.args.moved.now = c.in_ok-same.ensures ∙ ap (filter (λ r. not (is_in c.args.named.now.changes.keys r))) c.as_slice.ensures.parts in
    let all : c.push_all-2.new.numbers.items ≡ c.push_asked.new.numbers.items ++ c.in_ok-same.same.items = c.in_ok-push_all-2.ensures ∙ ap (λ (l : List ℕ). c.push_asked.new.numbers.items ++ l) c.deref.ensures.value in
    after_are c.args.machine.now (question_of c.args.asked.now) c.requires.asked c.args.after.now c.push_all.new.numbers.items c.push_asked.new.numbers.items c.push_all-2.new.numbers.items c.in_ok-regs.regs c.args.moved.now c.in_ok-same.same.items (is_in c.args.named.now.changes.keys)
    c.requires.cone first c.requires.named.changes c.requires.moved same (asked_in c.args.machine.now (question_of c.args.asked.now).sides After c.push_all.new.numbers.items c.push_asked.new.numbers.items c.in_ok-push_asked.ensures) all c.in_ok-regs.ensures
