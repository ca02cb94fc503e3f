use Rattle.std.proofs.Common.{◌≡◌, ℕ, List, ◌++◌, OnOk, map, sym, ◌∙◌, ap, subst}
use Rattle.cg_claim.specs.Reach.{registers_of}
use Rattle.cg_claim.specs.declared.name.ClaimName.TheVariants.{Next}
use Rattle.cg_net.specs.NetSets.{is_in}
use Rattle.cg_claim_reach.specs.inner.Spreading.{is_next_marked}
use Rattle.cg_claim_reach.proofs.StatesReached.{set_has}
use Rattle.cg_claim_reach.proofs.targets.push_next_names.Goals as goal
use Rattle.cg_claim.proofs.HoldWidths.{same_test}

pub registers_found-requires-clause-set : goal.registers_found-requires-clause-set
registers_found-requires-clause-set c = set_has c.args.regs.now c.in_ok-set.set.keys c.in_ok-set.ensures

pub returns : goal.returns
returns c =
    let m = c.args.machine.now in
    let marked = is_in c.args.found.now in
    let known = set_has c.args.regs.now c.in_ok-set.set.keys c.in_ok-set.ensures in
    let same = same_test (λ r. is_next_marked m marked (is_in c.in_ok-set.set.keys r) r) (λ r. is_next_marked m marked (is_in c.args.regs.now r) r) (registers_of m) (λ r. ap (λ b. is_next_marked m marked b r) (sym (known r))) in
    let named = ap (λ (l : List ℕ). c.args.names.now.items ++ map Next l) (c.deref.ensures.value ∙ (c.in_ok-registers.ensures ∙ same)) in
    subst (λ l. OnOk c.push_nexts.result (c.push_nexts.new.names.items ≡ l)) named c.push_nexts.ensures
