use Rattle.std.proofs.Common.{ℕ, List}
use Rattle.cg_net.specs.NetSets.{is_in}
use Rattle.cg_claim_reach.proofs.SpreadCones.{all_named}
use Rattle.cg_claim_reach.proofs.fanout.names.Goals as goal

pub returns : goal.returns
returns c =
    let found : List ℕ = c.spread.new.found in
    all_named c.args.machine.now c.args.regs.now (is_in found) c.in_ok-spread.ensures c.args.enables.now c.new-names.result.items c.push_output_names.new.names.items
    c.push_next_names.new.names.items c.push_name_if.new.names.items c.is_joined_found-joined.result
    c.new-names.ensures.items c.in_ok-push_output_names.ensures c.in_ok-push_next_names.ensures c.is_joined_found-joined.ensures c.in_ok-push_name_if.ensures
