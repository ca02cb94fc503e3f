use Rattle.std.proofs.Common.{◌≡◌, ◌++◌, OnOk, map, ◌∙◌, ap, subst}
use Rattle.cg_claim.specs.declared.name.ClaimName.TheVariants.{Output}
use Rattle.cg_net.specs.NetSets.{is_in}
use Rattle.cg_claim_reach.proofs.Targeting.{outputs_mapped}
use Rattle.cg_claim_reach.proofs.targets.push_output_names.Goals as goal

pub returns : goal.returns
returns c =
    let named = ap (λ l. c.args.names.now.items ++ l) (ap (map Output) (c.deref.ensures.value ∙ c.in_ok-outputs.ensures) ∙ outputs_mapped c.args.machine.now (is_in c.args.found.now)) in
    subst (λ l. OnOk c.push_outputs.result (c.push_outputs.new.names.items ≡ l)) named c.push_outputs.ensures
