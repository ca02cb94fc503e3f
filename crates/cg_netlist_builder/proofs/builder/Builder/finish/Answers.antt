use Rattle.std.proofs.Common.{◌≡◌, ◌⊎◌, MatchResult, sym, ◌∙◌, ap, subst}
use Rattle.cg_netlist_parts.specs.declared.fault.NetFault.TheVariants.{NoMemory}
use Rattle.cg_netlist_parts.specs.Faults.{IsFault}
use Rattle.cg_netlist_parts.specs.Says.{Says}
use Rattle.cg_netlist_builder.proofs.builder.Builder.finish.Goals as goal

pub finished-requires : goal.finished-requires
finished-requires c = c.self.invariant (ap (λ b. b.refused) c.self.view_is ∙ c.requires)

pub returns : goal.returns
returns c =
    λ parts heard. subst (λ m. MatchResult c.finished.result (λ netlist. Says m parts netlist) (λ fault. (fault ≡ NoMemory) ⊎ IsFault parts fault)) (ap (λ b. b.model) c.self.view_is)
    (c.finished.ensures parts (heard ∙ ap (λ b. b.said) (sym c.self.view_is)))
