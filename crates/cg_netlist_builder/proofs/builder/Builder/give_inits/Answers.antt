use Rattle.std.proofs.Common.{◌∙◌, ap, subst, sym}
use Rattle.cg_netlist_builder.specs.Building.{Building}
use Rattle.cg_netlist_builder.specs.Inits.{with_inits}
use Rattle.cg_netlist_builder.specs.inner.Heard.{IsHeard, built}
use Rattle.cg_netlist_builder.proofs.InitsGiven.{heard_with, seen_with}
use Rattle.cg_netlist_builder.proofs.builder.Builder.give_inits.Goals as goal

pub invariant_of-self : goal.invariant_of-self
invariant_of-self c =
    λ none. subst (IsHeard c.self.inside.model) (sym c.give_inits.ensures)
    (heard_with c.self.inside.model c.self.inside.parts c.args.nets.now c.args.inits.now (c.self.invariant none) c.requires.inits)

pub returns : goal.returns
returns c =
    ap (λ parts. built c.self.inside.model parts c.self.inside.refused) c.give_inits.ensures
    ∙ (ap (λ s. record { model = c.self.inside.model; said = s; refused = c.self.inside.refused }) (seen_with c.args.nets.now c.args.inits.now c.self.inside.parts)
    ∙ ap {B = Building} (λ b. record b { said = with_inits c.args.nets.now c.args.inits.now b.said }) c.self.view_is)
