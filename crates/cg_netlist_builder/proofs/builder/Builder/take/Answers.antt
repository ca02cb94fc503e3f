use Rattle.std.proofs.Common.{subst}
use Rattle.cg_netlist_builder.specs.inner.Heard.{built}
use Rattle.cg_netlist_builder.specs.inner.Words.{part_said}
use Rattle.cg_netlist_builder.specs.Building.{Takes}
use Rattle.cg_netlist_builder.proofs.Telling.{Told, telling}
use Rattle.cg_netlist_builder.proofs.builder.Builder.take.Goals as goal

told : (c : goal.After-noted) → Told c.self.inside.model c.self.inside.parts c.add-added.new.self c.self.inside.refused c.noted.new.refused (part_said c.args.part) c.noted.result
told c =
    telling c.self.inside.model c.self.inside.parts c.add-added.new.self c.self.inside.refused c.noted.new.refused (part_said c.args.part) c.add-added.result c.noted.result c.self.invariant
    c.requires c.in_default.is c.noted.ensures.answers c.noted.ensures.notes c.add-added.ensures

pub invariant_of-self : goal.invariant_of-self
invariant_of-self c = (told c).keeps

pub returns : goal.returns
returns c = subst (λ old. Takes old (part_said c.args.part) (built c.self.inside.model c.add-added.new.self c.noted.new.refused) c.noted.result) c.self.view_is (told c).takes
