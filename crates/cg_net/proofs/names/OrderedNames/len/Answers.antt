use Rattle.std.proofs.Common.{length, ap, sym, ◌∙◌}
use Rattle.std.proofs.lemmas.List.{length-map}
use Rattle.cg_net.specs.Names.{net_name}
use Rattle.cg_net.proofs.names.OrderedNames.len.Goals as goal

pub returns : goal.returns
returns c = record { count = c.len.ensures ∙ (c.self.inside.order.ok.0 ∙ (sym (length-map c.self.inside.order.items (net_name c.self.inside.names)) ∙ ap length c.self.view_is)) }
