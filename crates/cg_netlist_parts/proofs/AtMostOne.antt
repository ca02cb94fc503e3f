-- Parts say at most one netlist.
use Rattle.std.specs.Prelude.{◌≡◌, List}
use Rattle.std.proofs.Common.{ap, ◌∙◌, sym}
use Rattle.cg_netlist_parts.proofs.ToldByNames.{recovered}
use Rattle.cg_netlist.specs.Circuit.{Circuit}
use Rattle.cg_netlist_parts.specs.Part.{Part}
use Rattle.cg_netlist_parts.specs.Says.{Says, netlist_of}
use Rattle.cg_net.specs.Names.{NetName}
use Rattle.cg_netlist.specs.Wiring.{numbered}

pub says_only : (model : NetName) (parts : List Part) (c : Circuit) → Says model parts c → c ≡ netlist_of model parts
says_only model parts c says = recovered c says.formed says.ordered ∙ (ap (numbered c.model) says.wired_is ∙ ap (λ m. netlist_of m parts) says.model_is)

pub says_one : (model : NetName) (parts : List Part) (c e : Circuit) → Says model parts c → Says model parts e → c ≡ e
says_one model parts c e one other = says_only model parts c one ∙ sym (says_only model parts e other)
