-- What a hint says by names.
use Rattle.std.specs.Prelude.{◌≡◌, Bool, List, [], ◌∷◌, map}
use Rattle.cg_hint_laws.specs.Trying.{Turn}
use Rattle.cg_hint_laws.specs.declared.hint.Hint.{Hint}
use Rattle.cg_machine.specs.Claims.{Literal}
use Rattle.cg_machine.specs.Machine.{MachineData}
use Rattle.cg_net.specs.Names.{NetName, net_name}
use Rattle.cg_netlist.specs.Circuit.{Circuit}

-- a condition with the names of its nets in place of their numbers
abbrev pub with_net_name : List NetName → Literal → NetName × Bool
with_net_name names l = (net_name names l.0, l.1)

abbrev pub with_net_names : List NetName → List (List Literal) → List (List (NetName × Bool))
with_net_names names terms = map (map (with_net_name names)) terms

-- a hint of a machine says what one of a netlist says: it has the same registers and as many cycles, and its condition is the same one
-- of the nets of the same names
pub record SaysSame (c : Circuit) (m : MachineData) (asked tried : Hint) : Type 0 where
  pub regs : tried.regs ≡ asked.regs
  pub terms : with_net_names m.circuit.names tried.terms ≡ with_net_names c.names asked.terms
  pub after : tried.after ≡ asked.after

-- turns of hints of a netlist, one for each in order, at which it is tried on a machine as what it says
abbrev pub AreAsked : Circuit → List Hint → List Turn → Type 0
AreAsked c [] turns = turns ≡ []
AreAsked c (asked ∷ hints) [] = ⊥
AreAsked c (asked ∷ hints) (turn ∷ turns) = SaysSame c turn.machine asked turn.hint × AreAsked c hints turns
