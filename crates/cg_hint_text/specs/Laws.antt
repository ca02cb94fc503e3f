-- What is proved of hints that are read.
use Rattle.std.specs.Prelude.{◌≡◌, ◌↔◌, ℕ, List, Ok}
use Rattle.std.specs.List.{AllByRecursion}
use Rattle.cg_netlist.specs.Circuit.{Circuit}
use Rattle.cg_netlist.specs.Netlist.{IsNetlist}
use Rattle.cg_hint_laws.specs.declared.hint.Hint.{Hint}
use Rattle.cg_hint_laws.specs.Hints.{Fits}
use Rattle.cg_hint_laws.specs.OfNetlist.{IsOf}
use Rattle.cg_machine.specs.Start.{machine_of}
use Rattle.cg_hint_text.specs.HintText.{SaysHints}
use Rattle.cg_hint_text.specs.Reading.{hints}

-- the hints that a text says for a netlist are hints of it
abbrev pub ReadAreOf : Type 0
ReadAreOf = (c : Circuit) (text : List ℕ) (hs : List Hint) → IsNetlist c → hints c text ≡ Ok hs → AllByRecursion (IsOf c) hs

-- and so they fit the machine of a netlist without gating cells
abbrev pub OfNetlistFits : Type 0
OfNetlistFits = (c : Circuit) (prefix : List ℕ) (h : Hint) → IsOf c h → Fits (machine_of c prefix) h

-- the hints of a text, as they are computed, are those that its lines say
abbrev pub SaidAreRead : Type 0
SaidAreRead = (c : Circuit) (text : List ℕ) (hs : List Hint) → IsNetlist c → (hints c text ≡ Ok hs) ↔ SaysHints c text hs
