-- Hints that are found are those that the text says, and hints of the netlist.
use Rattle.std.proofs.Common.{◌≡◌, ℕ, List, Ok}
use Rattle.std.specs.List.{AllByRecursion}
use Rattle.cg_hint_laws.specs.OfNetlist.{IsOf}
use Rattle.cg_hint_laws.specs.declared.hint.Hint.{Hint}
use Rattle.cg_hint_text.proofs.ReadFits.{read_are_of}
use Rattle.cg_hint_text.proofs.LinesSaid.{said_are_read}
use Rattle.cg_hint_text.specs.HintText.{SaysHints}
use Rattle.cg_hint_text.specs.Reading.{hints}
use Rattle.cg_netlist.specs.Circuit.{Circuit}
use Rattle.cg_netlist.specs.Netlist.{IsNetlist}
use Rattle.cg_source.proofs.Taken.{refused_ok}
use Rattle.cg_source.specs.Hints.{hints_found, hints_trouble}

module _ (c : Circuit) (text : List ℕ) (hs : List Hint) (whole : IsNetlist c) (is : hints_found c text ≡ Ok hs) where
  read : hints c text ≡ Ok hs
  read = refused_ok hints_trouble (hints c text) hs is

  pub hints_are_of : AllByRecursion (IsOf c) hs
  hints_are_of = read_are_of c text hs whole read

  pub hints_say : SaysHints c text hs
  hints_say = (said_are_read c text hs whole).0 read
