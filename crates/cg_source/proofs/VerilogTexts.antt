-- What is read of a Verilog text is what the text says.
use Rattle.std.proofs.Common.{◌≡◌, ℕ, List, Option, Result, Ok, Err, subst}
use Rattle.std.specs.Prelude.{IfErr, IfOk, MatchResult}
use Rattle.cg_cell.specs.Cell.{CellData}
use Rattle.cg_netlist.specs.Circuit.{Circuit}
use Rattle.cg_netlist.specs.WellFormed.{IsWellFormed}
use Rattle.cg_netlist_parts.specs.Writable.{IsPlaceable}
use Rattle.cg_net.specs.Names.{NetName}
use Rattle.cg_verilog.specs.Reads.{IsFirstOrNoMemory}
use Rattle.cg_verilog_text.specs.declared.fault.VerilogFault.{VerilogFault}
use Rattle.cg_verilog_text.specs.declared.fault.VerilogFault.TheVariants.{BadText, UnknownCell, UnusableCell, PinFault, Net, Limit, NoMemory}
use Rattle.cg_verilog_text.specs.ReadAs.{AreProper}
use Rattle.cg_verilog_text.specs.VerilogText.{IsFirstVerilogFault, IsReadAs, VerilogText}
use Rattle.cg_verilog_text.proofs.ReadOnce.{read_as, read_once}
use Rattle.cg_verilog_text.proofs.TextIsTaken.{text_is_placeable}
use Rattle.cg_source.specs.Verilog.{IsVerilogFaultOf, verilog_found, verilog_said, verilog_trouble}
use Rattle.cg_run.specs.declared.refusal.Trouble.{Trouble}
use Rattle.cg_source.proofs.Taken.{refused_err, refused_ok}

module _ (library : List CellData) (clock : Option NetName) (text : List ℕ) where
  said_says : (c : Circuit) → verilog_said library clock text ≡ Ok c → VerilogText text library clock c
  unfolding verilog_said
  said_says c is = (read_as library clock text).says c is

  said_proper : (c : Circuit) → verilog_said library clock text ≡ Ok c → AreProper library clock
  unfolding verilog_said
  said_proper c is = (read_as library clock text).proper c is

  -- a netlist that is found is one that the text says, and it is well formed
  pub verilog_says : (c : Circuit) → verilog_found library clock text ≡ Ok c → VerilogText text library clock c
  verilog_says c is = said_says c (refused_ok verilog_trouble (verilog_said library clock text) c is)

  pub verilog_formed : (c : Circuit) → verilog_found library clock text ≡ Ok c → IsWellFormed c
  verilog_formed c is = ((verilog_says c is).says).formed

  -- and one that is placed with the cells of the library
  pub verilog_placeable : (c : Circuit) → verilog_found library clock text ≡ Ok c → IsPlaceable library c
  verilog_placeable c is =
      let proper = said_proper c (refused_ok verilog_trouble (verilog_said library clock text) c is) in
      text_is_placeable library proper.cells clock text c proper.named (verilog_says c is)

  said_refuses : AreProper library clock → (fault : VerilogFault) → verilog_said library clock text ≡ Err fault → IsFirstVerilogFault text library clock fault
  unfolding verilog_said
  said_refuses proper fault is = let R : Result Circuit VerilogFault → Type 0 = λ r. IsReadAs library clock text r in subst R is ((read_as library clock text).is proper)

  -- with a proper library and clock a text is refused for its first fault
  pub verilog_refused : AreProper library clock → (trouble : Trouble) → verilog_found library clock text ≡ Err trouble → (fault : VerilogFault) × (IsFirstVerilogFault text library clock fault × (trouble ≡ verilog_trouble fault))
  verilog_refused proper trouble is = let r = refused_err verilog_trouble (verilog_said library clock text) trouble is in (r.0, (said_refuses proper r.0 r.1, r.2))

  reads : AreProper library clock → (r : Result Circuit VerilogFault) → IsReadAs library clock text r → verilog_said library clock text ≡ r
  unfolding verilog_said
  reads proper r is = read_once library clock text (read_as library clock text).result r ((read_as library clock text).is proper) is

  pub read_answers : AreProper library clock → (result : Result Circuit VerilogFault) → IfOk result (λ c. VerilogText text library clock c) → IfErr result (IsFirstOrNoMemory text library clock)
      → MatchResult result (λ c. verilog_said library clock text ≡ Ok c) (IsVerilogFaultOf (verilog_said library clock text))
  read_answers proper (Ok c) found first = reads proper (Ok c) found
  read_answers proper (Err (BadText line)) found first = reads proper (Err (BadText line)) first
  read_answers proper (Err (UnknownCell line)) found first = reads proper (Err (UnknownCell line)) first
  read_answers proper (Err (UnusableCell line)) found first = reads proper (Err (UnusableCell line)) first
  read_answers proper (Err (PinFault line)) found first = reads proper (Err (PinFault line)) first
  read_answers proper (Err (Net fault)) found first = reads proper (Err (Net fault)) first
  read_answers proper (Err (Limit limit)) found first = reads proper (Err (Limit limit)) first
  read_answers proper (Err NoMemory) found first = tt
