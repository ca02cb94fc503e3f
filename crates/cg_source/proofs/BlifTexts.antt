-- What is read of a BLIF text is what the text says.
use Rattle.std.proofs.Common.{◌≡◌, ℕ, List, Option, Result, Ok, Err, subst}
use Rattle.std.specs.Prelude.{IfErr, IfOk, MatchResult}
use Rattle.cg_cell.specs.Cell.{CellData}
use Rattle.cg_netlist.specs.Circuit.{Circuit}
use Rattle.cg_netlist.specs.WellFormed.{IsWellFormed}
use Rattle.cg_netlist_parts.specs.Writable.{IsPlaceable}
use Rattle.cg_net.specs.Names.{NetName}
use Rattle.cg_blif.specs.Resuming.{IsFirstOrNoMemory}
use Rattle.cg_blif_text.specs.declared.fault.BlifFault.{BlifFault}
use Rattle.cg_blif_text.specs.declared.fault.BlifFault.TheVariants.{BadLine, BadCover, BadLatch, UnknownCell, UnusableCell}
use Rattle.cg_blif_text.specs.declared.fault.BlifFault.TheVariants.{PinFault, SecondModel, Net, Limit, NoMemory}
use Rattle.cg_blif_text.specs.BlifText.{BlifText, IsFirstBlifFault}
use Rattle.cg_blif_text.specs.ReadAs.{AreProper, IsReadAs}
use Rattle.cg_blif_text.proofs.ToldIsTaken.{text_is_writable}
use Rattle.cg_blif_text.proofs.ReadOnce.{read_as, read_once}
use Rattle.cg_source.specs.Blif.{IsBlifFaultOf, blif_found, blif_said, blif_trouble}
use Rattle.cg_run.specs.declared.refusal.Trouble.{Trouble}
use Rattle.cg_source.proofs.Taken.{refused_err, refused_ok}

module _ (library : List CellData) (clock : Option NetName) (text : List ℕ) where
  said_says : (c : Circuit) → blif_said library clock text ≡ Ok c → BlifText text library clock c
  unfolding blif_said
  said_says c is = (read_as library clock text).says c is

  said_proper : (c : Circuit) → blif_said library clock text ≡ Ok c → AreProper library clock
  unfolding blif_said
  said_proper c is = (read_as library clock text).proper c is

  -- a netlist that is found is one that the text says, and it is well formed
  pub blif_says : (c : Circuit) → blif_found library clock text ≡ Ok c → BlifText text library clock c
  blif_says c is = said_says c (refused_ok blif_trouble (blif_said library clock text) c is)

  pub blif_formed : (c : Circuit) → blif_found library clock text ≡ Ok c → IsWellFormed c
  blif_formed c is = ((blif_says c is).says).formed

  -- and one that is placed with the cells of the library
  pub blif_placeable : (c : Circuit) → blif_found library clock text ≡ Ok c → IsPlaceable library c
  blif_placeable c is =
      let proper = said_proper c (refused_ok blif_trouble (blif_said library clock text) c is) in
      (text_is_writable library proper.cells clock text c proper.named (blif_says c is)).placeable

  said_refuses : AreProper library clock → (fault : BlifFault) → blif_said library clock text ≡ Err fault → IsFirstBlifFault text library clock fault
  unfolding blif_said
  said_refuses proper fault is = let R : Result Circuit BlifFault → Type 0 = λ r. IsReadAs library clock text r in subst R is ((read_as library clock text).is proper)

  -- with a proper library and clock a text is refused for its first fault
  pub blif_refused : AreProper library clock → (trouble : Trouble) → blif_found library clock text ≡ Err trouble → (fault : BlifFault) × (IsFirstBlifFault text library clock fault × (trouble ≡ blif_trouble fault))
  blif_refused proper trouble is = let r = refused_err blif_trouble (blif_said library clock text) trouble is in (r.0, (said_refuses proper r.0 r.1, r.2))

  reads : AreProper library clock → (r : Result Circuit BlifFault) → IsReadAs library clock text r → blif_said library clock text ≡ r
  unfolding blif_said
  reads proper r is = read_once library clock text (read_as library clock text).result r ((read_as library clock text).is proper) is

  pub read_answers : AreProper library clock → (result : Result Circuit BlifFault) → IfOk result (λ c. BlifText text library clock c) → IfErr result (IsFirstOrNoMemory text library clock)
      → MatchResult result (λ c. blif_said library clock text ≡ Ok c) (IsBlifFaultOf (blif_said library clock text))
  read_answers proper (Ok c) found first = reads proper (Ok c) found
  read_answers proper (Err (BadLine line)) found first = reads proper (Err (BadLine line)) first
  read_answers proper (Err (BadCover line)) found first = reads proper (Err (BadCover line)) first
  read_answers proper (Err (BadLatch line)) found first = reads proper (Err (BadLatch line)) first
  read_answers proper (Err (UnknownCell line)) found first = reads proper (Err (UnknownCell line)) first
  read_answers proper (Err (UnusableCell line)) found first = reads proper (Err (UnusableCell line)) first
  read_answers proper (Err (PinFault line)) found first = reads proper (Err (PinFault line)) first
  read_answers proper (Err (SecondModel line)) found first = reads proper (Err (SecondModel line)) first
  read_answers proper (Err (Net fault)) found first = reads proper (Err (Net fault)) first
  read_answers proper (Err (Limit limit)) found first = reads proper (Err (Limit limit)) first
  read_answers proper (Err NoMemory) found first = tt
