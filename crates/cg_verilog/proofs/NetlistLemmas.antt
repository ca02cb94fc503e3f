-- The netlist that a text says, as it is read.
use Rattle.std.proofs.Common.{◌≡◌, ℕ, List, Option, None, Some, Result, Ok, Err, refl, sym, ap, ◌∙◌, inl, inr}
use Rattle.std.specs.Prelude.{IfErr, IfOk, MatchResult}
use Rattle.std.specs.List.{AllByRecursion}
use Rattle.cg_cell.specs.Cell.{CellData, IsCell}
use Rattle.cg_net.specs.Names.{NetName}
use Rattle.cg_netlist.specs.Circuit.{Circuit}
use Rattle.cg_netlist_builder.specs.Building.{Building, Finishes}
use Rattle.cg_netlist_parts.specs.Part.{Part}
use Rattle.cg_netlist_parts.specs.Said.{Said, said}
use Rattle.cg_netlist_parts.specs.Says.{Says}
use Rattle.cg_netlist_parts.specs.declared.fault.NetFault.{NetFault}
use Rattle.cg_netlist_parts.specs.declared.fault.NetFault.TheVariants as nets
use Rattle.cg_netlist_parts.specs.Writable.{IsPlaceable}
use Rattle.cg_netlist_parts.proofs.NoneBeside.{faultless}
use Rattle.cg_netlist_parts.proofs.OneFault.{no_fault}
use Rattle.cg_verilog_text.specs.TextItems.{text_of}
use Rattle.cg_verilog_text.specs.Telling.{Fault, faults_of, first_of, tell_items}
use Rattle.cg_verilog_text.specs.VerilogText.{IsFirstVerilogFault, VerilogText, said_or, told_by, with_clock}
use Rattle.cg_verilog_text.specs.declared.fault.VerilogFault.{VerilogFault}
use Rattle.cg_verilog_text.specs.declared.fault.VerilogFault.TheVariants as faults
use Rattle.cg_verilog_text.proofs.OneNetlist.{no_two}
use Rattle.cg_verilog_text.proofs.SameSaid.{says_alike}
use Rattle.cg_verilog_text.proofs.TextIsTaken.{text_is_placeable}
use Rattle.cg_verilog_text.proofs.ToldParts.{IsSaid, told_with_clock}
use Rattle.cg_verilog.specs.Ending.{builder_of}
use Rattle.cg_verilog.specs.Reads.{FinishesAs, IsFaultOf, IsFirstOrNoMemory, IsNamedClock, IsReadFrom, unfinished}
use Rattle.cg_verilog.proofs.ModelKept.{model_kept}
use Rattle.cg_verilog.proofs.ToldBuilt.{saying, told_built}

pub finish_fails : (b : Building) (fault : NetFault) → Finishes b (Err fault) → FinishesAs b (Err (unfinished fault))
finish_fails b (nets.TwoDrivers net) is = λ parts same. elim (is parts same) [ inl none ↦ absurd (cc) | inr fault ↦ fault ]
finish_fails b (nets.NoDriver net) is = λ parts same. elim (is parts same) [ inl none ↦ absurd (cc) | inr fault ↦ fault ]
finish_fails b (nets.Cycle net) is = λ parts same. elim (is parts same) [ inl none ↦ absurd (cc) | inr fault ↦ fault ]
finish_fails b (nets.ClockFault net) is = λ parts same. elim (is parts same) [ inl none ↦ absurd (cc) | inr fault ↦ fault ]
finish_fails b nets.NoClock is = λ parts same. elim (is parts same) [ inl none ↦ absurd (cc) | inr fault ↦ fault ]
finish_fails b nets.NoMemory is = tt

-- what was told is one thing
one_said : (s t : Said) → ◌≡◌ {A = Result Said VerilogFault} (Ok s) (Ok t) → s ≡ t
one_said s t is = cc

renamed : (model other : List ℕ) (parts : List Part) (c : Circuit) → other ≡ c.model → Says model parts c → Says other parts c
renamed model other parts c is says = record { model_is = sym is; wired_is = says.wired_is; rooted = says.rooted; formed = says.formed; ordered = says.ordered; few_nets = says.few_nets; few_registers = says.few_registers }

module _ (text : List ℕ) (library : List CellData) (clock : Option NetName) where
  -- a text that says a netlist has no fault
  none_beside : (c : Circuit) (fault : VerilogFault) → VerilogText text library clock c → IsFirstVerilogFault text library clock fault → ⊥
  none_beside c fault says (inl told) = absurd (let no : ◌≡◌ {A = Result Said VerilogFault} (Ok (said says.parts)) (Err fault) = sym says.tells.told ∙ told in cc)
  none_beside c fault says (inr (net, is, first)) =
      let same : said says.parts ≡ said first.parts = one_said (said says.parts) (said first.parts) (sym says.tells.told ∙ first.tells.told) in
      no_fault first.parts net first.first (faultless c.model first.parts c (says_alike c.model says.parts first.parts c same says.says))

  -- what is built is told
  told_ok : (b : Building) → builder_of library clock text ≡ Ok b → told_by library clock text ≡ Ok b.said
  told_ok b is = told_built library clock text ∙ ap saying is

  told_err : (fault : VerilogFault) → builder_of library clock text ≡ Err fault → told_by library clock text ≡ Err fault
  told_err fault is = told_built library clock text ∙ ap saying is

  -- and parts say it
  parts_of : (s : Said) → told_by library clock text ≡ Ok s → IsSaid s
  parts_of s is = go (first_of (faults_of library (text_of text))) is
    where
      go : (o : Option Fault) → said_or o (with_clock clock (tell_items library (text_of text).items).said) ≡ Ok s → IsSaid s
      go None e = told_with_clock library clock (text_of text).items s e
      go (Some fault) e = absurd (cc)

  -- a fault of what is built is the first fault
  pub built_first : (fault : VerilogFault) → IsFaultOf (builder_of library clock text) fault → IsFirstOrNoMemory text library clock fault
  built_first faults.NoMemory is = tt
  built_first (faults.Net fault) is = inl (told_err (faults.Net fault) is)
  built_first (faults.BadText n) is = inl (told_err (faults.BadText n) is)
  built_first (faults.UnknownCell n) is = inl (told_err (faults.UnknownCell n) is)
  built_first (faults.UnusableCell n) is = inl (told_err (faults.UnusableCell n) is)
  built_first (faults.PinFault n) is = inl (told_err (faults.PinFault n) is)
  built_first (faults.Limit l) is = inl (told_err (faults.Limit l) is)

  -- what a builder finishes as that was told all of the text
  pub finished : (b : Building) (result : Result Circuit VerilogFault) → IsNamedClock clock → builder_of library clock text ≡ Ok b → FinishesAs b result → IsReadFrom text library clock result
  finished b (Ok c) named built finishes =
      let by : IsSaid b.said = parts_of b.said (told_ok b built) in
      let says = finishes by.parts (sym by.is) in (
        record {
          parts = by.parts;
          tells = record { told = told_ok b built ∙ ap (λ s. Ok s) by.is; model_is = model_kept library clock text b built ∙ sym says.model_is };
          says = renamed b.model c.model by.parts c refl says;
        },
        named,
      )
  finished b (Err faults.NoMemory) named built finishes = tt
  finished b (Err (faults.Net fault)) named built finishes =
      let by : IsSaid b.said = parts_of b.said (told_ok b built) in
      inr (
        fault,
        refl,
        record {
          model = b.model;
          parts = by.parts;
          tells = record { told = told_ok b built ∙ ap (λ s. Ok s) by.is; model_is = model_kept library clock text b built };
          first = finishes by.parts (sym by.is);
        },
      )
  finished b (Err fault) named built finishes = absurd finishes

  pub found : (result : Result Circuit VerilogFault) → IsReadFrom text library clock result → IfOk result (λ c. VerilogText text library clock c)
  found (Ok c) is = is.0
  found (Err fault) is = tt

  pub first : (result : Result Circuit VerilogFault) → IsReadFrom text library clock result → IfErr result (IsFirstOrNoMemory text library clock)
  first (Ok c) is = tt
  first (Err fault) is = is

  pub only : (result : Result Circuit VerilogFault) → IsReadFrom text library clock result → (c : Circuit) → VerilogText text library clock c → MatchResult result (λ n. n ≡ c) (λ fault. fault ≡ faults.NoMemory)
  only (Ok n) is c says = no_two text library clock n c is.0 says
  only (Err faults.NoMemory) is c says = refl
  only (Err fault) is c says = absurd (none_beside c fault says is)

  pub placeable : (result : Result Circuit VerilogFault) → AllByRecursion IsCell library → IsReadFrom text library clock result → IfOk result (IsPlaceable library)
  placeable (Ok c) cells is = text_is_placeable library cells clock text c is.1 is.0
  placeable (Err fault) cells is = tt
