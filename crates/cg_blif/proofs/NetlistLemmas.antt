-- The netlist that a text says, as it is read.
use Rattle.std.proofs.Common.{◌≡◌, ℕ, List, Option, Result, Ok, Err, refl, sym, ap, ◌∙◌, inl, inr}
use Rattle.std.specs.Prelude.{IfErr, IfOk, MatchResult}
use Rattle.std.specs.List.{AllByRecursion}
use Rattle.cg_cell.specs.Cell.{CellData, IsCell}
use Rattle.cg_netlist.specs.Circuit.{Circuit}
use Rattle.cg_netlist_parts.specs.declared.fault.NetFault.{NetFault}
use Rattle.cg_netlist_parts.specs.declared.fault.NetFault.TheVariants as nets
use Rattle.cg_netlist_builder.specs.Building.{Building, Finishes}
use Rattle.cg_netlist_parts.specs.Part.{Part}
use Rattle.cg_netlist_parts.specs.Said.{said}
use Rattle.cg_netlist_parts.specs.Says.{Says}
use Rattle.cg_net.specs.Names.{NetName}
use Rattle.cg_netlist_parts.specs.Writable.{IsWritable}
use Rattle.cg_netlist_parts.proofs.NoneBeside.{faultless}
use Rattle.cg_netlist_parts.proofs.OneFault.{no_fault}
use Rattle.cg_blif_text.specs.declared.fault.BlifFault.{BlifFault}
use Rattle.cg_blif_text.specs.declared.fault.BlifFault.TheVariants as faults
use Rattle.cg_blif_text.specs.BlifText.{BlifText, IsFirstBlifFault, told_by}
use Rattle.cg_blif_text.specs.Telling.{LinesSaid}
use Rattle.cg_blif_text.proofs.CanonicalText.{no_two}
use Rattle.cg_blif_text.proofs.SameSaid.{says_alike}
use Rattle.cg_blif_text.proofs.TextFaults.{has_told, told_has}
use Rattle.cg_blif_text.proofs.ToldIsTaken.{text_is_writable, told_taken}
use Rattle.cg_blif.specs.Resuming.{FinishesAs, IsFaultOf, IsFirstOrNoMemory, IsRead, IsReadFrom, told_of, unfinished}

pub finish_fails : (b : Building) (fault : NetFault) → Finishes b (Err fault) → FinishesAs b (Err (unfinished fault))
finish_fails b (nets.TwoDrivers net) is = λ parts same. elim (is parts same) [ inl none ↦ absurd (cc) | inr fault ↦ fault ]
finish_fails b (nets.NoDriver net) is = λ parts same. elim (is parts same) [ inl none ↦ absurd (cc) | inr fault ↦ fault ]
finish_fails b (nets.Cycle net) is = λ parts same. elim (is parts same) [ inl none ↦ absurd (cc) | inr fault ↦ fault ]
finish_fails b (nets.ClockFault net) is = λ parts same. elim (is parts same) [ inl none ↦ absurd (cc) | inr fault ↦ fault ]
finish_fails b nets.NoClock is = λ parts same. elim (is parts same) [ inl none ↦ absurd (cc) | inr fault ↦ fault ]
finish_fails b nets.NoMemory is = tt

-- what was told is one thing
one_told : (s t : LinesSaid) → ◌≡◌ {A = Result LinesSaid BlifFault} (Ok s) (Ok t) → s ≡ t
one_told s t is = cc

renamed : (model other : List ℕ) (parts : List Part) (c : Circuit) → other ≡ c.model → Says model parts c → Says other parts c
renamed model other parts c is says = record { model_is = sym is; wired_is = says.wired_is; rooted = says.rooted; formed = says.formed; ordered = says.ordered; few_nets = says.few_nets; few_registers = says.few_registers }

module _ (text : List ℕ) (library : List CellData) (clock : Option NetName) where
  -- a text that says a netlist has no fault
  none_beside : (c : Circuit) (fault : BlifFault) → BlifText text library clock c → IsFirstBlifFault text library clock fault → ⊥
  none_beside c fault says (inl has) = absurd (let no : ◌≡◌ {A = Result LinesSaid BlifFault} (Ok says.tells.told) (Err fault) = sym says.tells.faultless ∙ has_told library clock text fault has in cc)
  none_beside c fault says (inr (net, is, first)) =
      let told : says.tells.told ≡ first.tells.told = one_told says.tells.told first.tells.told (sym says.tells.faultless ∙ first.tells.faultless) in
      let same : said says.parts ≡ said first.parts = sym says.tells.said_is ∙ (ap (λ (t : LinesSaid). t.said) told ∙ first.tells.said_is) in
      no_fault first.parts net first.first (faultless c.model first.parts c (says_alike c.model says.parts first.parts c same says.says))

  -- a fault of a line is the first fault
  pub line_first : (fault : BlifFault) → IsFaultOf (told_by library clock text) fault → IsFirstOrNoMemory text library clock fault
  line_first faults.NoMemory is = tt
  line_first (faults.Net fault) is = absurd is
  line_first (faults.BadLine n) is = inl (told_has library clock text (faults.BadLine n) is)
  line_first (faults.BadCover n) is = inl (told_has library clock text (faults.BadCover n) is)
  line_first (faults.BadLatch n) is = inl (told_has library clock text (faults.BadLatch n) is)
  line_first (faults.UnknownCell n) is = inl (told_has library clock text (faults.UnknownCell n) is)
  line_first (faults.UnusableCell n) is = inl (told_has library clock text (faults.UnusableCell n) is)
  line_first (faults.PinFault n) is = inl (told_has library clock text (faults.PinFault n) is)
  line_first (faults.SecondModel n) is = inl (told_has library clock text (faults.SecondModel n) is)
  line_first (faults.Limit l) is = inl (told_has library clock text (faults.Limit l) is)

  module _ (cells : AllByRecursion IsCell library) where
    -- what a builder finishes as that was told all of the text
    pub finished : (b : Building) (result : Result Circuit BlifFault) → IsRead library clock text (Ok b) → FinishesAs b result → IsReadFrom text library clock result
    finished b (Ok c) read finishes =
        let taken = told_taken library cells clock text (told_of read.2.0 b) read.1 read.2.1 in
        let says = finishes taken.said.parts (sym taken.said.is) in (
          record {
            parts = taken.said.parts;
            tells = record { told = told_of read.2.0 b; faultless = read.2.1; model_is = sym says.model_is; said_is = taken.said.is };
            says = renamed b.model c.model taken.said.parts c refl says;
          },
          read.1,
        )
    finished b (Err faults.NoMemory) read finishes = tt
    finished b (Err (faults.Net fault)) read finishes =
        let taken = told_taken library cells clock text (told_of read.2.0 b) read.1 read.2.1 in
        inr (
          fault,
          refl,
          record {
            model = b.model;
            parts = taken.said.parts;
            tells = record { told = told_of read.2.0 b; faultless = read.2.1; model_is = refl; said_is = taken.said.is };
            first = finishes taken.said.parts (sym taken.said.is);
          },
        )
    finished b (Err fault) read finishes = absurd finishes

  pub found : (result : Result Circuit BlifFault) → IsReadFrom text library clock result → IfOk result (λ c. BlifText text library clock c)
  found (Ok c) is = is.0
  found (Err fault) is = tt

  pub first : (result : Result Circuit BlifFault) → IsReadFrom text library clock result → IfErr result (IsFirstOrNoMemory text library clock)
  first (Ok c) is = tt
  first (Err fault) is = is

  pub only : (result : Result Circuit BlifFault) → IsReadFrom text library clock result → (c : Circuit) → BlifText text library clock c → MatchResult result (λ n. n ≡ c) (λ fault. fault ≡ faults.NoMemory)
  only (Ok n) is c says = no_two text library clock n c is.0 says
  only (Err faults.NoMemory) is c says = refl
  only (Err fault) is c says = absurd (none_beside c fault says is)

  pub writable : (result : Result Circuit BlifFault) → AllByRecursion IsCell library → IsReadFrom text library clock result → IfOk result (IsWritable library)
  writable (Ok c) cells is = text_is_writable library cells clock text c is.1 is.0
  writable (Err fault) cells is = tt
