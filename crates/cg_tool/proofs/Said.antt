-- What is read is what the texts say, and the numbers of the limits.
use Rattle.std.proofs.Common.{ℕ, List, Ok, Option, refl}
use Rattle.std.proofs.Common.{◌≡◌}
use Rattle.cg_cell.specs.Cell.{CellData}
use Rattle.cg_lrat.proofs.Sound.{accepted_unsatisfiable}
use Rattle.cg_net.specs.Names.{NetName}
use Rattle.cg_netlist.specs.Circuit.{Circuit}
use Rattle.cg_source.specs.Netlist.{netlist_found}
use Rattle.cg_source.specs.declared.netlist.NetlistForm.{NetlistForm}
use Rattle.cg_source.proofs.HintTexts.{hints_say}
use Rattle.cg_source.proofs.NetlistTexts.{netlist_formed, netlist_placeable, netlist_says}
use Rattle.cg_source.proofs.StimulusTexts.{stimulus_drives, stimulus_inputs}
use Rattle.cg_source.proofs.Texts.{formula_says, library_says, log_says}
use Rattle.cg_tool.specs.JobLaws.{ChecksAsSaid, ReadsAsSaid, ReadsNetlists}
use Rattle.cg_tool.specs.Numbers.{HasTheseBounds, HasTheseLimits}

netlist_read_so : (form : NetlistForm) (library : List CellData) (clock : Option NetName) (text : List ℕ) (c : Circuit) → netlist_found form library clock text ≡ Ok c → ReadsNetlists form library clock text c
netlist_read_so form library clock text c found =
    record {
      says = netlist_says form library clock text c found;
      formed = netlist_formed form library clock text c found;
      hints = λ hints hs is. hints_say c hints hs (netlist_placeable form library clock text c found).netlist is;
    }

pub read_as_said : ReadsAsSaid
read_as_said =
    record {
      library = library_says;
      netlist = netlist_read_so;
      stimulus = λ form c text found is. record { inputs = stimulus_inputs form c text found is; drives = stimulus_drives form c text found is };
      formula = formula_says;
      log = log_says;
    }

pub check_as_said : ChecksAsSaid
check_as_said = accepted_unsatisfiable

pub has_these_limits : HasTheseLimits
has_these_limits = record {
  file_bytes = refl;
  nets = refl;
  registers = refl;
  cover_inputs = refl;
  library_cells = refl;
  nesting = refl;
  claim_nodes = refl;
  pins = refl;
  rows = refl;
  variables = refl;
}

pub has_these_bounds : HasTheseBounds
has_these_bounds = record {
  least_min = refl;
  most_min = refl;
  default_min = refl;
  least_width = refl;
  most_width = refl;
  default_width = refl;
  least_rounds = refl;
  most_rounds = refl;
  default_rounds = refl;
  least_demo_size = refl;
  most_demo_size = refl;
}
