-- What `gate` makes of a library, a netlist and it may be a stimulus and hints.
use Rattle.std.specs.Prelude.{◌≡◌, ℕ, List, [], ◌∷◌, ◌++◌, codes, Option, None, Some, Result, IsSomeAnd}
use Rattle.std.specs.Option.{option_and_then, option_map}
use Rattle.cg_gate.specs.Gating.{GivesGated}
use Rattle.cg_gate.specs.Headline.{Headline}
use Rattle.cg_gate.specs.Request.{MayGate, RequestData}
use Rattle.cg_gate.specs.Stops.{gating_stop}
use Rattle.cg_gate.specs.declared.fault.GateFault.{GateFault}
use Rattle.cg_gate.specs.declared.fault.GateFault.TheVariants as faults
use Rattle.cg_gate.specs.declared.gate.Texts.{Texts}
use Rattle.cg_netlist.specs.Circuit.{Circuit}
use Rattle.cg_run.specs.Verdict.{Task, task_of}
use Rattle.cg_run.specs.declared.writing.Finish.TheVariants as finishes
use Rattle.cg_run.specs.declared.writing.Output.{Output}
use Rattle.cg_run.specs.declared.writing.Text.{Text}
use Rattle.cg_run.specs.declared.refusal.Owner.TheVariants as owners
use Rattle.cg_run.specs.declared.refusal.Trouble.{Trouble}
use Rattle.cg_run.specs.declared.refusal.Trouble.TheVariants as troubles
use Rattle.cg_run.specs.declared.role.Role.{Role}
use Rattle.cg_run.specs.declared.role.Role.TheVariants as roles
use Rattle.cg_source.specs.Design.{design_loads, design_of, design_start, design_takes}
use Rattle.cg_source.specs.Refused.{refused_for}
use Rattle.cg_source.specs.Stimulus.{is_loaded}
use Rattle.cg_source.specs.declared.design.Design.{Design}
use Rattle.cg_source.specs.declared.design.DesignFiles.{DesignFiles}
use Rattle.cg_command_line.specs.declared.options.Options.{Options}
use Rattle.cg_tool.specs.Wanted.{gateable, request_by, wanted_by}
use Rattle.cg_tool.specs.Watching.{Kind}
use Rattle.cg_tool.specs.declared.modes.wanted.Wanted.{Wanted}

-- what gating of a design is asked for
abbrev pub request_of : Design Wanted → RequestData
request_of design = request_by design.library design.demand design.stimulus design.hints

-- the netlist of a design may be gated, with what was read for it
abbrev pub MayBeGated : Design Wanted → Type 0
MayBeGated design = MayGate (request_of design) design.netlist

-- what `gate` puts out of the texts of a gated netlist: it stores the netlist, and the proof file, the report, the Verilog text and
-- the text of the registers where they are asked for
abbrev pub text_for : Role → Option (List ℕ) → List Text
text_for role None = []
text_for role (Some bytes) = record { role = role; bytes = bytes } ∷ []

abbrev pub gate_output : Texts → Output
gate_output texts =
    record {
      stores =
          record { role = roles.Out; bytes = texts.out } ∷ text_for roles.Proof texts.proof ++ text_for roles.Report texts.report
          ++ text_for roles.Verilog texts.verilog ++ text_for roles.Registers texts.registers;
      said = texts.said;
      finish = finishes.Done;
    }

-- what `gate` puts out of a netlist that may be gated: the texts that gating gives, which mean what the headline says
pub record GatesAs (kind : Option Kind) (request : RequestData) (c : Circuit) (output : Output) : Type 0 where
  pub may : MayGate request c
  pub texts : Texts
  pub gives : GivesGated request kind c texts
  pub headline : Headline request kind c texts
  pub is : output ≡ gate_output texts

-- what is complained of what stops gating
abbrev pub gate_trouble : GateFault → Trouble
gate_trouble (faults.Limit limit) = troubles.Limit limit
gate_trouble (faults.BadName name) = refused_for owners.Netlist (codes "verilog: bad name " ++ name)
gate_trouble (faults.PortTwice net) = refused_for owners.Netlist (codes "verilog: port twice " ++ net)
gate_trouble faults.NoMemory = troubles.NoMemory

-- what stops a design: what stops gating; and what is put out of it
abbrev pub design_stops : Design Wanted → Option Trouble
design_stops design = option_map gate_trouble (gating_stop (request_of design) design.netlist)

abbrev pub design_gives : Option Kind → Design Wanted → Output → Type 0
design_gives kind design output = GatesAs kind (request_of design) design.netlist output

-- The mode: it takes the files of a design whose netlist may be gated; what stops the design stops it, and it gives what is put
-- out of it.
abbrev pub gate_takes : DesignFiles Wanted → Role → List ℕ → Result (DesignFiles Wanted) Trouble
gate_takes = design_takes gateable

abbrev pub gate_stops : DesignFiles Wanted → Option Trouble
gate_stops files = option_and_then design_stops (design_of files)

abbrev pub gate_gives : Option Kind → DesignFiles Wanted → Output → Type 0
gate_gives kind files output = IsSomeAnd (design_of files) (λ design. design_gives kind design output)

-- nothing is read yet
abbrev pub gate_start : Options → DesignFiles Wanted
gate_start options = design_start (wanted_by options) options.netlist options.asked.stimulus

-- what a run of `gate` does
abbrev pub gate_task : Options → Option Kind → Task
gate_task options kind =
    task_of gate_takes gate_stops (gate_gives kind) (gate_start options)
    (design_loads (is_loaded options.asked.stimulus) options.asked.hints)
