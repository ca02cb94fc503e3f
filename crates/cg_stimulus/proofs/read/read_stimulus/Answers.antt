use Rattle.std.proofs.Common.{Bool, List, Result, subst}
use Rattle.cg_limit.specs.Answers.{OrNoMemory}
use Rattle.cg_stimulus.specs.declared.fault.StimulusFault.{StimulusFault}
use Rattle.cg_stimulus.specs.declared.fault.StimulusFault.TheVariants.{NoMemory}
use Rattle.cg_stimulus.specs.Inputs.{Rows, input_names}
use Rattle.cg_stimulus.proofs.StimExact.{given_is_text, text_is_read}
use Rattle.cg_stimulus.proofs.read.read_stimulus.Goals as goal

pub returns-clause-found : goal.returns-clause-found
returns-clause-found c = given_is_text (λ (s : Rows). s.rows) (input_names c.args.netlist.now) c.args.bytes.now c.read_text.result c.read_text.ensures.rows

pub returns-clause-only : goal.returns-clause-only
returns-clause-only c rows t =
    subst (λ (read : Result (List (List Bool)) StimulusFault). OrNoMemory NoMemory (λ (s : Rows). s.rows) c.read_text.result read) (text_is_read (input_names c.args.netlist.now) c.args.bytes.now rows t) c.read_text.ensures.rows
