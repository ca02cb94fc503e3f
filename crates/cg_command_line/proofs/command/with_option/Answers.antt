use Rattle.std.proofs.Common.{◌≡◌, ℕ, List, rules, Result, Ok, Err, Some, ap, ◌∙◌}
use Rattle.std.specs.Prelude.{IfOk}
use Rattle.clap.specs.Words.{AddsArg, Rule, app_of}
use Rattle.clap.specs.Walk.{rule_of}
use Rattle.clap.specs.declared.builder.arg.Arg.{Arg}
use Rattle.clap.specs.declared.builder.command.Command.{Command}
use Rattle.cg_command_line.specs.CommandLine.{with_option}
use Rattle.cg_command_line.proofs.WordsRead.{option_added}
use Rattle.cg_command_line.proofs.command.with_option.Goals as goal

whole_is : {E : Type 0} (command : Command) (option : Arg) (name : List ℕ) (result : Result Command E) → IfOk result (λ r. AddsArg command option r)
    → ((whole : Command) → AddsArg command option whole → app_of whole ≡ with_option (app_of command) name) → IfOk result (λ whole. app_of whole ≡ with_option (app_of command) name)
whole_is command option name (Ok whole) adds each = each whole adds
whole_is command option name (Err fault) adds each = tt

pub returns : goal.returns
returns c =
    let name = c.args.name.now in
    whole_is c.args.command c.long-option.result name c.arg.result c.arg.ensures
    (λ whole adds. option_added c.args.command whole c.long-option.result name adds (search rules)
    (ap rule_of c.long-option.ensures ∙ ap (λ (r : Rule). record r { long = Some name }) c.new-plain.ensures.rule))
