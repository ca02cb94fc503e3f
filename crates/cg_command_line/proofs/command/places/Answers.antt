use Rattle.std.proofs.Common.{◌≡◌, rules, Result, Ok, Err, codes}
use Rattle.std.specs.Prelude.{IfOk}
use Rattle.clap.specs.Words.{AddsArg, app_of, new_app, with_rule}
use Rattle.clap.specs.declared.builder.arg.Arg.{Arg}
use Rattle.clap.specs.declared.builder.command.Command.{Command}
use Rattle.cg_command_line.specs.CommandLine.{files_rule, mode_rule}
use Rattle.cg_command_line.proofs.WordsRead.{places_are, files_rule_is}
use Rattle.cg_command_line.proofs.command.places.Goals as goal

whole_is : {E : Type 0} (moded : Command) (files : Arg) (result : Result Command E) → IfOk result (λ r. AddsArg moded files r)
    → ((whole : Command) → AddsArg moded files whole → app_of whole ≡ with_rule (with_rule (new_app (codes "clockgate")) mode_rule) files_rule)
    → IfOk result (λ command. app_of command ≡ with_rule (with_rule (new_app (codes "clockgate")) mode_rule) files_rule)
whole_is moded files (Ok whole) adds each = each whole adds
whole_is moded files (Err fault) adds each = tt

pub returns : goal.returns
returns c =
    let mode = c.new-mode.result in
    let files = c.num_args-files.result in
    whole_is c.in_ok-moded.moded files c.arg-2.result c.arg-2.ensures
    (λ whole adds. places_are c.new-named.result c.in_ok-moded.moded whole mode files c.new-named.ensures.app c.in_ok-moded.ensures (c.new-mode.ensures.optional).1 c.new-mode.ensures.rule
    adds (search rules) (files_rule_is c.new.result files c.new.ensures.rule c.num_args-files.ensures.0 c.num_args-files.ensures.1))
