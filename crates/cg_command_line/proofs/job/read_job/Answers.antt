use Rattle.std.proofs.Common.{map}
use Rattle.std.specs.Option.{option_map}
use Rattle.clap.specs.Words.{found_of}
use Rattle.cg_command_line.specs.Seen.{values_of}
use Rattle.cg_command_line.proofs.WordsRead.{named_found, no_mode}
use Rattle.cg_command_line.proofs.job.read_job.Goals as goal

pub returns-in-None : goal.returns-in-None
returns-in-None c = no_mode (map (λ name. name.now) c.args.watchers.now) (found_of c.args.matches.now) c.in-None.ensures

pub returns-in-Some : goal.returns-in-Some
returns-in-Some c =
    named_found (map (λ name. name.now) c.args.watchers.now) (found_of c.args.matches.now) c.in-Some.word.now (option_map (λ s. map (λ v. v.now) s.now) c.get_strs.result) (values_of c.given-given.result) c.job_named.result c.in-Some.ensures c.get_strs.ensures c.given-given.ensures c.job_named.ensures
