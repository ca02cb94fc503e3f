use Rattle.std.proofs.Common.{◌≡◌, ℕ, List, map, ◌∙◌, ap, subst}
use Rattle.std.specs.Prelude.{IfOk}
use Rattle.std.specs.Option.{option_map}
use Rattle.std.specs.String.{string_bytes}
use Rattle.cg_command_line.specs.Jobs.{job_of, job_words}
use Rattle.cg_tool.proofs.top.read_job.Goals as goal

pub returns : goal.returns
returns g c =
    let words = map string_bytes c.args.words.now in
    let J : List (List ℕ) → Type 0 = λ names. IfOk c.read_words.result (λ job. option_map job_words job ≡ job_of names words) in
    subst J (ap (map (λ name. name.now)) c.as_slice.ensures.value ∙ c.in_ok-names.ensures) c.read_words.ensures
