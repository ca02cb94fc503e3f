use Rattle.std.proofs.Common.{◌≡◌, inl, inr, true, false, map, sym, ◌∙◌}
use Rattle.std.specs.String.{string_bytes}
use Rattle.clap.specs.Words.{app_of, kind_of}
use Rattle.clap.specs.declared.error.kind.ErrorKind.TheVariants.{OutOfMemory}
use Rattle.cg_command_line.proofs.WordsRead.{words_found, words_refused}
use Rattle.cg_command_line.proofs.job.read_words.Goals as goal

pub returns-in-Ok : goal.returns-in-Ok
returns-in-Ok c = words_found (map (λ name. name.now) c.args.watchers.now) (app_of c.in_ok-command.command) (map string_bytes c.args.words.now) c.in-Ok.matches c.read_job.result c.in_ok-command.ensures c.in-Ok.ensures.matches c.in-Ok.ensures.kinds c.read_job.ensures

pub returns-else-eq : goal.returns-else-eq
returns-else-eq c =
    sym (words_refused (map (λ name. name.now) c.args.watchers.now) (app_of c.in_ok-command.command) (map string_bytes c.args.words.now) (kind_of c.in-Err.error) c.in_ok-command.ensures (λ free. elim (c.in-Err.ensures.kinds free) [
      | inl out ↦ let kind : c.kind.result ≡ OutOfMemory = c.kind.ensures ∙ out in
          let same = rw kind at c.eq.ensures in
          let no : c.eq.result ≡ false = c.if-eq.false in
          let both : false ≡ true = sym no ∙ same in
          absurd (cc)
      | inr among ↦ among
    ]))
