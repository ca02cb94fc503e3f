-- A word that is none of the modes asks for no job.
use Rattle.std.proofs.Common.{◌≡◌, ◌≢◌, ℕ, Bool, true, false, List, codes, None, refl}
use Rattle.std.specs.Str.{bytes_eq}
use Rattle.std.proofs.lemmas.Slice.Eq.{bytes_eq-Decides}
use Rattle.cg_command_line.specs.CommandLine.{Values}
use Rattle.cg_command_line.specs.Jobs.{job_with}

pub no_word : (watchers files : List (List ℕ)) (values : Values) (word : List ℕ) → bytes_eq word (codes "gate") ≡ false → bytes_eq word (codes "sim") ≡ false → bytes_eq word (codes "lrat") ≡ false
    → bytes_eq word (codes "demo") ≡ false → None ≡ job_with watchers files values word
no_word watchers files values word gate sim lrat demo = rw (gate, sim, lrat, demo) refl

apart : (name other : List ℕ) → name ≢ other → bytes_eq name other ≡ false
apart name other differ = go (bytes_eq name other) refl
  where
    go : (same : Bool) → bytes_eq name other ≡ same → same ≡ false
    go true is = absurd (differ ((bytes_eq-Decides name other).0 is))
    go false is = refl

pub no_mode : (watchers files : List (List ℕ)) (values : Values) (word : List ℕ) → word ≢ codes "gate" → word ≢ codes "sim" → word ≢ codes "lrat" → word ≢ codes "demo" → None ≡ job_with watchers files values word
no_mode watchers files values word gate sim lrat demo =
    no_word watchers files values word (apart word (codes "gate") gate) (apart word (codes "sim") sim) (apart word (codes "lrat") lrat) (apart word (codes "demo") demo)
