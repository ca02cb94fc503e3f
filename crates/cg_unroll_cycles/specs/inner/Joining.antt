-- A condition on its way.
use Rattle.std.specs.Prelude.{◌≡◌, ℕ, List, drop, IsTrue}
use Rattle.cg_cell.specs.Build.{Run, build_or, chain}
use Rattle.cg_cell.specs.Domain.{Keeps, Seen}
use Rattle.cg_aig.specs.Aig.{aig_ops}
use Rattle.cg_claim.specs.Build.{aig_values}
use Rattle.cg_machine.specs.Claims.{Literal}
use Rattle.cg_claim.specs.form.Build.{term_run}

-- one more term
abbrev pub or_term_run : (ℕ → ℕ) → ℕ → List Literal → Seen → Run
or_term_run nets a term s = chain (term_run aig_values nets term s) (λ b t. build_or aig_ops a b t)

-- The first k items were joined from s to the literal a of t: to join the others leads to where joining all leads.
pub record IsJoining {X : Type 0} (join : ℕ → List X → Seen → Run) (whole : Run) (items : List X) (s t : Seen) (a k : ℕ) : Type 0 where
  pub answer : (join a (drop k items) t).answer ≡ whole.answer
  pub domain : (join a (drop k items) t).domain ≡ whole.domain
  pub keeps : Keeps aig_ops s t
  pub valid : IsTrue (aig_ops.is_valid t a)
