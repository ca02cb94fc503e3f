-- The joined enable on its way.
use Rattle.std.specs.Prelude.{◌≡◌, ℕ, List, drop, IsTrue}
use Rattle.cg_cell.specs.Domain.{Keeps, Seen}
use Rattle.cg_aig.specs.Aig.{aig_ops}
use Rattle.cg_machine.specs.Claims.{Literal}
use Rattle.cg_claim.specs.Build.{aig_values, enable_run, join_run}

-- the first k literals were joined from s: to join the others to a leads to where joining all leads
pub record IsJoining (nets : ℕ → ℕ) (enables : List Literal) (s t : Seen) (a k : ℕ) : Type 0 where
  pub answer : (join_run aig_values nets a (drop k enables) t).answer ≡ (enable_run aig_values nets enables s).answer
  pub domain : (join_run aig_values nets a (drop k enables) t).domain ≡ (enable_run aig_values nets enables s).domain
  pub keeps : Keeps aig_ops s t
  pub valid : IsTrue (aig_ops.is_valid t a)
