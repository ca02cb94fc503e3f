-- When two tables are alike where it counts.
use Rattle.std.specs.Prelude.{◌≡◌, ℕ, Bool, true}
use Rattle.cg_claim.specs.Build.{Table}

-- two tables have the same domain, and the same values at the places that a test names
pub record SameOn (test : ℕ → Bool) (t u : Table) : Type 0 where
  pub domain : t.domain ≡ u.domain
  pub at : (x : ℕ) → test x ≡ true → t.at x ≡ u.at x
