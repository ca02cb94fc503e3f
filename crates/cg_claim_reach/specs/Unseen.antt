-- The registers of unobservability claims.
use Rattle.std.specs.Prelude.{ℕ, List}

-- registers that may have other bits, and their guards, which hold their next bits
pub record UnseenData : Type 0 where
  pub guards : List ℕ
  pub regs : List ℕ
