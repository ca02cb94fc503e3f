-- The pins of a placed cell that a text names, and the nets at them.
use Rattle.std.specs.Prelude.{ℕ, List, Option}

-- the name of a pin, and the net at it, if the text gives it one
pub record PinNet : Type 0 where
  pub pin : List ℕ
  pub net : Option (List ℕ)
