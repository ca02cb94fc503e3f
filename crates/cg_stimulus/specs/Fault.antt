-- Reading that stops at the first fault.
use Rattle.std.specs.Prelude.{Result, Ok, Err}
use Rattle.cg_stimulus.specs.declared.fault.StimulusFault.{StimulusFault}

-- what reading goes on with, or the first fault
infixl 10 ◌>>=◌
abbrev pub ◌>>=◌ : {A B : Type 0} → Result A StimulusFault → (A → Result B StimulusFault) → Result B StimulusFault
(Ok x) >>= f = f x
(Err e) >>= f = Err e
