-- A simulator at a moment, and what a tick makes of it.
use Rattle.std.specs.Prelude.{◌≡◌, Bool, false, List, length, map, replicate, Option, None, Some}
use Rattle.cg_netlist.specs.Circuit.{Circuit, data_inputs}
use Rattle.cg_netlist.specs.History.{Moment, MomentFollows, Tick, rises}

-- a simulator: its netlist, the bits that the registers started with, the present moment, if there was a tick, and for
-- each register whether it rose at the present moment
pub record Simulated : Type 0 where
  pub circuit : Circuit
  pub start : List Bool
  pub present : Option Moment
  pub rose : List Bool

-- for each register whether it rises from one moment to the next; at a first moment none does
abbrev pub rises_at : Circuit → Option Moment → Moment → List Bool
rises_at c None now = replicate (length c.registers) false
rises_at c (Some before) now = map (rises before.nets now.nets) c.registers

-- a simulator that has not ticked yet
abbrev pub fresh : Circuit → List Bool → Simulated
fresh c start = record { circuit = c; start = start; present = None; rose = replicate (length c.registers) false }

-- what may be the next tick: a bit for each data input, and the clock low at the first one
pub record MayTick (s : Simulated) (tick : Tick) : Type 0 where
  pub inputs : length tick.inputs ≡ length (data_inputs s.circuit)
  pub low : s.present ≡ None → tick.clock ≡ false

-- one tick further: the present moment is one that follows
pub record Ticks (old new : Simulated) (tick : Tick) : Type 0 where
  pub circuit : new.circuit ≡ old.circuit
  pub start : new.start ≡ old.start
  pub now : Moment
  pub present : new.present ≡ Some now
  pub follows : MomentFollows old.circuit old.start old.present tick now
  pub rose : new.rose ≡ rises_at old.circuit old.present now
