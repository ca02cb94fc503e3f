-- A claim as one question of a machine: whether, where the joined enable is 0 in the first cycle, two things can differ.
use Rattle.std.specs.Prelude.{ℕ, List, [], ◌∷◌, Option, Some, None}
use Rattle.cg_machine.specs.Claims.{Literal, Target, Shown, Next as NextTarget, Joined}

-- the copies of a machine: the first cycle, the cycle after it, and that cycle with other bits in some registers
pub data Copy : Type 0 where
  Before : Copy
  After : Copy
  Changed : Copy

-- what one side of a goal shows of a copy: the bit of a net, the next bit of a register, the bit of a register, or the
-- joined enable
pub data CopyPart : Type 0 where
  Net : ℕ → CopyPart
  Next : ℕ → CopyPart
  State : ℕ → CopyPart
  Enable : CopyPart

-- a side of a goal: a part of a copy
pub record Side : Type 0 where
  pub copy : Copy
  pub part : CopyPart

-- a question: the literals of the joined enable, the registers that hold their next bits after the first cycle, the
-- registers that may have other bits in the last copy, and the two sides that may differ. Without sides it is whether
-- the joined enable can be 0.
pub record Question : Type 0 where
  pub enables : List Literal
  pub follows : List ℕ
  pub changes : List ℕ
  pub sides : Option (Side × Side)

-- whether the joined enable can be 0
abbrev pub idle_question : List Literal → Question
idle_question E = record { enables = E; follows = []; changes = []; sides = None }

-- whether the next bit of register r can differ from its bit where e is 0
abbrev pub hold_question : Literal → ℕ → Question
hold_question e r =
    record {
      enables = e ∷ [];
      follows = [];
      changes = [];
      sides = Some (record { copy = Before; part = Next r }, record { copy = Before; part = State r });
    }

-- whether it can differ at all: what each Hold question of register r reaches beside its literal
abbrev pub held_question : ℕ → Question
held_question r =
    record {
      enables = [];
      follows = [];
      changes = [];
      sides = Some (record { copy = Before; part = Next r }, record { copy = Before; part = State r });
    }

-- whether it can differ a cycle after the joined enable was 0
abbrev pub stable_question : List Literal → ℕ → Question
stable_question E r =
    record {
      enables = E;
      follows = r ∷ [];
      changes = [];
      sides = Some (record { copy = After; part = Next r }, record { copy = After; part = State r });
    }

-- the part that shows a target
abbrev pub target_part : Target → CopyPart
target_part (Shown y) = Net y
target_part (NextTarget r) = Next r
target_part Joined = Enable

-- whether a target can differ, a cycle after the joined enable was 0, where the registers of G have other bits
abbrev pub unseen_question : List Literal → List ℕ → List ℕ → Target → Question
unseen_question E Q G t =
    record {
      enables = E;
      follows = Q;
      changes = G;
      sides = Some (record { copy = After; part = target_part t }, record { copy = Changed; part = target_part t });
    }
