-- The words of a `.latch` line.
use Rattle.std.specs.Prelude.{ℕ, ◌-◌, ◌==◌, ◌&&◌, if◌then◌else◌, List, [], ◌∷◌, length, slice_index, codes, nat_le, Option, None}
use Rattle.std.specs.Prelude.{Some, Result, Ok, Err}
use Rattle.std.specs.Str.{bytes_eq}
use Rattle.cg_blif_text.specs.declared.fault.LineFault.{LineFault}
use Rattle.cg_blif_text.specs.declared.fault.LineFault.TheVariants.{BadLatch}
use Rattle.cg_blif_text.specs.declared.statement.Statement.{Statement}
use Rattle.cg_blif_text.specs.declared.statement.Statement.TheVariants.{Latch}

-- the init that a word says: one digit from 0 to 3
abbrev pub init_of : List ℕ → Option ℕ
init_of word =
    if length word == 1 && nat_le 48 (slice_index word 0) && nat_le (slice_index word 0) 51 then Some (slice_index word 0 - 48)
    else None

-- the clock that a word says: `NIL` is the one global clock
abbrev pub control_of : List ℕ → Option (List ℕ)
control_of word = if bytes_eq word (codes "NIL") then None else Some word

abbrev pub latch_with : List ℕ → List ℕ → Option (List ℕ) → Option ℕ → Result Statement LineFault
latch_with input output clock None = Err BadLatch
latch_with input output clock (Some init) = Ok (Latch input output clock init)

-- a register of this type, on this clock
abbrev pub latch_typed : List ℕ → List ℕ → List ℕ → List ℕ → Option ℕ → Result Statement LineFault
latch_typed input output type control init =
    if bytes_eq type (codes "re") then latch_with input output (control_of control) init else Err BadLatch

-- The register that the words behind `.latch` say: input and output, and then nothing, an init, type and clock, or type,
-- clock and init. The one type is `re`, a clock that is missing is the global clock, an init that is missing is 3.
abbrev pub latch_line : List (List ℕ) → Result Statement LineFault
latch_line (input ∷ output ∷ []) = latch_with input output None (Some 3)
latch_line (input ∷ output ∷ init ∷ []) = latch_with input output None (init_of init)
latch_line (input ∷ output ∷ type ∷ control ∷ []) = latch_typed input output type control (Some 3)
latch_line (input ∷ output ∷ type ∷ control ∷ init ∷ []) = latch_typed input output type control (init_of init)
latch_line words = Err BadLatch
