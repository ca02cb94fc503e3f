-- A pipeline of four ranks of registers, made in any size, with a stimulus and the library of its cells. A valid bit goes along in
-- three registers; the second rank loads with its first delay and the last rank with its third.
use Rattle.std.specs.Prelude.{ℕ, zero, suc, ◌+◌, ◌%◌, ◌==◌, Bool, if◌then◌else◌, List, [], ◌∷◌, ◌++◌, codes}
use Rattle.std.specs.Fmt.{decimal}

-- the texts of the numbers below n, one behind the other
abbrev pub each : ℕ → (ℕ → List ℕ) → List ℕ
each zero text = []
each (suc n) text = each n text ++ text n

abbrev pub line : List ℕ → List ℕ
line text = text ++ 10 ∷ []

-- a net of a rank: a letter and a number
abbrev pub net : ℕ → ℕ → List ℕ
net letter i = letter ∷ decimal i

-- nets of a rank, each behind a space
abbrev pub nets : ℕ → ℕ → List ℕ
nets n letter = each n (λ i. 32 ∷ net letter i)

-- the three cells of a place: the second rank holds, the third takes the inverse, the last holds
abbrev pub entry_line : ℕ → List ℕ
entry_line i = line (codes ".gate MUX2 A=b" ++ decimal i ++ codes " B=a" ++ decimal i ++ codes " S=v1 Y=m" ++ decimal i)

abbrev pub inverter_line : ℕ → List ℕ
inverter_line i = line (codes ".gate INV A=b" ++ decimal i ++ codes " Y=n" ++ decimal i)

abbrev pub exit_line : ℕ → List ℕ
exit_line i = line (codes ".gate MUX2 A=e" ++ decimal i ++ codes " B=c" ++ decimal i ++ codes " S=v3 Y=k" ++ decimal i)

abbrev pub cell_lines : ℕ → List ℕ
cell_lines i = entry_line i ++ inverter_line i ++ exit_line i

-- the registers of a rank
abbrev pub latch_line : ℕ → ℕ → ℕ → List ℕ
latch_line input output i = line (codes ".latch " ++ net input i ++ 32 ∷ net output i ++ codes " re clk 0")

abbrev pub latch_lines : ℕ → ℕ → ℕ → List ℕ
latch_lines n input output = each n (latch_line input output)

-- those of the valid bit
abbrev pub valid_lines : List ℕ
valid_lines =
    line (codes ".latch valid v1 re clk 0") ++ line (codes ".latch v1 v2 re clk 0") ++ line (codes ".latch v2 v3 re clk 0")

-- the netlist: from d to a, by m to b, by n to c, by k to e
abbrev pub generated : ℕ → List ℕ
generated n =
    line (codes ".model demo")
    ++ line (codes ".inputs valid" ++ nets n 100)
    ++ line (codes ".outputs" ++ nets n 101)
    ++ line (codes ".clock clk")
    ++ each n cell_lines
    ++ valid_lines
    ++ latch_lines n 100 97
    ++ latch_lines n 109 98
    ++ latch_lines n 110 99
    ++ latch_lines n 107 101
    ++ line (codes ".end")

-- the stimulus: 100 rows; the valid bit is 1 in every fourth, and the data bits alternate
abbrev pub bit_byte : Bool → ℕ
bit_byte bit = if bit then 49 else 48

abbrev pub row : ℕ → ℕ → List ℕ
row n j = line (bit_byte (j % 4 == 0) ∷ each n (λ i. bit_byte ((i + j) % 2 == 1) ∷ []))

abbrev pub stimulus : ℕ → List ℕ
stimulus n = line (codes "inputs valid" ++ nets n 100) ++ each 100 (row n)

-- the library
abbrev pub library : List ℕ
library =
    line (codes "library (rows) {")
    ++ line (codes "  cell (INV) { pin (A) { direction : input; }")
    ++ line (codes "    pin (Y) { direction : output; function : \"A'\"; } }")
    ++ line (codes "  cell (AND2) { pin (A) { direction : input; } pin (B) { direction : input; }")
    ++ line (codes "    pin (Y) { direction : output; function : \"A * B\"; } }")
    ++ line (codes "  cell (OR2) { pin (A) { direction : input; } pin (B) { direction : input; }")
    ++ line (codes "    pin (Y) { direction : output; function : \"A + B\"; } }")
    ++ line (codes "  cell (MUX2) { pin (A) { direction : input; } pin (B) { direction : input; }")
    ++ line (codes "    pin (S) { direction : input; }")
    ++ line (codes "    pin (Y) { direction : output; function : \"(A * S') + (B * S)\"; } }")
    ++ line (codes "  cell (DFF) { ff (IQ, IQN) { next_state : \"D\"; clocked_on : \"CK\"; }")
    ++ line (codes "    pin (D) { direction : input; } pin (CK) { direction : input; clock : true; }")
    ++ line (codes "    pin (Q) { direction : output; function : \"IQ\"; } }")
    ++ line (codes "  cell (DFFR) { ff (IQ, IQN) { next_state : \"D\"; clocked_on : \"CK\"; clear : \"RN'\"; }")
    ++ line (codes "    pin (D) { direction : input; } pin (CK) { direction : input; }")
    ++ line (codes "    pin (RN) { direction : input; }")
    ++ line (codes "    pin (Q) { direction : output; function : \"IQ\"; } }")
    ++ line (codes "  cell (ICG) { clock_gating_integrated_cell : \"latch_posedge\";")
    ++ line (codes "    pin (CK) { direction : input; clock_gate_clock_pin : true; }")
    ++ line (codes "    pin (E) { direction : input; clock_gate_enable_pin : true; }")
    ++ line (codes "    pin (GCK) { direction : output; clock_gate_out_pin : true; } }")
    ++ line (codes "}")
