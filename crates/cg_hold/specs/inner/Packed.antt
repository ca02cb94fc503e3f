-- Literals as numbers.
use Rattle.std.specs.Prelude.{ℕ, ◌+◌, ◌*◌, ◌-◌, ◌/◌, ◌%◌, nat_eq, if◌then◌else◌, Some}
use Rattle.cg_stage_list_laws.specs.Literals.{ZeroCounts, zero_count}
use Rattle.cg_machine.specs.Claims.{Literal}

-- the place of a literal: net by net, plain before inverted
abbrev pub literal_place : Literal → ℕ
literal_place l = 2 * l.0 + (if l.1 then 1 else 0)

-- the number of a literal: its rank, which is less where it is 0 on more rows, before its place; 2097152 is twice the nets
-- that a netlist may have, more than the place of any literal
abbrev pub packed : ZeroCounts → Literal → ℕ
packed counts l = (counts.rows - zero_count (Some counts) l) * 2097152 + literal_place l

-- the literal of a number
abbrev pub unpacked : ℕ → Literal
unpacked n = ((n % 2097152) / 2, nat_eq ((n % 2097152) % 2) 1)
