-- What is read of a register before its cell is made.
use Rattle.std.specs.Prelude.{Bool, List, ◌++◌, ℕ, Option, Result, Ok}
use Rattle.std.specs.Option.{option_map}
use Rattle.cg_cell.specs.Expr.{term_of}
use Rattle.cg_cell.specs.Term.{Term}
use Rattle.cg_liberty_group.specs.Group.{text_of}
use Rattle.cg_liberty_group.specs.declared.group.FlopGroup.{FlopGroup}
use Rattle.cg_liberty.specs.Kinds.{all_known, inverses_read, state_names}
use Rattle.cg_liberty.specs.Reading.{reading, then_read}
use Rattle.cg_liberty.specs.declared.fault.CellFault.{CellFault}
use Rattle.cg_liberty.specs.declared.flop.FlopParts.{FlopParts}

-- the next state, the clock, and of each output whether it gives the inverse, where each gives the state or the inverse
pub record Parts : Type 0 where
  pub next : Option Term
  pub clocked : Option Term
  pub known : Option (List Bool)

abbrev pub parts_of : FlopParts → Parts
parts_of parts = record {
  next = option_map term_of parts.next;
  clocked = option_map term_of parts.clocked;
  known = option_map (λ known. known.items) parts.known;
}

-- the parts of a register with these inputs and functions of outputs, or the first fault of its expressions
abbrev pub parts_read : List (List ℕ) → List (Option (List ℕ)) → FlopGroup → Result Parts CellFault
parts_read inputs outputs flop =
    then_read (reading (inputs ++ state_names flop.names) (text_of flop.next_state)) (λ next.
    then_read (reading inputs (text_of flop.clocked_on)) (λ clocked.
    then_read (inverses_read (state_names flop.names) outputs) (λ found.
    Ok (record { next = next; clocked = clocked; known = all_known found }))))
