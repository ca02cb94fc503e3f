-- The bits of a netlist's nets as a function: logic cells are put one after another, in walk order.
use Rattle.std.specs.Prelude.{◌≡◌, ℕ, ◌==◌, Bool, true, false, if◌then◌else◌, List, [], ◌∷◌, ◌++◌, map, length, slice_get}
use Rattle.std.specs.Prelude.{slice_set, Some, nat_eq}
use Rattle.std.specs.List.{filter, flat_map, range_with_len}
use Rattle.std.specs.Option.{option_map_or, option_to_list}
use Rattle.cg_netlist.specs.Circuit.{Circuit, LogicCell, given_nets}
use Rattle.cg_net.specs.NetSets.{is_in}
use Rattle.cg_netlist.specs.Moment.{function_value, register_bits, values_at}
use Rattle.cg_netlist.specs.Ranks.{rank_of}

-- the output nets of cells
abbrev pub outputs : List (LogicCell ℕ) → List ℕ
outputs cells = map (λ cell. cell.output) cells

-- whether cell k has this rank
abbrev pub has_rank : List (LogicCell ℕ) → ℕ → ℕ → Bool
has_rank cells rank k = option_map_or (λ r. r == rank) (rank_of cells k) false

-- walk order: rank by rank, and the cells of one rank by number
abbrev pub walk_order : List (LogicCell ℕ) → List ℕ
walk_order cells = let numbers = range_with_len 0 (length cells) in flat_map (λ rank. filter (has_rank cells rank) numbers) numbers

-- the cells in walk order
abbrev pub walked : List (LogicCell ℕ) → List (LogicCell ℕ)
walked cells = values_at cells (walk_order cells)

-- no input of a cell is an output of the cell or of one behind it
abbrev pub IsOrdered : List (LogicCell ℕ) → Type 0
IsOrdered [] = Unit {0}
IsOrdered (cell ∷ cells) = ((x : ℕ) → is_in cell.inputs x ≡ true → is_in (outputs (cell ∷ cells)) x ≡ false) × IsOrdered cells

-- an order in which the cells may be put: the cells themselves, all of them, each behind those that drive its inputs
pub record IsWalk (cells walk : List (LogicCell ℕ)) : Type 0 where
  pub ordered : IsOrdered walk
  pub of_cells : (j : ℕ) (cell : LogicCell ℕ) → slice_get walk j ≡ Some cell → (k : ℕ) × (slice_get cells k ≡ Some cell)
  pub placed : (k : ℕ) (cell : LogicCell ℕ) → slice_get cells k ≡ Some cell → (j : ℕ) × (slice_get walk j ≡ Some cell)
  pub whole : (x : ℕ) → is_in (outputs cells) x ≡ true → is_in (outputs walk) x ≡ true

-- what stands beside a net in a list of nets
abbrev pub beside : {T : Type 0} → T → List ℕ → List T → ℕ → T
beside other [] items x = other
beside other (n ∷ nets) [] x = other
beside other (n ∷ nets) (i ∷ items) x = if nat_eq x n then i else beside other nets items x

-- the bits of the given nets
abbrev pub given_bits : Circuit → Bool → List Bool → List Bool → List Bool → List Bool
given_bits c clock inputs state gates =
    inputs ++ map (λ _. clock) (option_to_list c.clock) ++ gates ++ register_bits c.registers state

-- a cell's output gets its function of its inputs
abbrev pub put_cell : LogicCell ℕ → List Bool → List Bool
put_cell cell nets = slice_set nets cell.output (function_value cell.function (values_at nets cell.inputs))

abbrev pub put_cells : List (LogicCell ℕ) → List Bool → List Bool
put_cells [] nets = nets
put_cells (cell ∷ cells) nets = put_cells cells (put_cell cell nets)

-- the bits of all nets, with the cells put in the order of `walk`
unfoldable pub nets_of : Circuit → List (LogicCell ℕ) → Bool → List Bool → List Bool → List Bool → List Bool
nets_of c walk clock inputs state gates =
    put_cells walk (map (beside false (given_nets c) (given_bits c clock inputs state gates)) (range_with_len 0 (length c.names)))
