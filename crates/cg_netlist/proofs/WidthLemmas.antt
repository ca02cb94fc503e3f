-- The greatest number of inputs, cell by cell.
use Rattle.std.proofs.Common.{◌≡◌, ℕ, ◌+◌, ◌<◌, max, List, [], ◌∷◌, ◌++◌, length, get_or, take, ap, ◌∙◌, arith}
use Rattle.std.proofs.lemmas.List.{take_more}
use Rattle.cg_netlist.specs.Circuit.{LogicCell}
use Rattle.cg_netlist.specs.Netlist.{widest_of}

widest_of-push : (cells : List (LogicCell ℕ)) (cell : LogicCell ℕ) → widest_of (cells ++ cell ∷ []) ≡ max (widest_of cells) (length cell.inputs)
widest_of-push [] cell = omega arith
widest_of-push (first ∷ cells) cell = omega (arith, widest_of-push cells cell)

pub widest_of-more : (cells : List (LogicCell ℕ)) (i : ℕ) (d : LogicCell ℕ) → i < length cells → widest_of (take (i + 1) cells) ≡ max (widest_of (take i cells)) (length (get_or cells i d).inputs)
widest_of-more cells i d within = ap widest_of (take_more cells i d within) ∙ widest_of-push (take i cells) (get_or cells i d)
