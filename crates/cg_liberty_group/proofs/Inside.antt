-- Groups inside a group are passed over.
use Rattle.std.proofs.Common.{◌≡◌, ℕ, zero, suc, List, [], ◌∷◌, refl}
use Rattle.cg_liberty_group.specs.Cell.{cell_from}
use Rattle.cg_liberty_group.specs.Group.{behind, flop_from, pin_from}
use Rattle.cg_liberty_group.specs.declared.group.CellGroup.{CellGroup}
use Rattle.cg_liberty_group.specs.declared.group.FlopGroup.{FlopGroup}
use Rattle.cg_liberty_group.specs.declared.group.PinGroup.{PinGroup}
use Rattle.cg_liberty_text.specs.declared.statement.Statement.{Statement}
use Rattle.cg_liberty_text.specs.declared.statement.Statement.TheVariants.{Open, Close, Attribute}

pub behind_inside : (inside : ℕ) (statements : List Statement) → behind (suc inside) statements ≡ behind 0 (behind inside statements)
behind_inside inside [] = refl
behind_inside inside (Open word texts ∷ after) = behind_inside (suc inside) after
behind_inside zero (Close ∷ after) = refl
behind_inside (suc inside) (Close ∷ after) = behind_inside inside after
behind_inside inside (Attribute word text ∷ after) = behind_inside inside after

pub pin_inside : (inside : ℕ) (pin : PinGroup) (statements : List Statement) → pin_from (suc inside) pin statements ≡ pin_from 0 pin (behind inside statements)
pin_inside inside pin [] = refl
pin_inside inside pin (Open word texts ∷ after) = pin_inside (suc inside) pin after
pin_inside zero pin (Close ∷ after) = refl
pin_inside (suc inside) pin (Close ∷ after) = pin_inside inside pin after
pin_inside inside pin (Attribute word text ∷ after) = pin_inside inside pin after

pub flop_inside : (inside : ℕ) (flop : FlopGroup) (statements : List Statement) → flop_from (suc inside) flop statements ≡ flop_from 0 flop (behind inside statements)
flop_inside inside flop [] = refl
flop_inside inside flop (Open word texts ∷ after) = flop_inside (suc inside) flop after
flop_inside zero flop (Close ∷ after) = refl
flop_inside (suc inside) flop (Close ∷ after) = flop_inside inside flop after
flop_inside inside flop (Attribute word text ∷ after) = flop_inside inside flop after

pub cell_inside : (inside : ℕ) (cell : CellGroup) (statements : List Statement) → cell_from (suc inside) cell statements ≡ cell_from 0 cell (behind inside statements)
cell_inside inside cell [] = refl
cell_inside inside cell (Open word texts ∷ after) = cell_inside (suc inside) cell after
cell_inside zero cell (Close ∷ after) = refl
cell_inside (suc inside) cell (Close ∷ after) = cell_inside inside cell after
cell_inside inside cell (Attribute word text ∷ after) = cell_inside inside cell after
