-- Groups inside the group of a library are passed over.
use Rattle.std.proofs.Common.{◌≡◌, ℕ, zero, suc, List, [], ◌∷◌, refl}
use Rattle.cg_liberty_group.specs.Group.{behind}
use Rattle.cg_liberty.specs.Library.{cells_from}
use Rattle.cg_liberty_text.specs.declared.statement.Statement.{Statement}
use Rattle.cg_liberty_text.specs.declared.statement.Statement.TheVariants.{Open, Close, Attribute}

pub cells_inside : (inside : ℕ) (statements : List Statement) → cells_from (suc inside) statements ≡ cells_from 0 (behind inside statements)
cells_inside inside [] = refl
cells_inside inside (Open word texts ∷ after) = cells_inside (suc inside) after
cells_inside zero (Close ∷ after) = refl
cells_inside (suc inside) (Close ∷ after) = cells_inside inside after
cells_inside inside (Attribute word text ∷ after) = cells_inside inside after
