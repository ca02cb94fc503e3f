-- Libraries: lists of cells, and the first cell of a name or of a kind.
use Rattle.std.specs.Prelude.{◌≡◌, ℕ, ◌≤◌, List, [], ◌∷◌, length, find, map, position, Bool, if◌then◌else◌, IsTrue, Option, None}
use Rattle.std.specs.Prelude.{Some}
use Rattle.std.specs.List.{AllByRecursion}
use Rattle.std.specs.Str.{bytes_eq}
use Rattle.cg_limit.specs.declared.TheConstants.{MOST_LIBRARY_CELLS}
use Rattle.cg_cell.specs.Cell.{CellData, IsCell}
use Rattle.cg_cell.specs.Fit.{is_fit}
use Rattle.cg_cell.specs.Name.{are_distinct}
use Rattle.cg_cell.specs.declared.fit.FitKind.{FitKind}
use Rattle.cg_cell.specs.declared.fit.FitKind.TheVariants.{Gater, TestGater, Inv, And2, Or2}

-- the number of the cell of a name
abbrev pub find_cell : List ℕ → List CellData → Option ℕ
find_cell name cells = position (λ cell. bytes_eq name cell.name) cells

-- the names of cells
abbrev pub names_of : List CellData → List (List ℕ)
names_of cells = map (λ cell. cell.name) cells

-- a cell is the one that stands among the cells under its name
abbrev pub IsFound : List CellData → CellData → Type 0
IsFound cells cell = find (λ other. bytes_eq cell.name other.name) cells ≡ Some cell

-- the number of the first cell of a kind
abbrev pub first_fit : FitKind → List CellData → Option ℕ
first_fit kind cells = position (is_fit kind) cells

-- the first that was found, after one more is looked at
abbrev pub noted : Option ℕ → ℕ → Bool → Option ℕ
noted (Some first) number fits = Some first
noted None number fits = if fits then Some number else None

-- each cell stands under its name; a key has its bytes
abbrev pub AreNamed : {K : Type 0} → (K → List ℕ) → List (K × CellData) → Type 0
AreNamed bytes [] = Unit {0}
AreNamed bytes (e ∷ es) = (bytes e.0 ≡ e.1.name) × AreNamed bytes es

-- what a library keeps: each cell under its name, at most so many of them, no two of one name, and the first of each kind
pub record IsLibrary {K : Type 0} (bytes : K → List ℕ) (entries : List (K × CellData)) (cells : List CellData)
    (gater test_gater inv and2 or2 : Option ℕ) : Type 0 where
  pub names : AreNamed bytes entries
  pub few : length cells ≤ MOST_LIBRARY_CELLS
  pub are_cells : AllByRecursion IsCell cells
  pub distinct : IsTrue (are_distinct (names_of cells))
  pub gaters : gater ≡ first_fit Gater cells
  pub test_gaters : test_gater ≡ first_fit TestGater cells
  pub inverters : inv ≡ first_fit Inv cells
  pub ands : and2 ≡ first_fit And2 cells
  pub ors : or2 ≡ first_fit Or2 cells
