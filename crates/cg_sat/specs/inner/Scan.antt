-- What is found in a clause.
use Rattle.std.specs.Prelude.{List, Bool, true, false}
use Rattle.cg_formula.specs.declared.formula.Lit.{Lit}
use Rattle.cg_sat.specs.declared.scan.Found.{Found}
use Rattle.cg_sat.specs.declared.scan.Found.TheVariants.{Another, One, Nothing}
use Rattle.cg_sat.specs.declared.scan.Rest.{Rest}
use Rattle.cg_sat.specs.declared.scan.Rest.TheVariants.{More, One as OnlyOne, Nothing as NoneLeft}
use Rattle.cg_formula.specs.Assignments.{IsFalsified, IsUnit}

abbrev pub Finds : List Lit → List Lit → Lit → Found → Type 0
Finds trues clause given (Another lit) = Unit {0}
Finds trues clause given One = IsUnit trues clause given
Finds trues clause given Nothing = IsFalsified trues clause

-- what is found in a clause of which all literals but the given one are false, by whether that one is not
abbrev pub rest_found : Bool → Found
rest_found true = One
rest_found false = Nothing

abbrev pub Leaves : List Lit → List Lit → Lit → Rest → Type 0
Leaves trues clause given More = Unit {0}
Leaves trues clause given OnlyOne = IsUnit trues clause given
Leaves trues clause given NoneLeft = IsFalsified trues clause
