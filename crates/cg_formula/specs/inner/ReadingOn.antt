-- What was read before the rest of a text, put before what the rest gives.
use Rattle.std.specs.Prelude.{List, ◌++◌, Result, Ok, Err}
use Rattle.cg_text.specs.Spots.{Spot}
use Rattle.cg_formula.specs.declared.formula.Lit.{Lit}
use Rattle.cg_formula.specs.declared.dimacs.DimacsFault.{DimacsFault}

-- a clause behind these literals
abbrev pub lits_before : List Lit → Result (List Lit × List Spot) DimacsFault → Result (List Lit × List Spot) DimacsFault
lits_before front (Ok r) = Ok (front ++ r.0, r.1)
lits_before front (Err e) = Err e
