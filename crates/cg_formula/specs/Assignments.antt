-- What a clause is where some literals are true and no others are: falsified, or unit.
use Rattle.std.specs.Prelude.{◌≡◌, true, false, List, ◌⊎◌}
use Rattle.cg_formula.specs.declared.formula.Lit.{Lit}
use Rattle.cg_formula.specs.Lits.{inverse, is_in}

-- all literals of the clause are false
pub record IsFalsified (trues clause : List Lit) : Type 0 where
  pub all : (lit : Lit) → is_in lit clause ≡ true → is_in (inverse lit) trues ≡ true

-- this literal is in the clause, and all others of the clause are false
pub record IsUnit (trues clause : List Lit) (one : Lit) : Type 0 where
  pub among : is_in one clause ≡ true
  pub others : (lit : Lit) → is_in lit clause ≡ true → (lit ≡ one) ⊎ (is_in (inverse lit) trues ≡ true)

-- the literal is neither true nor false
pub record IsUnassigned (trues : List Lit) (lit : Lit) : Type 0 where
  pub not_true : is_in lit trues ≡ false
  pub not_false : is_in (inverse lit) trues ≡ false
