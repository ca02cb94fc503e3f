-- What is decided of a goal, which is a literal of an and-inverter list.
use Rattle.std.specs.Prelude.{◌≡◌, ℕ, Bool, true, false, List, map, length, Option, None, Some, IsTrue}
use Rattle.cg_aig.specs.Aig.{aig_ops}
use Rattle.cg_cell.specs.Domain.{Seen}
use Rattle.cg_claim.specs.declared.leaf.Leaf.{Leaf}
use Rattle.cg_claim.specs.declared.leaf.LeafBit.{LeafBit}
use Rattle.cg_cnf.specs.Clauses.{IsOneAt, formula_of}
use Rattle.cg_decide.specs.Decision.{IsNeverOne}
use Rattle.cg_formula.specs.Bounds.{IsFormula}
use Rattle.cg_lrat.specs.AcceptedLog.{IsAccepted}
use Rattle.cg_lrat.specs.Bounds.{IsLog}
use Rattle.cg_judge.specs.declared.verdict.Proof.{Proof}
use Rattle.cg_judge.specs.declared.verdict.Verdict.{Verdict}
use Rattle.cg_judge.specs.declared.verdict.Verdict.TheVariants.{Never, Sometimes}

-- a goal is a literal of the list, and this is what each leaf of the list stands for
pub record IsGoal (s : Seen) (goal : ℕ) (leaves : List Leaf) : Type 0 where
  pub valid : IsTrue (aig_ops.is_valid s goal)
  pub each_leaf : length leaves ≡ s.number

-- the goal is 1 at some bits of the leaves
pub record IsSometimesOne (s : Seen) (goal : ℕ) : Type 0 where
  pub bits : List Bool
  pub one : IsOneAt s goal bits

-- it is told whether the goal is ever 1
abbrev pub ToldOne : Seen → ℕ → Bool → Type 0
ToldOne s goal true = IsSometimesOne s goal
ToldOne s goal false = IsNeverOne s goal

-- the leaves with bits at which the goal is 1
pub record AreBits (s : Seen) (goal : ℕ) (given : List Leaf) (bits : List LeafBit) : Type 0 where
  pub leaves : map (λ (b : LeafBit). b.leaf) bits ≡ given
  pub one : IsOneAt s goal (map (λ (b : LeafBit). b.bit) bits)

-- the formula that the goal is 1, and a log that proves that nothing satisfies it; both keep to the bounds of their formats
pub record Proves (s : Seen) (goal : ℕ) (proof : Proof) : Type 0 where
  pub formula : proof.formula ≡ formula_of s goal
  pub accepted : IsAccepted proof.formula proof.log
  pub formula_fits : IsFormula proof.formula
  pub log_fits : IsLog proof.log

-- there is a proof exactly where one is wanted
abbrev pub ProvesWhere : Seen → ℕ → Bool → Option Proof → Type 0
ProvesWhere s goal wanted None = wanted ≡ false
ProvesWhere s goal wanted (Some proof) = (wanted ≡ true) × Proves s goal proof

-- a verdict on a goal is right
abbrev pub IsVerdict : Seen → ℕ → List Leaf → Bool → Verdict → Type 0
IsVerdict s goal leaves wanted (Never proof) = IsNeverOne s goal × ProvesWhere s goal wanted proof
IsVerdict s goal leaves wanted (Sometimes bits) = AreBits s goal leaves bits
