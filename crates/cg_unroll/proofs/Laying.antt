-- Cells are laid by what tables hold, one after another.
use Rattle.std.proofs.Common.{◌≡◌, ℕ, zero, suc, ◌<◌, Bool, true, false, if◌then◌else◌, List, [], ◌∷◌, length, nat_eq, slice_set}
use Rattle.std.proofs.Common.{slice_index_or, IsTrue, refl, sym, ◌∙◌, ap, subst}
use Rattle.std.proofs.lemmas.Bool.{both_ways, eqb-true, eq-eqb}
use Rattle.std.proofs.lemmas.List.{get_or-set_same, get_or-set_other}
use Rattle.std.proofs.Math.ListN.{length-set}
use Rattle.cg_cell.specs.Build.{Builds, Run}
use Rattle.cg_cell.specs.Domain.{AreValid, Seen}
use Rattle.cg_cell.proofs.Building.{keeps_self, keeps_then}
use Rattle.cg_cell.proofs.Evals.{valid_then}
use Rattle.cg_aig.specs.Aig.{aig_ops}
use Rattle.cg_aig.specs.declared.fault.AigFault.{AigFault}
use Rattle.cg_netlist.specs.Circuit.{LogicCell}
use Rattle.cg_claim.specs.Build.{aig_values, cell_run, lay, put_run}
use Rattle.cg_claim.specs.Tables.{SameOn}
use Rattle.cg_claim.proofs.ReachedOnly.{lay_same, same_then}
use Rattle.cg_claim.proofs.WholeLists.{lay_grows}
use Rattle.cg_unroll.specs.Building.{Built, IsLaying, LaysCells, MayFail, table_of}
use Rattle.cg_unroll.proofs.Building.{fails_longer}

abbrev pub everywhere : ℕ → Bool
everywhere x = true

-- a table of literals with one more written is the table after the run that made it
pub written : (s t : Seen) (literals : List ℕ) (x a : ℕ) (r : Run) → x < length literals → Builds r t a → SameOn everywhere (table_of t (slice_set literals x a)) (put_run (table_of s literals) x r)
written s t literals x a r below b = record { domain = sym b.left; at = λ y _. go y (nat_eq y x) refl }
  where
    go : (y : ℕ) (b' : Bool) → nat_eq y x ≡ b' → slice_index_or (slice_set literals x a) y 0 ≡ (if b' then r.answer else slice_index_or literals y 0)
    go y true is = ap (λ z. slice_index_or (slice_set literals x a) z 0) (eqb-true y x is) ∙ (get_or-set_same literals x a 0 below ∙ sym b.answered)
    go y false is = get_or-set_other literals x y a 0 (λ e. both_ways (nat_eq y x) is (eq-eqb y x e))

pub valid_set : (t : Seen) (literals : List ℕ) (x a : ℕ) → AreValid aig_ops t literals → IsTrue (aig_ops.is_valid t a) → AreValid aig_ops t (slice_set literals x a)
valid_set t [] x a valid h = valid
valid_set t (l ∷ literals) zero a valid h = (h, valid.1)
valid_set t (l ∷ literals) (suc x) a valid h = (valid.0, valid_set t literals x a valid.1 h)

-- one cell
pub lays_cell : (cell : LogicCell ℕ) (s t : Seen) (literals : List ℕ) (v : ℕ) → cell.output < length literals → AreValid aig_ops s literals
    → Built s t v (cell_run aig_values cell (table_of s literals)) → LaysCells (cell ∷ []) s t literals (slice_set literals cell.output v)
lays_cell cell s t literals v below valid built = record {
  same = written s t literals cell.output v (cell_run aig_values cell (table_of s literals)) below built.builds;
  keeps = built.keeps;
  valid = valid_set t literals cell.output v (valid_then aig_ops s t literals built.keeps valid) built.valid;
  long = length-set literals cell.output v;
}

-- one cell, and those behind it
pub laying_on : (all left : List (LogicCell ℕ)) (cell : LogicCell ℕ) (s t u : Seen) (old now new : List ℕ) → IsLaying all (cell ∷ left) s t old now → LaysCells (cell ∷ []) t u now new → IsLaying all left s u old new
laying_on all left cell s t u old now new laying laid = record {
  leads = same_then everywhere (lay aig_values left (table_of u new)) (lay aig_values (cell ∷ left) (table_of t now)) (lay aig_values all (table_of s old))
      (lay_same aig_values everywhere left (table_of u new) (lay aig_values (cell ∷ []) (table_of t now)) (λ k c at x among. refl) laid.same)
      laying.leads;
  keeps = keeps_then aig_ops s t u laying.keeps laid.keeps;
  valid = laid.valid;
  long = laid.long ∙ laying.long;
}

pub laying_fails : (all left : List (LogicCell ℕ)) (cell : LogicCell ℕ) (s t : Seen) (old now : List ℕ) (fault : AigFault) → IsLaying all (cell ∷ left) s t old now
    → MayFail (lay aig_values (cell ∷ []) (table_of t now)).domain fault → MayFail (lay aig_values all (table_of s old)).domain fault
laying_fails all left cell s t old now fault laying h =
    subst (λ d. MayFail d fault) laying.leads.domain
    (fails_longer (lay aig_values (cell ∷ []) (table_of t now)).domain (lay aig_values (cell ∷ left) (table_of t now)).domain fault (lay_grows left (lay aig_values (cell ∷ []) (table_of t now))) h)

pub laying_starts : (all : List (LogicCell ℕ)) (s : Seen) (old : List ℕ) → AreValid aig_ops s old → IsLaying all all s s old old
laying_starts all s old valid = record { leads = record { domain = refl; at = λ x _. refl }; keeps = keeps_self aig_ops s; valid = valid; long = refl }

pub laying_ends : (all : List (LogicCell ℕ)) (s t : Seen) (old now : List ℕ) → IsLaying all [] s t old now → LaysCells all s t old now
laying_ends all s t old now laying = record { same = laying.leads; keeps = laying.keeps; valid = laying.valid; long = laying.long }
