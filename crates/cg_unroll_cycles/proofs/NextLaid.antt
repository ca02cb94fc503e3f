-- The next bits of registers are laid, one after another.
use Rattle.std.proofs.Common.{ℕ, ◌<◌, List, [], ◌∷◌, length, slice_set, refl, ◌∙◌, ap, subst}
use Rattle.std.proofs.Math.ListN.{length-set}
use Rattle.cg_cell.specs.Domain.{AreValid, Seen}
use Rattle.cg_cell.proofs.Building.{keeps_self, keeps_then}
use Rattle.cg_cell.proofs.Evals.{valid_then}
use Rattle.cg_aig.specs.Aig.{aig_ops}
use Rattle.cg_aig.specs.declared.fault.AigFault.{AigFault}
use Rattle.cg_machine.specs.Machine.{MachineData}
use Rattle.cg_claim.specs.Build.{Table, aig_values, next_run, put_run}
use Rattle.cg_claim.specs.Tables.{SameOn}
use Rattle.cg_claim.proofs.ReachedOnly.{put_same, same_then}
use Rattle.cg_claim.specs.form.Build.{Cycle}
use Rattle.cg_hint_laws.specs.Build.{lay_next}
use Rattle.cg_unroll.specs.Building.{Built, MayFail, table_of}
use Rattle.cg_unroll.proofs.Building.{fails_longer}
use Rattle.cg_unroll.proofs.Laying.{everywhere, valid_set, written}
use Rattle.cg_unroll_cycles.specs.inner.Laid.{IsLayingNext, LaysNext}
use Rattle.cg_unroll_cycles.proofs.Wholes.{lay_next_grows}

module _ (m : MachineData) (c : Cycle) where
  lay_everywhere : (rs : List ℕ) (t u : Table) → SameOn everywhere t u → SameOn everywhere (lay_next aig_values m c rs t) (lay_next aig_values m c rs u)
  lay_everywhere [] t u same = same
  lay_everywhere (r ∷ rs) t u same =
      let one = next_run aig_values m c.nets c.states r t.domain in
      let other = next_run aig_values m c.nets c.states r u.domain in
      lay_everywhere rs (put_run t r one) (put_run u r other) (put_same aig_values everywhere t u r one other same (ap (λ s. next_run aig_values m c.nets c.states r s) same.domain))

  pub next_starts : (all : List ℕ) (s : Seen) (old : List ℕ) → AreValid aig_ops s old → IsLayingNext m c all all s s old old
  next_starts all s old valid = record { leads = record { domain = refl; at = λ x _. refl }; keeps = keeps_self aig_ops s; valid = valid; long = refl }

  pub next_ends : (all : List ℕ) (s t : Seen) (old now : List ℕ) → IsLayingNext m c all [] s t old now → LaysNext m c all s t old now
  next_ends all s t old now laying = record { same = laying.leads; keeps = laying.keeps; valid = laying.valid; long = laying.long }

  module _ (all left : List ℕ) (r : ℕ) (s t : Seen) (old now : List ℕ) (laying : IsLayingNext m c all (r ∷ left) s t old now) where
    pub next_on : (u : Seen) (v : ℕ) → r < length now → Built t u v (next_run aig_values m c.nets c.states r t) → IsLayingNext m c all left s u old (slice_set now r v)
    next_on u v below built =
        let run = next_run aig_values m c.nets c.states r t in
        record {
          leads = same_then everywhere (lay_next aig_values m c left (table_of u (slice_set now r v))) (lay_next aig_values m c left (put_run (table_of t now) r run)) (lay_next aig_values m c all (table_of s old))
              (lay_everywhere left (table_of u (slice_set now r v)) (put_run (table_of t now) r run) (written t u now r v run below built.builds))
              laying.leads;
          keeps = keeps_then aig_ops s t u laying.keeps built.keeps;
          valid = valid_set u now r v (valid_then aig_ops t u now built.keeps laying.valid) built.valid;
          long = length-set now r v ∙ laying.long;
        }

    pub next_fails : (fault : AigFault) → MayFail (next_run aig_values m c.nets c.states r t).domain fault → MayFail (lay_next aig_values m c all (table_of s old)).domain fault
    next_fails fault h =
        let run = next_run aig_values m c.nets c.states r t in
        subst (λ d. MayFail d fault) laying.leads.domain
        (fails_longer run.domain (lay_next aig_values m c left (put_run (table_of t now) r run)).domain fault (lay_next_grows m c left (put_run (table_of t now) r run)) h)
