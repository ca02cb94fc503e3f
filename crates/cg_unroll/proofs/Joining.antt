-- The literals of the joined enable, one after another.
use Rattle.std.proofs.Common.{◌≡◌, ℕ, suc, ◌+◌, ◌<◌, ◌≤◌, Bool, true, false, if◌then◌else◌, List, [], ◌∷◌, drop, length, slice_get}
use Rattle.std.proofs.Common.{slice_index_or, Some, IsTrue, sym, ◌∙◌, ap, subst, arith}
use Rattle.std.proofs.lemmas.Option.{none-some, same_Some}
use Rattle.cg_cell.specs.Build.{build_or}
use Rattle.cg_cell.specs.Domain.{AreValid, Seen}
use Rattle.cg_cell.proofs.Building.{keeps_self, keeps_then}
use Rattle.cg_cell.proofs.Evals.{valid_at}
use Rattle.cg_aig.specs.Aig.{aig_ops, inverse}
use Rattle.cg_aig.specs.declared.fault.AigFault.{AigFault}
use Rattle.cg_machine.specs.Claims.{Literal}
use Rattle.cg_claim.specs.Build.{aig_values, enable_run, join_run, literal_of}
use Rattle.cg_claim.proofs.WholeLists.{join_grows, run_fits}
use Rattle.cg_unroll.specs.Building.{Built, MayFail}
use Rattle.cg_unroll.specs.inner.Joining.{IsJoining}
use Rattle.cg_unroll.proofs.Building.{fails_longer}
use Rattle.cg_unroll.proofs.Gating.{inverse_valid}
use Rattle.cg_net.proofs.TableLemmas.{drop_cons}
use Rattle.cg_claim_reach.proofs.Marking.{drop_whole}

-- a literal of nets that have valid literals
pub literal_valid : (s : Seen) (literals : List ℕ) (l : Literal) → AreValid aig_ops s literals → l.0 < length literals → IsTrue (aig_ops.is_valid s (literal_of aig_values (λ x. slice_index_or literals x 0) l))
literal_valid s literals l valid below = go l.1
  where
    go : (b : Bool) → IsTrue (aig_ops.is_valid s (if b then inverse (slice_index_or literals l.0 0) else slice_index_or literals l.0 0))
    go true = inverse_valid s (slice_index_or literals l.0 0) (valid_at aig_ops s literals l.0 valid below)
    go false = valid_at aig_ops s literals l.0 valid below

pub joining_starts : (nets : ℕ → ℕ) (enables : List Literal) (s : Seen) (a : ℕ) (l : Literal) → slice_get enables 0 ≡ Some l → a ≡ literal_of aig_values nets l → IsTrue (aig_ops.is_valid s a) → IsJoining nets enables s s a 1
joining_starts nets [] s a l at is valid = absurd (none-some l at)
joining_starts nets (e ∷ enables) s a l at is valid =
    let same : a ≡ literal_of aig_values nets e = is ∙ ap (literal_of aig_values nets) (sym (same_Some e l at)) in
    record {
      answer = ap (λ x. (join_run aig_values nets x enables s).answer) same;
      domain = ap (λ x. (join_run aig_values nets x enables s).domain) same;
      keeps = keeps_self aig_ops s;
      valid = valid;
    }

module _ (nets : ℕ → ℕ) (enables : List Literal) (s t : Seen) (a k : ℕ) (l : Literal) (at : slice_get enables k ≡ Some l) (joining : IsJoining nets enables s t a k) where
  left : drop k enables ≡ l ∷ drop (k + 1) enables
  left = let e : suc k ≡ k + 1 = omega arith in drop_cons enables k l at ∙ ap (λ n. l ∷ drop n enables) e

  pub joining_on : (u : Seen) (b : ℕ) → Built t u b (build_or aig_ops a (literal_of aig_values nets l) t) → IsJoining nets enables s u b (k + 1)
  joining_on u b built =
      let rest = drop (k + 1) enables in
      let r = build_or aig_ops a (literal_of aig_values nets l) t in
      record {
        answer = sym (ap (λ d. (join_run aig_values nets r.answer rest d).answer) built.builds.left ∙ ap (λ x. (join_run aig_values nets x rest u).answer) built.builds.answered)
            ∙ (ap (λ ls. (join_run aig_values nets a ls t).answer) (sym left) ∙ joining.answer);
        domain = sym (ap (λ d. (join_run aig_values nets r.answer rest d).domain) built.builds.left ∙ ap (λ x. (join_run aig_values nets x rest u).domain) built.builds.answered)
            ∙ (ap (λ ls. (join_run aig_values nets a ls t).domain) (sym left) ∙ joining.domain);
        keeps = keeps_then aig_ops s t u joining.keeps built.keeps;
        valid = built.valid;
      }

  pub joining_fails : (fault : AigFault) → MayFail (build_or aig_ops a (literal_of aig_values nets l) t).domain fault → MayFail (enable_run aig_values nets enables s).domain fault
  joining_fails fault h =
      let r = build_or aig_ops a (literal_of aig_values nets l) t in
      let rest = join_run aig_values nets r.answer (drop (k + 1) enables) r.domain in
      subst (λ d. MayFail d fault) (ap (λ ls. (join_run aig_values nets a ls t).domain) (sym left) ∙ joining.domain)
      (fails_longer r.domain rest.domain fault (run_fits r.domain rest (join_grows nets r.answer (drop (k + 1) enables) r.domain)) h)

pub joining_ends : (nets : ℕ → ℕ) (enables : List Literal) (s t : Seen) (a k : ℕ) → length enables ≤ k → IsJoining nets enables s t a k → Built s t a (enable_run aig_values nets enables s)
joining_ends nets enables s t a k past joining =
    let none : drop k enables ≡ [] = drop_whole enables k past in
    record {
      builds = record {
        answered = sym joining.answer ∙ ap (λ ls. (join_run aig_values nets a ls t).answer) none;
        left = sym joining.domain ∙ ap (λ ls. (join_run aig_values nets a ls t).domain) none;
      };
      keeps = joining.keeps;
      valid = joining.valid;
    }
