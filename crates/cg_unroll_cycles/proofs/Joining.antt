-- Items are joined one after another.
use Rattle.std.proofs.Common.{◌≡◌, ℕ, zero, suc, ◌+◌, ◌<◌, ◌≤◌, true, List, [], ◌∷◌, drop, length, map, slice_get, Some, IsTrue, refl, sym, ◌∙◌, ap, subst, arith}
use Rattle.std.specs.List.{All}
use Rattle.std.proofs.lemmas.List.Elements.{All-cons, All-nil}
use Rattle.std.proofs.lemmas.Option.{none-some, same_Some}
use Rattle.cg_cell.specs.Build.{Run, build_and}
use Rattle.cg_cell.specs.Domain.{Seen}
use Rattle.cg_cell.proofs.Building.{keeps_self, keeps_then}
use Rattle.cg_cell.proofs.RunsGrow.{Grows}
use Rattle.cg_aig.specs.Aig.{aig_ops}
use Rattle.cg_aig.specs.declared.fault.AigFault.{AigFault}
use Rattle.cg_machine.specs.Claims.{Literal}
use Rattle.cg_net.specs.NetSets.{is_in}
use Rattle.cg_net.proofs.Members.{is_in_left, is_in_right}
use Rattle.cg_net.proofs.TableLemmas.{drop_cons}
use Rattle.cg_netlist.proofs.RisingPlaces.{in_head, in_tail}
use Rattle.cg_claim.specs.Build.{aig_values, literal_of}
use Rattle.cg_claim.proofs.WholeLists.{run_fits}
use Rattle.cg_claim_reach.proofs.Marking.{drop_whole}
use Rattle.cg_claim.specs.form.Build.{and_run, condition_run, or_run, term_run}
use Rattle.cg_hint_laws.specs.Hints.{condition_nets}
use Rattle.cg_unroll.specs.Building.{Built, MayFail}
use Rattle.cg_unroll.proofs.Building.{fails_first, fails_longer}
use Rattle.cg_unroll_cycles.specs.inner.Joining.{IsJoining, or_term_run}
use Rattle.cg_unroll_cycles.proofs.Wholes.{and_grows, or_grows}

-- joining one item, and then the others
record Joins {X : Type 0} (step : ℕ → X → Seen → Run) (join : ℕ → List X → Seen → Run) : Type 0 where
  pub ends : (a : ℕ) (s : Seen) → ((join a [] s).answer ≡ a) × ((join a [] s).domain ≡ s)
  pub goes : (a : ℕ) (x : X) (xs : List X) (s : Seen) → ((join a (x ∷ xs) s).answer ≡ (join (step a x s).answer xs (step a x s).domain).answer) × ((join a (x ∷ xs) s).domain ≡ (join (step a x s).answer xs (step a x s).domain).domain)
  pub grows : (a : ℕ) (xs : List X) (s : Seen) → Grows aig_ops s (join a xs s)

module _ {X : Type 0} (step : ℕ → X → Seen → Run) (join : ℕ → List X → Seen → Run) (joins : Joins step join) (whole : Run) (items : List X) (s t : Seen) (a k : ℕ) where
  joining_ends : length items ≤ k → IsJoining join whole items s t a k → Built s t a whole
  joining_ends past joining =
      let none : drop k items ≡ [] = drop_whole items k past in
      record {
        builds = record {
          answered = sym joining.answer ∙ (ap (λ l. (join a l t).answer) none ∙ (joins.ends a t).0);
          left = sym joining.domain ∙ (ap (λ l. (join a l t).domain) none ∙ (joins.ends a t).1);
        };
        keeps = joining.keeps;
        valid = joining.valid;
      }

  module _ (x : X) (at : slice_get items k ≡ Some x) (joining : IsJoining join whole items s t a k) where
    left : drop k items ≡ x ∷ drop (k + 1) items
    left = let e : suc k ≡ k + 1 = omega arith in drop_cons items k x at ∙ ap (λ n. x ∷ drop n items) e

    joining_on : (u : Seen) (b : ℕ) → Built t u b (step a x t) → IsJoining join whole items s u b (k + 1)
    joining_on u b built =
        let rest = drop (k + 1) items in
        let r = step a x t in
        let go = joins.goes a x rest t in
        record {
          answer = sym (ap (λ d. (join r.answer rest d).answer) built.builds.left ∙ ap (λ y. (join y rest u).answer) built.builds.answered)
              ∙ (sym go.0 ∙ (ap (λ l. (join a l t).answer) (sym left) ∙ joining.answer));
          domain = sym (ap (λ d. (join r.answer rest d).domain) built.builds.left ∙ ap (λ y. (join y rest u).domain) built.builds.answered)
              ∙ (sym go.1 ∙ (ap (λ l. (join a l t).domain) (sym left) ∙ joining.domain));
          keeps = keeps_then aig_ops s t u joining.keeps built.keeps;
          valid = built.valid;
        }

    joining_fails : (fault : AigFault) → MayFail (step a x t).domain fault → MayFail whole.domain fault
    joining_fails fault h =
        let r = step a x t in
        let rest = join r.answer (drop (k + 1) items) r.domain in
        subst (λ d. MayFail d fault) (sym (joins.goes a x (drop (k + 1) items) t).1 ∙ (ap (λ l. (join a l t).domain) (sym left) ∙ joining.domain))
        (fails_longer r.domain rest.domain fault (run_fits r.domain rest (joins.grows r.answer (drop (k + 1) items) r.domain)) h)

-- the literals of a term
module _ (nets : ℕ → ℕ) where
  abbrev pub and_step : ℕ → Literal → Seen → Run
  and_step a l s = build_and aig_ops a (literal_of aig_values nets l) s

  abbrev pub and_join : ℕ → List Literal → Seen → Run
  and_join a ls s = and_run aig_values nets a ls s

  ands : Joins and_step and_join
  ands = record { ends = λ a s. (refl, refl); goes = λ a l ls s. (refl, refl); grows = and_grows nets }

  module _ (term : List Literal) (s : Seen) where
    abbrev pub IsAnding : Seen → ℕ → ℕ → Type 0
    IsAnding t a k = IsJoining and_join (term_run aig_values nets term s) term s t a k

    pub anding_starts : (a : ℕ) (l : Literal) → slice_get term 0 ≡ Some l → a ≡ literal_of aig_values nets l → IsTrue (aig_ops.is_valid s a) → IsAnding s a 1
    anding_starts a l at is valid = go term at
      where
        go : (ls : List Literal) → slice_get ls 0 ≡ Some l → IsJoining and_join (term_run aig_values nets ls s) ls s s a 1
        go [] h = absurd (none-some l h)
        go (x ∷ ls) h =
            let same : a ≡ literal_of aig_values nets x = is ∙ ap (literal_of aig_values nets) (sym (same_Some x l h)) in
            record {
              answer = ap (λ y. (and_run aig_values nets y ls s).answer) same;
              domain = ap (λ y. (and_run aig_values nets y ls s).domain) same;
              keeps = keeps_self aig_ops s;
              valid = valid;
            }

    pub anding_ends : (t : Seen) (a k : ℕ) → length term ≤ k → IsAnding t a k → Built s t a (term_run aig_values nets term s)
    anding_ends t a k = joining_ends and_step and_join ands (term_run aig_values nets term s) term s t a k

    pub anding_on : (t : Seen) (a k : ℕ) (l : Literal) → slice_get term k ≡ Some l → IsAnding t a k → (u : Seen) (b : ℕ) → Built t u b (and_step a l t) → IsAnding u b (k + 1)
    anding_on t a k = joining_on and_step and_join ands (term_run aig_values nets term s) term s t a k

    pub anding_fails : (t : Seen) (a k : ℕ) (l : Literal) → slice_get term k ≡ Some l → IsAnding t a k → (fault : AigFault) → MayFail (and_step a l t).domain fault → MayFail (term_run aig_values nets term s).domain fault
    anding_fails t a k = joining_fails and_step and_join ands (term_run aig_values nets term s) term s t a k

  -- the terms of a condition
  abbrev pub or_join : ℕ → List (List Literal) → Seen → Run
  or_join a terms s = or_run aig_values nets a terms s

  ors : Joins (or_term_run nets) or_join
  ors = record { ends = λ a s. (refl, refl); goes = λ a term terms s. (refl, refl); grows = or_grows nets }

  module _ (terms : List (List Literal)) (s : Seen) where
    abbrev pub IsOring : Seen → ℕ → ℕ → Type 0
    IsOring t a k = IsJoining or_join (condition_run aig_values nets terms s) terms s t a k

    pub oring_starts : (t : Seen) (a : ℕ) (term : List Literal) → slice_get terms 0 ≡ Some term → Built s t a (term_run aig_values nets term s) → IsOring t a 1
    oring_starts t a term at built = go terms at
      where
        go : (all : List (List Literal)) → slice_get all 0 ≡ Some term → IsJoining or_join (condition_run aig_values nets all s) all s t a 1
        go [] h = absurd (none-some term h)
        go (x ∷ all) h =
            let r = term_run aig_values nets x s in
            let e : x ≡ term = same_Some x term h in
            let answered : r.answer ≡ a = ap (λ y. (term_run aig_values nets y s).answer) e ∙ built.builds.answered in
            let ended : r.domain ≡ t = ap (λ y. (term_run aig_values nets y s).domain) e ∙ built.builds.left in
            record {
              answer = sym (ap (λ d. (or_run aig_values nets r.answer all d).answer) ended ∙ ap (λ y. (or_run aig_values nets y all t).answer) answered);
              domain = sym (ap (λ d. (or_run aig_values nets r.answer all d).domain) ended ∙ ap (λ y. (or_run aig_values nets y all t).domain) answered);
              keeps = built.keeps;
              valid = built.valid;
            }

    pub oring_ends : (t : Seen) (a k : ℕ) → length terms ≤ k → IsOring t a k → Built s t a (condition_run aig_values nets terms s)
    oring_ends t a k = joining_ends (or_term_run nets) or_join ors (condition_run aig_values nets terms s) terms s t a k

    pub oring_on : (t : Seen) (a k : ℕ) (term : List Literal) → slice_get terms k ≡ Some term → IsOring t a k → (u : Seen) (b : ℕ) → Built t u b (or_term_run nets a term t) → IsOring u b (k + 1)
    oring_on t a k = joining_on (or_term_run nets) or_join ors (condition_run aig_values nets terms s) terms s t a k

    pub oring_fails : (t : Seen) (a k : ℕ) (term : List Literal) → slice_get terms k ≡ Some term → IsOring t a k → (fault : AigFault) → MayFail (or_term_run nets a term t).domain fault → MayFail (condition_run aig_values nets terms s).domain fault
    oring_fails t a k = joining_fails (or_term_run nets) or_join ors (condition_run aig_values nets terms s) terms s t a k

    -- the first term fails, and so the condition
    pub first_fails : (term : List Literal) → slice_get terms 0 ≡ Some term → (fault : AigFault) → MayFail (term_run aig_values nets term s).domain fault → MayFail (condition_run aig_values nets terms s).domain fault
    first_fails term at fault h = go terms at
      where
        go : (all : List (List Literal)) → slice_get all 0 ≡ Some term → MayFail (condition_run aig_values nets all s).domain fault
        go [] is = absurd (none-some term is)
        go (x ∷ all) is =
            let r = term_run aig_values nets x s in
            fails_first r (λ b t. or_run aig_values nets b all t) fault (or_grows nets r.answer all r.domain)
            (subst (λ (y : List Literal). MayFail (term_run aig_values nets y s).domain fault) (sym (same_Some x term is)) h)

-- the nets of each term are there where those of the condition are
literals_there : (n : ℕ) (ls : List Literal) → ((y : ℕ) → is_in (map (λ (l : Literal). l.0) ls) y ≡ true → y < n) → All (λ (l : Literal). l.0 < n) ls
literals_there n [] there = All-nil (λ (l : Literal). l.0 < n)
literals_there n (l ∷ ls) there =
    All-cons (λ (k : Literal). k.0 < n) l ls (there l.0 (in_head l.0 (map (λ (k : Literal). k.0) ls))) (literals_there n ls (λ y among. there y (in_tail y l.0 (map (λ (k : Literal). k.0) ls) among)))

pub term_there : (n : ℕ) (terms : List (List Literal)) (k : ℕ) (term : List Literal) → slice_get terms k ≡ Some term → ((y : ℕ) → is_in (condition_nets terms) y ≡ true → y < n) → All (λ (l : Literal). l.0 < n) term
term_there n [] k term at there = absurd (none-some term at)
term_there n (x ∷ terms) zero term at there =
    subst (All (λ (l : Literal). l.0 < n)) (same_Some x term at) (literals_there n x (λ y among. there y (is_in_left (map (λ (l : Literal). l.0) x) (condition_nets terms) y among)))
term_there n (x ∷ terms) (suc k) term at there = term_there n terms k term at (λ y among. there y (is_in_right (map (λ (l : Literal). l.0) x) (condition_nets terms) y among))
