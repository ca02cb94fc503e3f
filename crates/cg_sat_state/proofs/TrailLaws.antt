-- Trails that grow and are cut.
use Rattle.std.proofs.Common.{◌≡◌, ℕ, ◌+◌, zero, suc, ◌<◌, true, false, List, [], ◌∷◌, ◌++◌, Option, Some, None, ◌⊎◌}
use Rattle.std.proofs.Common.{inl, inr, refl, sym, ap, ◌∙◌, subst, length, length-append, take, drop, arith}
use Rattle.std.specs.List.{slice_get}
use Rattle.std.proofs.lemmas.List.{take-append-le, take_all, take-take}
use Rattle.std.proofs.Math.Seq.{take-append_seam}
use Rattle.cg_formula.specs.Lits.{same_lit, is_in}
use Rattle.cg_formula.proofs.Connectives.{or_right}
use Rattle.cg_formula.proofs.Members.{here}
use Rattle.std.proofs.lemmas.Option.{slice_get_within}
use Rattle.cg_formula.specs.declared.formula.Lit.{Lit}
use Rattle.cg_sat_state.specs.declared.trail.Entry.{Entry}
use Rattle.cg_formula.specs.Assignments.{IsUnassigned}
use Rattle.cg_sat_state.specs.Trail.{lits_of, IsTrail, HasReason, IsUnused}
use Rattle.cg_sat_state.specs.Store.{Store, IsWithout}
use Rattle.cg_sat_state.proofs.Store.{get_kept}

pub pushed_at : {X : Type 0} (trail : List X) (last : X) (i : ℕ) (entry : X) → slice_get (trail ++ last ∷ []) i ≡ Some entry → (slice_get trail i ≡ Some entry) ⊎ ((i ≡ length trail) × (last ≡ entry))
pushed_at [] last zero entry e = inr (refl, cc)
pushed_at [] last (suc i) entry e = absurd (cc)
pushed_at (t ∷ ts) last zero entry e = inl e
pushed_at (t ∷ ts) last (suc i) entry e = elim (pushed_at ts last i entry e) [ inl early ↦ inl early | inr end ↦ inr (ap suc end.0, end.1) ]

pub cut_at : (n : ℕ) (trail : List Entry) (i : ℕ) (entry : Entry) → slice_get (take n trail) i ≡ Some entry → (slice_get trail i ≡ Some entry) × (take i (take n trail) ≡ take i trail)
cut_at zero trail i entry e = absurd (cc)
cut_at (suc n) [] i entry e = absurd (cc)
cut_at (suc n) (t ∷ ts) zero entry e = (e, refl)
cut_at (suc n) (t ∷ ts) (suc i) entry e = let later = cut_at n ts i entry e in (later.0, ap (λ es. t ∷ es) later.1)

pub trail_cut : (clauses : Store) (trail : List Entry) (n : ℕ) → IsTrail clauses trail → IsTrail clauses (take n trail)
trail_cut clauses trail n stands = record {
  open_at = λ i entry e. let at = cut_at n trail i entry e in subst (λ es. IsUnassigned (lits_of es) entry.lit) (sym at.1) (stands.open_at i entry at.0);
  reason_at = λ i entry e. let at = cut_at n trail i entry e in subst (λ es. HasReason clauses (lits_of es) entry.lit entry.reason) (sym at.1) (stands.reason_at i entry at.0);
}

pub trail_pushed : (clauses : Store) (trail : List Entry) (last : Entry) → IsTrail clauses trail → IsUnassigned (lits_of trail) last.lit → HasReason clauses (lits_of trail) last.lit last.reason
    → IsTrail clauses (trail ++ last ∷ [])
trail_pushed clauses trail last stands free reason = record {
  open_at = λ i entry e. elim (pushed_at trail last i entry e) [
    | inl early ↦ let within : i < length trail = slice_get_within trail i entry early in
        subst (λ es. IsUnassigned (lits_of es) entry.lit) (sym (take-append-le i trail (last ∷ []) (omega arith))) (stands.open_at i entry early)
    | inr end ↦ subst (λ es. IsUnassigned (lits_of es) entry.lit) (sym (whole i end.0)) (subst (λ (f : Entry). IsUnassigned (lits_of trail) f.lit) end.1 free)
  ];
  reason_at = λ i entry e. elim (pushed_at trail last i entry e) [
    | inl early ↦ let within : i < length trail = slice_get_within trail i entry early in
        subst (λ es. HasReason clauses (lits_of es) entry.lit entry.reason) (sym (take-append-le i trail (last ∷ []) (omega arith))) (stands.reason_at i entry early)
    | inr end ↦ subst (λ es. HasReason clauses (lits_of es) entry.lit entry.reason) (sym (whole i end.0)) (subst (λ (f : Entry). HasReason clauses (lits_of trail) f.lit f.reason) end.1 reason)
  ];
} where
  whole : (i : ℕ) → i ≡ length trail → take i (trail ++ last ∷ []) ≡ trail
  whole i e = take-append-le i trail (last ∷ []) (omega (arith, e)) ∙ take_all i trail (omega (arith, e))

more_clauses : (clauses : Store) (clause : List Lit) (before : List Lit) (lit : Lit) (reason : Option ℕ) → HasReason clauses before lit reason → HasReason (clauses ++ Some clause ∷ []) before lit reason
more_clauses clauses clause before lit None h = tt
more_clauses clauses clause before lit (Some r) h = record { clause = h.clause; is = get_kept clauses clause r h.clause h.is; unit = h.unit }

pub trail_kept : (clauses : Store) (clause : List Lit) (trail : List Entry) → IsTrail clauses trail → IsTrail (clauses ++ Some clause ∷ []) trail
trail_kept clauses clause trail stands = record {
  open_at = stands.open_at;
  reason_at = λ i entry e. more_clauses clauses clause (lits_of (take i trail)) entry.lit entry.reason (stands.reason_at i entry e);
}

-- a clause less that is no reason of the trail
pub trail_without : (old new : Store) (place : ℕ) (trail : List Entry) → IsWithout old place new → IsUnused place trail → IsTrail old trail → IsTrail new trail
trail_without old new place trail less unused stands = record {
  open_at = stands.open_at;
  reason_at = λ i entry e. keep (lits_of (take i trail)) entry.lit entry.reason (unused i entry e) (stands.reason_at i entry e);
} where
  keep : (before : List Lit) (lit : Lit) (reason : Option ℕ) → (reason ≡ Some place → ⊥) → HasReason old before lit reason → HasReason new before lit reason
  keep before lit None other h = tt
  keep before lit (Some r) other h = record { clause = h.clause; is = less.others r (λ e. other (ap Some e)) ∙ h.is; unit = h.unit }

get_end : (front : List Entry) (entry : Entry) → slice_get (front ++ entry ∷ []) (length front) ≡ Some entry
get_end [] entry = refl
get_end (t ∷ ts) entry = get_end ts entry

-- the last entry of what is left of a trail is open in what stands before it
pub last_open : (trail all : List Entry) (k : ℕ) → trail ≡ take k all → ((i : ℕ) (entry : Entry) → slice_get all i ≡ Some entry → IsUnassigned (lits_of (take i all)) entry.lit)
    → (front : List Entry) (entry : Entry) → trail ≡ front ++ entry ∷ [] → is_in entry.lit (lits_of front) ≡ false
last_open trail all k e free front entry f =
    let read : slice_get (take k all) (length front) ≡ Some entry = subst (λ es. slice_get es (length front) ≡ Some entry) (sym f ∙ e) (get_end front entry) in
    let at = cut_at k all (length front) entry read in
    let same : take (length front) all ≡ front = sym at.1 ∙ ap (take (length front)) (sym e ∙ f) ∙ take-append_seam front (entry ∷ []) in
    (subst (λ es. IsUnassigned (lits_of es) entry.lit) same (free (length front) entry at.0)).not_true

pub cut_front : (trail all new : List Entry) (entry : Entry) → trail ≡ take (length trail) all → trail ≡ new ++ entry ∷ [] → new ≡ take (length new) all
cut_front trail all new entry e f =
    let long : length trail ≡ length new + 1 = ap length f ∙ length-append new (entry ∷ []) in
    sym (take-append_seam new (entry ∷ [])) ∙ ap (take (length new)) (sym f ∙ e) ∙ take-take (length new) (length trail) all (omega arith)

pub split_at : (trail : List Entry) (i : ℕ) (entry : Entry) → slice_get trail i ≡ Some entry → trail ≡ take i trail ++ entry ∷ drop (suc i) trail
split_at [] i entry e = absurd (cc)
split_at (t ∷ ts) zero entry e = let same : t ≡ entry = cc in ap (λ x. x ∷ ts) same
split_at (t ∷ ts) (suc i) entry e = ap (λ es. t ∷ es) (split_at ts i entry e)

pub lit_at : (trail : List Entry) (i : ℕ) (entry : Entry) → slice_get trail i ≡ Some entry → is_in entry.lit (lits_of trail) ≡ true
lit_at [] i entry e = absurd (cc)
lit_at (t ∷ ts) zero entry e = let same : t ≡ entry = cc in subst (λ (x : Entry). is_in entry.lit (x.lit ∷ lits_of ts) ≡ true) (sym same) (here entry.lit (lits_of ts))
lit_at (t ∷ ts) (suc i) entry e = or_right (same_lit entry.lit t.lit) (lit_at ts i entry e)
