-- Unit clauses that follow from unit clauses.
use Rattle.std.proofs.Common.{◌≡◌, ℕ, ◌+◌, ◌<◌, Bool, true, false, List, [], ◌∷◌, ◌++◌, Some, None, inl}
use Rattle.std.proofs.Common.{inr, refl, sym, ap, ◌∙◌, subst, length, take, get_or, add-one, append_assoc}
use Rattle.std.proofs.Math.Seq.{take-suc}
use Rattle.cg_formula.specs.declared.formula.Lit.{Lit}
use Rattle.cg_formula.specs.Lits.{inverse, same_lit, is_in}
use Rattle.cg_formula.specs.Assignments.{IsFalsified, IsUnit, IsUnassigned}
use Rattle.cg_formula.proofs.Members.{same_lit_equal, own_inverse, here, pushed_in}
use Rattle.cg_lrat.specs.Accepted.{Live, hints_fault, clause_fault, is_tautology}
use Rattle.cg_lrat.proofs.UnitHints.{unit_hint, last_hint}
use Rattle.cg_sat_state.specs.declared.trail.Entry.{Entry}
use Rattle.cg_sat_state.specs.Trail.{lits_of}
use Rattle.cg_sat.specs.inner.Derive.{Follows}
use Rattle.cg_sat.proofs.Marks.{blank_lit}
use Rattle.std.proofs.lemmas.Bool.{or_cases}

pub lits_pushed : (trail : List Entry) (entry : Entry) → lits_of (trail ++ entry ∷ []) ≡ lits_of trail ++ entry.lit ∷ []
lits_pushed [] entry = refl
lits_pushed (t ∷ ts) entry = ap (λ ls. t.lit ∷ ls) (lits_pushed ts entry)

-- the literal alone
pub alone_unit : (trues : List Lit) (one : Lit) → IsUnit trues (one ∷ []) one
alone_unit trues one = record {
  among = here one [];
  others = λ lit e. elim (or_cases (same_lit lit one) false e) [ inl same ↦ inl (same_lit_equal lit one same) | inr none ↦ absurd (cc) ];
}

pub follows_none : (live : Live) (first : List Lit) → Follows live first [] first
follows_none live first next later = refl

pub follows_more : (live : Live) (first last : List Lit) (hints : List ℕ) (id : ℕ) (one : Lit) → Follows live first hints last → live id ≡ Some (one ∷ []) → IsUnassigned last one
    → Follows live first (hints ++ id ∷ []) (last ++ one ∷ [])
follows_more live first last hints id one follows is free next later =
    ap (hints_fault live first) (append_assoc hints (id ∷ []) (next ∷ later)) ∙ follows id (next ∷ later) ∙ unit_hint live last id next later (one ∷ []) one is (alone_unit last one) free

no_twin : (lit : Lit) → is_tautology (lit ∷ []) ≡ false
no_twin lit = pick (same_lit lit (inverse lit)) refl where
  pick : (b : Bool) → same_lit lit (inverse lit) ≡ b → is_tautology (lit ∷ []) ≡ false
  pick true e = absurd (own_inverse lit (sym (same_lit_equal lit (inverse lit) e)))
  pick false e = rw e refl

pub follows_ends : (live : Live) (lit : Lit) (last : List Lit) (hints : List ℕ) (id : ℕ) (clause : List Lit) → Follows live (inverse lit ∷ []) hints last → live id ≡ Some clause → IsFalsified last clause
    → clause_fault live (lit ∷ []) (hints ++ id ∷ []) ≡ None
follows_ends live lit last hints id clause follows is off =
    let fine : hints_fault live (inverse lit ∷ []) (hints ++ id ∷ []) ≡ None = follows id [] ∙ last_hint live last id clause is off in
    rw (no_twin lit) fine

-- one more literal of the clause is false
pub falsified_none : (trues clause : List Lit) → IsFalsified trues (take 0 clause)
falsified_none trues clause = record { all = λ lit e. absurd (cc) }

pub falsified_more : (trues clause : List Lit) (i : ℕ) → i < length clause → is_in (inverse (get_or clause i blank_lit)) trues ≡ true → IsFalsified trues (take i clause) → IsFalsified trues (take (i + 1) clause)
falsified_more trues clause i within off so_far =
    let one = get_or clause i blank_lit in
    let whole : take (i + 1) clause ≡ take i clause ++ one ∷ [] = rw add-one (take-suc clause i blank_lit within) in
    record {
      all = λ lit e. elim (pushed_in lit one (take i clause) (subst (λ ls. is_in lit ls ≡ true) whole e)) [
        | inl early ↦ so_far.all lit early
        | inr same ↦ subst (λ l. is_in (inverse l) trues ≡ true) (sym same) off
      ];
    }

pub falsified_kept : (old new clause : List Lit) → ((lit : Lit) → is_in lit old ≡ true → is_in lit new ≡ true) → IsFalsified old clause → IsFalsified new clause
falsified_kept old new clause kept off = record { all = λ lit e. kept (inverse lit) (off.all lit e) }

pub one_in : (lits : List Lit) (one lit : Lit) → lits ≡ one ∷ [] → is_in lit lits ≡ true → lit ≡ one
one_in lits one lit e among = elim (or_cases (same_lit lit one) false (subst (λ ls. is_in lit ls ≡ true) e among)) [ inl same ↦ same_lit_equal lit one same | inr none ↦ absurd (cc) ]
