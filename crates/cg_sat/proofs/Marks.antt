-- Marks of variables, and the trail taken entry by entry.
use Rattle.std.proofs.Common.{◌≡◌, ◌≢◌, ℕ, ◌+◌, zero, suc, ◌<◌, Bool, true, false, not, List, [], ◌∷◌, ◌++◌, Option, Some}
use Rattle.std.proofs.Common.{None, ◌⊎◌, inl, inr, refl, sym, ap, ◌∙◌, subst, length, take, get_or, set, add-one, reverse}
use Rattle.std.proofs.Common.{arith, rules, nat_eq}
use Rattle.std.specs.List.{slice_get}
use Rattle.std.specs.Option.{is_some}
use Rattle.std.proofs.lemmas.List.{get_or-set_other, get_or-set_same, reverse-append}
use Rattle.std.proofs.lemmas.Bool.{eqb-true}
use Rattle.cg_formula.specs.declared.formula.Lit.{Lit}
use Rattle.cg_formula.specs.Lits.{inverse, is_in}
use Rattle.cg_sat_state.specs.declared.trail.Entry.{Entry}
use Rattle.cg_formula.specs.Assignments.{IsUnassigned, IsUnit}
use Rattle.cg_sat_state.specs.Trail.{lits_of}
use Rattle.cg_sat.specs.inner.Learn.{is_marked}
use Rattle.std.proofs.Math.Seq.{take-suc}
use Rattle.cg_formula.specs.Lits.{same_lit}
use Rattle.cg_formula.proofs.Connectives.{or_right}
use Rattle.cg_formula.proofs.Members.{here, pushed_in}

-- one more entry
pub take_lits : (trail : List Entry) (at : ℕ) (entry : Entry) → slice_get trail at ≡ Some entry → lits_of (take (at + 1) trail) ≡ lits_of (take at trail) ++ entry.lit ∷ []
take_lits trail at entry e = rw add-one (go trail at e) where
  go : (es : List Entry) (i : ℕ) → slice_get es i ≡ Some entry → lits_of (take (suc i) es) ≡ lits_of (take i es) ++ entry.lit ∷ []
  go [] i f = absurd (cc)
  go (e ∷ es) zero f = let same : e ≡ entry = cc in rw same refl
  go (e ∷ es) (suc i) f = ap (λ ls. e.lit ∷ ls) (go es i f)

-- literals of one variable
abbrev make : ℕ → Bool → Lit
make variable inverted = record { variable = variable; inverted = inverted }

signs : (v w : ℕ) (s t : Bool) → v ≡ w → (make v s ≡ make w t) ⊎ (make v s ≡ make w (not t))
signs v w true true e = inl (ap (λ u. make u true) e)
signs v w false false e = inl (ap (λ u. make u false) e)
signs v w true false e = inr (ap (λ u. make u true) e)
signs v w false true e = inr (ap (λ u. make u false) e)

pub same_variable : (a b : Lit) → a.variable ≡ b.variable → (a ≡ b) ⊎ (a ≡ inverse b)
same_variable a b e = signs a.variable b.variable a.inverted b.inverted e

-- a variable is not among those of literals where one of its literals is open
pub other_variable : (before : List Lit) (lit other : Lit) → IsUnassigned before lit → is_in other before ≡ true → other.variable ≢ lit.variable
other_variable before lit other free e same =
    elim (same_variable other lit same) [ inl eq ↦ let no = free.not_true in cc | inr eq ↦ let no = free.not_false in cc ]

pub stays_marked : (marks : List Bool) (before : List Lit) (lit other : Lit) → IsUnassigned before lit → is_in other before ≡ true → is_marked marks other ≡ true
    → is_marked (set marks lit.variable false) other ≡ true
stays_marked marks before lit other free e marked =
    get_or-set_other marks lit.variable other.variable false false (other_variable before lit other free e) ∙ marked

-- the reason's other literals are marked
pub reason_marked : (marks : List Bool) (before clause : List Lit) (lit : Lit) → IsUnassigned before lit → IsUnit before clause lit
    → ((l : Lit) → is_in l clause ≡ true → is_marked marks l ≡ true)
    → (l : Lit) → is_in l clause ≡ true → (l ≡ lit) ⊎ (is_marked (set marks lit.variable false) (inverse l) ≡ true)
reason_marked marks before clause lit free unit marked l e =
    elim (unit.others l e) [ inl same ↦ inl same | inr early ↦ inr (stays_marked marks before lit (inverse l) free early (marked l e)) ]

pub one_more_hint : (hints : List ℕ) (hint : ℕ) → reverse (hints ++ hint ∷ []) ≡ hint ∷ reverse hints
one_more_hint hints hint = reverse-append hints (hint ∷ [])

-- what the code reads

abbrev pub blank_lit : Lit
blank_lit = record { variable = 0; inverted = false }

abbrev pub blank : Entry
blank = record { lit = blank_lit; reason = None }

pub at_in : (lits : List Lit) (i : ℕ) → i < length lits → is_in (get_or lits i blank_lit) lits ≡ true
at_in [] i within = absurd (omega arith)
at_in (lit ∷ lits) zero within = here lit lits
at_in (lit ∷ lits) (suc i) within = or_right (same_lit (get_or lits i blank_lit) lit) (at_in lits i (omega arith))

pub set_marked : (marks : List Bool) (v : ℕ) (lit : Lit) → v < length marks → is_marked marks lit ≡ true → is_marked (set marks v true) lit ≡ true
set_marked marks v lit within e = pick (nat_eq lit.variable v) refl where
  pick : (b : Bool) → nat_eq lit.variable v ≡ b → is_marked (set marks v true) lit ≡ true
  pick true f = let same : lit.variable ≡ v = eqb-true lit.variable v f in subst (λ u. get_or (set marks v true) u false ≡ true) (sym same) (get_or-set_same marks v true false within)
  pick false f = get_or-set_other marks v lit.variable true false (λ g. let self : nat_eq v v ≡ true = search rules in let same : nat_eq lit.variable v ≡ true = subst (λ u. nat_eq u v ≡ true) (sym g) self in cc) ∙ e

pub mark_more : (marks : List Bool) (clause : List Lit) (i : ℕ) → i < length clause → (get_or clause i blank_lit).variable < length marks
    → ((lit : Lit) → is_in lit (take i clause) ≡ true → is_marked marks lit ≡ true)
    → (lit : Lit) → is_in lit (take (i + 1) clause) ≡ true → is_marked (set marks (get_or clause i blank_lit).variable true) lit ≡ true
mark_more marks clause i within inside so_far lit e =
    let one = get_or clause i blank_lit in
    let whole : take (i + 1) clause ≡ take i clause ++ one ∷ [] = rw add-one (take-suc clause i blank_lit within) in
    let f : is_in lit (take i clause ++ one ∷ []) ≡ true = subst (λ ls. is_in lit ls ≡ true) whole e in
    elim (pushed_in lit one (take i clause) f) [
      | inl early ↦ set_marked marks one.variable lit inside (so_far lit early)
      | inr same ↦ subst (λ (l : Lit). is_marked (set marks one.variable true) l ≡ true) (sym same) (get_or-set_same marks one.variable true false inside)
    ]

-- and takes away
pub fewer_marked : (marks : List Bool) (v : ℕ) (lit : Lit) → v < length marks → is_marked marks lit ≡ false → is_marked (set marks v false) lit ≡ false
fewer_marked marks v lit within e = pick (nat_eq lit.variable v) refl where
  pick : (b : Bool) → nat_eq lit.variable v ≡ b → is_marked (set marks v false) lit ≡ false
  pick true f = let same : lit.variable ≡ v = eqb-true lit.variable v f in subst (λ u. get_or (set marks v false) u false ≡ false) (sym same) (get_or-set_same marks v false false within)
  pick false f = get_or-set_other marks v lit.variable false false (λ g. let self : nat_eq v v ≡ true = search rules in let same : nat_eq lit.variable v ≡ true = subst (λ u. nat_eq u v ≡ true) (sym g) self in cc) ∙ e

pub read_off : (marks : List Bool) (v : ℕ) (b : Bool) → b ≡ get_or marks v b → b ≡ false → get_or marks v false ≡ false
read_off marks v b e f = sym (subst (λ x. x ≡ get_or marks v x) f e)

pub not_none : (o : Option ℕ) → o ≡ None → is_some o ≡ true → ⊥
not_none None e h = cc
not_none (Some x) e h = cc

pub none_of : (o : Option ℕ) → is_some o ≡ false → o ≡ None
none_of None e = refl
none_of (Some x) e = absurd (cc)
