-- What was read before the rest of a text, put before what the rest gives.
use Rattle.std.proofs.Common.{◌≡◌, ℕ, ◌+◌, suc, List, [], ◌∷◌, ◌++◌, length, length-append, Result, Ok, Err, ◌⊎◌, inl, inr, refl, sym, ap, ◌∙◌, subst}
use Rattle.std.proofs.Common.{append_assoc, arith}
use Rattle.cg_limit.specs.Answers.{OrNoMemory}
use Rattle.cg_text.specs.Spots.{Spot}
use Rattle.cg_formula.specs.declared.formula.Lit.{Lit}
use Rattle.cg_formula.specs.declared.formula.Clause.{Clause}
use Rattle.cg_formula.specs.declared.dimacs.DimacsFault.{DimacsFault}
use Rattle.cg_formula.specs.declared.dimacs.DimacsFault.TheVariants.{NoMemory}
use Rattle.cg_formula.specs.DimacsReading.{◌>>=◌, clause_at, clauses_at}
use Rattle.cg_formula.specs.inner.ReadingOn.{lits_before}
use Rattle.cg_formula.specs.inner.ClauseList.{clauses_of, AreEnds}
use Rattle.cg_formula.proofs.ClauseLists.{clauses_pushed, ends_pushed}

abbrev pub clauses_before : List Clause → Result (List Clause) DimacsFault → Result (List Clause) DimacsFault
clauses_before front (Ok cs) = Ok (front ++ cs)
clauses_before front (Err e) = Err e

-- one more clause is read
clause_after : (front : List Clause) (c : Clause) (r : Result (List Clause) DimacsFault)
    → clauses_before front (◌>>=◌ {B = List Clause} r (λ cs. Ok (c ∷ cs))) ≡ clauses_before (front ++ c ∷ []) r
clause_after front c (Ok cs) = ap Ok (sym (append_assoc front (c ∷ []) cs))
clause_after front c (Err e) = refl

pub clauses_go : (front new : List Clause) (variables end later n m : ℕ) (left after : List Spot) (clause : Clause) (whole : Result (List Clause) DimacsFault)
    → n ≡ suc m → new ≡ front ++ clause ∷ [] → later ≡ end → clause_at variables end left ≡ Ok (clause.lits, after)
    → clauses_before front (clauses_at variables end n left) ≡ whole → clauses_before new (clauses_at variables later m after) ≡ whole
clauses_go front new variables end later n m left after clause whole count pushed same e so_far =
    rw (pushed, same) (sym (clause_after front clause (clauses_at variables end m after)) ∙ sym (rw (count, e) refl) ∙ so_far)

-- a clause has a fault
pub clauses_stop : (front : List Clause) (variables end n m : ℕ) (left : List Spot) (whole : Result (List Clause) DimacsFault) (fault : DimacsFault)
    → n ≡ suc m → clause_at variables end left ≡ Err fault → clauses_before front (clauses_at variables end n left) ≡ whole
    → whole ≡ Err fault
clauses_stop front variables end n m left whole fault count e so_far = sym so_far ∙ rw (count, e) refl

-- behind literals

-- the clause that was read behind literals
record FoundClause (front new : List Lit) (after : List Spot) (r : Result (List Lit × List Spot) DimacsFault) : Type 0 where
  pub lits : List Lit
  pub is : r ≡ Ok (lits, after)
  pub pushed : new ≡ front ++ lits

found_clause : (front new : List Lit) (after : List Spot) (r : Result (List Lit × List Spot) DimacsFault) → lits_before front r ≡ Ok (new, after)
    → FoundClause front new after r
found_clause front new after (Ok r) e =
    let both : (let p : List Lit × List Spot = (front ++ r.0, r.1) in p) ≡ (new, after) = cc in
    let left : r.1 ≡ after = ap (λ (p : List Lit × List Spot). p.1) both in
    record { lits = r.0; is = ap (λ spots. Ok (r.0, spots)) left; pushed = sym (ap (λ (p : List Lit × List Spot). p.0) both) }
found_clause front new after (Err f) e = absurd (cc)

fault_found : (front : List Lit) (r : Result (List Lit × List Spot) DimacsFault) (fault : DimacsFault) → lits_before front r ≡ Err fault → r ≡ Err fault
fault_found front (Ok r) fault e = absurd (cc)
fault_found front (Err f) fault e = e

-- one more clause is read behind literals
pub list_goes : (lits new : List Lit) (ends new_ends : List ℕ) (variables end later n m to : ℕ) (left after : List Spot) (whole : Result (List Clause) DimacsFault)
    → n ≡ suc m → AreEnds 0 (length lits) ends → to ≡ length new → new_ends ≡ ends ++ to ∷ [] → later ≡ end
    → lits_before lits (clause_at variables end left) ≡ Ok (new, after)
    → clauses_before (clauses_of 0 lits ends) (clauses_at variables end n left) ≡ whole
    → (clauses_before (clauses_of 0 new new_ends) (clauses_at variables later m after) ≡ whole) × AreEnds 0 (length new) new_ends
list_goes lits new ends new_ends variables end later n m to left after whole count all long pushed same e so_far =
    let found = found_clause lits new after (clause_at variables end left) e in
    let high : to ≡ length lits + length found.lits = long ∙ ap length found.pushed ∙ length-append lits found.lits in
    let ordered : AreEnds 0 to (ends ++ to ∷ []) = ends_pushed 0 (length lits) to ends all (omega (arith, high)) in (
      clauses_go (clauses_of 0 lits ends) (clauses_of 0 new new_ends) variables end later n m left after (record { lits = found.lits }) whole count
          (ap (λ ls. clauses_of 0 ls new_ends) found.pushed ∙ ap (clauses_of 0 (lits ++ found.lits)) pushed ∙ clauses_pushed 0 lits found.lits to ends all high)
          same found.is so_far,
      subst (λ n. AreEnds 0 n new_ends) long (subst (AreEnds 0 to) (sym pushed) ordered),
    )

-- a clause behind literals has a fault
pub list_fault : (front : List Clause) (lits : List Lit) (variables end n m : ℕ) (left : List Spot) (whole : Result (List Clause) DimacsFault) (fault : DimacsFault)
    {Y : Type 0} (all : Y → List Clause)
    → n ≡ suc m → (fault ≡ NoMemory) ⊎ (lits_before lits (clause_at variables end left) ≡ Err fault)
    → clauses_before front (clauses_at variables end n left) ≡ whole → OrNoMemory NoMemory all (Err fault) whole
list_fault front lits variables end n m left whole fault all count (inl none) so_far = inl none
list_fault front lits variables end n m left whole fault all count (inr e) so_far =
    inr (clauses_stop front variables end n m left whole fault count (fault_found lits (clause_at variables end left) fault e) so_far)
