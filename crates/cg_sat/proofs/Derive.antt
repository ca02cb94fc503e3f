-- Reasons taken as hints, from the last entry of a trail to the first.
use Rattle.std.proofs.Common.{◌≡◌, ℕ, Bool, true, false, List, [], ◌∷◌, ◌++◌, Some, None, ◌⊎◌, inl, inr}
use Rattle.std.proofs.Common.{refl, sym, ap, ◌∙◌, subst, map}
use Rattle.std.specs.List.{list_any}
use Rattle.cg_formula.specs.declared.formula.Lit.{Lit}
use Rattle.cg_formula.specs.Lits.{inverse, same_lit, is_in}
use Rattle.cg_lrat.specs.Accepted.{Live, hints_fault, is_tautology, clause_fault}
use Rattle.cg_formula.proofs.Connectives.{or_right}
use Rattle.cg_formula.specs.Assignments.{IsFalsified, IsUnit, IsUnassigned}
use Rattle.cg_lrat.proofs.UnitHints.{unit_hint, last_hint}
use Rattle.cg_sat.specs.inner.Derive.{Suits, Refutes, IsApart}
use Rattle.cg_formula.proofs.Members.{inverse_twice, inverses_twice, here, pushed_in, in_pushed, last_in, not_in}
use Rattle.cg_formula.proofs.Members.{own_inverse}

-- a clause that is false where the trail is true
pub conflict_refutes : (live : Live) (before : List Lit) (needs : Lit → Bool) (id : ℕ) (clause : List Lit) → live id ≡ Some clause → IsFalsified before clause
    → ((lit : Lit) → is_in lit clause ≡ true → needs (inverse lit) ≡ true) → Refutes live before needs [] (id ∷ [])
conflict_refutes live before needs id clause is false_in marked = record {
  fine = λ trues suits. last_hint live trues id clause is (record { all = λ lit e. suits.needed (inverse lit) (false_in.all lit e) (marked lit e) });
}

-- the last entry is not needed
pub skip_refutes : (live : Live) (before : List Lit) (lit : Lit) (needs : Lit → Bool) (kept : List Lit) (hints : List ℕ)
    → needs lit ≡ false → Refutes live (before ++ lit ∷ []) needs kept hints → Refutes live before needs kept hints
skip_refutes live before lit needs kept hints off refutes = record {
  fine = λ trues suits. refutes.fine trues (record {
    needed = λ other e marked. elim (pushed_in other lit before e) [ inl early ↦ suits.needed other early marked | inr same ↦ absurd (cc) ];
    kept = suits.kept;
    only = λ other e. elim (suits.only other e) [ inl early ↦ inl (in_pushed other lit before early) | inr late ↦ inr late ];
  });
}

-- the last entry is kept
pub keep_refutes : (live : Live) (before : List Lit) (lit : Lit) (needs : Lit → Bool) (kept : List Lit) (hints : List ℕ)
    → Refutes live (before ++ lit ∷ []) needs kept hints → Refutes live before needs (kept ++ lit ∷ []) hints
keep_refutes live before lit needs kept hints refutes = record {
  fine = λ trues suits. refutes.fine trues (record {
    needed = λ other e marked. elim (pushed_in other lit before e) [
      | inl early ↦ suits.needed other early marked
      | inr same ↦ suits.kept other (subst (λ l. is_in l (kept ++ lit ∷ []) ≡ true) (sym same) (last_in lit kept))
    ];
    kept = λ other e. suits.kept other (in_pushed other lit kept e);
    only = λ other e. elim (suits.only other e) [
      | inl early ↦ inl (in_pushed other lit before early)
      | inr late ↦ elim (pushed_in other lit kept late) [
        | inl kept ↦ inr kept
        | inr same ↦ inl (subst (λ l. is_in l (before ++ lit ∷ []) ≡ true) (sym same) (last_in lit before))
      ]
    ];
  });
}

-- the last entry's reason is taken as a hint before the others
pub resolve_refutes : (live : Live) (before : List Lit) (lit : Lit) (needs more : Lit → Bool) (kept : List Lit) (hints : List ℕ) (id : ℕ) (clause : List Lit)
    → Refutes live (before ++ lit ∷ []) needs kept hints → live id ≡ Some clause → IsUnit before clause lit → IsUnassigned before lit → IsUnassigned kept lit
    → ((other : Lit) → is_in other clause ≡ true → (other ≡ lit) ⊎ (more (inverse other) ≡ true))
    → ((other : Lit) → is_in other before ≡ true → needs other ≡ true → more other ≡ true)
    → Refutes live before more kept (id ∷ hints)
resolve_refutes live before lit needs more kept hints id clause refutes is unit free apart marked stay = record { fine = λ trues suits. at trues suits } where
  none : (trues : List Lit) → Suits before more kept trues → (other : Lit) → is_in other before ≡ false → is_in other kept ≡ false → is_in other trues ≡ false
  none trues suits other f g = not_in other trues (λ e. elim (suits.only other e) [ inl early ↦ cc | inr late ↦ cc ])

  unit_now : (trues : List Lit) → Suits before more kept trues → IsUnit trues clause lit
  unit_now trues suits = record {
    among = unit.among;
    others = λ other e. elim (unit.others other e) [
      | inl same ↦ inl same
      | inr early ↦ elim (marked other e) [ inl same ↦ inl same | inr mark ↦ inr (suits.needed (inverse other) early mark) ]
    ];
  }

  suits_next : (trues : List Lit) → Suits before more kept trues → Suits (before ++ lit ∷ []) needs kept (trues ++ lit ∷ [])
  suits_next trues suits = record {
    needed = λ other e mark. elim (pushed_in other lit before e) [
      | inl early ↦ in_pushed other lit trues (suits.needed other early (stay other early mark))
      | inr same ↦ subst (λ l. is_in l (trues ++ lit ∷ []) ≡ true) (sym same) (last_in lit trues)
    ];
    kept = λ other e. in_pushed other lit trues (suits.kept other e);
    only = λ other e. elim (pushed_in other lit trues e) [
      | inl old ↦ elim (suits.only other old) [ inl early ↦ inl (in_pushed other lit before early) | inr late ↦ inr late ]
      | inr same ↦ inl (subst (λ l. is_in l (before ++ lit ∷ []) ≡ true) (sym same) (last_in lit before))
    ];
  }

  go : (trues : List Lit) → Suits before more kept trues → (hs : List ℕ) → hints_fault live (trues ++ lit ∷ []) hs ≡ None → hints_fault live trues (id ∷ hs) ≡ None
  go trues suits [] e = absurd (cc)
  go trues suits (next ∷ later) e =
      unit_hint live trues id next later clause lit is (unit_now trues suits) (record { not_true = none trues suits lit free.not_true apart.not_true; not_false = none trues suits (inverse lit) free.not_false apart.not_false }) ∙ e

  at : (trues : List Lit) → Suits before more kept trues → hints_fault live trues (id ∷ hints) ≡ None
  at trues suits = go trues suits hints (refutes.fine (trues ++ lit ∷ []) (suits_next trues suits))

-- what stands apart

pub none_apart : (before : List Lit) → IsApart before []
none_apart before = record { open_in = λ lit e. record { not_true = refl; not_false = refl }; one_sign = λ lit e. absurd (cc) }

pub fewer_apart : (before : List Lit) (lit : Lit) (kept : List Lit) → IsApart (before ++ lit ∷ []) kept → IsApart before kept
fewer_apart before lit kept apart = record { open_in = λ other e. apart.open_in other (in_pushed other lit before e); one_sign = apart.one_sign }

pub keep_apart : (before : List Lit) (lit : Lit) (kept : List Lit) → IsUnassigned before lit → IsApart (before ++ lit ∷ []) kept → IsApart before (kept ++ lit ∷ [])
keep_apart before lit kept free apart = record {
  open_in = λ other e.
      let old = apart.open_in other (in_pushed other lit before e) in
      record {
        not_true = not_in other (kept ++ lit ∷ []) (λ f. elim (pushed_in other lit kept f) [ inl g ↦ cc | inr same ↦ cc ]);
        not_false = not_in (inverse other) (kept ++ lit ∷ []) (λ f. elim (pushed_in (inverse other) lit kept f) [
          | inl g ↦ cc
          | inr same ↦ let back : other ≡ inverse lit = sym (inverse_twice other) ∙ ap inverse same in cc
        ]);
      };
  one_sign = λ other e.
      let own = apart.open_in lit (last_in lit before) in
      not_in (inverse other) (kept ++ lit ∷ []) (λ f. elim (pushed_in other lit kept e) [
        | inl g ↦ elim (pushed_in (inverse other) lit kept f) [
          | inl h ↦ let no = apart.one_sign other g in cc
          | inr same ↦ let back : other ≡ inverse lit = sym (inverse_twice other) ∙ ap inverse same in cc
        ]
        | inr same ↦ elim (pushed_in (inverse other) lit kept f) [
          | inl h ↦ cc
          | inr again ↦ absurd (own_inverse lit (ap inverse (sym same) ∙ again))
        ]
      ]);
}

-- the end

no_tautology : (kept some : List Lit) → ((lit : Lit) → is_in lit some ≡ true → is_in (inverse lit) kept ≡ false) → list_any (λ lit. is_in lit kept) (map inverse some) ≡ false
no_tautology kept [] one = refl
no_tautology kept (lit ∷ lits) one =
    rw (one lit (here lit lits)) (no_tautology kept lits (λ other e. one other (or_right (same_lit other lit) e)))

-- the clause of the inverted kept literals
pub derived : (live : Live) (needs : Lit → Bool) (kept : List Lit) (hints : List ℕ) → Refutes live [] needs kept hints → IsApart [] kept
    → clause_fault live (map inverse kept) hints ≡ None
derived live needs kept hints refutes apart =
    let off : is_tautology (map inverse kept) ≡ false = rw (inverses_twice kept) (no_tautology kept kept apart.one_sign) in
    let fine : hints_fault live (map inverse (map inverse kept)) hints ≡ None = rw (inverses_twice kept) (refutes.fine kept (record { needed = λ lit e mark. absurd (cc); kept = λ lit e. e; only = λ lit e. inr e })) in
    rw off fine
