-- What the clauses of and-nodes say of the values of nodes.
use Rattle.std.proofs.Common.{◌≡◌, ◌<◌, ℕ, zero, suc, ◌+◌, ◌-◌, ◌/◌, Bool, true, false, not, ◌&&◌, ◌||◌, List, [], ◌∷◌, ◌++◌, refl}
use Rattle.std.proofs.Common.{sym, ◌∙◌, ap, subst, arith, inl, inr, IsTrue, length, length-append, take}
use Rattle.std.specs.Prelude.{slice_index_or, if◌then◌else◌}
use Rattle.std.specs.List.{list_all}
use Rattle.std.proofs.lemmas.List.{take_all, take_more}
use Rattle.cg_aig.specs.Aig as aig
use Rattle.cg_aig.specs.Aig.{are_pairs, is_pair, values_from}
use Rattle.cg_aig.specs.Values.{IsPair, and_left, and_right, node_is, pair_is, parity}
use Rattle.cg_aig.proofs.Fills.{bit_of_first}
use Rattle.cg_formula.specs.declared.formula.Clause.{Clause}
use Rattle.cg_formula.specs.Lits.{inverse}
use Rattle.cg_formula.specs.Satisfiable.{clause_bit, lit_bit}
use Rattle.cg_cnf.specs.Clauses.{clauses_from, lit_of, node_lit}
use Rattle.cg_formula.proofs.TrueLiterals.{lit_bit-inverse}

pub lit_same : (model : List Bool) (a : ℕ) → 1 < a → lit_bit model (lit_of a) ≡ aig.lit_bit (false ∷ model) a
lit_same model a h = elim (parity a) [
  | inl e ↦ let half : a / 2 ≡ suc (a / 2 - 1) = omega arith in
      rw e (sym (ap (λ k. slice_index_or (false ∷ model) k false) half))
  | inr e ↦ let half : a / 2 ≡ suc (a / 2 - 1) = omega arith in
      rw e (sym (ap (λ k. not (slice_index_or (false ∷ model) k false)) half))
]

pub node_same : (model : List Bool) (c : ℕ) → 0 < c → lit_bit model (node_lit c) ≡ slice_index_or (false ∷ model) c false
node_same model zero h = absurd (omega arith)
node_same model (suc c) h = let e : suc c - 1 ≡ c = omega arith in ap (λ k. slice_index_or model k false) e

-- the three clauses of a gate m of x and y, and what follows them
abbrev pub gate : Bool → Bool → Bool → Bool → Bool
gate m x y rest = (not m || (x || false)) && ((not m || (y || false)) && ((m || (not x || (not y || false))) && rest))

pub record GateMeans (m x y rest : Bool) : Type 0 where
  pub is : m ≡ (x && y)
  pub later : rest ≡ true

gate_means : (m x y rest : Bool) → gate m x y rest ≡ true → GateMeans m x y rest
gate_means true true true rest h = record { is = refl; later = h }
gate_means true true false rest h = absurd cc
gate_means true false y rest h = absurd cc
gate_means false true true rest h = absurd cc
gate_means false true false rest h = record { is = refl; later = h }
gate_means false false y rest h = record { is = refl; later = h }

gate_holds : (x y rest : Bool) → rest ≡ true → gate (x && y) x y rest ≡ true
gate_holds true true rest h = h
gate_holds true false rest h = h
gate_holds false y rest h = h

node_bits : (model : List Bool) (c : ℕ) (p : ℕ × ℕ) (rest : Bool) → 0 < c → IsPair c p →
    (lit_bit model (inverse (node_lit c)) || (lit_bit model (lit_of p.0) || false))
    && ((lit_bit model (inverse (node_lit c)) || (lit_bit model (lit_of p.1) || false))
    && ((lit_bit model (node_lit c) || (lit_bit model (inverse (lit_of p.0)) || (lit_bit model (inverse (lit_of p.1)) || false))) && rest))
    ≡ gate (slice_index_or (false ∷ model) c false) (aig.lit_bit (false ∷ model) p.0) (aig.lit_bit (false ∷ model) p.1) rest
node_bits model c p rest h pair =
    let low = pair.no_constant in let order = pair.ordered in
    let right : 1 < p.1 = omega arith in
    let x = lit_same model p.0 low in
    let y = lit_same model p.1 right in
    let m = node_same model c h in
    let nm = lit_bit-inverse model (node_lit c) ∙ ap not m in
    let nx = lit_bit-inverse model (lit_of p.0) ∙ ap not x in
    let ny = lit_bit-inverse model (lit_of p.1) ∙ ap not y in
    let W = false ∷ model in
    ap
    (λ b. (b || (lit_bit model (lit_of p.0) || false)) && ((b || (lit_bit model (lit_of p.1) || false)) && ((lit_bit model (node_lit c) || (lit_bit model (inverse (lit_of p.0)) || (lit_bit model (inverse (lit_of p.1)) || false))) && rest)))
    nm
    ∙ (ap (λ b. (not (slice_index_or W c false) || (b || false)) && ((not (slice_index_or W c false) || (lit_bit model (lit_of p.1) || false)) && ((lit_bit model (node_lit c) || (lit_bit model (inverse (lit_of p.0)) || (lit_bit model (inverse (lit_of p.1)) || false))) && rest))) x
    ∙ (ap (λ b. (not (slice_index_or W c false) || (aig.lit_bit W p.0 || false)) && ((not (slice_index_or W c false) || (b || false)) && ((lit_bit model (node_lit c) || (lit_bit model (inverse (lit_of p.0)) || (lit_bit model (inverse (lit_of p.1)) || false))) && rest))) y
    ∙ (ap (λ b. (not (slice_index_or W c false) || (aig.lit_bit W p.0 || false)) && ((not (slice_index_or W c false) || (aig.lit_bit W p.1 || false)) && ((b || (lit_bit model (inverse (lit_of p.0)) || (lit_bit model (inverse (lit_of p.1)) || false))) && rest))) m
    ∙ (ap (λ b. (not (slice_index_or W c false) || (aig.lit_bit W p.0 || false)) && ((not (slice_index_or W c false) || (aig.lit_bit W p.1 || false)) && ((slice_index_or W c false || (b || (lit_bit model (inverse (lit_of p.1)) || false))) && rest))) nx
    ∙ ap
    (λ b. (not (slice_index_or W c false) || (aig.lit_bit W p.0 || false)) && ((not (slice_index_or W c false) || (aig.lit_bit W p.1 || false)) && ((slice_index_or W c false || (not (aig.lit_bit W p.0) || (b || false))) && rest)))
    ny))))

-- The values of and-nodes, from this one on, are the ands of their operands.
abbrev pub AreAnds : List Bool → ℕ → List (ℕ × ℕ) → Type 0
AreAnds values c [] = Unit {0}
AreAnds values c (p ∷ pairs) =
    (slice_index_or values c false ≡ (aig.lit_bit values p.0 && aig.lit_bit values p.1)) × AreAnds values (c + 1) pairs

pub record ClausesMean (model : List Bool) (c : ℕ) (pairs : List (ℕ × ℕ)) (rest : Bool) : Type 0 where
  pub ands : AreAnds (false ∷ model) c pairs
  pub later : rest ≡ true

-- what satisfies the clauses gives each and-node its value
pub clauses_mean : (model : List Bool) (c : ℕ) (pairs : List (ℕ × ℕ)) (rest : List Clause) → 0 < c → IsTrue (are_pairs c pairs) →
    list_all (clause_bit model) (clauses_from c pairs ++ rest) ≡ true → ClausesMean model c pairs (list_all (clause_bit model) rest)
clauses_mean model c [] rest h s t = record { ands = tt; later = t }
clauses_mean model c (p ∷ pairs) rest h s t =
    let later = list_all (clause_bit model) (clauses_from (c + 1) pairs ++ rest) in
    let W = false ∷ model in
    let pair = pair_is c p (and_left (is_pair c p) _ s) in
    let first =
    gate_means (slice_index_or W c false) (aig.lit_bit W p.0) (aig.lit_bit W p.1) later (sym (node_bits model c p later h pair) ∙ t) in
    let more = clauses_mean model (c + 1) pairs rest (omega arith) (and_right (is_pair c p) _ s) first.later in
    record { ands = (first.is, more.ands); later = more.later }

-- the values of and-nodes satisfy the clauses
pub clauses_hold : (model : List Bool) (c : ℕ) (pairs : List (ℕ × ℕ)) (rest : List Clause) → 0 < c → IsTrue (are_pairs c pairs) →
    AreAnds (false ∷ model) c pairs → list_all (clause_bit model) rest ≡ true → list_all (clause_bit model) (clauses_from c pairs ++ rest) ≡ true
clauses_hold model c [] rest h s a t = t
clauses_hold model c (p ∷ pairs) rest h s a t =
    let later = list_all (clause_bit model) (clauses_from (c + 1) pairs ++ rest) in
    let W = false ∷ model in
    let pair = pair_is c p (and_left (is_pair c p) _ s) in
    let more = clauses_hold model (c + 1) pairs rest (omega arith) (and_right (is_pair c p) _ s) a.1 t in
    node_bits model c p later h pair
    ∙ (ap (λ m. gate m (aig.lit_bit W p.0) (aig.lit_bit W p.1) later) a.0 ∙ gate_holds (aig.lit_bit W p.0) (aig.lit_bit W p.1) later more)

-- the values of nodes are ands
pub values_are : (values : List Bool) (pairs : List (ℕ × ℕ)) → IsTrue (are_pairs (length values) pairs) →
    AreAnds (values_from values pairs) (length values) pairs
values_are values [] s = tt
values_are values (p ∷ pairs) s =
    let v = aig.lit_bit values p.0 && aig.lit_bit values p.1 in
    let whole = values_from values (p ∷ pairs) in
    let e = length-append values (v ∷ []) in
    let longer : length (values ++ v ∷ []) ≡ length values + 1 = omega arith in
    let at : length values + 0 ≡ length values = omega arith in (
      subst (λ i. slice_index_or whole i false ≡ (aig.lit_bit whole p.0 && aig.lit_bit whole p.1)) at
          (node_is values (p ∷ pairs) 0 p s refl),
      subst (λ n. AreAnds whole n pairs) longer
          (values_are (values ++ v ∷ []) pairs (subst (λ n. IsTrue (are_pairs n pairs)) (sym longer) (and_right (is_pair (length values) p) _ s))),
    )

-- and no others are, where the first ones agree
pub values_unique : (W values : List Bool) (pairs : List (ℕ × ℕ)) → IsTrue (are_pairs (length values) pairs)
    → AreAnds W (length values) pairs →
    take (length values) W ≡ values → length W ≡ length values + length pairs → values_from values pairs ≡ W
values_unique W values [] s a e n = sym e ∙ take_all (length values) W (omega arith)
values_unique W values (p ∷ pairs) s a e n =
    let v = aig.lit_bit values p.0 && aig.lit_bit values p.1 in
    let pair = pair_is (length values) p (and_left (is_pair (length values) p) _ s) in
    let f = length-append values (v ∷ []) in
    let longer : length (values ++ v ∷ []) ≡ length values + 1 = omega arith in
    let left : aig.lit_bit W p.0 ≡ aig.lit_bit values p.0 =
    sym (bit_of_first (length values) W p.0 (let o = pair.ordered in let i = pair.earlier in omega arith))
    ∙ ap (λ l. aig.lit_bit l p.0) e in
    let right : aig.lit_bit W p.1 ≡ aig.lit_bit values p.1 =
    sym (bit_of_first (length values) W p.1 pair.earlier) ∙ ap (λ l. aig.lit_bit l p.1) e in
    let value : slice_index_or W (length values) false ≡ v =
    a.0 ∙ (ap (λ b. b && aig.lit_bit W p.1) left ∙ ap (λ b. aig.lit_bit values p.0 && b) right) in
    let first : take (length (values ++ v ∷ [])) W ≡ values ++ v ∷ [] =
    ap (λ k. take k W) longer ∙ (take_more W (length values) false (omega arith)
    ∙ (ap (λ l. l ++ slice_index_or W (length values) false ∷ []) e ∙ ap (λ b. values ++ b ∷ []) value)) in
    values_unique W (values ++ v ∷ []) pairs
    (subst (λ k. IsTrue (are_pairs k pairs)) (sym longer) (and_right (is_pair (length values) p) _ s))
    (subst (λ k. AreAnds W k pairs) (sym longer) a.1) first (omega arith)
