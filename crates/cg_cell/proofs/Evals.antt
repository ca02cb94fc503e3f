-- What evaluations make: inverses one after another, and operands joined from the left.
use Rattle.std.proofs.Common.{◌≡◌, ◌<◌, ℕ, zero, suc, ◌+◌, Bool, List, [], ◌∷◌, ◌++◌, false, refl, sym, ◌∙◌, ap, subst, arith}
use Rattle.std.proofs.Common.{IsTrue, not, length, map, length-append}
use Rattle.std.specs.Prelude.{Option, Some, None, option_map, slice_index_or, take, drop, get_or}
use Rattle.std.proofs.lemmas.List.{map-append, take_more}
use Rattle.cg_cell.specs.Domain.{AreValid, IsDomain, Keeps, Makes, Ops, Seen}
use Rattle.cg_cell.specs.Build.{Builds, Evaluates, Run, Stops, build_not, chain, made, plain}
use Rattle.cg_cell.specs.Gates.{inverted}
use Rattle.cg_cell.specs.Expr.{term_of, terms_of}
use Rattle.cg_cell.specs.declared.expr.Expr.{Expr}
use Rattle.cg_cell.specs.Term.{Term, Bit, Input, inverse_times, join_all, join_left, term_value}
use Rattle.cg_cell.specs.Eval.{bits_at, build_inverses, build_joined, build_operator, build_term, joined_bit, operator_bit}
use Rattle.cg_cell.specs.Eval.{operator_none, operator_term, so_far}
use Rattle.cg_cell.specs.declared.eval.Operator.{Operator}
use Rattle.cg_cell.specs.declared.eval.Operator.TheVariants.{And, Or, Xor}
use Rattle.cg_cell.proofs.Building.{builds_then, constant_made, evaluates_as, evaluates_then, keeps_self, keeps_then, not_made}
use Rattle.cg_cell.proofs.Building.{plain_evaluates, stops_first, stops_then}

-- one more sign
pub inverses_more : (o : Ops) (laws : IsDomain o) (s t u : Seen) (a b r n : ℕ) →
    Evaluates o s t b (build_inverses o n a s) (λ bits. inverted n (o.bit s bits a)) → Makes t (o.not_of t b) u r →
    Evaluates o s u r (build_inverses o (n + 1) a s) (λ bits. inverted (n + 1) (o.bit s bits a))
inverses_more o laws s t u a b r n p m =
    let more : suc n ≡ n + 1 = omega arith in
    subst (λ k. Evaluates o s u r (build_inverses o k a s) (λ bits. inverted k (o.bit s bits a))) more
    (evaluates_then o s t u b r (build_inverses o n a s) (λ c d. build_not o c d)
    (λ bits. inverted n (o.bit s bits a)) (λ bits. not (o.bit t bits b)) (λ bits. not (inverted n (o.bit s bits a)))
    p (not_made o laws t u b r p.stands.valid m) (λ bits. ap not (p.stands.bit bits)))

-- values stay valid, and keep their bits
pub valid_then : (o : Ops) (s t : Seen) (values : List ℕ) → Keeps o s t → AreValid o s values → AreValid o t values
valid_then o s t [] k v = tt
valid_then o s t (a ∷ values) k v = (k.valid a v.0, valid_then o s t values k v.1)

pub bits_then : (o : Ops) (s t : Seen) (values : List ℕ) (bits : List Bool) → Keeps o s t → AreValid o s values →
    bits_at o t values bits ≡ bits_at o s values bits
bits_then o s t [] bits k v = refl
bits_then o s t (a ∷ values) bits k v =
    ap (λ b. b ∷ bits_at o t values bits) (k.bits a bits v.0) ∙ ap (λ l. o.bit s bits a ∷ l) (bits_then o s t values bits k v.1)

pub valid_at : (o : Ops) (s : Seen) (values : List ℕ) (k : ℕ) → AreValid o s values → k < length values →
    IsTrue (o.is_valid s (slice_index_or values k 0))
valid_at o s [] k v h = absurd (omega arith)
valid_at o s (a ∷ values) zero v h = v.0
valid_at o s (a ∷ values) (suc k) v h = valid_at o s values k v.1 (omega arith)

pub bit_at : (o : Ops) (s : Seen) (values : List ℕ) (k : ℕ) (bits : List Bool) → k < length values →
    o.bit s bits (slice_index_or values k 0) ≡ slice_index_or (bits_at o s values bits) k false
bit_at o s [] k bits h = absurd (omega arith)
bit_at o s (a ∷ values) zero bits h = refl
bit_at o s (a ∷ values) (suc k) bits h = bit_at o s values k bits (omega arith)

-- A value, where there is one, stands for the operands so far; where there is none, there are no operands.
abbrev pub StandsSoFar : Ops → List ℕ → Operator → List Term → Seen → Seen → Option ℕ → Type 0
StandsSoFar o inputs operator terms s t None = (terms ≡ []) × (t ≡ s)
StandsSoFar o inputs operator terms s t (Some a) =
    (0 < length terms) × Evaluates o s t a (build_term o inputs (so_far operator terms) s) (λ bits. term_value (bits_at o s inputs bits) (so_far operator terms))

-- What is true of the operands after each of them.
pub record Going (o : Ops) (inputs : List ℕ) (operator : Operator) (terms : List Term) (s t : Seen) (answer : Option ℕ) : Type 0 where
  pub keeps : Keeps o s t
  pub stands : StandsSoFar o inputs operator terms s t answer

pub join_left-more : (f : Term → Term → Term) (x : Term) (ys : List Term) (z : Term) → join_left f x (ys ++ z ∷ []) ≡ f (join_left f x ys) z
join_left-more f x [] z = refl
join_left-more f x (y ∷ ys) z = join_left-more f (f x y) ys z

join_all-more : (f : Term → Term → Term) (none : Term) (xs : List Term) (z : Term) → 0 < length xs →
    join_all f none (xs ++ z ∷ []) ≡ f (join_all f none xs) z
join_all-more f none [] z h = absurd (omega arith)
join_all-more f none (x ∷ xs) z h = join_left-more f x xs z

-- an operator's building: its operands, the left one first, and then the operator
pub operator_built : (o : Ops) (inputs : List ℕ) (operator : Operator) (x y : Term) (s : Seen) →
    build_term o inputs (operator_term operator x y) s
    ≡ chain (build_term o inputs x s) (λ a t. chain (build_term o inputs y t) (λ b u. build_operator o operator a b u))
operator_built o inputs And x y s = refl
operator_built o inputs Or x y s = refl
operator_built o inputs Xor x y s = refl

operator_value : (bits : List Bool) (operator : Operator) (x y : Term) →
    operator_bit operator (term_value bits x) (term_value bits y) ≡ term_value bits (operator_term operator x y)
operator_value bits And x y = refl
operator_value bits Or x y = refl
operator_value bits Xor x y = refl

pub join_left-append : (f : Term → Term → Term) (x : Term) (xs ys : List Term) → join_left f x (xs ++ ys) ≡ join_left f (join_left f x xs) ys
join_left-append f x [] ys = refl
join_left-append f x (z ∷ xs) ys = join_left-append f (f x z) xs ys

join_all-append : (f : Term → Term → Term) (none : Term) (xs ys : List Term) → 0 < length xs →
    join_all f none (xs ++ ys) ≡ join_left f (join_all f none xs) ys
join_all-append f none [] ys h = absurd (omega arith)
join_all-append f none (x ∷ xs) ys h = join_left-append f x xs ys

-- before the first operand
pub going_start : (o : Ops) (inputs : List ℕ) (operator : Operator) (s : Seen) → Going o inputs operator [] s s None
going_start o inputs operator s = record { keeps = keeps_self o s; stands = (refl, refl) }

-- the first operand
first_operand : (o : Ops) (inputs : List ℕ) (x : Term) (s t u v : Seen) (b r : ℕ) → t ≡ s →
    Evaluates o t u b (build_term o inputs x t) (λ bits. term_value (bits_at o t inputs bits) x) →
    Evaluates o u v r (plain b u) (λ bits. o.bit u bits b) →
    Evaluates o s v r (build_term o inputs x s) (λ bits. term_value (bits_at o s inputs bits) x)
first_operand o inputs x s t u v b r e p q =
    subst (λ d. Evaluates o d v r (build_term o inputs x d) (λ bits. term_value (bits_at o d inputs bits) x)) e (record {
      builds = record { answered = p.builds.answered ∙ q.builds.answered; left = p.builds.left ∙ q.builds.left };
      stands = record {
        keeps = keeps_then o t u v p.stands.keeps q.stands.keeps;
        valid = q.stands.valid;
        bit = λ bits. q.stands.bit bits ∙ p.stands.bit bits;
      };
    })

-- a further operand
pub next_operand : (o : Ops) (inputs : List ℕ) (operator : Operator) (before x : Term) (s t u v : Seen) (a b r : ℕ) →
    AreValid o s inputs →
    Evaluates o s t a (build_term o inputs before s) (λ bits. term_value (bits_at o s inputs bits) before) →
    Evaluates o t u b (build_term o inputs x t) (λ bits. term_value (bits_at o t inputs bits) x) →
    Evaluates o u v r (build_operator o operator a b u) (λ bits. operator_bit operator (o.bit u bits a) (o.bit u bits b)) →
    Evaluates o s v r (build_term o inputs (operator_term operator before x) s)
    (λ bits. term_value (bits_at o s inputs bits) (operator_term operator before x))
next_operand o inputs operator before x s t u v a b r valid g p q =
    let wanted : List Bool → Bool = λ bits. term_value (bits_at o s inputs bits) (operator_term operator before x) in
    subst (λ (run : Run). Evaluates o s v r run wanted) (sym (operator_built o inputs operator before x s))
    (evaluates_then o s t v a r (build_term o inputs before s)
    (λ c d. chain (build_term o inputs x d) (λ f e. build_operator o operator c f e)) _ _ wanted g
    (evaluates_then o t u v b r (build_term o inputs x t) (λ f e. build_operator o operator a f e) _ _ wanted p q
    (λ bits.
    let left = p.stands.keeps.bits a bits g.stands.valid ∙ g.stands.bit bits in
    let right = p.stands.bit bits ∙ ap (λ l. term_value l x) (bits_then o s t inputs bits g.stands.keeps valid) in
    ap (λ c. operator_bit operator c (o.bit u bits b)) left
    ∙ (ap (λ c. operator_bit operator (term_value (bits_at o s inputs bits) before) c) right
    ∙ operator_value (bits_at o s inputs bits) operator before x)))
    (λ bits. refl))

-- one more operand
pub going_more : {X : Type 0} (number : X → ℕ) (o : Ops) (inputs : List ℕ) (operator : Operator) (terms : List Term) (x : Term) (s t u v : Seen)
    (answer : Option X) (b r : ℕ) → AreValid o s inputs →
    Going o inputs operator terms s t (option_map number answer) →
    Evaluates o t u b (build_term o inputs x t) (λ bits. term_value (bits_at o t inputs bits) x) →
    Evaluates o u v r (build_joined o operator (option_map number answer) b u)
    (λ bits. joined_bit operator (option_map (λ a. o.bit u bits (number a)) answer) (o.bit u bits b)) →
    Going o inputs operator (terms ++ x ∷ []) s v (Some r)
going_more number o inputs operator terms x s t u v None b r valid g p q =
    let first = first_operand o inputs x s t u v b r g.stands.1 p q in
    subst (λ l. Going o inputs operator (l ++ x ∷ []) s v (Some r)) (sym g.stands.0)
    (record { keeps = first.stands.keeps; stands = (omega arith, first) })
going_more number o inputs operator terms x s t u v (Some a) b r valid g p q =
    let next = next_operand o inputs operator (so_far operator terms) x s t u v (number a) b r valid g.stands.1 p q in
    let longer = length-append terms (x ∷ []) in
    let same = join_all-more (operator_term operator) (Bit (operator_none operator)) terms x g.stands.0 in
    record {
      keeps = next.stands.keeps;
      stands = (
        omega arith,
        subst (λ y. Evaluates o s v r (build_term o inputs y s) (λ bits. term_value (bits_at o s inputs bits) y)) (sym same) next,
      );
    }

-- a run that stops in the operands so far stops the whole
pub join_left-stops : {F : Type 0} (refuses : Seen → ℕ → ℕ → F → Type 0) (o : Ops) (inputs : List ℕ) (operator : Operator) (x : Term) (ys : List Term)
    (s v : Seen) (f : F) → Stops refuses (build_term o inputs x s) f v →
    Stops refuses (build_term o inputs (join_left (operator_term operator) x ys) s) f v
join_left-stops refuses o inputs operator x [] s v f h = h
join_left-stops refuses o inputs operator x (y ∷ ys) s v f h =
    join_left-stops refuses o inputs operator (operator_term operator x y) ys s v f
    (subst (λ (run : Run). Stops refuses run f v) (sym (operator_built o inputs operator x y s))
    (stops_first refuses (build_term o inputs x s) (λ a t. chain (build_term o inputs y t) (λ b u. build_operator o operator a b u)) f v h))

-- the whole, where it stops after the operands so far
stops_after : {F : Type 0} (refuses : Seen → ℕ → ℕ → F → Type 0) (o : Ops) (inputs : List ℕ) (operator : Operator) (terms : List Term) (x : Term)
    (rest : List Term) (s t v : Seen) (a : ℕ) (f : F) → 0 < length terms → Builds (build_term o inputs (so_far operator terms) s) t a →
    Stops refuses (chain (build_term o inputs x t) (λ b u. build_operator o operator a b u)) f v →
    Stops refuses (build_term o inputs (so_far operator (terms ++ x ∷ rest)) s) f v
stops_after refuses o inputs operator terms x rest s t v a f some g h =
    let before = so_far operator terms in
    let whole = join_all-append (operator_term operator) (Bit (operator_none operator)) terms (x ∷ rest) some in
    subst (λ y. Stops refuses (build_term o inputs y s) f v) (sym whole)
    (join_left-stops refuses o inputs operator (operator_term operator before x) rest s v f
    (subst (λ (run : Run). Stops refuses run f v) (sym (operator_built o inputs operator before x s))
    (stops_then refuses (build_term o inputs before s) (λ c d. chain (build_term o inputs x d) (λ b u. build_operator o operator c b u)) f t v a g h)))

-- an operand stops
pub operand_stops : {F X : Type 0} (number : X → ℕ) (refuses : Seen → ℕ → ℕ → F → Type 0) (o : Ops) (inputs : List ℕ) (operator : Operator)
    (terms : List Term) (x : Term) (rest : List Term) (s t v : Seen) (answer : Option X) (f : F) →
    Going o inputs operator terms s t (option_map number answer) → Stops refuses (build_term o inputs x t) f v →
    Stops refuses (build_term o inputs (so_far operator (terms ++ x ∷ rest)) s) f v
operand_stops number refuses o inputs operator terms x rest s t v None f g h =
    subst (λ l. Stops refuses (build_term o inputs (so_far operator (l ++ x ∷ rest)) s) f v) (sym g.stands.0)
    (join_left-stops refuses o inputs operator x rest s v f (subst (λ d. Stops refuses (build_term o inputs x d) f v) g.stands.1 h))
operand_stops number refuses o inputs operator terms x rest s t v (Some a) f g h =
    stops_after refuses o inputs operator terms x rest s t v (number a) f g.stands.0 g.stands.1.builds
    (stops_first refuses (build_term o inputs x t) (λ b u. build_operator o operator (number a) b u) f v h)

-- joining an operand stops
pub join_stops : {F X : Type 0} (number : X → ℕ) (refuses : Seen → ℕ → ℕ → F → Type 0) (o : Ops) (inputs : List ℕ) (operator : Operator)
    (terms : List Term) (x : Term) (rest : List Term) (s t u v : Seen) (answer : Option X) (b : ℕ) (f : F) →
    Going o inputs operator terms s t (option_map number answer) → Builds (build_term o inputs x t) u b →
    Stops refuses (build_joined o operator (option_map number answer) b u) f v →
    Stops refuses (build_term o inputs (so_far operator (terms ++ x ∷ rest)) s) f v
join_stops number refuses o inputs operator terms x rest s t u v None b f g p h = absurd h.at
join_stops number refuses o inputs operator terms x rest s t u v (Some a) b f g p h =
    stops_after refuses o inputs operator terms x rest s t v (number a) f g.stands.0 g.stands.1.builds
    (stops_then refuses (build_term o inputs x t) (λ c d. build_operator o operator (number a) c d) f u v b p h)

-- no operands: the constant
pub none_stands : (o : Ops) (laws : IsDomain o) (inputs : List ℕ) (operator : Operator) (terms : List Term) (s t u : Seen) (r : ℕ) →
    Going o inputs operator terms s t None → IsTrue (o.is_sound t) → Makes t (o.constant_of t (operator_none operator)) u r →
    Evaluates o s u r (build_term o inputs (so_far operator terms) s) (λ bits. term_value (bits_at o s inputs bits) (so_far operator terms))
none_stands o laws inputs operator terms s t u r g sound m =
    subst (λ l. Evaluates o s u r (build_term o inputs (so_far operator l) s) (λ bits. term_value (bits_at o s inputs bits) (so_far operator l))) (sym g.stands.0)
    (subst (λ d. Evaluates o d u r (made d (o.constant_of d (operator_none operator))) (λ _. operator_none operator)) g.stands.1
    (constant_made o laws t u (operator_none operator) r sound m))

split_at : (es : List Expr) (i : ℕ) (d : Expr) → i < length es →
    terms_of es ≡ terms_of (take i es) ++ (term_of (get_or es i d) ∷ terms_of (drop (suc i) es))
split_at [] i d h = absurd (omega arith)
split_at (e ∷ es) zero d h = refl
split_at (e ∷ es) (suc i) d h = ap (λ l. term_of e ∷ l) (split_at es i d (omega arith))

-- the operands before one, that one, and those behind it
pub terms_split : (es : List Expr) (i : ℕ) (d : Expr) → i < length es →
    terms_of es ≡ terms_of (take i es) ++ (term_of (get_or es i d) ∷ terms_of (drop (i + 1) es))
terms_split es i d h =
    let e : suc i ≡ i + 1 = omega arith in
    split_at es i d h ∙ ap (λ n. terms_of (take i es) ++ (term_of (get_or es i d) ∷ terms_of (drop n es))) e

pub terms_more : (es : List Expr) (i : ℕ) (d : Expr) → i < length es →
    terms_of (take (i + 1) es) ≡ terms_of (take i es) ++ term_of (get_or es i d) ∷ []
terms_more es i d h = ap terms_of (take_more es i d h) ∙ map-append term_of (take i es) (get_or es i d ∷ [])

-- an input is the value that is there
pub input_evaluates : (o : Ops) (inputs : List ℕ) (s : Seen) (k a : ℕ) → AreValid o s inputs → k < length inputs →
    a ≡ slice_index_or inputs k 0 → Evaluates o s s a (build_term o inputs (Input k) s) (λ bits. term_value (bits_at o s inputs bits) (Input k))
input_evaluates o inputs s k a valid h e =
    subst (λ b. Evaluates o s s b (plain (slice_index_or inputs k 0) s) (λ bits. slice_index_or (bits_at o s inputs bits) k false)) (sym e)
    (evaluates_as o s s (slice_index_or inputs k 0) (plain (slice_index_or inputs k 0) s) _ _
    (plain_evaluates o s (slice_index_or inputs k 0) (valid_at o s inputs k valid h)) (λ bits. bit_at o s inputs k bits h))

pub number_at : {X : Type 0} (number : X → ℕ) (xs : List X) (k : ℕ) (d : X) → k < length xs →
    number (get_or xs k d) ≡ slice_index_or (map number xs) k 0
number_at number [] k d h = absurd (omega arith)
number_at number (x ∷ xs) zero d h = refl
number_at number (x ∷ xs) (suc k) d h = number_at number xs k d (omega arith)

-- two runs end in the same answer and domain
record SameEnd (r q : Run) : Type 0 where
  answer : r.answer ≡ q.answer
  domain : r.domain ≡ q.domain

inverses_end : (o : Ops) (inputs : List ℕ) (x : Term) (s : Seen) (n : ℕ) →
    SameEnd (build_term o inputs (inverse_times n x) s) (build_inverses o n (build_term o inputs x s).answer (build_term o inputs x s).domain)
inverses_end o inputs x s zero = record { answer = refl; domain = refl }
inverses_end o inputs x s (suc n) =
    let before = inverses_end o inputs x s n in
    let r = build_term o inputs (inverse_times n x) s in
    let q = build_inverses o n (build_term o inputs x s).answer (build_term o inputs x s).domain in
    record {
      answer = ap (λ a. (build_not o a r.domain).answer) before.answer ∙ ap (λ d. (build_not o q.answer d).answer) before.domain;
      domain = ap (λ a. (build_not o a r.domain).domain) before.answer ∙ ap (λ d. (build_not o q.answer d).domain) before.domain;
    }

inverses_value : (bits : List Bool) (n : ℕ) (x : Term) → inverted n (term_value bits x) ≡ term_value bits (inverse_times n x)
inverses_value bits zero x = refl
inverses_value bits (suc n) x = ap not (inverses_value bits n x)

-- an operand, and the signs of inversion behind it
pub inverses_evaluate : (o : Ops) (inputs : List ℕ) (x : Term) (s t u : Seen) (a r n : ℕ) →
    Evaluates o s t a (build_term o inputs x s) (λ bits. term_value (bits_at o s inputs bits) x) →
    Evaluates o t u r (build_inverses o n a t) (λ bits. inverted n (o.bit t bits a)) →
    Evaluates o s u r (build_term o inputs (inverse_times n x) s) (λ bits. term_value (bits_at o s inputs bits) (inverse_times n x))
inverses_evaluate o inputs x s t u a r n p q =
    let end = inverses_end o inputs x s n in
    let run = build_term o inputs x s in
    let both = builds_then run (λ c d. build_inverses o n c d) t u a r p.builds q.builds in
    record {
      builds = record { answered = end.answer ∙ both.answered; left = end.domain ∙ both.left };
      stands = record {
        keeps = keeps_then o s t u p.stands.keeps q.stands.keeps;
        valid = q.stands.valid;
        bit = λ bits. q.stands.bit bits ∙ (ap (inverted n) (p.stands.bit bits) ∙ inverses_value (bits_at o s inputs bits) n x);
      };
    }

pub inverses_stop : {F : Type 0} (refuses : Seen → ℕ → ℕ → F → Type 0) (o : Ops) (inputs : List ℕ) (x : Term) (s v : Seen) (n : ℕ) (f : F) →
    Stops refuses (build_term o inputs x s) f v → Stops refuses (build_term o inputs (inverse_times n x) s) f v
inverses_stop refuses o inputs x s v zero f h = h
inverses_stop refuses o inputs x s v (suc n) f h =
    stops_first refuses (build_term o inputs (inverse_times n x) s) (λ a t. build_not o a t) f v (inverses_stop refuses o inputs x s v n f h)
