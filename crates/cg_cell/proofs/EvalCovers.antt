-- What evaluations of covers make: the places of a row from the left, and the rows from the left.
use Rattle.std.proofs.Common.{◌≡◌, ◌<◌, ◌≤◌, ℕ, zero, suc, ◌+◌, Bool, List, [], ◌∷◌, ◌++◌, true, false, refl, sym, ◌∙◌, ap, subst}
use Rattle.std.proofs.Common.{arith, IsTrue, not, ◌&&◌, ◌||◌, length, map, append-nil, append_assoc, drop-cons}
use Rattle.std.specs.Prelude.{Option, Some, None, if◌then◌else◌, slice_index_or, take, drop, get_or}
use Rattle.std.specs.List.{AllByRecursion, list_any}
use Rattle.std.proofs.lemmas.List.{length-map, length-take-le, map-append, take_more}
use Rattle.cg_cell.specs.Domain.{AreValid, IsDomain, Makes, Ops, Seen}
use Rattle.cg_cell.specs.Build.{Builds, Evaluates, Run, Stops, build_and, build_not, chain}
use Rattle.cg_cell.specs.Cover.{CoverData, CoverFits, cover_value, row_matches}
use Rattle.cg_cell.specs.Term.{Term, Bit, Input, Inverse, Both, Either, join_left, term_value}
use Rattle.cg_cell.specs.Eval.{bits_at, build_operator, build_term, operator_term}
use Rattle.cg_cell.specs.EvalCover.{build_on, build_place, cover_term, given_term, given_terms, on_bit, place_bit, place_terms}
use Rattle.cg_cell.specs.EvalCover.{row_term, rows_term}
use Rattle.cg_cell.specs.declared.eval.Operator.{Operator}
use Rattle.cg_cell.specs.declared.eval.Operator.TheVariants.{And, Or}
use Rattle.cg_cell.proofs.Building.{evaluates_as, evaluates_then, keeps_then, not_made, stops_first, stops_then}
use Rattle.cg_cell.proofs.Evals.{bits_then, join_left-append, join_left-more, join_left-stops, next_operand, operator_built}
use Rattle.std.proofs.Math.Bool.{and-true, or-false, or_assoc}

-- an input of a row, inverted
pub given_inverse : (o : Ops) (laws : IsDomain o) (inputs : List ℕ) (s t : Seen) (k a r : ℕ) →
    Evaluates o s s a (build_term o inputs (Input k) s) (λ bits. term_value (bits_at o s inputs bits) (Input k)) →
    Makes s (o.not_of s a) t r →
    Evaluates o s t r (build_term o inputs (given_term k false) s) (λ bits. term_value (bits_at o s inputs bits) (given_term k false))
given_inverse o laws inputs s t k a r p m =
    evaluates_then o s s t a r (build_term o inputs (Input k) s) (λ b u. build_not o b u) _ _ _ p
    (not_made o laws s t a r p.stands.valid m) (λ bits. ap not (p.stands.bit bits))

-- a given bit, joined to what is there
pub place_joined : (o : Ops) (inputs : List ℕ) (s t u : Seen) (k a b r : ℕ) (bit : Bool) → IsTrue (o.is_valid s a) →
    Evaluates o s t b (build_term o inputs (given_term k bit) s) (λ bits. term_value (bits_at o s inputs bits) (given_term k bit)) →
    Evaluates o t u r (build_and o a b t) (λ bits. o.bit t bits a && o.bit t bits b) →
    Evaluates o s u r (build_place o inputs k (Some bit) a s) (λ bits. place_bit k (Some bit) (o.bit s bits a) (bits_at o s inputs bits))
place_joined o inputs s t u k a b r bit valid p q =
    evaluates_then o s t u b r (build_term o inputs (given_term k bit) s) (λ c d. build_and o a c d) _ _ _ p q
    (λ bits. ap (λ c. c && o.bit t bits b) (p.stands.keeps.bits a bits valid) ∙ ap (λ c. o.bit s bits a && c) (p.stands.bit bits))

-- the and of a row's places so far
abbrev pub row_so_far : List (Option Bool) → Term
row_so_far places = join_left Both (Bit true) (given_terms 0 places)

given_append : (k : ℕ) (xs ys : List (Option Bool)) → given_terms k (xs ++ ys) ≡ given_terms k xs ++ given_terms (k + length xs) ys
given_append k [] ys = let e : k ≡ k + 0 = omega arith in ap (λ n. given_terms n ys) e
given_append k (x ∷ xs) ys =
    let e : k + 1 + length xs ≡ k + suc (length xs) = omega arith in
    ap (λ l. place_terms k x ++ l) (given_append (k + 1) xs ys ∙ ap (λ n. given_terms (k + 1) xs ++ given_terms n ys) e)
    ∙ sym (append_assoc (place_terms k x) (given_terms (k + 1) xs) (given_terms (k + suc (length xs)) ys))

row_more : (row : List (Option Bool)) (k : ℕ) → k < length row →
    given_terms 0 (take (k + 1) row) ≡ given_terms 0 (take k row) ++ place_terms k (get_or row k None)
row_more row k h =
    let n : length (take k row) ≡ k = length-take-le k row (omega arith) in
    ap (given_terms 0) (take_more row k None h)
    ∙ (given_append 0 (take k row) (get_or row k None ∷ [])
    ∙ (ap (λ i. given_terms 0 (take k row) ++ given_terms i (get_or row k None ∷ [])) (let e : 0 + length (take k row) ≡ k = omega arith in e)
    ∙ ap (λ l. given_terms 0 (take k row) ++ l) (append-nil (place_terms k (get_or row k None)))))

cut_suc : {X : Type 0} (xs : List X) (k : ℕ) (d : X) → k < length xs → xs ≡ take k xs ++ (get_or xs k d ∷ drop (suc k) xs)
cut_suc [] k d h = absurd (omega arith)
cut_suc (x ∷ xs) zero d h = refl
cut_suc (x ∷ xs) (suc k) d h = ap (λ l. x ∷ l) (cut_suc xs k d (omega arith))

cut_at : {X : Type 0} (xs : List X) (k : ℕ) (d : X) → k < length xs → xs ≡ take k xs ++ (get_or xs k d ∷ drop (k + 1) xs)
cut_at xs k d h = let e : suc k ≡ k + 1 = omega arith in cut_suc xs k d h ∙ ap (λ n. take k xs ++ (get_or xs k d ∷ drop n xs)) e

row_split : (row : List (Option Bool)) (k : ℕ) → k < length row →
    given_terms 0 row ≡ given_terms 0 (take k row) ++ (place_terms k (get_or row k None) ++ given_terms (k + 1) (drop (k + 1) row))
row_split row k h =
    let n : length (take k row) ≡ k = length-take-le k row (omega arith) in
    ap (given_terms 0) (cut_at row k None h)
    ∙ (given_append 0 (take k row) (get_or row k None ∷ drop (k + 1) row)
    ∙ ap (λ i. given_terms 0 (take k row) ++ given_terms i (get_or row k None ∷ drop (k + 1) row)) (let e : 0 + length (take k row) ≡ k = omega arith in e))

place_joins : (o : Ops) (inputs : List ℕ) (gs : List Term) (place : Option Bool) (s t u : Seen) (k a r : ℕ) → AreValid o s inputs →
    Evaluates o s t a (build_term o inputs (join_left Both (Bit true) gs) s) (λ bits. term_value (bits_at o s inputs bits) (join_left Both (Bit true) gs)) →
    Evaluates o t u r (build_place o inputs k place a t) (λ bits. place_bit k place (o.bit t bits a) (bits_at o t inputs bits)) →
    Evaluates o s u r (build_term o inputs (join_left Both (Bit true) (gs ++ place_terms k place)) s)
    (λ bits. term_value (bits_at o s inputs bits) (join_left Both (Bit true) (gs ++ place_terms k place)))
place_joins o inputs gs None s t u k a r valid g q =
    subst (λ l. Evaluates o s u r (build_term o inputs (join_left Both (Bit true) l) s) (λ bits. term_value (bits_at o s inputs bits) (join_left Both (Bit true) l)))
    (sym (append-nil gs)) (record {
      builds = record { answered = g.builds.answered ∙ q.builds.answered; left = g.builds.left ∙ q.builds.left };
      stands = record {
        keeps = keeps_then o s t u g.stands.keeps q.stands.keeps;
        valid = q.stands.valid;
        bit = λ bits. q.stands.bit bits ∙ g.stands.bit bits;
      };
    })
place_joins o inputs gs (Some bit) s t u k a r valid g q =
    let before = join_left Both (Bit true) gs in
    subst (λ y. Evaluates o s u r (build_term o inputs y s) (λ bits. term_value (bits_at o s inputs bits) y))
    (sym (join_left-more Both (Bit true) gs (given_term k bit)))
    (evaluates_then o s t u a r (build_term o inputs before s) (λ c d. chain (build_term o inputs (given_term k bit) d) (λ b e. build_and o c b e)) _ _ _ g q
    (λ bits. ap (λ c. c && term_value (bits_at o t inputs bits) (given_term k bit)) (g.stands.bit bits)
    ∙ ap (λ l. term_value (bits_at o s inputs bits) before && term_value l (given_term k bit)) (bits_then o s t inputs bits g.stands.keeps valid)))

-- one more place
pub place_more : (o : Ops) (inputs : List ℕ) (row : List (Option Bool)) (s t u : Seen) (k a r : ℕ) → k < length row → AreValid o s inputs →
    Evaluates o s t a (build_term o inputs (row_so_far (take k row)) s) (λ bits. term_value (bits_at o s inputs bits) (row_so_far (take k row))) →
    Evaluates o t u r (build_place o inputs k (get_or row k None) a t) (λ bits. place_bit k (get_or row k None) (o.bit t bits a) (bits_at o t inputs bits)) →
    Evaluates o s u r (build_term o inputs (row_so_far (take (k + 1) row)) s) (λ bits. term_value (bits_at o s inputs bits) (row_so_far (take (k + 1) row)))
place_more o inputs row s t u k a r h valid g q =
    subst (λ l. Evaluates o s u r (build_term o inputs (join_left Both (Bit true) l) s) (λ bits. term_value (bits_at o s inputs bits) (join_left Both (Bit true) l)))
    (sym (row_more row k h)) (place_joins o inputs (given_terms 0 (take k row)) (get_or row k None) s t u k a r valid g q)

-- after what was built, one more operand stops
after_stops : {F : Type 0} (refuses : Seen → ℕ → ℕ → F → Type 0) (o : Ops) (inputs : List ℕ) (operator : Operator) (before x : Term) (rest : List Term)
    (s t v : Seen) (a : ℕ) (f : F) → Builds (build_term o inputs before s) t a →
    Stops refuses (chain (build_term o inputs x t) (λ b u. build_operator o operator a b u)) f v →
    Stops refuses (build_term o inputs (join_left (operator_term operator) before (x ∷ rest)) s) f v
after_stops refuses o inputs operator before x rest s t v a f g h =
    join_left-stops refuses o inputs operator (operator_term operator before x) rest s v f
    (subst (λ (run : Run). Stops refuses run f v) (sym (operator_built o inputs operator before x s))
    (stops_then refuses (build_term o inputs before s) (λ c d. chain (build_term o inputs x d) (λ b u. build_operator o operator c b u)) f t v a g h))

place_stops_at : {F : Type 0} (refuses : Seen → ℕ → ℕ → F → Type 0) (o : Ops) (inputs : List ℕ) (gs rest : List Term) (place : Option Bool)
    (s t v : Seen) (k a : ℕ) (f : F) → Builds (build_term o inputs (join_left Both (Bit true) gs) s) t a →
    Stops refuses (build_place o inputs k place a t) f v →
    Stops refuses (build_term o inputs (join_left Both (Bit true) (gs ++ (place_terms k place ++ rest))) s) f v
place_stops_at refuses o inputs gs rest None s t v k a f g h = absurd h.at
place_stops_at refuses o inputs gs rest (Some bit) s t v k a f g h =
    subst (λ y. Stops refuses (build_term o inputs y s) f v) (sym (join_left-append Both (Bit true) gs (given_term k bit ∷ rest)))
    (after_stops refuses o inputs And (join_left Both (Bit true) gs) (given_term k bit) rest s t v a f g h)

-- a place stops
pub place_stops : {F : Type 0} (refuses : Seen → ℕ → ℕ → F → Type 0) (o : Ops) (inputs : List ℕ) (row : List (Option Bool))
    (s t v : Seen) (k a : ℕ) (f : F) → k < length row → Builds (build_term o inputs (row_so_far (take k row)) s) t a →
    Stops refuses (build_place o inputs k (get_or row k None) a t) f v → Stops refuses (build_term o inputs (row_term row) s) f v
place_stops refuses o inputs row s t v k a f h g p =
    subst (λ l. Stops refuses (build_term o inputs (join_left Both (Bit true) l) s) f v) (sym (row_split row k h))
    (place_stops_at refuses o inputs (given_terms 0 (take k row)) (given_terms (k + 1) (drop (k + 1) row)) (get_or row k None) s t v k a f g p)

-- one more row
pub rows_more : (o : Ops) (inputs : List ℕ) (rows : List (List (Option Bool))) (s t u v : Seen) (i a b r : ℕ) → i < length rows → AreValid o s inputs →
    Evaluates o s t a (build_term o inputs (rows_term (take i rows)) s) (λ bits. term_value (bits_at o s inputs bits) (rows_term (take i rows))) →
    Evaluates o t u b (build_term o inputs (row_term (get_or rows i [])) t) (λ bits. term_value (bits_at o t inputs bits) (row_term (get_or rows i []))) →
    Evaluates o u v r (build_operator o Or a b u) (λ bits. o.bit u bits a || o.bit u bits b) →
    Evaluates o s v r (build_term o inputs (rows_term (take (i + 1) rows)) s) (λ bits. term_value (bits_at o s inputs bits) (rows_term (take (i + 1) rows)))
rows_more o inputs rows s t u v i a b r h valid g p q =
    let more : rows_term (take (i + 1) rows) ≡ Either (rows_term (take i rows)) (row_term (get_or rows i [])) =
    ap (λ l. join_left Either (Bit false) (map row_term l)) (take_more rows i [] h)
    ∙ (ap (λ l. join_left Either (Bit false) l) (map-append row_term (take i rows) (get_or rows i [] ∷ []))
    ∙ join_left-more Either (Bit false) (map row_term (take i rows)) (row_term (get_or rows i []))) in
    subst (λ y. Evaluates o s v r (build_term o inputs y s) (λ bits. term_value (bits_at o s inputs bits) y)) (sym more)
    (next_operand o inputs Or (rows_term (take i rows)) (row_term (get_or rows i [])) s t u v a b r valid g p q)

-- a row stops, or the or after it
pub rows_stop : {F : Type 0} (refuses : Seen → ℕ → ℕ → F → Type 0) (o : Ops) (inputs : List ℕ) (rows : List (List (Option Bool)))
    (s t v : Seen) (i a : ℕ) (f : F) → i < length rows → Builds (build_term o inputs (rows_term (take i rows)) s) t a →
    Stops refuses (chain (build_term o inputs (row_term (get_or rows i [])) t) (λ b u. build_operator o Or a b u)) f v →
    Stops refuses (build_term o inputs (rows_term rows) s) f v
rows_stop refuses o inputs rows s t v i a f h g p =
    let split : rows_term rows ≡ join_left Either (rows_term (take i rows)) (row_term (get_or rows i []) ∷ map row_term (drop (i + 1) rows)) =
    ap (λ l. join_left Either (Bit false) (map row_term l)) (cut_at rows i [] h)
    ∙ (ap (λ l. join_left Either (Bit false) l) (map-append row_term (take i rows) (get_or rows i [] ∷ drop (i + 1) rows))
    ∙ join_left-append Either (Bit false) (map row_term (take i rows)) (row_term (get_or rows i []) ∷ map row_term (drop (i + 1) rows))) in
    subst (λ y. Stops refuses (build_term o inputs y s) f v) (sym split)
    (after_stops refuses o inputs Or (rows_term (take i rows)) (row_term (get_or rows i [])) (map row_term (drop (i + 1) rows)) s t v a f g p)

-- the value of a cover's term is the cover's
and_assoc : (a b c : Bool) → ((a && b) && c) ≡ (a && (b && c))
and_assoc true b c = refl
and_assoc false b c = refl

row_value : (bits : List Bool) (k : ℕ) (t : Term) (places : List (Option Bool)) → k + length places ≤ length bits →
    term_value bits (join_left Both t (given_terms k places)) ≡ (term_value bits t && row_matches places (drop k bits))
row_value bits k t [] h = sym (and-true (term_value bits t))
row_value bits k t (None ∷ places) h =
    let cut : drop k bits ≡ slice_index_or bits k false ∷ drop (suc k) bits = drop-cons bits k false (omega arith) in
    let n : k + 1 ≡ suc k = omega arith in
    row_value bits (k + 1) t places (omega arith)
    ∙ (ap (λ i. term_value bits t && row_matches places (drop i bits)) n
    ∙ sym (ap (λ l. term_value bits t && row_matches (None ∷ places) l) cut))
row_value bits k t (Some true ∷ places) h =
    let cut : drop k bits ≡ slice_index_or bits k false ∷ drop (suc k) bits = drop-cons bits k false (omega arith) in
    let n : k + 1 ≡ suc k = omega arith in
    row_value bits (k + 1) (Both t (Input k)) places (omega arith)
    ∙ (ap (λ i. (term_value bits t && slice_index_or bits k false) && row_matches places (drop i bits)) n
    ∙ (and_assoc (term_value bits t) (slice_index_or bits k false) (row_matches places (drop (suc k) bits))
    ∙ sym (ap (λ l. term_value bits t && row_matches (Some true ∷ places) l) cut)))
row_value bits k t (Some false ∷ places) h =
    let cut : drop k bits ≡ slice_index_or bits k false ∷ drop (suc k) bits = drop-cons bits k false (omega arith) in
    let n : k + 1 ≡ suc k = omega arith in
    row_value bits (k + 1) (Both t (Inverse (Input k))) places (omega arith)
    ∙ (ap (λ i. (term_value bits t && not (slice_index_or bits k false)) && row_matches places (drop i bits)) n
    ∙ (and_assoc (term_value bits t) (not (slice_index_or bits k false)) (row_matches places (drop (suc k) bits))
    ∙ sym (ap (λ l. term_value bits t && row_matches (Some false ∷ places) l) cut)))

rows_value : (bits : List Bool) (t : Term) (rows : List (List (Option Bool))) → AllByRecursion (λ row. length row ≡ length bits) rows →
    term_value bits (join_left Either t (map row_term rows)) ≡ (term_value bits t || list_any (λ row. row_matches row bits) rows)
rows_value bits t [] h = sym (or-false (term_value bits t))
rows_value bits t (row ∷ rows) h =
    let long = h.0 in
    rows_value bits (Either t (row_term row)) rows h.1
    ∙ (ap (λ b. (term_value bits t || b) || list_any (λ r. row_matches r bits) rows) (row_value bits 0 (Bit true) row (omega arith))
    ∙ or_assoc (term_value bits t) (row_matches row bits) (list_any (λ r. row_matches r bits) rows))

on_value : (bits : List Bool) (t : Term) (any on : Bool) → term_value bits t ≡ any →
    term_value bits (if on then t else Inverse t) ≡ (if any then on else not on)
on_value bits t true true e = e
on_value bits t false true e = e
on_value bits t true false e = ap not e
on_value bits t false false e = ap not e

pub cover_value_is : (bits : List Bool) (cover : CoverData) → CoverFits (length bits) cover → term_value bits (cover_term cover) ≡ cover_value cover bits
cover_value_is bits cover h =
    on_value bits (rows_term cover.rows) (list_any (λ row. row_matches row bits) cover.rows) cover.on (rows_value bits (Bit false) cover.rows h)

-- the rows, and the inverse at the end
on_built : (o : Ops) (inputs : List ℕ) (x : Term) (s t u : Seen) (a r : ℕ) (on : Bool) →
    Evaluates o s t a (build_term o inputs x s) (λ bits. term_value (bits_at o s inputs bits) x) →
    Evaluates o t u r (build_on o on a t) (λ bits. on_bit on (o.bit t bits a)) →
    Evaluates o s u r (build_term o inputs (if on then x else Inverse x) s) (λ bits. term_value (bits_at o s inputs bits) (if on then x else Inverse x))
on_built o inputs x s t u a r true p q = record {
  builds = record { answered = p.builds.answered ∙ q.builds.answered; left = p.builds.left ∙ q.builds.left };
  stands = record {
    keeps = keeps_then o s t u p.stands.keeps q.stands.keeps;
    valid = q.stands.valid;
    bit = λ bits. q.stands.bit bits ∙ p.stands.bit bits;
  };
}
on_built o inputs x s t u a r false p q =
    evaluates_then o s t u a r (build_term o inputs x s) (λ c d. build_not o c d) _ _ _ p q (λ bits. ap not (p.stands.bit bits))

pub cover_built : {X : Type 0} (number : X → ℕ) (o : Ops) (inputs : List X) (cover : CoverData) (s t u : Seen) (a r : ℕ) → CoverFits (length inputs) cover →
    Evaluates o s t a (build_term o (map number inputs) (rows_term cover.rows) s) (λ bits. term_value (bits_at o s (map number inputs) bits) (rows_term cover.rows)) →
    Evaluates o t u r (build_on o cover.on a t) (λ bits. on_bit cover.on (o.bit t bits a)) →
    Evaluates o s u r (build_term o (map number inputs) (cover_term cover) s) (λ bits. cover_value cover (bits_at o s (map number inputs) bits))
cover_built number o inputs cover s t u a r fits p q =
    evaluates_as o s u r (build_term o (map number inputs) (cover_term cover) s) _ _ (on_built o (map number inputs) (rows_term cover.rows) s t u a r cover.on p q)
    (λ bits.
    let long : length inputs ≡ length (bits_at o s (map number inputs) bits) =
    sym (length-map (map number inputs) (λ b. o.bit s bits b) ∙ length-map inputs number) in
    cover_value_is (bits_at o s (map number inputs) bits) cover (subst (λ n. CoverFits n cover) long fits))

pub cover_stops : {F : Type 0} (refuses : Seen → ℕ → ℕ → F → Type 0) (o : Ops) (inputs : List ℕ) (x : Term) (s v : Seen) (f : F) (on : Bool) →
    Stops refuses (build_term o inputs x s) f v → Stops refuses (build_term o inputs (if on then x else Inverse x) s) f v
cover_stops refuses o inputs x s v f true h = h
cover_stops refuses o inputs x s v f false h = stops_first refuses (build_term o inputs x s) (λ a t. build_not o a t) f v h
