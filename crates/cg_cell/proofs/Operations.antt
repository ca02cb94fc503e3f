-- What `or`, `xor` and `mux` stand for, from what the operations in them do.
use Rattle.std.proofs.Common.{◌≡◌, ℕ, Bool, List, true, false, refl, IsTrue, not, ◌&&◌, ◌||◌}
use Rattle.std.specs.Prelude.{OnErr, Result, Ok, Err, if◌then◌else◌}
use Rattle.cg_cell.specs.Domain.{Ops, Seen}
use Rattle.cg_cell.specs.Gates.{exclusive_or}
use Rattle.cg_cell.specs.Build.{Evaluates, build_and, build_not, build_or, build_xor, build_mux, chain}
use Rattle.cg_cell.proofs.Building.{evaluates_then, keeps_then}

pub on_err : {T E : Type 0} (P : Type 0) (r : Result T E) → P → OnErr r P
on_err P (Ok x) h = tt
on_err P (Err e) h = h

pub or_bits : (a b : Bool) → not (not a && not b) ≡ (a || b)
or_bits true b = refl
or_bits false true = refl
or_bits false false = refl

pub xor_bits : (a b : Bool) → ((a && not b) || (not a && b)) ≡ exclusive_or a b
xor_bits true true = refl
xor_bits true false = refl
xor_bits false b = refl

pub mux_bits : (c a b : Bool) → ((c && a) || (not c && b)) ≡ (if c then a else b)
mux_bits true true b = refl
mux_bits true false b = refl
mux_bits false a b = refl

-- the four operations of `or`
pub or_made : (o : Ops) (s t u v w : Seen) (a b na nb n r : ℕ) →
    IsTrue (o.is_valid s a) → IsTrue (o.is_valid s b) →
    Evaluates o s t na (build_not o a s) (λ bits. not (o.bit s bits a)) →
    Evaluates o t u nb (build_not o b t) (λ bits. not (o.bit t bits b)) →
    Evaluates o u v n (build_and o na nb u) (λ bits. o.bit u bits na && o.bit u bits nb) →
    Evaluates o v w r (build_not o n v) (λ bits. not (o.bit v bits n)) →
    Evaluates o s w r (build_or o a b s) (λ bits. o.bit s bits a || o.bit s bits b)
or_made o s t u v w a b na nb n r ha hb p q x y =
    evaluates_then o s t w na r (build_not o a s)
    (λ i d. chain (build_not o b d) (λ j e. chain (build_and o i j e) (build_not o)))
    _ _ (λ bits. o.bit s bits a || o.bit s bits b) p
    (evaluates_then o t u w nb r (build_not o b t) (λ j e. chain (build_and o na j e) (build_not o))
    _ _ (λ bits. o.bit s bits a || o.bit s bits b) q
    (evaluates_then o u v w n r (build_and o na nb u) (build_not o)
    _ _ (λ bits. o.bit s bits a || o.bit s bits b) x y
    (λ bits.
    let e1 : o.bit v bits n ≡ (o.bit u bits na && o.bit u bits nb) = x.stands.bit bits in
    let e2 : o.bit u bits na ≡ o.bit t bits na = q.stands.keeps.bits na bits p.stands.valid in
    let e3 : o.bit t bits na ≡ not (o.bit s bits a) = p.stands.bit bits in
    let e4 : o.bit u bits nb ≡ not (o.bit t bits b) = q.stands.bit bits in
    let e5 : o.bit t bits b ≡ o.bit s bits b = p.stands.keeps.bits b bits hb in
    let e6 = or_bits (o.bit s bits a) (o.bit s bits b) in cc))
    (λ bits. refl))
    (λ bits. refl)

-- the operations of `xor` before its `or`, and that `or`
pub xor_made : (o : Ops) (s t u v w x : Seen) (a b nb left na right r : ℕ) →
    IsTrue (o.is_valid s a) → IsTrue (o.is_valid s b) →
    Evaluates o s t nb (build_not o b s) (λ bits. not (o.bit s bits b)) →
    Evaluates o t u left (build_and o a nb t) (λ bits. o.bit t bits a && o.bit t bits nb) →
    Evaluates o u v na (build_not o a u) (λ bits. not (o.bit u bits a)) →
    Evaluates o v w right (build_and o na b v) (λ bits. o.bit v bits na && o.bit v bits b) →
    Evaluates o w x r (build_or o left right w) (λ bits. o.bit w bits left || o.bit w bits right) →
    Evaluates o s x r (build_xor o a b s) (λ bits. exclusive_or (o.bit s bits a) (o.bit s bits b))
xor_made o s t u v w x a b nb left na right r ha hb p q k l m =
    let wanted : List Bool → Bool = λ bits. exclusive_or (o.bit s bits a) (o.bit s bits b) in
    let ha' = p.stands.keeps.valid a ha in
    let su = keeps_then o s t u p.stands.keeps q.stands.keeps in
    let sv = keeps_then o s u v su k.stands.keeps in
    evaluates_then o s t x nb r (build_not o b s)
    (λ i d. chain (build_and o a i d) (λ j e. chain (build_not o a e) (λ i2 f. chain (build_and o i2 b f) (λ j2 g. build_or o j j2 g))))
    _ _ wanted p
    (evaluates_then o t u x left r (build_and o a nb t) (λ j e. chain (build_not o a e) (λ i2 f. chain (build_and o i2 b f) (λ j2 g. build_or o j j2 g)))
    _ _ wanted q
    (evaluates_then o u v x na r (build_not o a u) (λ i2 f. chain (build_and o i2 b f) (λ j2 g. build_or o left j2 g))
    _ _ wanted k
    (evaluates_then o v w x right r (build_and o na b v) (λ j2 g. build_or o left j2 g)
    _ _ wanted l m
    (λ bits.
    let e1 : o.bit w bits left ≡ o.bit v bits left = l.stands.keeps.bits left bits (k.stands.keeps.valid left q.stands.valid) in
    let e2 : o.bit v bits left ≡ o.bit u bits left = k.stands.keeps.bits left bits q.stands.valid in
    let e3 : o.bit u bits left ≡ (o.bit t bits a && o.bit t bits nb) = q.stands.bit bits in
    let e4 : o.bit t bits a ≡ o.bit s bits a = p.stands.keeps.bits a bits ha in
    let e5 : o.bit t bits nb ≡ not (o.bit s bits b) = p.stands.bit bits in
    let e6 : o.bit w bits right ≡ (o.bit v bits na && o.bit v bits b) = l.stands.bit bits in
    let e7 : o.bit v bits na ≡ not (o.bit u bits a) = k.stands.bit bits in
    let e8 : o.bit u bits a ≡ o.bit s bits a = su.bits a bits ha in
    let e9 : o.bit v bits b ≡ o.bit s bits b = sv.bits b bits hb in
    let e10 = xor_bits (o.bit s bits a) (o.bit s bits b) in cc))
    (λ bits. refl))
    (λ bits. refl))
    (λ bits. refl)

-- the operations of `mux` before its `or`, and that `or`
pub mux_made : (o : Ops) (s t u v w : Seen) (c a b left nc right r : ℕ) →
    IsTrue (o.is_valid s c) → IsTrue (o.is_valid s a) → IsTrue (o.is_valid s b) →
    Evaluates o s t left (build_and o c a s) (λ bits. o.bit s bits c && o.bit s bits a) →
    Evaluates o t u nc (build_not o c t) (λ bits. not (o.bit t bits c)) →
    Evaluates o u v right (build_and o nc b u) (λ bits. o.bit u bits nc && o.bit u bits b) →
    Evaluates o v w r (build_or o left right v) (λ bits. o.bit v bits left || o.bit v bits right) →
    Evaluates o s w r (build_mux o c a b s) (λ bits. if o.bit s bits c then o.bit s bits a else o.bit s bits b)
mux_made o s t u v w c a b left nc right r hc ha hb p q k l =
    let wanted : List Bool → Bool = λ bits. if o.bit s bits c then o.bit s bits a else o.bit s bits b in
    let su = keeps_then o s t u p.stands.keeps q.stands.keeps in
    evaluates_then o s t w left r (build_and o c a s)
    (λ i d. chain (build_not o c d) (λ j e. chain (build_and o j b e) (λ j2 f. build_or o i j2 f)))
    _ _ wanted p
    (evaluates_then o t u w nc r (build_not o c t) (λ j e. chain (build_and o j b e) (λ j2 f. build_or o left j2 f))
    _ _ wanted q
    (evaluates_then o u v w right r (build_and o nc b u) (λ j2 f. build_or o left j2 f)
    _ _ wanted k l
    (λ bits.
    let e1 : o.bit v bits left ≡ o.bit u bits left = k.stands.keeps.bits left bits (q.stands.keeps.valid left p.stands.valid) in
    let e2 : o.bit u bits left ≡ o.bit t bits left = q.stands.keeps.bits left bits p.stands.valid in
    let e3 : o.bit t bits left ≡ (o.bit s bits c && o.bit s bits a) = p.stands.bit bits in
    let e4 : o.bit v bits right ≡ (o.bit u bits nc && o.bit u bits b) = k.stands.bit bits in
    let e5 : o.bit u bits nc ≡ not (o.bit t bits c) = q.stands.bit bits in
    let e6 : o.bit t bits c ≡ o.bit s bits c = p.stands.keeps.bits c bits hc in
    let e7 : o.bit u bits b ≡ o.bit s bits b = su.bits b bits hb in
    let e8 = mux_bits (o.bit s bits c) (o.bit s bits a) (o.bit s bits b) in cc))
    (λ bits. refl))
    (λ bits. refl)
