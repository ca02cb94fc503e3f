-- Masks of nets, and the nets whose masks are not 0.
use Rattle.std.proofs.Common.{◌≡◌, ℕ, zero, suc, ◌<◌, Bool, true, false, not, ◌||◌, ◌&&◌, if◌then◌else◌, List, [], ◌∷◌, ◌++◌, length, nat_eq, slice_get}
use Rattle.std.proofs.Common.{◌+◌, set, take, refl, sym, ◌∙◌, ap, arith, inl, inr, Some}
use Rattle.std.specs.Prelude.{◌==◌, ◌≢◌}
use Rattle.std.specs.Int.Bits.{bit_or}
use Rattle.std.proofs.lemmas.Bool.{both_ways, ne_eqb}
use Rattle.std.proofs.lemmas.Bool.Decides.{eqb_tells}
use Rattle.std.proofs.lemmas.List.{length-set}
use Rattle.std.proofs.lemmas.Nat.{le_or_r}
use Rattle.cg_net.specs.NetSets.{is_in}
use Rattle.cg_net.proofs.TableLemmas.{take_next}
use Rattle.cg_net.proofs.Members.{in_alone, is_in-append, is_in_right}
use Rattle.cg_hold_widths.specs.inner.Masks.{AreTouched, has_bit, mask_at}
use Rattle.cg_hold_widths.proofs.Bits.{either_bit}

-- a mask that was set
pub set_same : (masks : List ℕ) (i n : ℕ) → i < length masks → mask_at (set masks i n) i ≡ n
set_same [] i n within = absurd (omega (arith, within))
set_same (x ∷ masks) zero n within = refl
set_same (x ∷ masks) (suc i) n within = set_same masks i n (omega (arith, within))

pub set_other : (masks : List ℕ) (i j n : ℕ) → j ≢ i → mask_at (set masks i n) j ≡ mask_at masks j
set_other [] i j n other = refl
set_other (x ∷ masks) zero zero n other = absurd (other refl)
set_other (x ∷ masks) zero (suc j) n other = refl
set_other (x ∷ masks) (suc i) zero n other = refl
set_other (x ∷ masks) (suc i) (suc j) n other = set_other masks i j n (λ is. other (ap suc is))

-- a mask that is not 0 is one of those
pub mask_within : (masks : List ℕ) (y : ℕ) → not (nat_eq (mask_at masks y) 0) ≡ true → y < length masks
mask_within [] y some = absurd (both_ways false refl some)
mask_within (x ∷ masks) zero some = omega arith
mask_within (x ∷ masks) (suc y) some = let low = mask_within masks y some in omega (arith, low)

-- masks are longer by one that is 0
pub mask_more : (masks : List ℕ) (y : ℕ) → mask_at (masks ++ 0 ∷ []) y ≡ mask_at masks y
mask_more [] zero = refl
mask_more [] (suc y) = refl
mask_more (x ∷ masks) zero = refl
mask_more (x ∷ masks) (suc y) = mask_more masks y

not_zero : (n : ℕ) → 0 < n → not (nat_eq n 0) ≡ true
not_zero n some = ap not (ne_eqb n 0 (λ is. let no : ⊥ = omega (arith, is, some) in no))

or_self : (b : Bool) → (b || (false || false)) ≡ b
or_self true = refl
or_self false = refl

-- a net got bits
module _ (old masks touched more : List ℕ) (net bits : ℕ) (are : AreTouched old touched) (same : (y : ℕ) → mask_at masks y ≡ mask_at old y) (within : net < length masks) (some : 0 < bits)
    (noted : more ≡ (if mask_at masks net == 0 then touched ++ net ∷ [] else touched)) where
  abbrev next : List ℕ
  next = set masks net (bit_or (mask_at masks net) bits)

  pub added : (y : ℕ) → mask_at next y ≡ (if nat_eq y net then bit_or (mask_at old y) bits else mask_at old y)
  added y = elim (eqb_tells y net) [
    | inl e ↦
        ap (mask_at next) e.1 ∙ (set_same masks net (bit_or (mask_at masks net) bits) within
        ∙ (ap (λ n. bit_or n bits) (same net ∙ ap (mask_at old) (sym e.1)) ∙ sym (ap (λ b. if b then bit_or (mask_at old y) bits else mask_at old y) e.0)))
    | inr e ↦ set_other masks net y (bit_or (mask_at masks net) bits) e.1 ∙ (same y ∙ sym (ap (λ b. if b then bit_or (mask_at old y) bits else mask_at old y) e.0))
  ]

  in_more : (b : Bool) → (mask_at masks net == 0) ≡ b → (y : ℕ) → y ≢ net → is_in more y ≡ is_in touched y
  in_more true is y other = ap (λ l. is_in l y) (noted ∙ ap (λ b. if b then touched ++ net ∷ [] else touched) is) ∙ (is_in-append touched (net ∷ []) y ∙ (ap (λ b. is_in touched y || (b || false)) (ne_eqb y net other) ∙ or_self (is_in touched y)))
  in_more false is y other = ap (λ l. is_in l y) (noted ∙ ap (λ b. if b then touched ++ net ∷ [] else touched) is)

  here_more : (b : Bool) → (mask_at masks net == 0) ≡ b → is_in more net ≡ true
  here_more true is = ap (λ l. is_in l net) (noted ∙ ap (λ b. if b then touched ++ net ∷ [] else touched) is) ∙ is_in_right touched (net ∷ []) net (in_alone net)
  here_more false is =
      ap (λ l. is_in l net) (noted ∙ ap (λ b. if b then touched ++ net ∷ [] else touched) is)
      ∙ (are net ∙ (ap (λ n. not (nat_eq n 0)) (sym (same net)) ∙ ap not is))

  pub added_touched : AreTouched next more
  added_touched y = elim (eqb_tells y net) [
    | inl e ↦
        ap (is_in more) e.1 ∙ (here_more (mask_at masks net == 0) refl
        ∙ sym (ap (λ z. not (nat_eq (mask_at next z) 0)) e.1 ∙ (ap (λ n. not (nat_eq n 0)) (set_same masks net (bit_or (mask_at masks net) bits) within)
        ∙ not_zero (bit_or (mask_at masks net) bits) (let more_bits = le_or_r (mask_at masks net) bits in omega (arith, more_bits, some)))))
    | inr e ↦
        in_more (mask_at masks net == 0) refl y e.1
        ∙ (are y ∙ ap (λ n. not (nat_eq n 0)) (sym (set_other masks net y (bit_or (mask_at masks net) bits) e.1 ∙ same y)))
  ]

-- nothing was added
pub added_none : (old : List ℕ) (net bits : ℕ) → bits ≡ 0 → (y : ℕ) → mask_at old y ≡ (if nat_eq y net then bit_or (mask_at old y) bits else mask_at old y)
added_none old net bits none y = go (nat_eq y net)
  where
    go : (b : Bool) → mask_at old y ≡ (if b then bit_or (mask_at old y) bits else mask_at old y)
    go true = sym (ap (bit_or (mask_at old y)) none ∙ Rattle.std.specs.Int.Bits.or_zero_r (mask_at old y))
    go false = refl

-- the masks that are not 0 are those of nets that are left, and each of the nets has a mask
pub record ClearedLeft (nets masks left : List ℕ) : Type 0 where
  pub within : (y : ℕ) → is_in nets y ≡ true → y < length masks
  pub only : (y : ℕ) → is_in left y ≡ false → mask_at masks y ≡ 0

pub cleared_first : (masks nets : List ℕ) → AreTouched masks nets → ClearedLeft nets masks nets
cleared_first masks nets are = record {
  within = λ y among. mask_within masks y (sym (are y) ∙ among);
  only = λ y apart. is_zero (mask_at masks y) (sym (are y) ∙ apart);
}
  where
    is_zero : (n : ℕ) → not (nat_eq n 0) ≡ false → n ≡ 0
    is_zero zero h = refl
    is_zero (suc n) h = absurd (both_ways (not (nat_eq (suc n) 0)) h (not_zero (suc n) (omega arith)))

pub cleared_less : (nets masks : List ℕ) (net : ℕ) (left : List ℕ) → is_in nets net ≡ true → ClearedLeft nets masks (net ∷ left) → ClearedLeft nets (set masks net 0) left
cleared_less nets masks net left among m = record {
  within = λ y inside. let w = m.within y inside in omega (arith, w, length-set masks net 0);
  only = λ y apart. elim (eqb_tells y net) [
    | inl e ↦ ap (mask_at (set masks net 0)) e.1 ∙ set_same masks net 0 (m.within net among)
    | inr e ↦ set_other masks net y 0 e.1 ∙ m.only y (ap (λ b. b || is_in left y) e.0 ∙ apart)
  ];
}

pub cleared_all : (nets masks left : List ℕ) → left ≡ [] → ClearedLeft nets masks left → (y : ℕ) → mask_at masks y ≡ 0
cleared_all nets masks left none m y = m.only y (ap (λ l. is_in l y) none)

-- without nets all masks are 0
pub none_touched : (masks : List ℕ) → ((y : ℕ) → mask_at masks y ≡ 0) → AreTouched masks []
none_touched masks zeros y = sym (ap (λ n. not (nat_eq n 0)) (zeros y))

-- one more net got bits
pub bits_more : (i y net bits old new : ℕ) → new ≡ (if nat_eq y net then bit_or old bits else old) → has_bit i new ≡ (has_bit i old || (nat_eq y net && has_bit i bits))
bits_more i y net bits old new is = ap (has_bit i) is ∙ go (nat_eq y net)
  where
    go : (b : Bool) → has_bit i (if b then bit_or old bits else old) ≡ (has_bit i old || (b && has_bit i bits))
    go true = either_bit old bits i
    go false = sym (or_false (has_bit i old))
      where
        or_false : (c : Bool) → (c || false) ≡ c
        or_false true = refl
        or_false false = refl

all_more : (o t e b : Bool) → ((o || (t && b)) || (e && b)) ≡ (o || ((t || (e || false)) && b))
all_more true t e b = refl
all_more false true true true = refl
all_more false true true false = refl
all_more false true false true = refl
all_more false true false false = refl
all_more false false true b = and_end b
  where
    and_end : (c : Bool) → c ≡ c
    and_end c = refl
all_more false false false b = refl

-- one more of some nets got bits
pub nets_more : (i y bits old mid new net place : ℕ) (nets : List ℕ) → slice_get nets place ≡ Some net → new ≡ (if nat_eq y net then bit_or mid bits else mid)
    → has_bit i mid ≡ (has_bit i old || (is_in (take place nets) y && has_bit i bits)) → has_bit i new ≡ (has_bit i old || (is_in (take (place + 1) nets) y && has_bit i bits))
nets_more i y bits old mid new net place nets at is before =
    bits_more i y net bits mid new is
    ∙ (ap (λ b. b || (nat_eq y net && has_bit i bits)) before
    ∙ (all_more (has_bit i old) (is_in (take place nets) y) (nat_eq y net) (has_bit i bits)
    ∙ ap (λ b. has_bit i old || (b && has_bit i bits)) (sym (ap (λ l. is_in l y) (take_next nets place net at) ∙ is_in-append (take place nets) (net ∷ []) y))))
