-- The values of ids, before a step and in it.
use Rattle.std.proofs.Common.{◌≡◌, ℕ, ◌<◌, ◌==◌, Bool, true, false, List, [], ◌∷◌, ◌++◌, length, get_or, nat_eq, slice_get, zero, suc, replicate, Option, Some, None}
use Rattle.std.proofs.Common.{refl, sym, ap, ◌∙◌, arith, inl, inr, if◌then◌else◌}
use Rattle.std.proofs.Math.ListN.{length-set, set}
use Rattle.std.proofs.Math.Path.{fun_ext}
use Rattle.std.proofs.lemmas.Bool.{both_ways, cases_Bool, ne_eqb}
use Rattle.std.proofs.lemmas.List.{get_or-set_other, get_or-set_same, get_or_default}
use Rattle.std.proofs.lemmas.Option.{same_Some, slice_get-get_or}
use Rattle.cg_net.specs.NetSets.{is_in, with_net}
use Rattle.std.specs.List.{All}
use Rattle.cg_net.proofs.FoundNets.{kept_one, one_more, put_one}
use Rattle.cg_net.proofs.Members.{All-from_members, All-member}
use Rattle.cg_net.proofs.TableLemmas.{same_or_not, slice_get-set_other, slice_get-set_same}
use Rattle.cg_vcd.specs.declared.values.Values.{Values}
use Rattle.cg_vcd.specs.inner.StepValues.{AreValues, Marked, SameBut, without_value}
use Rattle.cg_vcd.specs.inner.Values.{kept, with_value}
use Rattle.cg_vcd.proofs.RowsRead.{mark_more}

-- nothing has a value at first

none_at : (n id : ℕ) → get_or (replicate {A = Option Bool} n None) id None ≡ None
none_at zero id = refl
none_at (suc n) zero = refl
none_at (suc n) (suc id) = none_at n id

pub none_kept : (n : ℕ) (values : List (Option Bool)) → values ≡ replicate n None → kept values ≡ without_value
none_kept n values e = ap kept e ∙ fun_ext (λ id. none_at n id)

no_mark_at : (n id : ℕ) → id < n → slice_get (replicate {A = Bool} n false) id ≡ Some false
no_mark_at zero id small = absurd (omega arith)
no_mark_at (suc n) zero small = refl
no_mark_at (suc n) (suc id) small = no_mark_at n id (omega arith)

-- an id is given a value

test_of : (i n : ℕ) (bit value : Option Bool) → (i ≡ n) → (if i == n then bit else value) ≡ bit
test_of i n bit value e = let t : (i == n) ≡ true = grind arith in rw t refl

kept_given : (values : List (Option Bool)) (id : ℕ) (bit : Option Bool) (n : ℕ) → id < length values → kept (set values id bit) n ≡ with_value (kept values) id bit n
kept_given values id bit n inside = elim (same_or_not n id) [
  | inl e ↦ ap (kept (set values id bit)) e ∙ (get_or-set_same values id bit None inside ∙ sym (test_of id n bit (kept values n) (sym e)))
  | inr other ↦ let t : (id == n) ≡ false = ne_eqb id n (λ e. other (sym e)) in get_or-set_other values id n bit None other ∙ rw t refl
]

pub value_given : (values : List (Option Bool)) (id : ℕ) (bit : Option Bool) → id < length values → kept (set values id bit) ≡ with_value (kept values) id bit
value_given values id bit inside = fun_ext (λ n. kept_given values id bit n inside)

-- an id is noted

not_more : (ids : List ℕ) (id n : ℕ) → is_in (with_net ids id) n ≡ false → is_in ids n ≡ false
not_more ids id n out = elim (cases_Bool (is_in ids n)) [
  | inl among ↦ absurd (both_ways (is_in (with_net ids id) n) out (kept_one ids id n among))
  | inr apart ↦ apart
]

pub others_given : (ids : List ℕ) (before latest : List (Option Bool)) (id : ℕ) (bit : Option Bool) → SameBut ids (kept before) (kept latest)
    → SameBut (with_net ids id) (kept before) (kept (set latest id bit))
others_given ids before latest id bit others n out =
    let differ : (n ≡ id → ⊥) = λ e. both_ways (is_in (with_net ids id) n) out (ap (is_in (with_net ids id)) e ∙ put_one ids id) in
    get_or-set_other latest id n bit None differ ∙ others n (not_more ids id n out)

pub given_within : (ids : List ℕ) (id n : ℕ) → All (λ x. x < n) ids → id < n → All (λ x. x < n) (with_net ids id)
given_within ids id n all inside = All-from_members (λ x. x < n) (with_net ids id) (λ x among. elim (one_more ids id x among) [
  | inl before ↦ All-member (λ y. y < n) ids x all before
  | inr e ↦ omega (arith, e, inside)
])

pub noted_before : (ids : List ℕ) (id : ℕ) → is_in ids id ≡ true → ids ≡ with_net ids id
noted_before ids id among = rw among refl

pub marked_more : (marks : List Bool) (ids : List ℕ) (id : ℕ) → id < length marks → is_in ids id ≡ false → Marked marks ids → Marked (set marks id true) (ids ++ id ∷ [])
marked_more marks ids id inside apart marked n small = mark_more marks ids (length marks) id refl inside marked n (omega (arith, small, length-set marks id true))

pub unmarked_out : (marks : List Bool) (ids : List ℕ) (id : ℕ) → id < length marks → Marked marks ids → get_or marks id false ≡ false → is_in ids id ≡ false
unmarked_out marks ids id inside marked e = sym (same_Some (get_or marks id false) (is_in ids id) (sym (slice_get-get_or marks id false inside) ∙ marked id inside)) ∙ e

-- a value that is read
pub value_read : (values : List (Option Bool)) (id : ℕ) (value : Option Bool) → id < length values → value ≡ get_or values id value → kept values id ≡ value
value_read values id value inside e = get_or_default values id None value inside ∙ sym e

-- the end of a step

abbrev pub Unmarked : List ℕ → List Bool → Type 0
Unmarked ids marks = (id : ℕ) → id < length marks → is_in ids id ≡ false → slice_get marks id ≡ Some false

out_of : (c : ℕ) (rest : List ℕ) (n : ℕ) → (n ≡ c → ⊥) → is_in rest n ≡ false → is_in (c ∷ rest) n ≡ false
out_of c rest n differ out = let t : nat_eq n c ≡ false = ne_eqb n c differ in rw (t, out) refl

pub same_next : (before latest : List (Option Bool)) (c : ℕ) (rest : List ℕ) → c < length before → SameBut (c ∷ rest) (kept before) (kept latest)
    → SameBut rest (kept (set before c (kept latest c))) (kept latest)
same_next before latest c rest inside others n out = elim (same_or_not n c) [
  | inl e ↦ ap (kept latest) e ∙ (sym (get_or-set_same before c (kept latest c) None inside) ∙ ap (kept (set before c (kept latest c))) (sym e))
  | inr differ ↦ others n (out_of c rest n differ out) ∙ sym (get_or-set_other before c n (kept latest c) None differ)
]

pub unmarked_next : (marks : List Bool) (c : ℕ) (rest : List ℕ) → c < length marks → Unmarked (c ∷ rest) marks → Unmarked rest (set marks c false)
unmarked_next marks c rest inside unmarked n small out = elim (same_or_not n c) [
  | inl e ↦ ap (slice_get (set marks c false)) e ∙ slice_get-set_same marks c false inside
  | inr differ ↦ slice_get-set_other marks c n false differ ∙ unmarked n (omega (arith, small, length-set marks c false)) (out_of c rest n differ out)
]

pub settled : (before latest : List (Option Bool)) → SameBut [] (kept before) (kept latest) → kept before ≡ kept latest
settled before latest others = fun_ext (λ n. sym (others n refl))

none_given : (n : ℕ) → All (λ id. id < n) []
none_given n i d inside = absurd (omega (arith, inside))

-- the values behind the end of a step
pub ended_values : (v : Values) (before latest : List (Option Bool)) (marks : List Bool) → v.before.items ≡ before → v.latest.items ≡ latest → v.given.items ≡ [] → v.marks.items ≡ marks
    → length latest ≡ length before → length marks ≡ length before → Marked marks [] → kept before ≡ kept latest → AreValues v
ended_values v before latest marks e f g h latest_long marks_long marked same = record {
  latest = ap length f ∙ (latest_long ∙ sym (ap length e));
  marks = ap length h ∙ (marks_long ∙ sym (ap length e));
  given = rw g (none_given (length v.before.items));
  marked = rw (g, h) marked;
  others = λ id out. ap (λ xs. kept xs id) f ∙ (sym (ap (λ value. value id) same) ∙ sym (ap (λ xs. kept xs id) e));
}
