-- Logic cells and the joined enable, as they are built: their values stand for the bits of the machine's cycle.
use Rattle.std.proofs.Common.{◌≡◌, ℕ, zero, suc, Bool, true, false, not, ◌||◌, cond, if◌then◌else◌, List, [], ◌∷◌, ◌++◌, map}
use Rattle.std.proofs.Common.{length, IsTrue, nat_eq, slice_get, slice_index_or, Some, refl, sym, ◌∙◌, ap}
use Rattle.std.specs.List.{filter}
use Rattle.std.proofs.lemmas.Bool.{both_ways, eq-eqb, eqb-true, or_from}
use Rattle.cg_cell.specs.Domain.{AreValid, IsDomain, Keeps, Ops, Seen}
use Rattle.cg_cell.specs.Build.{Run, build_or, plain}
use Rattle.cg_cell.specs.Eval.{bits_at}
use Rattle.cg_cell.specs.Gates.{any_of}
use Rattle.cg_cell.specs.Term.{Term, Bit, Input, Inverse, Both, Either, Differ, has_input, term_value}
use Rattle.cg_cell.proofs.Building.{keeps_self, keeps_then}
use Rattle.cg_netlist.specs.Circuit.{LogicCell}
use Rattle.cg_net.specs.NetSets.{is_in}
use Rattle.cg_machine.specs.Claims.{Literal, literal_bit}
use Rattle.cg_netlist.specs.Nets.{IsOrdered, outputs}
use Rattle.cg_netlist_cone.proofs.Cones.{AreClosed}
use Rattle.cg_netlist.proofs.NetsOf.{other_eqb}
use Rattle.cg_netlist.proofs.RisingPlaces.{in_head, in_tail}
use Rattle.cg_claim.specs.Build.{Table, Values, cell_run, enable_run, function_term, join_run, lay, literal_of, put_run, table_with}
use Rattle.cg_cell.proofs.Runs.{Gives, Has, IsZero, gives_as, gives_or, gives_plain, gives_term, gives_then, has_later}

-- what a table holds at places that a test names stands for these bits, and all that it holds is valid
pub record Holds (o : Ops) (bits : List Bool) (test : ℕ → Bool) (value : ℕ → Bool) (s : Seen) (at : ℕ → ℕ) : Type 0 where
  pub valid : (x : ℕ) → IsTrue (o.is_valid s (at x))
  pub same : (x : ℕ) → test x ≡ true → o.bit s bits (at x) ≡ value x

-- from s a table was made that holds these bits
pub record Laid (o : Ops) (bits : List Bool) (test : ℕ → Bool) (value : ℕ → Bool) (s : Seen) (t : Table) : Type 0 where
  pub keeps : Keeps o s t.domain
  pub holds : Holds o bits test value t.domain t.at

-- what is asked of the values
pub record IsFit (d : Values) (bits : List Bool) : Type 0 where
  pub lawful : IsDomain d.ops
  pub zero : IsZero d.ops bits
  pub inverse : (s : Seen) (a : ℕ) (b : Bool) → Has d.ops bits s a b → Has d.ops bits s (d.inverse a) (not b)

-- a cell's output is its term's value
abbrev pub AreTerms : List (LogicCell ℕ) → (ℕ → Bool) → Type 0
AreTerms cells value = (k : ℕ) (cell : LogicCell ℕ) → slice_get cells k ≡ Some cell → value cell.output ≡ term_value (map value cell.inputs) (function_term cell.function)

pub holds_later : (o : Ops) (bits : List Bool) (test value : ℕ → Bool) (s t : Seen) (at : ℕ → ℕ) → Keeps o s t → Holds o bits test value s at → Holds o bits test value t at
holds_later o bits test value s t at k h = record { valid = λ x. k.valid (at x) (h.valid x); same = λ x passes. k.bits (at x) bits (h.valid x) ∙ h.same x passes }

module _ (d : Values) (bits : List Bool) (fit : IsFit d bits) where
  abbrev o : Ops
  o = d.ops

  pub sound_of : (s : Seen) (a : ℕ) → IsTrue (d.ops.is_valid s a) → IsTrue (d.ops.is_sound s)
  sound_of s a h = fit.lawful.sound s a h

  pub valid_map : (s : Seen) (at : ℕ → ℕ) (xs : List ℕ) → ((x : ℕ) → IsTrue (d.ops.is_valid s (at x))) → AreValid d.ops s (map at xs)
  valid_map s at [] valid = tt
  valid_map s at (x ∷ xs) valid = (valid x, valid_map s at xs valid)

  pub bits_map : (s : Seen) (at : ℕ → ℕ) (value : ℕ → Bool) (xs : List ℕ) → ((x : ℕ) → is_in xs x ≡ true → d.ops.bit s bits (at x) ≡ value x) → bits_at d.ops s (map at xs) bits ≡ map value xs
  bits_map s at value [] same = refl
  bits_map s at value (x ∷ xs) same =
      ap (λ b. b ∷ bits_at d.ops s (map at xs) bits) (same x (in_head x xs))
      ∙ ap (λ bs. value x ∷ bs) (bits_map s at value xs (λ y among. same y (in_tail y x xs among)))

  -- a table after one more run
  pub put_valid : (s : Seen) (t : Table) (x : ℕ) (r : Run) (b : Bool) → ((y : ℕ) → IsTrue (d.ops.is_valid t.domain (t.at y))) → Gives d.ops bits t.domain r b → (y : ℕ) → IsTrue (d.ops.is_valid r.domain (table_with t.at x r.answer y))
  put_valid s t x r b valid g y = go (nat_eq y x)
    where
      go : (c : Bool) → IsTrue (d.ops.is_valid r.domain (if c then r.answer else t.at y))
      go true = g.has.valid
      go false = g.keeps.valid (t.at y) (valid y)

  pub put_same : (t : Table) (x : ℕ) (r : Run) (value : ℕ → Bool) → ((y : ℕ) → IsTrue (d.ops.is_valid t.domain (t.at y))) → Gives d.ops bits t.domain r (value x)
      → (y : ℕ) → (nat_eq y x ≡ false → d.ops.bit t.domain bits (t.at y) ≡ value y) → d.ops.bit r.domain bits (table_with t.at x r.answer y) ≡ value y
  put_same t x r value valid g y other = go (nat_eq y x) refl
    where
      go : (c : Bool) → nat_eq y x ≡ c → d.ops.bit r.domain bits (if c then r.answer else t.at y) ≡ value y
      go true here = g.has.bit ∙ ap value (sym (eqb-true y x here))
      go false there = g.keeps.bits (t.at y) bits (valid y) ∙ other there

  pub lay_holds : (cells : List (LogicCell ℕ)) (test value : ℕ → Bool) (t : Table) → AreTerms cells value → IsOrdered cells → AreClosed cells test
      → ((x : ℕ) → IsTrue (d.ops.is_valid t.domain (t.at x)))
      → ((x : ℕ) → test x ≡ true → is_in (outputs cells) x ≡ false → d.ops.bit t.domain bits (t.at x) ≡ value x)
      → Laid d.ops bits test value t.domain (lay d (filter (λ cell. test cell.output) cells) t)
  lay_holds [] test value t terms ordered closed valid same = record { keeps = keeps_self d.ops t.domain; holds = record { valid = valid; same = λ x passes. same x passes refl } }
  lay_holds (cell ∷ cells) test value t terms ordered closed valid same =
      go (λ u ok right. lay_holds cells test value u (λ k. terms (suc k)) ordered.1 (λ k. closed (suc k)) ok right) (test cell.output) refl
    where
      go : ((u : Table) → ((x : ℕ) → IsTrue (d.ops.is_valid u.domain (u.at x))) → ((x : ℕ) → test x ≡ true → is_in (outputs cells) x ≡ false → d.ops.bit u.domain bits (u.at x) ≡ value x) → Laid d.ops bits test value u.domain (lay d (filter (λ cell. test cell.output) cells) u))
          → (b : Bool) → test cell.output ≡ b → Laid d.ops bits test value t.domain (lay d (cond b (cell ∷ filter (λ cell. test cell.output) cells) (filter (λ cell. test cell.output) cells)) t)
      go rest false is = rest t valid (λ x passes out. same x passes (or_from (nat_eq x cell.output) (is_in (outputs cells) x) (other_eqb x cell.output (λ e. both_ways (test x) (ap test e ∙ is) passes)) out))
      go rest true is =
          let r : Run = cell_run d cell t in
          let ins : bits_at d.ops t.domain (map t.at cell.inputs) bits ≡ map value cell.inputs = bits_map t.domain t.at value cell.inputs (λ x among. same x (closed 0 cell refl is x among) (ordered.0 x among)) in
          let g : Gives d.ops bits t.domain r (value cell.output) =
          gives_as d.ops bits t.domain r (term_value (bits_at d.ops t.domain (map t.at cell.inputs) bits) (function_term cell.function)) (value cell.output)
          (gives_term d.ops bits fit.lawful fit.zero (function_term cell.function) t.domain (map t.at cell.inputs) (sound_of t.domain (t.at 0) (valid 0)) (valid_map t.domain t.at cell.inputs valid))
          (ap (λ bs. term_value bs (function_term cell.function)) ins ∙ sym (terms 0 cell refl)) in
          let u : Table = put_run t cell.output r in
          let l = rest u (put_valid t.domain t cell.output r (value cell.output) valid g)
          (λ x passes out. put_same t cell.output r value valid g x (λ other. same x passes (or_from (nat_eq x cell.output) (is_in (outputs cells) x) other out))) in
          record { keeps = keeps_then d.ops t.domain r.domain (lay d (filter (λ cell. test cell.output) cells) u).domain g.keeps l.keeps; holds = l.holds }

  -- E
  pub literal_has : (s : Seen) (nets : ℕ → ℕ) (value : ℕ → Bool) (l : Literal) → Has d.ops bits s (nets l.0) (value l.0) → Has d.ops bits s (literal_of d nets l) (literal_bit value l)
  literal_has s nets value (y, inverted) h = go inverted
    where
      go : (b : Bool) → Has d.ops bits s (if b then d.inverse (nets y) else nets y) (if b then not (value y) else value y)
      go true = fit.inverse s (nets y) (value y) h
      go false = h

  join_gives : (nets : ℕ → ℕ) (value : ℕ → Bool) (a : ℕ) (b : Bool) (ls : List Literal) (s : Seen) → Has d.ops bits s a b
      → ((y : ℕ) → is_in (map (λ l. l.0) ls) y ≡ true → Has d.ops bits s (nets y) (value y)) → Gives d.ops bits s (join_run d nets a ls s) (b || any_of (map (literal_bit value) ls))
  join_gives nets value a b [] s h known = gives_as d.ops bits s (plain a s) b (b || false) (gives_plain d.ops bits s a b h) (or_false b)
    where
      or_false : (c : Bool) → c ≡ (c || false)
      or_false true = refl
      or_false false = refl
  join_gives nets value a b (l ∷ ls) s h known =
      let r : Run = build_or d.ops a (literal_of d nets l) s in
      let c : Bool = b || literal_bit value l in
      let first : Gives d.ops bits s r c = gives_or d.ops bits fit.lawful s a (literal_of d nets l) b (literal_bit value l) h (literal_has s nets value l (known l.0 (in_head l.0 (map (λ l. l.0) ls)))) in
      gives_as d.ops bits s (join_run d nets a (l ∷ ls) s) (c || any_of (map (literal_bit value) ls)) (b || any_of (map (literal_bit value) (l ∷ ls)))
      (gives_then d.ops bits s r (λ e t. join_run d nets e ls t) c (c || any_of (map (literal_bit value) ls)) first (λ k g.
      join_gives nets value r.answer c ls r.domain g (λ y among. has_later d.ops bits s r.domain (nets y) (value y) k (known y (in_tail y l.0 (map (λ l. l.0) ls) among)))))
      (or_assoc b (literal_bit value l) (any_of (map (literal_bit value) ls)))
    where
      or_assoc : (x y z : Bool) → ((x || y) || z) ≡ (x || (y || z))
      or_assoc true y z = refl
      or_assoc false y z = refl

  pub enable_gives : (nets : ℕ → ℕ) (value : ℕ → Bool) (ls : List Literal) (s : Seen) → IsTrue (d.ops.is_sound s)
      → ((y : ℕ) → is_in (map (λ l. l.0) ls) y ≡ true → Has d.ops bits s (nets y) (value y)) → Gives d.ops bits s (enable_run d nets ls s) (any_of (map (literal_bit value) ls))
  enable_gives nets value [] s sound known = gives_plain d.ops bits s 0 false (fit.zero.has s sound)
  enable_gives nets value (l ∷ ls) s sound known =
      join_gives nets value (literal_of d nets l) (literal_bit value l) ls s (literal_has s nets value l (known l.0 (in_head l.0 (map (λ l. l.0) ls))))
      (λ y among. known y (in_tail y l.0 (map (λ l. l.0) ls) among))

  or_split : (x y : Bool) → (x || y) ≡ false → (x ≡ false) × (y ≡ false)
  or_split true y none = absurd (both_ways true none refl)
  or_split false y none = (refl, none)

  -- what a term does not name is free
  pub own_free : (x : Term) (xs : List Bool) (b c : Bool) → has_input (length xs) x ≡ false → term_value (xs ++ b ∷ []) x ≡ term_value (xs ++ c ∷ []) x
  own_free (Bit value) xs b c none = refl
  own_free (Input k) xs b c none = at xs k none
    where
      at : (ys : List Bool) (j : ℕ) → nat_eq j (length ys) ≡ false → slice_index_or (ys ++ b ∷ []) j false ≡ slice_index_or (ys ++ c ∷ []) j false
      at [] zero out = absurd (both_ways true out refl)
      at [] (suc j) out = refl
      at (y ∷ ys) zero out = refl
      at (y ∷ ys) (suc j) out = at ys j (other_eqb j (length ys) (λ e. both_ways (nat_eq (suc j) (suc (length ys))) out (eq-eqb (suc j) (suc (length ys)) (ap suc e))))
  own_free (Inverse x) xs b c none = ap not (own_free x xs b c none)
  own_free (Both x y) xs b c none =
      let n = or_split (has_input (length xs) x) (has_input (length xs) y) none in
      let e = own_free x xs b c n.0 in let f = own_free y xs b c n.1 in cc
  own_free (Either x y) xs b c none =
      let n = or_split (has_input (length xs) x) (has_input (length xs) y) none in
      let e = own_free x xs b c n.0 in let f = own_free y xs b c n.1 in cc
  own_free (Differ x y) xs b c none =
      let n = or_split (has_input (length xs) x) (has_input (length xs) y) none in
      let e = own_free x xs b c n.0 in let f = own_free y xs b c n.1 in cc
