-- What a building comes to, at one assignment: for lawful operations and valid inputs, its run ends in a value that stands for
-- the bit that it is to compute. No call is made: the run is the definition's.
use Rattle.std.proofs.Common.{◌≡◌, ℕ, zero, suc, Bool, false, not, ◌&&◌, ◌||◌, if◌then◌else◌, List, [], ◌∷◌, IsTrue, slice_index_or}
use Rattle.std.proofs.Common.{refl, ◌∙◌, ap}
use Rattle.cg_cell.specs.Domain.{AreValid, IsDomain, Keeps, Ops, Seen}
use Rattle.cg_cell.specs.Build.{Run, build_and, build_mux, build_not, build_or, build_xor, chain, plain}
use Rattle.cg_cell.specs.Eval.{bits_at, build_term}
use Rattle.cg_cell.specs.Gates.{exclusive_or}
use Rattle.cg_cell.specs.Term.{Term, Bit, Input, Inverse, Both, Either, Differ, term_value}
use Rattle.cg_cell.proofs.Building.{keeps_self, keeps_then}
use Rattle.cg_cell.proofs.Evals.{bits_then, valid_then}
use Rattle.cg_cell.proofs.Operations.{mux_bits, or_bits, xor_bits}

-- at one assignment, a value stands for a bit
pub record Has (o : Ops) (bits : List Bool) (s : Seen) (a : ℕ) (b : Bool) : Type 0 where
  pub valid : IsTrue (o.is_valid s a)
  pub bit : o.bit s bits a ≡ b

-- at one assignment, a run's answer stands for a bit
pub record Gives (o : Ops) (bits : List Bool) (s : Seen) (r : Run) (b : Bool) : Type 0 where
  pub keeps : Keeps o s r.domain
  pub has : Has o bits r.domain r.answer b

-- the value 0 stands for the bit 0, so that it may stand for an input that is not given
pub record IsZero (o : Ops) (bits : List Bool) : Type 0 where
  pub has : (s : Seen) → IsTrue (o.is_sound s) → Has o bits s 0 false

module _ (o : Ops) (bits : List Bool) where
  pub has_later : (s t : Seen) (a : ℕ) (b : Bool) → Keeps o s t → Has o bits s a b → Has o bits t a b
  has_later s t a b k h = record { valid = k.valid a h.valid; bit = k.bits a bits h.valid ∙ h.bit }

  pub has_as : (s : Seen) (a : ℕ) (b c : Bool) → Has o bits s a b → b ≡ c → Has o bits s a c
  has_as s a b c h e = record { valid = h.valid; bit = h.bit ∙ e }

  pub gives_as : (s : Seen) (r : Run) (b c : Bool) → Gives o bits s r b → b ≡ c → Gives o bits s r c
  gives_as s r b c h e = record { keeps = h.keeps; has = has_as r.domain r.answer b c h.has e }

  pub gives_plain : (s : Seen) (a : ℕ) (b : Bool) → Has o bits s a b → Gives o bits s (plain a s) b
  gives_plain s a b h = record { keeps = keeps_self o s; has = h }

  pub gives_then : (s : Seen) (r : Run) (next : ℕ → Seen → Run) (b c : Bool) → Gives o bits s r b
      → (Keeps o s r.domain → Has o bits r.domain r.answer b → Gives o bits r.domain (next r.answer r.domain) c) → Gives o bits s (chain r next) c
  gives_then s r next b c g k =
      let h : Gives o bits r.domain (next r.answer r.domain) c = k g.keeps g.has in
      record { keeps = keeps_then o s r.domain (next r.answer r.domain).domain g.keeps h.keeps; has = h.has }

  module _ (laws : IsDomain o) where
    pub gives_not : (s : Seen) (a : ℕ) (b : Bool) → Has o bits s a b → Gives o bits s (build_not o a s) (not b)
    gives_not s a b h = let st = laws.not_stands s a h.valid in record { keeps = st.keeps; has = record { valid = st.valid; bit = st.bit bits ∙ ap not h.bit } }

    pub gives_and : (s : Seen) (a b : ℕ) (x y : Bool) → Has o bits s a x → Has o bits s b y → Gives o bits s (build_and o a b s) (x && y)
    gives_and s a b x y h k =
        let st = laws.and_stands s a b h.valid k.valid in
        record { keeps = st.keeps; has = record { valid = st.valid; bit = st.bit bits ∙ (ap (λ z. z && o.bit s bits b) h.bit ∙ ap (λ z. x && z) k.bit) } }

    pub gives_or : (s : Seen) (a b : ℕ) (x y : Bool) → Has o bits s a x → Has o bits s b y → Gives o bits s (build_or o a b s) (x || y)
    gives_or s a b x y h k =
        gives_as s (build_or o a b s) (not (not x && not y)) (x || y)
        (gives_then s (build_not o a s) (λ na t. chain (build_not o b t) (λ nb u. chain (build_and o na nb u) (build_not o))) (not x) (not (not x && not y)) (gives_not s a x h) (λ kt hna.
        let t = (build_not o a s).domain in let na = (build_not o a s).answer in
        gives_then t (build_not o b t) (λ nb u. chain (build_and o na nb u) (build_not o)) (not y) (not (not x && not y)) (gives_not t b y (has_later s t b y kt k)) (λ ku hnb.
        let u = (build_not o b t).domain in let nb = (build_not o b t).answer in
        gives_then u (build_and o na nb u) (build_not o) (not x && not y) (not (not x && not y)) (gives_and u na nb (not x) (not y) (has_later t u na (not x) ku hna) hnb) (λ kv hn.
        gives_not (build_and o na nb u).domain (build_and o na nb u).answer (not x && not y) hn))))
        (or_bits x y)

    pub gives_xor : (s : Seen) (a b : ℕ) (x y : Bool) → Has o bits s a x → Has o bits s b y → Gives o bits s (build_xor o a b s) (exclusive_or x y)
    gives_xor s a b x y h k =
        gives_as s (build_xor o a b s) ((x && not y) || (not x && y)) (exclusive_or x y)
        (gives_then s (build_not o b s) (λ nb t. chain (build_and o a nb t) (λ left u. chain (build_not o a u) (λ na v. chain (build_and o na b v) (λ right w. build_or o left right w)))) (not y) ((x && not y) || (not x && y)) (gives_not s b y k) (λ kt hnb.
        let t = (build_not o b s).domain in let nb = (build_not o b s).answer in
        let ht = has_later s t a x kt h in let bt = has_later s t b y kt k in
        gives_then t (build_and o a nb t) (λ left u. chain (build_not o a u) (λ na v. chain (build_and o na b v) (λ right w. build_or o left right w))) (x && not y) ((x && not y) || (not x && y)) (gives_and t a nb x (not y) ht hnb) (λ ku hl.
        let u = (build_and o a nb t).domain in let left = (build_and o a nb t).answer in
        let hu = has_later t u a x ku ht in let bu = has_later t u b y ku bt in
        gives_then u (build_not o a u) (λ na v. chain (build_and o na b v) (λ right w. build_or o left right w)) (not x) ((x && not y) || (not x && y)) (gives_not u a x hu) (λ kv hna.
        let v = (build_not o a u).domain in let na = (build_not o a u).answer in
        let bv = has_later u v b y kv bu in let lv = has_later u v left (x && not y) kv hl in
        gives_then v (build_and o na b v) (λ right w. build_or o left right w) (not x && y) ((x && not y) || (not x && y)) (gives_and v na b (not x) y hna bv) (λ kw hr.
        let w = (build_and o na b v).domain in let right = (build_and o na b v).answer in
        gives_or w left right (x && not y) (not x && y) (has_later v w left (x && not y) kw lv) hr)))))
        (xor_bits x y)

    pub gives_mux : (s : Seen) (c a b : ℕ) (z x y : Bool) → Has o bits s c z → Has o bits s a x → Has o bits s b y → Gives o bits s (build_mux o c a b s) (if z then x else y)
    gives_mux s c a b z x y hc h k =
        gives_as s (build_mux o c a b s) ((z && x) || (not z && y)) (if z then x else y)
        (gives_then s (build_and o c a s) (λ left t. chain (build_not o c t) (λ nc u. chain (build_and o nc b u) (λ right v. build_or o left right v))) (z && x) ((z && x) || (not z && y)) (gives_and s c a z x hc h) (λ kt hl.
        let t = (build_and o c a s).domain in let left = (build_and o c a s).answer in
        gives_then t (build_not o c t) (λ nc u. chain (build_and o nc b u) (λ right v. build_or o left right v)) (not z) ((z && x) || (not z && y)) (gives_not t c z (has_later s t c z kt hc)) (λ ku hn.
        let u = (build_not o c t).domain in let nc = (build_not o c t).answer in
        gives_then u (build_and o nc b u) (λ right v. build_or o left right v) (not z && y) ((z && x) || (not z && y)) (gives_and u nc b (not z) y hn (has_later t u b y ku (has_later s t b y kt k))) (λ kv hr.
        let v = (build_and o nc b u).domain in let right = (build_and o nc b u).answer in
        gives_or v left right (z && x) (not z && y) (has_later u v left (z && x) kv (has_later t u left (z && x) ku hl)) hr))))
        (mux_bits z x y)

    module _ (zero_is : IsZero o bits) where
      input_has : (s : Seen) (inputs : List ℕ) (k : ℕ) → IsTrue (o.is_sound s) → AreValid o s inputs → Has o bits s (slice_index_or inputs k 0) (slice_index_or (bits_at o s inputs bits) k false)
      input_has s [] k sound valid = zero_is.has s sound
      input_has s (a ∷ inputs) zero sound valid = record { valid = valid.0; bit = refl }
      input_has s (a ∷ inputs) (suc k) sound valid = input_has s inputs k sound valid.1

      two : (x y : Term) (s : Seen) (inputs : List ℕ) (build : ℕ → ℕ → Seen → Run) (f : Bool → Bool → Bool)
          → ((t : Seen) (a b : ℕ) (p q : Bool) → Has o bits t a p → Has o bits t b q → Gives o bits t (build a b t) (f p q))
          → IsTrue (o.is_sound s) → AreValid o s inputs
          → Gives o bits s (build_term o inputs x s) (term_value (bits_at o s inputs bits) x)
          → ((t : Seen) → IsTrue (o.is_sound t) → AreValid o t inputs → Gives o bits t (build_term o inputs y t) (term_value (bits_at o t inputs bits) y))
          → Gives o bits s (chain (build_term o inputs x s) (λ a t. chain (build_term o inputs y t) (λ b u. build a b u))) (f (term_value (bits_at o s inputs bits) x) (term_value (bits_at o s inputs bits) y))
      two x y s inputs build f gives sound valid first second =
          let p = term_value (bits_at o s inputs bits) x in
          let q = term_value (bits_at o s inputs bits) y in
          let r = build_term o inputs x s in
          gives_then s r (λ a t. chain (build_term o inputs y t) (λ b u. build a b u)) p (f p q) first (λ kt h.
          let t = r.domain in
          let g = second t (laws.sound t r.answer h.valid) (valid_then o s t inputs kt valid) in
          let e : term_value (bits_at o t inputs bits) y ≡ q = ap (λ bs. term_value bs y) (bits_then o s t inputs bits kt valid) in
          gives_then t (build_term o inputs y t) (λ b u. build r.answer b u) q (f p q) (gives_as t (build_term o inputs y t) (term_value (bits_at o t inputs bits) y) q g e) (λ ku k.
          gives (build_term o inputs y t).domain r.answer (build_term o inputs y t).answer p q (has_later t (build_term o inputs y t).domain r.answer p ku h) k))

      pub gives_term : (x : Term) (s : Seen) (inputs : List ℕ) → IsTrue (o.is_sound s) → AreValid o s inputs → Gives o bits s (build_term o inputs x s) (term_value (bits_at o s inputs bits) x)
      gives_term (Bit b) s inputs sound valid = let st = laws.constant_stands s b sound in record { keeps = st.keeps; has = record { valid = st.valid; bit = st.bit bits } }
      gives_term (Input k) s inputs sound valid = gives_plain s (slice_index_or inputs k 0) (slice_index_or (bits_at o s inputs bits) k false) (input_has s inputs k sound valid)
      gives_term (Inverse x) s inputs sound valid =
          gives_then s (build_term o inputs x s) (λ a t. build_not o a t) (term_value (bits_at o s inputs bits) x) (not (term_value (bits_at o s inputs bits) x)) (gives_term x s inputs sound valid) (λ kt h.
          gives_not (build_term o inputs x s).domain (build_term o inputs x s).answer (term_value (bits_at o s inputs bits) x) h)
      gives_term (Both x y) s inputs sound valid = two x y s inputs (build_and o) (λ a b. a && b) gives_and sound valid (gives_term x s inputs sound valid) (λ t ok v. gives_term y t inputs ok v)
      gives_term (Either x y) s inputs sound valid = two x y s inputs (build_or o) (λ a b. a || b) gives_or sound valid (gives_term x s inputs sound valid) (λ t ok v. gives_term y t inputs ok v)
      gives_term (Differ x y) s inputs sound valid = two x y s inputs (build_xor o) (λ a b. exclusive_or a b) gives_xor sound valid (gives_term x s inputs sound valid) (λ t ok v. gives_term y t inputs ok v)
