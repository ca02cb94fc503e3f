-- Terms and cells built on a list and on one in which it is embedded.
use Rattle.std.proofs.Common.{◌≡◌, ◌+◌, ◌*◌, ◌/◌, ◌%◌, ℕ, zero, suc, Bool, true, false, cond, if◌then◌else◌, List, [], ◌∷◌, map}
use Rattle.std.proofs.Common.{nat_eq, slice_index_or, refl, sym, ◌∙◌, ap, subst, arith}
use Rattle.std.specs.List.{filter}
use Rattle.std.proofs.lemmas.Bool.{both_ways, or_from}
use Rattle.cg_cell.specs.Build.{Run, build_and, build_not, build_or, build_xor, chain}
use Rattle.cg_cell.specs.Domain.{Seen}
use Rattle.cg_cell.specs.Eval.{build_term}
use Rattle.cg_cell.specs.Term.{Term, Bit, Input, Inverse, Both, Either, Differ}
use Rattle.cg_cell.proofs.RunsGrow.{grows_term}
use Rattle.cg_aig.specs.Aig.{aig_ops, inverse}
use Rattle.cg_aig.proofs.RunsFit.{aig_growing}
use Rattle.cg_netlist.specs.Circuit.{LogicCell}
use Rattle.cg_net.specs.NetSets.{is_in}
use Rattle.cg_netlist.specs.Nets.{IsOrdered, outputs}
use Rattle.cg_netlist_cone.proofs.Cones.{AreClosed}
use Rattle.cg_netlist.proofs.NetsOf.{other_eqb}
use Rattle.cg_netlist.proofs.RisingPlaces.{in_head, in_tail}
use Rattle.cg_claim.specs.Build.{Table, aig_values, cell_run, function_term, lay, put_run}
use Rattle.cg_claim.proofs.Embedded.{Embeds, Grown, IsSent, and_grown, embeds_later, inverse_sent, sent_one, sent_zero}

-- a literal and its image, after more was built
pub sent_later : (g : ℕ → ℕ) (s s' t' : Seen) (x y a b : ℕ) → (grown : Grown g s s' t' x y) → IsSent g s a b → IsSent grown.to s' a b
sent_later g s s' t' x y a b grown h = let v = h.valid in let l = grown.longer in record {
  valid = omega arith;
  is = ap (λ z. 2 * z + a % 2) (grown.same (a / 2) (omega arith)) ∙ h.is;
}

-- what two runs built
abbrev pub BothBuild : (ℕ → ℕ) → Seen → Run → Run → Type 0
BothBuild g s r q = Grown g s r.domain q.domain r.answer q.answer

pub stays : (g : ℕ → ℕ) (s t : Seen) → Embeds g s t → (a b : ℕ) → IsSent g s a b → Grown g s s t a b
stays g s t e a b h = record { to = g; embeds = e; longer = omega arith; same = λ k below. refl; answer = h }

pub chained : (g : ℕ → ℕ) (s : Seen) (r q : Run) (next next' : ℕ → Seen → Run) → (one : BothBuild g s r q) → BothBuild one.to r.domain (next r.answer r.domain) (next' q.answer q.domain) → BothBuild g s (chain r next) (chain q next')
chained g s r q next next' one two = let a = one.longer in let b = two.longer in record {
  to = two.to;
  embeds = two.embeds;
  longer = omega arith;
  same = λ k below. two.same k (omega arith) ∙ one.same k below;
  answer = two.answer;
}

pub not_both : (g : ℕ → ℕ) (s t : Seen) → Embeds g s t → (a b : ℕ) → IsSent g s a b → BothBuild g s (build_not aig_ops a s) (build_not aig_ops b t)
not_both g s t e a b h = stays g s t e (inverse a) (inverse b) (inverse_sent g s a b h)

pub and_both : (g : ℕ → ℕ) (s t : Seen) → Embeds g s t → (a b x y : ℕ) → IsSent g s a x → IsSent g s b y → BothBuild g s (build_and aig_ops a b s) (build_and aig_ops x y t)
and_both g s t e a b x y h k = and_grown g s t e a b x y h k

pub or_both : (g : ℕ → ℕ) (s t : Seen) → Embeds g s t → (a b x y : ℕ) → IsSent g s a x → IsSent g s b y → BothBuild g s (build_or aig_ops a b s) (build_or aig_ops x y t)
or_both g s t e a b x y h k =
    let both = and_both g s t e (inverse a) (inverse b) (inverse x) (inverse y) (inverse_sent g s a x h) (inverse_sent g s b y k) in
    let r : Run = build_and aig_ops (inverse a) (inverse b) s in
    let q : Run = build_and aig_ops (inverse x) (inverse y) t in
    chained g s r q (build_not aig_ops) (build_not aig_ops) both (not_both both.to r.domain q.domain both.embeds r.answer q.answer both.answer)

pub xor_both : (g : ℕ → ℕ) (s t : Seen) → Embeds g s t → (a b x y : ℕ) → IsSent g s a x → IsSent g s b y → BothBuild g s (build_xor aig_ops a b s) (build_xor aig_ops x y t)
xor_both g s t e a b x y h k =
    let r1 : Run = build_and aig_ops a (inverse b) s in
    let q1 : Run = build_and aig_ops x (inverse y) t in
    let one : BothBuild g s r1 q1 = and_both g s t e a (inverse b) x (inverse y) h (inverse_sent g s b y k) in
    let r2 : Run = build_and aig_ops (inverse a) b r1.domain in
    let q2 : Run = build_and aig_ops (inverse x) y q1.domain in
    let h1 = sent_later g s r1.domain q1.domain r1.answer q1.answer a x one h in
    let k1 = sent_later g s r1.domain q1.domain r1.answer q1.answer b y one k in
    let two : BothBuild one.to r1.domain r2 q2 = and_both one.to r1.domain q1.domain one.embeds (inverse a) b (inverse x) y (inverse_sent one.to r1.domain a x h1) k1 in
    let left = sent_later one.to r1.domain r2.domain q2.domain r2.answer q2.answer r1.answer q1.answer two one.answer in
    chained g s r1 q1 (λ left u. chain (build_and aig_ops (inverse a) b u) (λ right w. build_or aig_ops left right w)) (λ left u. chain (build_and aig_ops (inverse x) y u) (λ right w. build_or aig_ops left right w)) one
    (chained one.to r1.domain r2 q2 (λ right w. build_or aig_ops r1.answer right w) (λ right w. build_or aig_ops q1.answer right w) two
    (or_both two.to r2.domain q2.domain two.embeds r1.answer r2.answer q1.answer q2.answer left two.answer))

-- the inputs of a term
input_sent : (g : ℕ → ℕ) (s t : Seen) → Embeds g s t → (at to : ℕ → ℕ) (ins : List ℕ) (k : ℕ) → ((x : ℕ) → is_in ins x ≡ true → IsSent g s (at x) (to x)) → IsSent g s (slice_index_or (map at ins) k 0) (slice_index_or (map to ins) k 0)
input_sent g s t e at to [] k known = record { valid = omega arith; is = sent_zero g s t e }
input_sent g s t e at to (x ∷ ins) zero known = known x (in_head x ins)
input_sent g s t e at to (x ∷ ins) (suc k) known = input_sent g s t e at to ins k (λ y among. known y (in_tail y x ins among))

module _ (at to : ℕ → ℕ) (ins : List ℕ) where
  abbrev Knows : (ℕ → ℕ) → Seen → Type 0
  Knows g s = (x : ℕ) → is_in ins x ≡ true → IsSent g s (at x) (to x)

  -- two terms, and what joins them
  joined : (x y : Term) (build : ℕ → ℕ → Seen → Run) (g : ℕ → ℕ) (s t : Seen)
      → ((g : ℕ → ℕ) (s t : Seen) → Embeds g s t → (a b c d : ℕ) → IsSent g s a c → IsSent g s b d → BothBuild g s (build a b s) (build c d t))
      → Knows g s → BothBuild g s (build_term aig_ops (map at ins) x s) (build_term aig_ops (map to ins) x t)
      → ((g : ℕ → ℕ) (s t : Seen) → Embeds g s t → Knows g s → BothBuild g s (build_term aig_ops (map at ins) y s) (build_term aig_ops (map to ins) y t))
      → BothBuild g s (chain (build_term aig_ops (map at ins) x s) (λ a t. chain (build_term aig_ops (map at ins) y t) (λ b u. build a b u)))
      (chain (build_term aig_ops (map to ins) x t) (λ a t. chain (build_term aig_ops (map to ins) y t) (λ b u. build a b u)))
  joined x y build g s t builds known one second =
      let r1 : Run = build_term aig_ops (map at ins) x s in
      let q1 : Run = build_term aig_ops (map to ins) x t in
      let r2 : Run = build_term aig_ops (map at ins) y r1.domain in
      let q2 : Run = build_term aig_ops (map to ins) y q1.domain in
      let two : BothBuild one.to r1.domain r2 q2 = second one.to r1.domain q1.domain one.embeds (λ z among. sent_later g s r1.domain q1.domain r1.answer q1.answer (at z) (to z) one (known z among)) in
      let left = sent_later one.to r1.domain r2.domain q2.domain r2.answer q2.answer r1.answer q1.answer two one.answer in
      chained g s r1 q1 (λ a t. chain (build_term aig_ops (map at ins) y t) (λ b u. build a b u)) (λ a t. chain (build_term aig_ops (map to ins) y t) (λ b u. build a b u)) one
      (chained one.to r1.domain r2 q2 (λ b u. build r1.answer b u) (λ b u. build q1.answer b u) two
      (builds two.to r2.domain q2.domain two.embeds r1.answer r2.answer q1.answer q2.answer left two.answer))

  pub term_both : (x : Term) (g : ℕ → ℕ) (s t : Seen) → Embeds g s t → Knows g s → BothBuild g s (build_term aig_ops (map at ins) x s) (build_term aig_ops (map to ins) x t)
  term_both (Bit true) g s t e known = stays g s t e 1 1 (record { valid = omega arith; is = sent_one g s t e })
  term_both (Bit false) g s t e known = stays g s t e 0 0 (record { valid = omega arith; is = sent_zero g s t e })
  term_both (Input k) g s t e known = stays g s t e (slice_index_or (map at ins) k 0) (slice_index_or (map to ins) k 0) (input_sent g s t e at to ins k known)
  term_both (Inverse x) g s t e known =
      let r : Run = build_term aig_ops (map at ins) x s in
      let q : Run = build_term aig_ops (map to ins) x t in
      let one : BothBuild g s r q = term_both x g s t e known in
      chained g s r q (λ a t. build_not aig_ops a t) (λ a t. build_not aig_ops a t) one (not_both one.to r.domain q.domain one.embeds r.answer q.answer one.answer)
  term_both (Both x y) g s t e known = joined x y (build_and aig_ops) g s t and_both known (term_both x g s t e known) (λ f u v more sure. term_both y f u v more sure)
  term_both (Either x y) g s t e known = joined x y (build_or aig_ops) g s t or_both known (term_both x g s t e known) (λ f u v more sure. term_both y f u v more sure)
  term_both (Differ x y) g s t e known = joined x y (build_xor aig_ops) g s t xor_both known (term_both x g s t e known) (λ f u v more sure. term_both y f u v more sure)

-- an embedding, whichever
pub record IsEmbedded (s t : Seen) : Type 0 where
  pub to : ℕ → ℕ
  pub embeds : Embeds to s t

-- the cells of a front part of a walk, laid beside those of a larger one
module _ (A B : ℕ → Bool) (within : (x : ℕ) → A x ≡ true → B x ≡ true) where
  abbrev some : List (LogicCell ℕ) → List (LogicCell ℕ)
  some cells = filter (λ cell. A cell.output) cells

  abbrev all : List (LogicCell ℕ) → List (LogicCell ℕ)
  all cells = filter (λ cell. B cell.output) cells

  -- what is known of the cells that are left
  abbrev Rest : List (LogicCell ℕ) → Type 0
  Rest cells = (v w : Table) (f : ℕ → ℕ) → Embeds f v.domain w.domain → ((x : ℕ) → A x ≡ true → is_in (outputs cells) x ≡ false → IsSent f v.domain (v.at x) (w.at x))
      → IsEmbedded (lay aig_values (some cells) v).domain (lay aig_values (all cells) w).domain

  pub laid_both : (cells : List (LogicCell ℕ)) (t u : Table) (g : ℕ → ℕ) → Embeds g t.domain u.domain → IsOrdered cells → AreClosed cells A
      → ((x : ℕ) → A x ≡ true → is_in (outputs cells) x ≡ false → IsSent g t.domain (t.at x) (u.at x))
      → IsEmbedded (lay aig_values (some cells) t).domain (lay aig_values (all cells) u).domain
  laid_both [] t u g e ordered closed known = record { to = g; embeds = e }
  laid_both (cell ∷ cells) t u g e ordered closed known =
      go (λ v w f embeds sent. laid_both cells v w f embeds ordered.1 (λ k. closed (suc k)) sent) (A cell.output) (B cell.output) refl refl
    where
      -- a net that is the output of no cell that is left
      out_of : (x : ℕ) → nat_eq x cell.output ≡ false → is_in (outputs cells) x ≡ false → is_in (outputs (cell ∷ cells)) x ≡ false
      out_of x other out = or_from (nat_eq x cell.output) (is_in (outputs cells) x) other out

      elsewhere : A cell.output ≡ false → (x : ℕ) → A x ≡ true → nat_eq x cell.output ≡ false
      elsewhere is x passes = other_eqb x cell.output (λ same. both_ways (A x) (ap A same ∙ is) passes)

      go : Rest cells → (a b : Bool) → A cell.output ≡ a → B cell.output ≡ b → IsEmbedded (lay aig_values (cond a (cell ∷ some cells) (some cells)) t).domain (lay aig_values (cond b (cell ∷ all cells) (all cells)) u).domain
      go rest true false here there = absurd (both_ways (B cell.output) there (within cell.output here))
      go rest false false here there = rest t u g e (λ x passes out. known x passes (out_of x (elsewhere here x passes) out))
      go rest false true here there =
          let q : Run = cell_run aig_values cell u in
          let grows = grows_term aig_ops aig_growing (function_term cell.function) (map u.at cell.inputs) u.domain in
          rest t (put_run u cell.output q) g (embeds_later g t.domain u.domain q.domain e grows.number grows.longer)
          (λ x passes out. kept x (elsewhere here x passes) (known x passes (out_of x (elsewhere here x passes) out)))
        where
          kept : (x : ℕ) → nat_eq x cell.output ≡ false → IsSent g t.domain (t.at x) (u.at x) → IsSent g t.domain (t.at x) (if nat_eq x cell.output then (cell_run aig_values cell u).answer else u.at x)
          kept x other h = subst (λ b. IsSent g t.domain (t.at x) (if b then (cell_run aig_values cell u).answer else u.at x)) (sym other) h
      go rest true true here there =
          let r : Run = cell_run aig_values cell t in
          let q : Run = cell_run aig_values cell u in
          let one : BothBuild g t.domain r q = term_both t.at u.at cell.inputs (function_term cell.function) g t.domain u.domain e (λ x among. known x (closed 0 cell refl here x among) (ordered.0 x among)) in
          rest (put_run t cell.output r) (put_run u cell.output q) one.to one.embeds (λ x passes out. choose one x (nat_eq x cell.output) refl (λ other. known x passes (out_of x other out)))
        where
          choose : (one : BothBuild g t.domain (cell_run aig_values cell t) (cell_run aig_values cell u)) (x : ℕ) (b : Bool) → nat_eq x cell.output ≡ b → (nat_eq x cell.output ≡ false → IsSent g t.domain (t.at x) (u.at x))
              → IsSent one.to (cell_run aig_values cell t).domain (if b then (cell_run aig_values cell t).answer else t.at x) (if b then (cell_run aig_values cell u).answer else u.at x)
          choose one x true is early = one.answer
          choose one x false is early = sent_later g t.domain (cell_run aig_values cell t).domain (cell_run aig_values cell u).domain (cell_run aig_values cell t).answer (cell_run aig_values cell u).answer (t.at x) (u.at x) one (early is)
