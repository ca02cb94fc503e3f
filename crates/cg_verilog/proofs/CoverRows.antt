-- The inputs and the rows of a cover, as they are put together.
use Rattle.std.proofs.Common.{◌≡◌, ◌≢◌, ◌<◌, ◌≤◌, ℕ, zero, suc, Bool, true, false, not, List, [], ◌∷◌, ◌++◌, map, length, set, take, drop, ◌+◌, refl, ap, sym, ◌∙◌, subst, cond, if◌then◌else◌, arith, get_or, Option, None, Some, option_map, IsTrue}
use Rattle.std.specs.Prelude.{replicate, slice_get}
use Rattle.std.specs.List.{AllByRecursion, AllPairs, filter, find, flat_map}
use Rattle.std.proofs.lemmas.List.{map-append, take_more}
use Rattle.std.proofs.Math.Seq.{drop-cons}
use Rattle.cg_cell.specs.Cover.{HaveOneLength}
use Rattle.cg_netlist_builder.proofs.Mentions.{with_names-append}
use Rattle.cg_verilog.proofs.CoverFits.{rows_fit}
use Rattle.std.specs.Str.{bytes_eq}
use Rattle.std.proofs.lemmas.Bool.{false_from_ne_true, or_parts}
use Rattle.std.proofs.lemmas.Option.{get_or_from_slice_get, slice_get_within}
use Rattle.cg_cell.specs.Name.{is_name}
use Rattle.cg_net.specs.Names.{NetName, is_known, with_name, with_names}
use Rattle.cg_net.proofs.DifferentNames.{known_at}
use Rattle.cg_netlist_parts.specs.Part.{each_once}
use Rattle.cg_netlist_parts.proofs.KnownNames.{itself, same_word}
use Rattle.cg_netlist_parts.proofs.SaidMore.{once_words}
use Rattle.cg_verilog_text.specs.Forms.{Literal}
use Rattle.cg_verilog_text.specs.Meaning.{bit_in, once, row_of}

abbrev Lit : Type 0
Lit = Literal NetName

-- names with more behind them are these, each once
once_each : (names : List NetName) → once bytes_eq names ≡ each_once names
once_each [] = refl
once_each (name ∷ names) = ap (λ (l : List NetName). name ∷ filter (λ other. not (bytes_eq other name)) l) (once_each names)

pub once_names : (names : List NetName) → with_names [] names ≡ once bytes_eq names
once_names names = sym (once_words [] names) ∙ sym (once_each names)

abbrev Named : List NetName → Type 0
Named names = AllByRecursion (λ (name : NetName). IsTrue (is_name name)) names

named_one : (names : List NetName) (name : NetName) → Named names → IsTrue (is_name name) → Named (names ++ name ∷ [])
named_one [] name all one = (one, tt)
named_one (n ∷ names) name all one = (all.0, named_one names name all.1 one)

pub named_with : (names : List NetName) (name : NetName) → Named names → IsTrue (is_name name) → Named (with_name names name)
named_with names name all one = go (is_known names name)
  where
    go : (b : Bool) → Named (if b then names else names ++ name ∷ [])
    go true = all
    go false = named_one names name all one

-- a row without bits
pub none_row : (inputs : List NetName) → replicate (length inputs) None ≡ map (bit_in bytes_eq []) inputs
none_row [] = refl
none_row (n ∷ inputs) = ap (λ (l : List (Option Bool)). None ∷ l) (none_row inputs)

-- one literal more
module _ (ls : List Lit) (l : Lit) where
  abbrev before : NetName → Option Bool
  before n = bit_in bytes_eq ls n

  abbrev now : NetName → Option Bool
  now n = bit_in bytes_eq (ls ++ l ∷ []) n

  off : (n : NetName) → bytes_eq l.net n ≡ false → now n ≡ before n
  off n apart = go ls
    where
      step : (k : Lit) (ks : List Lit) (b : Bool) → bit_in bytes_eq (ks ++ l ∷ []) n ≡ bit_in bytes_eq ks n → option_map (λ (l : Lit). l.plain) (cond b (Some k) (find (λ (l : Lit). bytes_eq l.net n) (ks ++ l ∷ []))) ≡ option_map (λ (l : Lit). l.plain) (cond b (Some k) (find (λ (l : Lit). bytes_eq l.net n) ks))
      step k ks true rest = refl
      step k ks false rest = rest

      go : (ks : List Lit) → bit_in bytes_eq (ks ++ l ∷ []) n ≡ bit_in bytes_eq ks n
      go [] = ap (λ b. option_map (λ (l : Lit). l.plain) (cond b (Some l) None)) apart
      go (k ∷ ks) = step k ks (bytes_eq k.net n) (go ks)

  on_none : (n : NetName) → bytes_eq l.net n ≡ true → before n ≡ None → now n ≡ Some l.plain
  on_none n same none = go ls none
    where
      step : (k : Lit) (ks : List Lit) (b : Bool) → (bit_in bytes_eq ks n ≡ None → bit_in bytes_eq (ks ++ l ∷ []) n ≡ Some l.plain) → option_map (λ (l : Lit). l.plain) (cond b (Some k) (find (λ (l : Lit). bytes_eq l.net n) ks)) ≡ None → option_map (λ (l : Lit). l.plain) (cond b (Some k) (find (λ (l : Lit). bytes_eq l.net n) (ks ++ l ∷ []))) ≡ Some l.plain
      step k ks true rest is = absurd (cc)
      step k ks false rest is = rest is

      go : (ks : List Lit) → bit_in bytes_eq ks n ≡ None → bit_in bytes_eq (ks ++ l ∷ []) n ≡ Some l.plain
      go [] is = ap (λ b. option_map (λ (l : Lit). l.plain) (cond b (Some l) None)) same
      go (k ∷ ks) is = step k ks (bytes_eq k.net n) (go ks) is

  on_some : (n : NetName) (bit : Bool) → before n ≡ Some bit → now n ≡ before n
  on_some n bit some = go ls some
    where
      step : (k : Lit) (ks : List Lit) (b : Bool) → (bit_in bytes_eq ks n ≡ Some bit → bit_in bytes_eq (ks ++ l ∷ []) n ≡ bit_in bytes_eq ks n) → option_map (λ (l : Lit). l.plain) (cond b (Some k) (find (λ (l : Lit). bytes_eq l.net n) ks)) ≡ Some bit
          → option_map (λ (l : Lit). l.plain) (cond b (Some k) (find (λ (l : Lit). bytes_eq l.net n) (ks ++ l ∷ []))) ≡ option_map (λ (l : Lit). l.plain) (cond b (Some k) (find (λ (l : Lit). bytes_eq l.net n) ks))
      step k ks true rest is = refl
      step k ks false rest is = rest is

      go : (ks : List Lit) → bit_in bytes_eq ks n ≡ Some bit → bit_in bytes_eq (ks ++ l ∷ []) n ≡ bit_in bytes_eq ks n
      go [] is = absurd (cc)
      go (k ∷ ks) is = step k ks (bytes_eq k.net n) (go ks) is

  -- the literal is of no input
  pub unknown_bit : (inputs : List NetName) → is_known inputs l.net ≡ false → map before inputs ≡ map now inputs
  unknown_bit [] none = refl
  unknown_bit (n ∷ inputs) none =
      let parts = or_parts (bytes_eq l.net n) (is_known inputs l.net) none in
      ap (λ b. b ∷ map before inputs) (sym (off n parts.0)) ∙ ap (λ (bs : List (Option Bool)). now n ∷ bs) (unknown_bit inputs parts.1)

  abbrev Different : List NetName → Type 0
  Different inputs = AllPairs (λ (name other : NetName). name ≢ other) inputs

  tail : (n : NetName) (inputs : List NetName) → Different (n ∷ inputs) → Different inputs
  tail n inputs different i j d below within = different (suc i) (suc j) d (omega arith) (omega arith)

  head_at : (n : NetName) (inputs : List NetName) → Different (n ∷ inputs) → (k : ℕ) (m : NetName) → slice_get inputs k ≡ Some m → n ≢ m
  head_at n inputs different k m at same =
      let within = slice_get_within inputs k m at in
      let here : get_or inputs k [] ≡ m = get_or_from_slice_get inputs k m [] at in
      different 0 (suc k) [] (omega arith) (omega (arith, within)) (same ∙ sym here)

  head_unknown : (n : NetName) (inputs : List NetName) → Different (n ∷ inputs) → is_known inputs n ≡ false
  head_unknown n inputs different = false_from_ne_true (is_known inputs n) (λ known. let at = known_at inputs n known in head_at n inputs different at.0 n at.1 refl)

  -- the literal's bit at its place
  pub placed_bit : (inputs : List NetName) (place : ℕ) → Different inputs → slice_get inputs place ≡ Some l.net → before l.net ≡ None → set (map before inputs) place (Some l.plain) ≡ map now inputs
  placed_bit [] place different at none = absurd (cc)
  placed_bit (n ∷ inputs) zero different at none =
      let same : n ≡ l.net = cc in
      let apart : is_known inputs l.net ≡ false = subst (λ m. is_known inputs m ≡ false) same (head_unknown n inputs different) in
      ap (λ (bs : List (Option Bool)). Some l.plain ∷ bs) (unknown_bit inputs apart)
      ∙ ap (λ b. b ∷ map now inputs) (sym (ap now same ∙ on_none l.net (itself l.net) none))
  placed_bit (n ∷ inputs) (suc place) different at none =
      let apart : bytes_eq l.net n ≡ false = false_from_ne_true (bytes_eq l.net n) (λ same. head_at n inputs different place l.net at (sym (same_word l.net n same))) in
      ap (λ (bs : List (Option Bool)). before n ∷ bs) (placed_bit inputs place (tail n inputs different) at none)
      ∙ ap (λ b. b ∷ map now inputs) (sym (off n apart))

  -- the net has a bit already
  pub kept_bit : (inputs : List NetName) (bit : Bool) → before l.net ≡ Some bit → map before inputs ≡ map now inputs
  kept_bit [] bit some = refl
  kept_bit (n ∷ inputs) bit some = ap (λ b. b ∷ map before inputs) (sym (here (bytes_eq l.net n) refl)) ∙ ap (λ (bs : List (Option Bool)). now n ∷ bs) (kept_bit inputs bit some)
    where
      here : (b : Bool) → bytes_eq l.net n ≡ b → now n ≡ before n
      here true same = let is : l.net ≡ n = same_word l.net n same in on_some n bit (ap before (sym is) ∙ some)
      here false apart = off n apart

-- the literal's bit is put at the place of its net, unless there is one
pub put_one : (ls : List Lit) (l : Lit) (inputs : List NetName) (row new : List (Option Bool)) (place : ℕ) → AllPairs (λ (name other : NetName). name ≢ other) inputs → slice_get inputs place ≡ Some l.net
    → (slice_get row place ≡ Some None → new ≡ set row place (Some l.plain)) → ((other : Bool) → slice_get row place ≡ Some (Some other) → new ≡ row)
    → row ≡ map (bit_in bytes_eq ls) inputs → new ≡ map (bit_in bytes_eq (ls ++ l ∷ [])) inputs
put_one ls l inputs row new place different at none some is = go (bit_in bytes_eq ls l.net) refl
  where
    at_map : (f : NetName → Option Bool) (xs : List NetName) (k : ℕ) (x : NetName) → slice_get xs k ≡ Some x → slice_get (map f xs) k ≡ Some (f x)
    at_map f [] k x e = absurd (cc)
    at_map f (y ∷ ys) zero x e = let same : y ≡ x = cc in ap (λ z. Some (f z)) same
    at_map f (y ∷ ys) (suc k) x e = at_map f ys k x e

    here : slice_get row place ≡ Some (bit_in bytes_eq ls l.net)
    here = ap (λ r. slice_get r place) is ∙ at_map (bit_in bytes_eq ls) inputs place l.net at

    go : (o : Option Bool) → bit_in bytes_eq ls l.net ≡ o → new ≡ map (bit_in bytes_eq (ls ++ l ∷ [])) inputs
    go None bit = none (here ∙ ap (λ (o : Option Bool). Some o) bit) ∙ (ap (λ r. set r place (Some l.plain)) is ∙ placed_bit ls l inputs place different at bit)
    go (Some b) bit = some b (here ∙ ap (λ (o : Option Bool). Some o) bit) ∙ (is ∙ kept_bit ls l inputs b bit)

-- names that are lent one after another
pub lent_more : {A : Type 0} (now : A → NetName) (lent new : List A) (b : A) (names : List NetName) (k : ℕ) → map now lent ≡ take k names → new ≡ lent ++ b ∷ [] → slice_get names k ≡ Some (now b) → map now new ≡ take (k + 1) names
lent_more now lent new b names k done put at =
    ap (map now) put ∙ (map-append now lent (b ∷ []) ∙ (ap (λ l. l ++ now b ∷ []) done ∙ sym (take_at names k (now b) at)))
  where
    take_at : (xs : List NetName) (k : ℕ) (x : NetName) → slice_get xs k ≡ Some x → take (k + 1) xs ≡ take k xs ++ x ∷ []
    take_at xs k x at = let within = slice_get_within xs k x at in take_more xs k [] within ∙ ap (λ y. take k xs ++ y ∷ []) (get_or_from_slice_get xs k x [] at)

-- the nets of a term more
pub nets_step : (names new : List NetName) (terms : List (List Lit)) (k : ℕ) (term : List Lit) (d : List Lit) → k < length terms → term ≡ get_or terms k d → new ≡ with_names names (map (λ (l : Lit). l.net) term)
    → with_names new (flat_map (λ (t : List Lit). map (λ (l : Lit). l.net) t) (drop (k + 1) terms)) ≡ with_names names (flat_map (λ (t : List Lit). map (λ (l : Lit). l.net) t) (drop k terms))
nets_step names new terms k term d within same put =
    let next : drop k terms ≡ term ∷ drop (k + 1) terms = drop-cons terms k d within ∙ (ap (λ (t : List Lit). t ∷ drop (suc k) terms) (sym same) ∙ (let one : suc k ≡ k + 1 = omega arith in ap (λ j. term ∷ drop j terms) one)) in
    ap (λ ns. with_names ns (flat_map (λ (t : List Lit). map (λ (l : Lit). l.net) t) (drop (k + 1) terms))) put
    ∙ (sym (with_names-append names (map (λ (l : Lit). l.net) term) (flat_map (λ (t : List Lit). map (λ (l : Lit). l.net) t) (drop (k + 1) terms)))
    ∙ ap (λ ts. with_names names (flat_map (λ (t : List Lit). map (λ (l : Lit). l.net) t) ts)) (sym next))

-- no term is left
drop_none : {A : Type 0} (xs : List A) (k : ℕ) → length xs ≤ k → drop k xs ≡ []
drop_none [] zero past = refl
drop_none [] (suc k) past = refl
drop_none (x ∷ xs) zero past = absurd (omega (arith, past))
drop_none (x ∷ xs) (suc k) past = drop_none xs k (omega (arith, past))

pub nets_done : (names : List NetName) (terms : List (List Lit)) (k : ℕ) → length terms ≤ k
    → with_names names (flat_map (λ (t : List Lit). map (λ (l : Lit). l.net) t) (drop k terms)) ≡ with_names [] (flat_map (λ (t : List Lit). map (λ (l : Lit). l.net) t) terms)
    → names ≡ once bytes_eq (flat_map (λ (t : List Lit). map (λ (l : Lit). l.net) t) terms)
nets_done names terms k past left =
    sym (ap (λ (ts : List (List Lit)). with_names names (flat_map (λ (t : List Lit). map (λ (l : Lit). l.net) t) ts)) (drop_none terms k past))
    ∙ (left ∙ once_names (flat_map (λ (t : List Lit). map (λ (l : Lit). l.net) t) terms))

-- rows of one length
one_length : (n : ℕ) (row : List (Option Bool)) (rows : List (List (Option Bool))) → length row ≡ n → AllByRecursion (λ (r : List (Option Bool)). length r ≡ n) rows → AllByRecursion (λ (r : List (Option Bool)). length r ≡ length row) rows
one_length n row [] long all = tt
one_length n row (r ∷ rows) long all = (all.0 ∙ sym long, one_length n row rows long all.1)

have_one : (n : ℕ) (rows : List (List (Option Bool))) → AllByRecursion (λ (r : List (Option Bool)). length r ≡ n) rows → HaveOneLength rows
have_one n [] all = tt
have_one n (row ∷ rows) all = one_length n row rows all.0 all.1

pub rows_of_one : (inputs : List NetName) (terms : List (List Lit)) (term : List Lit) (rows : List (List (Option Bool))) (row : List (Option Bool)) → rows ≡ map (row_of bytes_eq inputs) terms → row ≡ row_of bytes_eq inputs term → HaveOneLength (rows ++ row ∷ [])
rows_of_one inputs terms term rows row made last =
    have_one (length inputs) (rows ++ row ∷ []) (subst (λ rs. AllByRecursion (λ (r : List (Option Bool)). length r ≡ length inputs) rs) (sym whole) (rows_fit inputs (terms ++ term ∷ [])))
  where
    whole : rows ++ row ∷ [] ≡ map (row_of bytes_eq inputs) (terms ++ term ∷ [])
    whole = ap (λ (rs : List (List (Option Bool))). rs ++ row ∷ []) made ∙ (ap (λ r. map (row_of bytes_eq inputs) terms ++ r ∷ []) last ∙ sym (map-append (row_of bytes_eq inputs) terms (term ∷ [])))
