-- What is kept of a term that is built, as literals come.
use Rattle.std.proofs.Common.{[], ◌≡◌, ℕ, ◌+◌, ◌<◌, Bool, true, false, not, ◌||◌, List, ◌∷◌, ◌++◌, map, length, drop, nat_eq, get_or}
use Rattle.std.proofs.Common.{refl, ap, sym, ◌∙◌, subst, if◌then◌else◌, cond, Option, None, Some, option_map, unwrap_or, slice_get, Result, Ok, Err, inl, inr, add-one, drop-cons}
use Rattle.std.specs.Prelude.{OnOk}
use Rattle.std.specs.List.{find, fold}
use Rattle.std.specs.Option.{option_or}
use Rattle.std.proofs.lemmas.Bool.{both_ways, cases_Bool, eqb-true, eq-eqb}
use Rattle.std.proofs.lemmas.List.{map-append}
use Rattle.cg_net.specs.NetSets.{is_in, with_net}
use Rattle.cg_net.specs.Names.{NetName, net_name}
use Rattle.cg_net.proofs.Members.{is_in-append}
use Rattle.cg_verilog_text.specs.CoverForms.{joined, literals_of, with_literal}
use Rattle.cg_verilog_text.specs.Forms.{Literal}
use Rattle.cg_verilog_text.specs.Meaning.{bit_in}
use Rattle.cg_verilog_out.specs.inner.OpenTerms.{Built, IsNew, IsOpen, IsPart, gives, literal_named, with_place}

abbrev Lit : Type 0
Lit = Literal ℕ

abbrev Term : Type 0
Term = Option (List Lit)

abbrev lit : ℕ → Bool → Lit
lit net plain = record { net = net; plain = plain }

-- the bit of a net in a term with one literal more
bit_end : (ls : List Lit) (l : Lit) (n : ℕ) → bit_in nat_eq (ls ++ l ∷ []) n ≡ option_or (bit_in nat_eq ls n) (if nat_eq l.net n then Some l.plain else None)
bit_end [] l n = go (nat_eq l.net n)
  where
    go : (b : Bool) → option_map (λ (k : Lit). k.plain) (cond b (Some l) None) ≡ (if b then Some l.plain else None)
    go true = refl
    go false = refl
bit_end (k ∷ ks) l n = go (nat_eq k.net n) (bit_end ks l n)
  where
    go : (b : Bool) → bit_in nat_eq (ks ++ l ∷ []) n ≡ option_or (bit_in nat_eq ks n) (if nat_eq l.net n then Some l.plain else None)
        → option_map (λ (k : Lit). k.plain) (cond b (Some k) (find (λ (k : Lit). nat_eq k.net n) (ks ++ l ∷ []))) ≡ option_or (option_map (λ (k : Lit). k.plain) (cond b (Some k) (find (λ (k : Lit). nat_eq k.net n) ks))) (if nat_eq l.net n then Some l.plain else None)
    go true rest = refl
    go false rest = rest

nat_back : (x y : ℕ) → nat_eq x y ≡ nat_eq y x
nat_back x y = elim (cases_Bool (nat_eq y x)) [
  | inl e ↦ eq-eqb x y (sym (eqb-true y x e)) ∙ sym e
  | inr e ↦ elim (cases_Bool (nat_eq x y)) [
    | inl f ↦ absurd (both_ways (nat_eq y x) e (eq-eqb y x (sym (eqb-true x y f))))
    | inr f ↦ f ∙ sym e
  ]
]

-- the nets with this bit, and those with the other, where a net without a bit gets this one
gives_more : (p : Bool) (o : Option Bool) (c : Bool) → (c ≡ true → o ≡ None) → (gives p o || (c || false)) ≡ gives p (option_or o (if c then Some p else None))
gives_more true None true none = refl
gives_more true None false none = refl
gives_more false None true none = refl
gives_more false None false none = refl
gives_more true (Some true) c none = refl
gives_more true (Some false) true none = let no = none refl in absurd (cc)
gives_more true (Some false) false none = refl
gives_more false (Some true) true none = let no = none refl in absurd (cc)
gives_more false (Some true) false none = refl
gives_more false (Some false) c none = refl

gives_other : (p q : Bool) (o : Option Bool) (c : Bool) → q ≡ not p → gives q o ≡ gives q (option_or o (if c then Some p else None))
gives_other p q (Some b) c is = refl
gives_other p q None false is = refl
gives_other true true None true is = absurd (both_ways true is refl)
gives_other true false None true is = refl
gives_other false true None true is = refl
gives_other false false None true is = absurd (both_ways false refl is)

not_given : (o : Option Bool) → gives true o ≡ false → gives false o ≡ false → o ≡ None
not_given None no_one no_zero = refl
not_given (Some true) no_one no_zero = absurd (both_ways true no_one refl)
not_given (Some false) no_one no_zero = absurd (both_ways true no_zero refl)

new_in : (nets : List ℕ) (net n : ℕ) → is_in nets net ≡ false → is_in (with_net nets net) n ≡ (is_in nets n || (nat_eq n net || false))
new_in nets net n out = ap (λ b. is_in (if b then nets else nets ++ net ∷ []) n) out ∙ is_in-append nets (net ∷ []) n

module _ (names : List NetName) where
  abbrev named : Lit → Literal NetName
  named = literal_named names

  -- a term that ended, or whose net has its bit already
  pub stays_ended : (built : Built) (term : Term) (net : ℕ) (plain : Bool) → built.ended ≡ true → IsOpen names built term → IsOpen names built (with_literal nat_eq term (lit net plain))
  stays_ended built term net plain ended is =
      let none : term ≡ None = is.is ∙ ap (λ b. if b then None else Some is.literals) ended in
      record { literals = is.literals; named = is.named; ones = is.ones; zeros = is.zeros; is = ap (λ t. with_literal nat_eq t (lit net plain)) none ∙ ap (λ b. if b then None else Some is.literals) (sym ended) }

  abbrev with_end : Built → Bool → Built
  with_end built ended = record built { ended = ended }

  joins : (built : Built) (term : Term) (net : ℕ) (plain : Bool) (o : Option Bool) (is : IsOpen names built term) → built.ended ≡ false → bit_in nat_eq is.literals net ≡ o
      → with_literal nat_eq term (lit net plain) ≡ joined (lit net plain) is.literals o
  joins built term net plain o is going bit =
      let some : term ≡ Some is.literals = is.is ∙ ap (λ b. if b then None else Some is.literals) going in
      ap (λ t. with_literal nat_eq t (lit net plain)) some ∙ ap (joined (lit net plain) is.literals) bit

  is_true : (o : Option Bool) → gives true o ≡ true → o ≡ Some true
  is_true None is = absurd (both_ways false refl is)
  is_true (Some true) is = refl
  is_true (Some false) is = absurd (both_ways false refl is)

  is_false : (o : Option Bool) → gives false o ≡ true → o ≡ Some false
  is_false None is = absurd (both_ways false refl is)
  is_false (Some true) is = absurd (both_ways false refl is)
  is_false (Some false) is = refl

  pub with_one : (built : Built) (term : Term) (net : ℕ) (plain : Bool) → built.ended ≡ false → is_in built.ones net ≡ true → IsOpen names built term → IsOpen names (with_end built (not plain)) (with_literal nat_eq term (lit net plain))
  with_one built term net plain going one is =
      record {
        literals = is.literals;
        named = is.named;
        ones = is.ones;
        zeros = is.zeros;
        is = joins built term net plain (Some true) is going (is_true (bit_in nat_eq is.literals net) (sym (is.ones net) ∙ one)) ∙ go plain;
      }
    where
      go : (p : Bool) → (if p then Some is.literals else None) ≡ (if not p then None else Some is.literals)
      go true = refl
      go false = refl

  pub with_zero : (built : Built) (term : Term) (net : ℕ) (plain : Bool) → built.ended ≡ false → is_in built.zeros net ≡ true → IsOpen names built term → IsOpen names (with_end built plain) (with_literal nat_eq term (lit net plain))
  with_zero built term net plain going is_zero is =
      record {
        literals = is.literals;
        named = is.named;
        ones = is.ones;
        zeros = is.zeros;
        is = joins built term net plain (Some false) is going (is_false (bit_in nat_eq is.literals net) (sym (is.zeros net) ∙ is_zero));
      }

  -- a literal of a new net
  module _ (built : Built) (term : Term) (net : ℕ) (fresh : IsNew built net) (is : IsOpen names built term) where
    none : bit_in nat_eq is.literals net ≡ None
    none = not_given (bit_in nat_eq is.literals net) (sym (is.ones net) ∙ fresh.no_one) (sym (is.zeros net) ∙ fresh.no_zero)

    none_at : (n : ℕ) → nat_eq net n ≡ true → bit_in nat_eq is.literals n ≡ None
    none_at n same = subst (λ m. bit_in nat_eq is.literals m ≡ None) (eqb-true net n same) none

    more : (p : Bool) (nets : List ℕ) → is_in nets net ≡ false → ((n : ℕ) → is_in nets n ≡ gives p (bit_in nat_eq is.literals n)) → (n : ℕ) → is_in (with_net nets net) n ≡ gives p (bit_in nat_eq (is.literals ++ lit net p ∷ []) n)
    more p nets out are n =
        new_in nets net n out
        ∙ (ap (λ b. b || (nat_eq n net || false)) (are n)
        ∙ (ap (λ b. gives p (bit_in nat_eq is.literals n) || (b || false)) (nat_back n net)
        ∙ (gives_more p (bit_in nat_eq is.literals n) (nat_eq net n) (none_at n) ∙ ap (gives p) (sym (bit_end is.literals (lit net p) n)))))

    other : (p q : Bool) (nets : List ℕ) → q ≡ not p → ((n : ℕ) → is_in nets n ≡ gives q (bit_in nat_eq is.literals n)) → (n : ℕ) → is_in nets n ≡ gives q (bit_in nat_eq (is.literals ++ lit net p ∷ []) n)
    other p q nets opposite are n = are n ∙ (gives_other p q (bit_in nat_eq is.literals n) (nat_eq net n) opposite ∙ ap (gives q) (sym (bit_end is.literals (lit net p) n)))

    abbrev more_literals : Bool → List (Literal NetName)
    more_literals p = built.literals ++ named (lit net p) ∷ []

    named_more : (p : Bool) → more_literals p ≡ map named (is.literals ++ lit net p ∷ [])
    named_more p = ap (λ l. l ++ named (lit net p) ∷ []) is.named ∙ sym (map-append named is.literals (lit net p ∷ []))

    still : (p : Bool) → with_literal nat_eq term (lit net p) ≡ (if built.ended then None else Some (is.literals ++ lit net p ∷ []))
    still p = joins built term net p None is fresh.going none ∙ ap (λ b. if b then None else Some (is.literals ++ lit net p ∷ [])) (sym fresh.going)

    pub put_one : IsOpen names (record { literals = more_literals true; ones = with_net built.ones net; zeros = built.zeros; ended = built.ended }) (with_literal nat_eq term (lit net true))
    put_one = record {
      literals = is.literals ++ lit net true ∷ [];
      named = named_more true;
      ones = more true built.ones fresh.no_one is.ones;
      zeros = other true false built.zeros refl is.zeros;
      is = still true;
    }

    pub put_zero : IsOpen names (record { literals = more_literals false; ones = built.ones; zeros = with_net built.zeros net; ended = built.ended }) (with_literal nat_eq term (lit net false))
    put_zero = record {
      literals = is.literals ++ lit net false ∷ [];
      named = named_more false;
      ones = other false true built.ones refl is.ones;
      zeros = more false built.zeros fresh.no_zero is.zeros;
      is = still false;
    }

  -- no literals
  pub none_open : IsOpen names (record { literals = []; ones = []; zeros = []; ended = false }) (Some [])
  none_open = record { literals = []; named = refl; ones = λ net. refl; zeros = λ net. refl; is = refl }

  -- the term that was built
  pub taken : (built : Built) (term : Term) → IsOpen names built term → (if built.ended then None else Some built.literals) ≡ option_map (map named) term
  taken built term is = ap (λ (l : List (Literal NetName)). if built.ended then None else Some l) is.named ∙ (go built.ended ∙ ap (option_map (map named)) (sym is.is))
    where
      go : (b : Bool) → (if b then None else Some (map named is.literals)) ≡ option_map (map named) (if b then None else Some is.literals)
      go true = refl
      go false = refl

  -- place by place
  with_place-fold : (term : Term) (net : ℕ) (place : Option Bool) (nets : List ℕ) (row : List (Option Bool)) → fold (with_literal nat_eq) term (literals_of (net ∷ nets) (place ∷ row)) ≡ fold (with_literal nat_eq) (with_place term net place) (literals_of nets row)
  with_place-fold term net None nets row = refl
  with_place-fold term net (Some plain) nets row = refl

  pub begins : (built : Built) (inputs : List ℕ) (row : List (Option Bool)) → IsOpen names built (Some []) → IsPart names built (drop 0 inputs) (drop 0 row) (fold (with_literal nat_eq) (Some []) (literals_of inputs row))
  begins built inputs row is = record { so_far = Some []; open_ = is; rest = refl }

  pub goes_on : (built new : Built) (inputs : List ℕ) (row : List (Option Bool)) (k net d : ℕ) (place e : Option Bool) (term : Term) → k < length inputs → k < length row → get_or inputs k d ≡ net → get_or row k e ≡ place
      → ((t : Term) → IsOpen names built t → IsOpen names new (with_place t net place)) → IsPart names built (drop k inputs) (drop k row) term → IsPart names new (drop (k + 1) inputs) (drop (k + 1) row) term
  goes_on built new inputs row k net d place e term in_inputs in_row net_is place_is puts part =
      record {
        so_far = with_place part.so_far net place;
        open_ = puts part.so_far part.open_;
        rest =
            sym (with_place-fold part.so_far net place (drop (k + 1) inputs) (drop (k + 1) row))
            ∙ (ap (λ ls. fold (with_literal nat_eq) part.so_far ls) (
            ap (λ ns. literals_of ns (place ∷ drop (k + 1) row)) (ap (λ n. n ∷ drop (k + 1) inputs) (sym net_is) ∙ left_nets)
            ∙ ap (literals_of (drop k inputs)) (ap (λ p. p ∷ drop (k + 1) row) (sym place_is) ∙ left_row))
            ∙ part.rest);
      }
    where
      left_nets : get_or inputs k d ∷ drop (k + 1) inputs ≡ drop k inputs
      left_nets = rw (add-one, drop-cons inputs k d) refl

      left_row : get_or row k e ∷ drop (k + 1) row ≡ drop k row
      left_row = rw (add-one, drop-cons row k e) refl

  pub ends : (built : Built) (inputs : List ℕ) (row : List (Option Bool)) (term : Term) → drop (length row) row ≡ [] → IsPart names built (drop (length row) inputs) (drop (length row) row) term → IsOpen names built term
  ends built inputs row term none part =
      subst (IsOpen names built) (go (drop (length row) inputs) ∙ (ap (λ r. fold (with_literal nat_eq) part.so_far (literals_of (drop (length row) inputs) r)) (sym none) ∙ part.rest)) part.open_
    where
      go : (nets : List ℕ) → part.so_far ≡ fold (with_literal nat_eq) part.so_far (literals_of nets [])
      go [] = refl
      go (n ∷ ns) = refl

-- a literal that was put behind the others
pub on_ok : {T E : Type 0} (A B : Type 0) (r : Result T E) → (A → B) → OnOk r A → OnOk r B
on_ok A B (Ok x) f a = f a
on_ok A B (Err e) f a = tt

name_is : (names : List NetName) (net : ℕ) (name : NetName) → slice_get names net ≡ Some name → net_name names net ≡ name
name_is names net name at = ap (λ o. unwrap_or o []) at

pub put_then_one : (names : List NetName) (before built : Built) (net : ℕ) (plain : Bool) (name : NetName) (literals : List (Literal NetName)) (ones : List ℕ) → before ≡ built → plain ≡ true → slice_get names net ≡ Some name
    → literals ≡ before.literals ++ record { net = name; plain = plain } ∷ [] → ones ≡ with_net before.ones net
    → (term : Term) → IsOpen names built term → IsNew built net → IsOpen names (record { literals = literals; ones = ones; zeros = before.zeros; ended = before.ended }) (with_literal nat_eq term (lit net plain))
put_then_one names before built net plain name literals ones view is at literals_are ones_are term open_ fresh =
    let all : literals ≡ before.literals ++ literal_named names (lit net true) ∷ [] = literals_are ∙ ap (λ (l : Literal NetName). before.literals ++ l ∷ []) (ap (λ n. record { net = n; plain = plain }) (sym (name_is names net name at)) ∙ ap (λ p. record { net = net_name names net; plain = p }) is) in
    subst (λ p. IsOpen names (record { literals = literals; ones = ones; zeros = before.zeros; ended = before.ended }) (with_literal nat_eq term (lit net p))) (sym is)
    (subst (λ os. IsOpen names (record { literals = literals; ones = os; zeros = before.zeros; ended = before.ended }) (with_literal nat_eq term (lit net true))) (sym ones_are)
    (subst (λ ls. IsOpen names (record { literals = ls; ones = with_net before.ones net; zeros = before.zeros; ended = before.ended }) (with_literal nat_eq term (lit net true))) (sym all)
    (put_one names before term net (subst (λ b. IsNew b net) (sym view) fresh) (subst (λ b. IsOpen names b term) (sym view) open_))))

pub put_then_zero : (names : List NetName) (before built : Built) (net : ℕ) (plain : Bool) (name : NetName) (literals : List (Literal NetName)) (zeros : List ℕ) → before ≡ built → plain ≡ false → slice_get names net ≡ Some name
    → literals ≡ before.literals ++ record { net = name; plain = plain } ∷ [] → zeros ≡ with_net before.zeros net
    → (term : Term) → IsOpen names built term → IsNew built net → IsOpen names (record { literals = literals; ones = before.ones; zeros = zeros; ended = before.ended }) (with_literal nat_eq term (lit net plain))
put_then_zero names before built net plain name literals zeros view is at literals_are zeros_are term open_ fresh =
    let all : literals ≡ before.literals ++ literal_named names (lit net false) ∷ [] = literals_are ∙ ap (λ (l : Literal NetName). before.literals ++ l ∷ []) (ap (λ n. record { net = n; plain = plain }) (sym (name_is names net name at)) ∙ ap (λ p. record { net = net_name names net; plain = p }) is) in
    subst (λ p. IsOpen names (record { literals = literals; ones = before.ones; zeros = zeros; ended = before.ended }) (with_literal nat_eq term (lit net p))) (sym is)
    (subst (λ zs. IsOpen names (record { literals = literals; ones = before.ones; zeros = zs; ended = before.ended }) (with_literal nat_eq term (lit net false))) (sym zeros_are)
    (subst (λ ls. IsOpen names (record { literals = ls; ones = before.ones; zeros = with_net before.zeros net; ended = before.ended }) (with_literal nat_eq term (lit net false))) (sym all)
    (put_zero names before term net (subst (λ b. IsNew b net) (sym view) fresh) (subst (λ b. IsOpen names b term) (sym view) open_))))
