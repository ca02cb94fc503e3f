-- Inits that are summed up one by one.
use Rattle.std.proofs.Common.{◌≡◌, ◌+◌, ◌≤◌, ℕ, zero, suc, arith, length, length-append, drop, Option, None, Some, Bool, true, false, not, ◌&&◌, ◌||◌, List, [], ◌∷◌, ◌++◌, map, refl, ap, sym, ◌∙◌, subst, if◌then◌else◌}
use Rattle.std.specs.Prelude.{MatchOption, is_some, slice_get}
use Rattle.std.specs.List.{All, fold, list_all}
use Rattle.std.specs.Str.{bytes_eq}
use mir.Val.{bool_byte as from_bool}
use Rattle.std.proofs.lemmas.Bool.{both_ways}
use Rattle.std.proofs.lemmas.List.{append_assoc, append-nil, map-append}
use Rattle.std.proofs.lemmas.List.Elements.{All-push}
use Rattle.cg_cell.specs.Name.{are_distinct}
use Rattle.cg_net.specs.Names.{NetName, is_known, with_name}
use Rattle.cg_netlist_parts.proofs.KnownNames.{known-append, word_at}
use Rattle.cg_verilog_expression.proofs.KnownNets.{known_with, or_none, turned}
use Rattle.cg_verilog_text.specs.Meaning.{Init, are_inits, bit_number}
use Rattle.cg_verilog.specs.GivenInits.{GivenInits, are_of, no_inits, with_init}

-- one name behind others, none of which stands twice
four : (a b c d : Bool) → (not (a || (b || false)) && (c && not d)) ≡ ((not a && c) && not (b || d))
four true b c d = refl
four false true true d = refl
four false true false d = refl
four false false c d = refl

pub distinct_more : (names : List NetName) (x : NetName) → are_distinct (names ++ x ∷ []) ≡ (are_distinct names && not (is_known names x))
distinct_more [] x = refl
distinct_more (y ∷ ys) x =
    ap (λ b. not b && are_distinct (ys ++ x ∷ [])) (known-append ys (x ∷ []) y)
    ∙ (ap (λ b. not (is_known ys y || (bytes_eq y x || false)) && b) (distinct_more ys x)
    ∙ (four (is_known ys y) (bytes_eq y x) (are_distinct ys) (is_known ys x)
    ∙ ap (λ b. (not (is_known ys y) && are_distinct ys) && not (b || is_known ys x)) (turned y x)))

abbrev nets_of : List Init → List NetName
nets_of l = map (λ (i : Init). i.net) l

-- the sum of these inits
pub record Sums (l : List Init) (g : GivenInits) : Type 0 where
  pub again : g.again ≡ not (are_distinct (map (λ (i : Init). i.net) l))
  pub nets : are_distinct (map (λ (i : Init). i.net) l) ≡ true → g.nets ≡ map (λ (i : Init). i.net) l
  pub values : are_distinct (map (λ (i : Init). i.net) l) ≡ true → g.values ≡ map (λ (i : Init). bit_number i.value) l
  pub known : (x : NetName) → is_known g.nets x ≡ is_known (map (λ (i : Init). i.net) l) x

pub sums_none : Sums [] no_inits
sums_none = record { again = refl; nets = λ _. refl; values = λ _. refl; known = λ x. refl }

sums_one : (l : List Init) (g : GivenInits) (i : Init) → Sums l g → Sums (l ++ i ∷ []) (with_init g i)
sums_one l g i sums = go (is_known g.nets i.net) refl
  where
    spread : nets_of (l ++ i ∷ []) ≡ nets_of l ++ i.net ∷ []
    spread = map-append (λ (i : Init). i.net) l (i ∷ [])

    distinct : are_distinct (nets_of (l ++ i ∷ [])) ≡ (are_distinct (nets_of l) && not (is_known g.nets i.net))
    distinct = ap are_distinct spread ∙ (distinct_more (nets_of l) i.net ∙ ap (λ b. are_distinct (nets_of l) && not b) (sym (sums.known i.net)))

    known_now : (x : NetName) → is_known (nets_of (l ++ i ∷ [])) x ≡ (is_known (nets_of l) x || bytes_eq x i.net)
    known_now x = ap (λ ns. is_known ns x) spread ∙ (known-append (nets_of l) (i.net ∷ []) x ∙ ap (λ b. is_known (nets_of l) x || b) (or_none (bytes_eq x i.net)))

    and_false : (b : Bool) → (b && false) ≡ false
    and_false true = refl
    and_false false = refl

    and_true : (b : Bool) → (b && true) ≡ b
    and_true true = refl
    and_true false = refl

    go : (b : Bool) → is_known g.nets i.net ≡ b → Sums (l ++ i ∷ []) (if b then record g { again = true } else record g { nets = g.nets ++ i.net ∷ []; values = g.values ++ bit_number i.value ∷ [] })
    go true is =
        let no : are_distinct (nets_of (l ++ i ∷ [])) ≡ false = distinct ∙ (ap (λ b. are_distinct (nets_of l) && not b) is ∙ and_false (are_distinct (nets_of l))) in
        record {
          again = ap not (sym no);
          nets = λ yes. absurd (both_ways (are_distinct (nets_of (l ++ i ∷ []))) no yes);
          values = λ yes. absurd (both_ways (are_distinct (nets_of (l ++ i ∷ []))) no yes);
          known = λ x. sym (with_known x) ∙ (known_with g.nets i.net x ∙ (ap (λ b. b || bytes_eq x i.net) (sums.known x) ∙ sym (known_now x)));
        }
      where
        with_known : (x : NetName) → is_known (with_name g.nets i.net) x ≡ is_known g.nets x
        with_known x = ap (λ b. is_known (if b then g.nets else g.nets ++ i.net ∷ []) x) is
    go false is =
        let now : are_distinct (nets_of (l ++ i ∷ [])) ≡ are_distinct (nets_of l) = distinct ∙ (ap (λ b. are_distinct (nets_of l) && not b) is ∙ and_true (are_distinct (nets_of l))) in
        record {
          again = sums.again ∙ ap not (sym now);
          nets = λ yes. ap (λ ns. ns ++ i.net ∷ []) (sums.nets (sym now ∙ yes)) ∙ sym spread;
          values = λ yes. ap (λ ns. ns ++ bit_number i.value ∷ []) (sums.values (sym now ∙ yes)) ∙ sym (map-append (λ (i : Init). bit_number i.value) l (i ∷ []));
          known = λ x. known-append g.nets (i.net ∷ []) x ∙ (ap (λ b. b || (bytes_eq x i.net || false)) (sums.known x) ∙ (ap (λ b. is_known (nets_of l) x || b) (or_none (bytes_eq x i.net)) ∙ sym (known_now x)));
        }

pub sums_more : (l more : List Init) (g : GivenInits) → Sums l g → Sums (l ++ more) (fold with_init g more)
sums_more l [] g sums = subst (λ m. Sums m g) (sym (append-nil l)) sums
sums_more l (i ∷ more) g sums = subst (λ m. Sums m (fold with_init (with_init g i) more)) (append_assoc l (i ∷ []) more) (sums_more (l ++ i ∷ []) more (with_init g i) (sums_one l g i sums))

-- each init is of a register, and none is given twice
all_of : (registers others : List NetName) (same : (x : NetName) → is_known registers x ≡ is_known others x) (l : List Init) → list_all (is_known registers) (nets_of l) ≡ list_all (λ (i : Init). is_known others i.net) l
all_of registers others same [] = refl
all_of registers others same (i ∷ l) =
    ap (λ b. b && list_all (is_known registers) (nets_of l)) (same i.net) ∙ ap (λ b. is_known others i.net && b) (all_of registers others same l)

pub are_of_inits : (registers others : List NetName) (l : List Init) (g : GivenInits) → ((x : NetName) → is_known registers x ≡ is_known others x) → Sums l g → are_of registers g ≡ are_inits others l
are_of_inits registers others l g same sums = go (are_distinct (nets_of l)) refl
  where
    and_true : (b : Bool) → b ≡ (b && true)
    and_true true = refl
    and_true false = refl

    and_false : (b : Bool) → false ≡ (b && false)
    and_false true = refl
    and_false false = refl

    go : (d : Bool) → are_distinct (nets_of l) ≡ d → (not g.again && list_all (is_known registers) g.nets) ≡ (list_all (λ (i : Init). is_known others i.net) l && are_distinct (nets_of l))
    go true is =
        ap (λ b. not b && list_all (is_known registers) g.nets) (sums.again ∙ ap not is)
        ∙ (ap (list_all (is_known registers)) (sums.nets is)
        ∙ (all_of registers others same l
        ∙ (and_true (list_all (λ (i : Init). is_known others i.net) l) ∙ ap (λ b. list_all (λ (i : Init). is_known others i.net) l && b) (sym is))))
    go false is =
        ap (λ b. not b && list_all (is_known registers) g.nets) (sums.again ∙ ap not is)
        ∙ (and_false (list_all (λ (i : Init). is_known others i.net) l) ∙ ap (λ b. list_all (λ (i : Init). is_known others i.net) l && b) (sym is))

-- a net that is given an init again
pub given_again : (g : GivenInits) (i : Init) → is_known g.nets i.net ≡ true → record g { again = true } ≡ with_init g i
given_again g i known =
    sym (ap (λ b. if b then record g { again = true } else record g { nets = g.nets ++ i.net ∷ []; values = g.values ++ bit_number i.value ∷ [] }) known)

-- a net that is given an init the first time
pub given_first : (values : List ℕ) (bit : Bool) (nets : List NetName) (net : NetName) (now : List ℕ) (new : List NetName) → length values ≡ length nets → All (λ value. value ≤ 3) values → is_known nets net ≡ false
    → now ≡ values ++ from_bool bit ∷ [] → new ≡ with_name nets net → (length now ≡ length new) × All (λ value. value ≤ 3) now
given_first values bit nets net now new same all none put named = (
  ap length put ∙ (length-append values (from_bool bit ∷ []) ∙ (ap (λ n. n + 1) same ∙ (sym (length-append nets (net ∷ [])) ∙ ap length (sym spread)))),
  subst (λ (l : List ℕ). All (λ value. value ≤ 3) l) (sym put) (All-push (λ value. value ≤ 3) values (from_bool bit) all (small bit)),
)
  where
    spread : new ≡ nets ++ net ∷ []
    spread = named ∙ ap (λ b. if b then nets else nets ++ net ∷ []) none

    small : (b : Bool) → from_bool b ≤ 3
    small true = omega arith
    small false = omega arith

-- a test of each of some names, from one on
pub all_left : (test : NetName → Bool) (names : List NetName) (k : ℕ) (name : NetName) → slice_get names k ≡ Some name → list_all test (drop k names) ≡ (test name && list_all test (drop (k + 1) names))
all_left test [] k name at = absurd (cc)
all_left test (n ∷ names) zero name at = let same : n ≡ name = cc in ap (λ m. test m && list_all test names) same
all_left test (n ∷ names) (suc k) name at = let same : suc (k + 1) ≡ suc k + 1 = omega arith in all_left test names k name at ∙ ap (λ j. test name && list_all test (drop j (n ∷ names))) same

-- what is found says whether a name is known
pub none_known : (names : List NetName) (name : NetName) (found : Option ℕ) → MatchOption found (is_known names name ≡ false) (λ i. slice_get names i ≡ Some name) → is_some found ≡ false → is_known names name ≡ false
none_known names name None is none = is
none_known names name (Some i) is none = absurd (cc)

pub some_known : (names : List NetName) (name : NetName) (found : Option ℕ) → MatchOption found (is_known names name ≡ false) (λ i. slice_get names i ≡ Some name) → is_some found ≡ true → is_known names name ≡ true
some_known names name None is some = absurd (cc)
some_known names name (Some i) is some = word_at names i name is
