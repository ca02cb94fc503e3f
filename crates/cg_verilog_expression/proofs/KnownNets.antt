-- Which nets a table of nets knows, where more are put into it.
use Rattle.std.proofs.Common.{◌≡◌, ◌<◌, ℕ, Bool, true, false, ◌||◌, List, [], ◌∷◌, ◌++◌, length, refl, ap, sym, ◌∙◌, if◌then◌else◌, Option, None, Some}
use Rattle.std.specs.Prelude.{MatchOption, is_some, slice_get}
use Rattle.std.specs.List.{list_any}
use Rattle.std.specs.Str.{bytes_eq}
use Rattle.std.proofs.lemmas.List.Folds.{list_any-append}
use Rattle.cg_net.specs.Names.{NetName, is_known, with_name, with_names}
use Rattle.cg_netlist_parts.proofs.KnownNames.{known-append, same_word, word_at}
use Rattle.cg_verilog_text.specs.Forms.{Literal}
use Rattle.cg_verilog_expression.specs.Terms.{AreKnown, HasTable}

-- tests of two nets are the same both ways round
pub turned : (a b : NetName) → bytes_eq a b ≡ bytes_eq b a
turned a b = go (bytes_eq a b) (bytes_eq b a) refl refl
  where
    go : (x y : Bool) → bytes_eq a b ≡ x → bytes_eq b a ≡ y → bytes_eq a b ≡ bytes_eq b a
    go true y is other = let same : a ≡ b = same_word a b is in ap (λ n. bytes_eq a n) (sym same) ∙ ap (λ n. bytes_eq n a) same
    go false true is other = let same : b ≡ a = same_word b a other in ap (λ n. bytes_eq n b) (sym same) ∙ ap (λ n. bytes_eq b n) same
    go false false is other = is ∙ sym other

pub or_none : (b : Bool) → (b || false) ≡ b
or_none true = refl
or_none false = refl

or_some : (b : Bool) → (b || true) ≡ true
or_some true = refl
or_some false = refl

pub known_with : (names : List NetName) (name x : NetName) → is_known (with_name names name) x ≡ (is_known names x || bytes_eq x name)
known_with names name x = go (is_known names name) refl
  where
    here : (b : Bool) → bytes_eq x name ≡ b → is_known names name ≡ true → is_known names x ≡ (is_known names x || b)
    here true same is = ap (is_known names) (same_word x name same) ∙ (is ∙ sym (or_some (is_known names x)))
    here false same is = sym (or_none (is_known names x))

    go : (b : Bool) → is_known names name ≡ b → is_known (if b then names else names ++ name ∷ []) x ≡ (is_known names x || bytes_eq x name)
    go true is = here (bytes_eq x name) refl is
    go false is = known-append names (name ∷ []) x ∙ ap (λ b. is_known names x || b) (or_none (bytes_eq x name))

or_assoc : (a b c : Bool) → ((a || b) || c) ≡ (a || (b || c))
or_assoc true b c = refl
or_assoc false b c = refl

pub known_names : (names words : List NetName) (x : NetName) → is_known (with_names names words) x ≡ (is_known names x || is_known words x)
known_names names [] x = sym (or_none (is_known names x))
known_names names (w ∷ ws) x =
    known_names (with_name names w) ws x ∙ (ap (λ b. b || is_known ws x) (known_with names w x) ∙ or_assoc (is_known names x) (bytes_eq x w) (is_known ws x))

-- the table of a term
abbrev Lit : Type 0
Lit = Literal NetName

pub known_more : (ls : List Lit) (l : Lit) (table : List NetName) → AreKnown ls table → AreKnown (ls ++ l ∷ []) (with_name table l.net)
known_more ls l table known net =
    known_with table l.net net
    ∙ (ap (λ b. b || bytes_eq net l.net) (known net)
    ∙ (ap (λ b. list_any (λ (k : Lit). bytes_eq k.net net) ls || b) (turned net l.net ∙ sym (or_none (bytes_eq l.net net)))
    ∙ sym (list_any-append (λ (k : Lit). bytes_eq k.net net) ls (l ∷ []))))

pub found_net : (ls : List Lit) (table : List NetName) (net : NetName) (r : Option ℕ) → AreKnown ls table → MatchOption r (is_known table net ≡ false) (λ i. slice_get table i ≡ Some net) → is_some r ≡ list_any (λ (l : Lit). bytes_eq l.net net) ls
found_net ls table net None known is = sym is ∙ known net
found_net ls table net (Some i) known is = sym (word_at table i net is) ∙ known net
