-- The values of the grammar are those that are read.
use Rattle.std.proofs.Common.{◌≡◌, ℕ, Bool, true, false, cond, not, ◌&&◌, ◌||◌, IsTrue, List, [], ◌∷◌, ◌++◌, Some, None, Ok}
use Rattle.std.proofs.Common.{refl, ap, inl, inr, ◌⊎◌}
use Rattle.std.specs.List.{AllByRecursion}
use Rattle.std.proofs.lemmas.Bool.{false≢true}
use Rattle.cg_liberty_text.specs.Argument.{behind_value, ends_value, is_close_brace, is_in_value, is_semicolon, is_text, unexpected}
use Rattle.cg_liberty_text.specs.Argument.{is_value_over, value_text}
use Rattle.cg_liberty_text.specs.Grammar.{EndsValue, IsOfValue, lone_text}
use Rattle.cg_liberty_text.specs.declared.lexeme.Kind.{Kind}
use Rattle.cg_liberty_text.specs.declared.lexeme.Kind.TheVariants as kinds
use Rattle.cg_liberty_text.specs.declared.token.Token.{Token}
use Rattle.cg_liberty_text.proofs.ArgumentLists.{refused, same_rest, token_of}

no_end_kind : (kind : Kind) → is_in_value kind ≡ true → (is_semicolon kind || is_close_brace kind) ≡ false
no_end_kind kinds.Semicolon is = absurd (false≢true is)
no_end_kind kinds.CloseBrace is = absurd (false≢true is)
no_end_kind _ is = refl

goes_on : (token : Token) → IsOfValue token → ends_value token ≡ false
goes_on token is = rw (is.0, no_end_kind token.kind is.1) refl

breaks_kind : (kind : Kind) (at : ℕ) (text : List ℕ) (fresh : Bool) (after : List Token) → IsTrue fresh ⊎ (kind ≡ kinds.CloseBrace) → (ends_value (token_of kind at text fresh) ≡ true) × ((not fresh && is_semicolon kind) ≡ false)
breaks_kind kind at text true after ends = (refl, refl)
breaks_kind kind at text false after (inl fresh) = absurd (false≢true fresh)
breaks_kind kind at text false after (inr is) = rw is (refl, refl)

-- a value that ends is passed with its `;`, or up to what stands behind it
ended_behind : (end rest : List Token) → EndsValue end rest → behind_value (end ++ rest) ≡ Ok rest
ended_behind [] [] ends = absurd ends
ended_behind [] (token ∷ after) ends = let breaks = breaks_kind token.kind token.at token.text token.fresh after ends in rw (breaks.0, breaks.1) refl
ended_behind (token ∷ []) rest ends = rw (ends.1, ends.0) refl
ended_behind (token ∷ another ∷ more) rest ends = absurd ends

-- a value is passed up to its end
pub value_behind : (value end rest : List Token) → AllByRecursion IsOfValue value → EndsValue end rest → behind_value (value ++ end ++ rest) ≡ Ok rest
value_behind [] end rest inside ends = ended_behind end rest ends
value_behind (token ∷ value) end rest inside ends = rw (goes_on token inside.0, inside.0.1) (value_behind value end rest inside.1 ends)

ended_over : (end rest : List Token) → EndsValue end rest → is_value_over (end ++ rest) ≡ true
ended_over [] [] ends = absurd ends
ended_over [] (token ∷ after) ends = (breaks_kind token.kind token.at token.text token.fresh after ends).0
ended_over (token ∷ []) rest ends = rw (ends.1, ends.0) refl
ended_over (token ∷ another ∷ more) rest ends = absurd ends

over_text : (tokens : List Token) → is_value_over tokens ≡ true → value_text tokens ≡ None
over_text [] over = refl
over_text (token ∷ after) over = rw over refl

no_text : (b : Bool) (text : List ℕ) → cond (b && false) (Some text) None ≡ None
no_text true text = refl
no_text false text = refl

and_true : (b : Bool) (text : List ℕ) → cond (b && true) (Some text) None ≡ cond b (Some text) None
and_true true text = refl
and_true false text = refl

-- the text of a value is read
pub value_lone : (value end rest : List Token) → AllByRecursion IsOfValue value → EndsValue end rest → value_text (value ++ end ++ rest) ≡ lone_text value
value_lone [] end rest inside ends = over_text (end ++ rest) (ended_over end rest ends)
value_lone (token ∷ []) end rest inside ends = rw (goes_on token inside.0, ended_over end rest ends) (and_true (is_text token.kind) token.text)
value_lone (token ∷ another ∷ more) end rest inside ends = rw (goes_on token inside.0, goes_on another inside.1.0) (no_text (is_text token.kind) token.text)

-- tokens that are a value up to its end, before those that are left
pub record ValueUpTo (tokens left : List Token) : Type 0 where
  pub value : List Token
  pub end : List Token
  pub split : tokens ≡ value ++ end ++ left
  pub inside : AllByRecursion IsOfValue value
  pub ends : EndsValue end left

at_line : (token next : Token) (after later : List Token) → token ∷ after ≡ next ∷ later → IsTrue token.fresh ⊎ (token.kind ≡ kinds.CloseBrace) → ValueUpTo (token ∷ after) (next ∷ later)
at_line token next after later same breaks =
    let first : token ≡ next = cc in
    record { value = []; end = []; split = same; inside = tt; ends = rw (← first) breaks }

one_more : (token next : Token) (after later : List Token) → IsOfValue token → ValueUpTo after (next ∷ later) → ValueUpTo (token ∷ after) (next ∷ later)
one_more token next after later is found = record {
  value = token ∷ found.value;
  end = found.end;
  split = ap (λ (ts : List Token). token ∷ ts) found.split;
  inside = (is, found.inside);
  ends = found.ends;
}

from_value : (kind : Kind) (at : ℕ) (text : List ℕ) (fresh : Bool) (after : List Token) (next : Token) (later : List Token) → (behind_value after ≡ Ok (next ∷ later) → ValueUpTo after (next ∷ later)) → behind_value (token_of kind at text fresh ∷ after) ≡ Ok (next ∷ later) → ValueUpTo (token_of kind at text fresh ∷ after) (next ∷ later)
from_value kind at text true after next later found h = at_line (token_of kind at text true) next after later (same_rest (token_of kind at text true ∷ after) (next ∷ later) h) (inl refl)
from_value kinds.CloseBrace at text false after next later found h = at_line (token_of kinds.CloseBrace at text false) next after later (same_rest (token_of kinds.CloseBrace at text false ∷ after) (next ∷ later) h) (inr refl)
from_value kinds.Semicolon at text false after next later found h = record {
  value = [];
  end = token_of kinds.Semicolon at text false ∷ [];
  split = ap (λ (ts : List Token). token_of kinds.Semicolon at text false ∷ ts) (same_rest after (next ∷ later) h);
  inside = tt;
  ends = (refl, refl);
}
from_value kinds.Word at text false after next later found h = one_more (token_of kinds.Word at text false) next after later (refl, refl) (found h)
from_value kinds.Quoted at text false after next later found h = one_more (token_of kinds.Quoted at text false) next after later (refl, refl) (found h)
from_value kinds.OpenParen at text false after next later found h = one_more (token_of kinds.OpenParen at text false) next after later (refl, refl) (found h)
from_value kinds.CloseParen at text false after next later found h = one_more (token_of kinds.CloseParen at text false) next after later (refl, refl) (found h)
from_value kinds.Comma at text false after next later found h = one_more (token_of kinds.Comma at text false) next after later (refl, refl) (found h)
from_value kinds.Colon at text false after next later found h = one_more (token_of kinds.Colon at text false) next after later (refl, refl) (found h)
from_value kinds.OpenBrace at text false after next later found h = refused (unexpected (token_of kinds.OpenBrace at text false)) (next ∷ later) h
from_value kinds.Bad at text false after next later found h = refused (unexpected (token_of kinds.Bad at text false)) (next ∷ later) h

-- what is passed as a value is one, where something stands behind it
pub value_of : (tokens : List Token) (next : Token) (later : List Token) → behind_value tokens ≡ Ok (next ∷ later) → ValueUpTo tokens (next ∷ later)
value_of [] next later h = absurd (cc)
value_of (token ∷ after) next later h = from_value token.kind token.at token.text token.fresh after next later (λ is. value_of after next later is) h
