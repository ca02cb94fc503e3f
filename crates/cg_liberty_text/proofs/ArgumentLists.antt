-- The arguments of the grammar are those that are read.
use Rattle.std.proofs.Common.{◌≡◌, ℕ, Bool, true, false, List, [], ◌∷◌, ◌++◌, Result, Ok, Err, refl, sym, ap, ◌∙◌, subst}
use Rattle.std.proofs.Common.{append_assoc}
use Rattle.std.proofs.lemmas.Bool.{false≢true}
use Rattle.cg_liberty_text.specs.Argument.{argument_texts, behind_arguments, is_close_paren, is_comma, is_text, unexpected}
use Rattle.cg_liberty_text.specs.Grammar.{AreArguments, AreFurther, IsGap}
use Rattle.cg_liberty_text.specs.declared.fault.TextFault.{TextFault}
use Rattle.cg_liberty_text.specs.declared.fault.TextFault.TheVariants.{BadGroup}
use Rattle.cg_liberty_text.specs.declared.lexeme.Kind.{Kind}
use Rattle.cg_liberty_text.specs.declared.lexeme.Kind.TheVariants as kinds
use Rattle.cg_liberty_text.specs.declared.token.Token.{Token}

pub refused : {A : Type 0} (fault : TextFault) (left : List Token) → ◌≡◌ {A = Result (List Token) TextFault} (Err fault) (Ok left) → A
refused fault left h = absurd (cc)

pub same_rest : (xs ys : List Token) → ◌≡◌ {A = Result (List Token) TextFault} (Ok xs) (Ok ys) → xs ≡ ys
same_rest xs ys h = cc

-- a token by its parts
abbrev pub token_of : Kind → ℕ → List ℕ → Bool → Token
token_of kind at text fresh = record { kind = kind; at = at; text = text; fresh = fresh }

is_no_close : (kind : Kind) → is_text kind ≡ true → is_close_paren kind ≡ false
is_no_close kinds.CloseParen is = absurd (false≢true is)
is_no_close _ is = refl

is_no_comma : (kind : Kind) → is_text kind ≡ true → is_comma kind ≡ false
is_no_comma kinds.Comma is = absurd (false≢true is)
is_no_comma _ is = refl

text_behind : (end : ℕ) (before : Kind) (token : Token) (after : List Token) → is_text token.kind ≡ true → behind_arguments end before (token ∷ after) ≡ behind_arguments end token.kind after
text_behind end before token after is = rw (is, is_no_close token.kind is) refl

comma_behind : (end : ℕ) (before : Kind) (comma : Token) (after : List Token) → is_text before ≡ true → comma.kind ≡ kinds.Comma → behind_arguments end before (comma ∷ after) ≡ behind_arguments end kinds.Comma after
comma_behind end before comma after text is = rw (is, text) refl

gap_behind : (end : ℕ) (before : Kind) (gap : List Token) (token : Token) (after : List Token) → is_text before ≡ true → IsGap gap → is_text token.kind ≡ true → behind_arguments end before (gap ++ token ∷ after) ≡ behind_arguments end token.kind after
gap_behind end before [] token after text none is = text_behind end before token after is
gap_behind end before (comma ∷ []) token after text gap is = comma_behind end before comma (token ∷ after) text gap ∙ text_behind end kinds.Comma token after is
gap_behind end before (comma ∷ another ∷ more) token after text gap is = absurd gap

further_behind : (end : ℕ) (texts : List (List ℕ)) (before : Kind) (arguments : List Token) (closing : Token) (rest : List Token) → is_text before ≡ true → closing.kind ≡ kinds.CloseParen → AreFurther texts arguments → behind_arguments end before (arguments ++ closing ∷ rest) ≡ Ok rest
further_behind end [] before arguments closing rest text closes none = rw (none, closes, is_no_comma before text) refl
further_behind end (first ∷ texts) before arguments closing rest text closes more =
    ap (λ (ts : List Token). behind_arguments end before (ts ++ closing ∷ rest)) more.3
    ∙ ap (behind_arguments end before) (append_assoc more.0 (more.1 ∷ more.2) (closing ∷ rest))
    ∙ gap_behind end before more.0 more.1 (more.2 ++ closing ∷ rest) text more.4 more.5
    ∙ further_behind end texts more.1.kind more.2 closing rest more.5 closes more.7

-- arguments are passed up to their `)`
pub arguments_behind : (end : ℕ) (texts : List (List ℕ)) (arguments : List Token) (closing : Token) (rest : List Token) → closing.kind ≡ kinds.CloseParen → AreArguments texts arguments → behind_arguments end kinds.OpenParen (arguments ++ closing ∷ rest) ≡ Ok rest
arguments_behind end [] arguments closing rest closes none = rw (none, closes) refl
arguments_behind end (first ∷ texts) arguments closing rest closes more =
    ap (λ (ts : List Token). behind_arguments end kinds.OpenParen (ts ++ closing ∷ rest)) more.2
    ∙ text_behind end kinds.OpenParen more.0 (more.1 ++ closing ∷ rest) more.3
    ∙ further_behind end texts more.0.kind more.1 closing rest more.3 closes more.5

text_texts : (token : Token) (after : List Token) → is_text token.kind ≡ true → argument_texts (token ∷ after) ≡ token.text ∷ argument_texts after
text_texts token after is = rw (is_no_close token.kind is, is) refl

comma_texts : (comma : Token) (after : List Token) → comma.kind ≡ kinds.Comma → argument_texts (comma ∷ after) ≡ argument_texts after
comma_texts comma after is = rw is refl

gap_texts : (gap : List Token) (token : Token) (after : List Token) → IsGap gap → is_text token.kind ≡ true → argument_texts (gap ++ token ∷ after) ≡ token.text ∷ argument_texts after
gap_texts [] token after none is = text_texts token after is
gap_texts (comma ∷ []) token after gap is = comma_texts comma (token ∷ after) gap ∙ text_texts token after is
gap_texts (comma ∷ another ∷ more) token after gap is = absurd gap

one_more_text : (first text : List ℕ) (texts read : List (List ℕ)) → first ≡ text → read ≡ texts → first ∷ read ≡ text ∷ texts
one_more_text first text texts read same later = cc

further_texts : (texts : List (List ℕ)) (arguments : List Token) (closing : Token) (rest : List Token) → closing.kind ≡ kinds.CloseParen → AreFurther texts arguments → argument_texts (arguments ++ closing ∷ rest) ≡ texts
further_texts [] arguments closing rest closes none = rw (none, closes) refl
further_texts (text ∷ texts) arguments closing rest closes more =
    ap (λ (ts : List Token). argument_texts (ts ++ closing ∷ rest)) more.3
    ∙ ap argument_texts (append_assoc more.0 (more.1 ∷ more.2) (closing ∷ rest))
    ∙ gap_texts more.0 more.1 (more.2 ++ closing ∷ rest) more.4 more.5
    ∙ one_more_text more.1.text text texts (argument_texts (more.2 ++ closing ∷ rest)) more.6 (further_texts texts more.2 closing rest closes more.7)

-- and their texts are read
pub arguments_texts : (texts : List (List ℕ)) (arguments : List Token) (closing : Token) (rest : List Token) → closing.kind ≡ kinds.CloseParen → AreArguments texts arguments → argument_texts (arguments ++ closing ∷ rest) ≡ texts
arguments_texts [] arguments closing rest closes none = rw (none, closes) refl
arguments_texts (text ∷ texts) arguments closing rest closes more =
    ap (λ (ts : List Token). argument_texts (ts ++ closing ∷ rest)) more.2
    ∙ text_texts more.0 (more.1 ++ closing ∷ rest) more.3
    ∙ one_more_text more.0.text text texts (argument_texts (more.1 ++ closing ∷ rest)) more.4 (further_texts texts more.1 closing rest closes more.5)

-- tokens that are arguments up to a `)`, before those that are left
pub record UpTo (Are : List (List ℕ) → List Token → Type 0) (tokens left : List Token) : Type 0 where
  pub arguments : List Token
  pub closing : Token
  pub split : tokens ≡ arguments ++ closing ∷ left
  pub closes : closing.kind ≡ kinds.CloseParen
  pub are : Are (argument_texts tokens) arguments

-- one argument, and those behind it
abbrev AreSome : List (List ℕ) → List Token → Type 0
AreSome [] tokens = ⊥
AreSome (text ∷ texts) tokens = AreArguments (text ∷ texts) tokens

some_further : (texts : List (List ℕ)) (comma : Token) (arguments : List Token) → comma.kind ≡ kinds.Comma → AreSome texts arguments → AreFurther texts (comma ∷ arguments)
some_further [] comma arguments is none = absurd none
some_further (text ∷ texts) comma arguments is more = (comma ∷ [], more.0, more.1, ap (λ (ts : List Token). comma ∷ ts) more.2, is, more.3, more.4, more.5)

cons_text : (token : Token) (after left : List Token) → is_text token.kind ≡ true → UpTo AreFurther after left → UpTo AreSome (token ∷ after) left
cons_text token after left is later = record {
  arguments = token ∷ later.arguments;
  closing = later.closing;
  split = ap (λ (ts : List Token). token ∷ ts) later.split;
  closes = later.closes;
  are = subst (λ (texts : List (List ℕ)). AreSome texts (token ∷ later.arguments)) (sym (text_texts token after is)) (token, later.arguments, refl, is, refl, later.are);
}

first_arguments : (texts : List (List ℕ)) (arguments : List Token) → AreSome texts arguments → AreArguments texts arguments
first_arguments [] arguments none = absurd none
first_arguments (text ∷ texts) arguments more = more

first_further : (texts : List (List ℕ)) (arguments : List Token) → AreSome texts arguments → AreFurther texts arguments
first_further [] arguments none = absurd none
first_further (text ∷ texts) arguments more = ([], more.0, more.1, more.2, tt, more.3, more.4, more.5)

as_further : (tokens left : List Token) → UpTo AreSome tokens left → UpTo AreFurther tokens left
as_further tokens left some = record { arguments = some.arguments; closing = some.closing; split = some.split; closes = some.closes; are = first_further (argument_texts tokens) some.arguments some.are }

as_arguments : (tokens left : List Token) → UpTo AreSome tokens left → UpTo AreArguments tokens left
as_arguments tokens left some = record { arguments = some.arguments; closing = some.closing; split = some.split; closes = some.closes; are = first_arguments (argument_texts tokens) some.arguments some.are }

cons_comma : (comma : Token) (after left : List Token) → comma.kind ≡ kinds.Comma → UpTo AreSome after left → UpTo AreFurther (comma ∷ after) left
cons_comma comma after left is later = record {
  arguments = comma ∷ later.arguments;
  closing = later.closing;
  split = ap (λ (ts : List Token). comma ∷ ts) later.split;
  closes = later.closes;
  are = subst (λ (texts : List (List ℕ)). AreFurther texts (comma ∷ later.arguments)) (sym (comma_texts comma after is)) (some_further (argument_texts after) comma later.arguments is later.are);
}

-- what is read behind a string is what is read behind a word
string_alike : (end : ℕ) (tokens : List Token) → behind_arguments end kinds.Quoted tokens ≡ behind_arguments end kinds.Word tokens
string_alike end [] = refl
string_alike end (token ∷ after) = refl

-- how arguments go on behind one, and behind a comma
abbrev GoOn : ℕ → List Token → List Token → Type 0
GoOn end left tokens = (behind_arguments end kinds.Word tokens ≡ Ok left → UpTo AreFurther tokens left) × (behind_arguments end kinds.Comma tokens ≡ Ok left → UpTo AreSome tokens left)

from_text : (end : ℕ) (left : List Token) (kind : Kind) (at : ℕ) (text : List ℕ) (fresh : Bool) (after : List Token) → GoOn end left after → behind_arguments end kinds.Word (token_of kind at text fresh ∷ after) ≡ Ok left → UpTo AreFurther (token_of kind at text fresh ∷ after) left
from_text end left kinds.Word at text fresh after later h = as_further (token_of kinds.Word at text fresh ∷ after) left (cons_text (token_of kinds.Word at text fresh) after left refl (later.0 h))
from_text end left kinds.Quoted at text fresh after later h = as_further (token_of kinds.Quoted at text fresh ∷ after) left (cons_text (token_of kinds.Quoted at text fresh) after left refl (later.0 (sym (string_alike end after) ∙ h)))
from_text end left kinds.Comma at text fresh after later h = cons_comma (token_of kinds.Comma at text fresh) after left refl (later.1 h)
from_text end left kinds.CloseParen at text fresh after later h =
    record { arguments = []; closing = token_of kinds.CloseParen at text fresh; split = ap (λ (ts : List Token). token_of kinds.CloseParen at text fresh ∷ ts) (same_rest after left h); closes = refl; are = refl }
from_text end left kind at text fresh after later h = refused (unexpected (token_of kind at text fresh)) left h

from_comma : (end : ℕ) (left : List Token) (kind : Kind) (at : ℕ) (text : List ℕ) (fresh : Bool) (after : List Token) → GoOn end left after → behind_arguments end kinds.Comma (token_of kind at text fresh ∷ after) ≡ Ok left → UpTo AreSome (token_of kind at text fresh ∷ after) left
from_comma end left kinds.Word at text fresh after later h = cons_text (token_of kinds.Word at text fresh) after left refl (later.0 h)
from_comma end left kinds.Quoted at text fresh after later h = cons_text (token_of kinds.Quoted at text fresh) after left refl (later.0 (sym (string_alike end after) ∙ h))
from_comma end left kind at text fresh after later h = refused (unexpected (token_of kind at text fresh)) left h

go_on : (end : ℕ) (left tokens : List Token) → GoOn end left tokens
go_on end left [] = (refused (BadGroup end) left, refused (BadGroup end) left)
go_on end left (token ∷ after) =
    (λ h. from_text end left token.kind token.at token.text token.fresh after (go_on end left after) h, λ h. from_comma end left token.kind token.at token.text token.fresh after (go_on end left after) h)

from_open : (end : ℕ) (left : List Token) (kind : Kind) (at : ℕ) (text : List ℕ) (fresh : Bool) (after : List Token) → behind_arguments end kinds.OpenParen (token_of kind at text fresh ∷ after) ≡ Ok left → UpTo AreArguments (token_of kind at text fresh ∷ after) left
from_open end left kinds.Word at text fresh after h = as_arguments (token_of kinds.Word at text fresh ∷ after) left (cons_text (token_of kinds.Word at text fresh) after left refl ((go_on end left after).0 h))
from_open end left kinds.Quoted at text fresh after h = as_arguments (token_of kinds.Quoted at text fresh ∷ after) left (cons_text (token_of kinds.Quoted at text fresh) after left refl ((go_on end left after).0 (sym (string_alike end after) ∙ h)))
from_open end left kinds.CloseParen at text fresh after h =
    record { arguments = []; closing = token_of kinds.CloseParen at text fresh; split = ap (λ (ts : List Token). token_of kinds.CloseParen at text fresh ∷ ts) (same_rest after left h); closes = refl; are = refl }
from_open end left kind at text fresh after h = refused (unexpected (token_of kind at text fresh)) left h

-- what is passed as arguments are arguments
pub arguments_of : (end : ℕ) (left tokens : List Token) → behind_arguments end kinds.OpenParen tokens ≡ Ok left → UpTo AreArguments tokens left
arguments_of end left [] h = refused (BadGroup end) left h
arguments_of end left (token ∷ after) h = from_open end left token.kind token.at token.text token.fresh after h
