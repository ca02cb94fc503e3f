-- The faults of a reading do not depend on its terms.
use Rattle.std.proofs.Common.{◌≡◌, ℕ, ◌+◌, Bool, true, false, cond, ◌&&◌, not, ◌||◌, nat_lt, slice_index, List, []}
use Rattle.std.proofs.Common.{◌∷◌, Option, Some, Result, Ok, Err, inl, inr, refl, ap, sym, ◌∙◌, subst}
use Rattle.std.specs.List.{list_any, position_from}
use Rattle.std.specs.Str.{bytes_eq}
use Rattle.cg_limit.specs.Answers.{OrNoMemory}
use Rattle.cg_limit.specs.declared.TheConstants.{MOST_NESTING}
use Rattle.cg_cell.specs.Term.{Term, Bit, Inverse}
use Rattle.cg_liberty_expression.specs.Reading.{Pending, OrLeft, AndLeft, XorLeft, Inversion, Bracket, Ended, Mode, Expects, Has, after}
use Rattle.cg_liberty_expression.specs.Reading.{and_end, at_end, begin, closed, complete, constant, finish, go_on, has_leaf, inv_end}
use Rattle.cg_liberty_expression.specs.Reading.{join_and, join_or, join_xor, leaf, nesting, opened, or_end, read_on, step, variable}
use Rattle.cg_liberty_expression.specs.Reading.{xor_end}
use Rattle.cg_liberty_expression.specs.Tokens.{TokenKind, Token, Word, OrSign, AndSign, XorSign, NotSign, PrimeSign, OpenBracket}
use Rattle.cg_liberty_expression.specs.Tokens.{CloseBracket, Other, is_digit, is_letter}
use Rattle.cg_liberty_expression.specs.Reads.{settled}
use Rattle.cg_liberty_expression.specs.inner.Blanked.{blank, blanks, blank_mode, blanked, is_known, stand_in, with_constants}
use Rattle.cg_liberty_expression.specs.declared.fault.ExprFault.{ExprFault}
use Rattle.cg_liberty_expression.specs.declared.fault.ExprFault.TheVariants.{BadExpr, UnknownPin, TooDeep, NoMemory}

-- What waits, without its terms

blank_twice : (p : Pending) → blank (blank p) ≡ blank p
blank_twice (OrLeft t) = refl
blank_twice (AndLeft t) = refl
blank_twice (XorLeft t) = refl
blank_twice Inversion = refl
blank_twice Bracket = refl

blanks_twice : (ps : List Pending) → blanks (blanks ps) ≡ blanks ps
blanks_twice [] = refl
blanks_twice (p ∷ ps) = rw (blank_twice p) (ap (λ (qs : List Pending). blank p ∷ qs) (blanks_twice ps))

again : (ps qs : List Pending) → blanks ps ≡ qs → blanks ps ≡ blanks qs
again ps qs h = sym (blanks_twice ps) ∙ ap blanks h

nesting_blanks : (ps : List Pending) → nesting (blanks ps) ≡ nesting ps
nesting_blanks [] = refl
nesting_blanks (OrLeft t ∷ ps) = nesting_blanks ps
nesting_blanks (AndLeft t ∷ ps) = nesting_blanks ps
nesting_blanks (XorLeft t ∷ ps) = nesting_blanks ps
nesting_blanks (Inversion ∷ ps) = ap (λ (n : ℕ). n + 1) (nesting_blanks ps)
nesting_blanks (Bracket ∷ ps) = ap (λ (n : ℕ). n + 1) (nesting_blanks ps)

-- Levels that end

abbrev ended : Term → List Pending → Ended
ended t ps = record { term = t; pending = ps }

inv_blanks : (t u : Term) (ps : List Pending) → blanks (inv_end t ps).pending ≡ (inv_end u (blanks ps)).pending
inv_blanks t u [] = refl
inv_blanks t u (OrLeft s ∷ ps) = refl
inv_blanks t u (AndLeft s ∷ ps) = refl
inv_blanks t u (XorLeft s ∷ ps) = refl
inv_blanks t u (Inversion ∷ ps) = inv_blanks (Inverse t) (Inverse u) ps
inv_blanks t u (Bracket ∷ ps) = refl

join_xor_blanks : (t u : Term) (ps : List Pending) → blanks (join_xor (ended t ps)).pending ≡ (join_xor (ended u (blanks ps))).pending
join_xor_blanks t u [] = refl
join_xor_blanks t u (OrLeft s ∷ ps) = refl
join_xor_blanks t u (AndLeft s ∷ ps) = refl
join_xor_blanks t u (XorLeft s ∷ ps) = refl
join_xor_blanks t u (Inversion ∷ ps) = refl
join_xor_blanks t u (Bracket ∷ ps) = refl

join_and_blanks : (t u : Term) (ps : List Pending) → blanks (join_and (ended t ps)).pending ≡ (join_and (ended u (blanks ps))).pending
join_and_blanks t u [] = refl
join_and_blanks t u (OrLeft s ∷ ps) = refl
join_and_blanks t u (AndLeft s ∷ ps) = refl
join_and_blanks t u (XorLeft s ∷ ps) = refl
join_and_blanks t u (Inversion ∷ ps) = refl
join_and_blanks t u (Bracket ∷ ps) = refl

join_or_blanks : (t u : Term) (ps : List Pending) → blanks (join_or (ended t ps)).pending ≡ (join_or (ended u (blanks ps))).pending
join_or_blanks t u [] = refl
join_or_blanks t u (OrLeft s ∷ ps) = refl
join_or_blanks t u (AndLeft s ∷ ps) = refl
join_or_blanks t u (XorLeft s ∷ ps) = refl
join_or_blanks t u (Inversion ∷ ps) = refl
join_or_blanks t u (Bracket ∷ ps) = refl

xor_blanks : (t u : Term) (ps : List Pending) → blanks (xor_end t ps).pending ≡ (xor_end u (blanks ps)).pending
xor_blanks t u ps = subst (λ (qs : List Pending). blanks (xor_end t ps).pending ≡ (join_xor (ended (inv_end u (blanks ps)).term qs)).pending) (inv_blanks t u ps) (join_xor_blanks (inv_end t ps).term (inv_end u (blanks ps)).term (inv_end t ps).pending)

and_blanks : (t u : Term) (ps : List Pending) → blanks (and_end t ps).pending ≡ (and_end u (blanks ps)).pending
and_blanks t u ps = subst (λ (qs : List Pending). blanks (and_end t ps).pending ≡ (join_and (ended (xor_end u (blanks ps)).term qs)).pending) (xor_blanks t u ps) (join_and_blanks (xor_end t ps).term (xor_end u (blanks ps)).term (xor_end t ps).pending)

or_blanks : (t u : Term) (ps : List Pending) → blanks (or_end t ps).pending ≡ (or_end u (blanks ps)).pending
or_blanks t u ps = subst (λ (qs : List Pending). blanks (or_end t ps).pending ≡ (join_or (ended (and_end u (blanks ps)).term qs)).pending) (and_blanks t u ps) (join_or_blanks (and_end t ps).term (and_end u (blanks ps)).term (and_end t ps).pending)

-- A token, whatever the terms

has_leaf_blank : (r : Result Term ExprFault) (ps : List Pending) → blanked (has_leaf r ps) ≡ blanked (has_leaf r (blanks ps))
has_leaf_blank (Ok t) ps = ap (λ (qs : List Pending). Ok (Has (Bit false) qs)) (sym (blanks_twice ps))
has_leaf_blank (Err fault) ps = refl

abbrev open_if : Bool → ℕ → Pending → List Pending → Result Mode ExprFault
open_if b at opening ps = cond b (Ok (Expects (opening ∷ ps))) (Err (TooDeep at))

open_if_blank : (b : Bool) (at : ℕ) (opening : Pending) (ps : List Pending) → blanked (open_if b at opening ps) ≡ blanked (open_if b at opening (blanks ps))
open_if_blank true at opening ps = ap (λ (qs : List Pending). Ok (Expects (blank opening ∷ qs))) (sym (blanks_twice ps))
open_if_blank false at opening ps = refl

opened_blank : (at : ℕ) (opening : Pending) (ps : List Pending) → blanked (opened at opening ps) ≡ blanked (opened at opening (blanks ps))
opened_blank at opening ps = subst (λ (n : ℕ). blanked (opened at opening ps) ≡ blanked (open_if (nat_lt n MOST_NESTING) at opening (blanks ps))) (sym (nesting_blanks ps)) (open_if_blank (nat_lt (nesting ps) MOST_NESTING) at opening ps)

closed_blank : (at : ℕ) (t u : Term) (ps : List Pending) → blanked (closed at (ended t ps)) ≡ blanked (closed at (ended u (blanks ps)))
closed_blank at t u [] = refl
closed_blank at t u (OrLeft s ∷ ps) = refl
closed_blank at t u (AndLeft s ∷ ps) = refl
closed_blank at t u (XorLeft s ∷ ps) = refl
closed_blank at t u (Inversion ∷ ps) = refl
closed_blank at t u (Bracket ∷ ps) = ap (λ (qs : List Pending). Ok (Has (Bit false) qs)) (sym (blanks_twice ps))

complete_blank : (end : ℕ) (t u : Term) (ps : List Pending) → settled (complete end (ended t ps)) ≡ settled (complete end (ended u (blanks ps)))
complete_blank end t u [] = refl
complete_blank end t u (p ∷ ps) = refl

finish_blank : (end : ℕ) (mode : Mode) → settled (finish end mode) ≡ settled (finish end (blank_mode mode))
finish_blank end (Expects ps) = refl
finish_blank end (Has t ps) = subst (λ (qs : List Pending). settled (finish end (Has t ps)) ≡ settled (complete end (ended (or_end (Bit false) (blanks ps)).term qs))) (or_blanks t (Bit false) ps) (complete_blank end (or_end t ps).term (or_end (Bit false) (blanks ps)).term (or_end t ps).pending)

module _ (pins : List (List ℕ)) where
  begin_blank : (ps : List Pending) (at : ℕ) (kind : TokenKind) → blanked (begin pins ps (record { at = at; kind = kind })) ≡ blanked (begin pins (blanks ps) (record { at = at; kind = kind }))
  begin_blank ps at (Word word) = has_leaf_blank (leaf pins at word) ps
  begin_blank ps at OrSign = refl
  begin_blank ps at AndSign = refl
  begin_blank ps at XorSign = refl
  begin_blank ps at NotSign = opened_blank at Inversion ps
  begin_blank ps at PrimeSign = refl
  begin_blank ps at OpenBracket = opened_blank at Bracket ps
  begin_blank ps at CloseBracket = refl
  begin_blank ps at Other = refl

  begin_anded : (t : Term) (ps : List Pending) (at : ℕ) (kind : TokenKind) → blanked (begin pins (AndLeft (and_end t ps).term ∷ (and_end t ps).pending) (record { at = at; kind = kind })) ≡ blanked (begin pins (AndLeft (and_end (Bit false) (blanks ps)).term ∷ (and_end (Bit false) (blanks ps)).pending) (record { at = at; kind = kind }))
  begin_anded t ps at kind =
      let same : blanks (and_end t ps).pending ≡ blanks (and_end (Bit false) (blanks ps)).pending = again (and_end t ps).pending (and_end (Bit false) (blanks ps)).pending (and_blanks t (Bit false) ps) in
      begin_blank (AndLeft (and_end t ps).term ∷ (and_end t ps).pending) at kind
      ∙ ap (λ (qs : List Pending). blanked (begin pins (AndLeft (Bit false) ∷ qs) (record { at = at; kind = kind }))) same
      ∙ sym (begin_blank (AndLeft (and_end (Bit false) (blanks ps)).term ∷ (and_end (Bit false) (blanks ps)).pending) at kind)

  go_on_blank : (t : Term) (ps : List Pending) (at : ℕ) (kind : TokenKind) → blanked (go_on pins t ps (record { at = at; kind = kind })) ≡ blanked (go_on pins (Bit false) (blanks ps) (record { at = at; kind = kind }))
  go_on_blank t ps at (Word word) = begin_anded t ps at (Word word)
  go_on_blank t ps at OrSign = ap (λ (qs : List Pending). Ok (Expects (OrLeft (Bit false) ∷ qs))) (again (or_end t ps).pending (or_end (Bit false) (blanks ps)).pending (or_blanks t (Bit false) ps))
  go_on_blank t ps at AndSign = ap (λ (qs : List Pending). Ok (Expects (AndLeft (Bit false) ∷ qs))) (again (and_end t ps).pending (and_end (Bit false) (blanks ps)).pending (and_blanks t (Bit false) ps))
  go_on_blank t ps at XorSign = ap (λ (qs : List Pending). Ok (Expects (XorLeft (Bit false) ∷ qs))) (again (xor_end t ps).pending (xor_end (Bit false) (blanks ps)).pending (xor_blanks t (Bit false) ps))
  go_on_blank t ps at NotSign = begin_anded t ps at NotSign
  go_on_blank t ps at PrimeSign = ap (λ (qs : List Pending). Ok (Has (Bit false) qs)) (sym (blanks_twice ps))
  go_on_blank t ps at OpenBracket = begin_anded t ps at OpenBracket
  go_on_blank t ps at CloseBracket = subst (λ (qs : List Pending). blanked (closed at (or_end t ps)) ≡ blanked (closed at (ended (or_end (Bit false) (blanks ps)).term qs))) (or_blanks t (Bit false) ps) (closed_blank at (or_end t ps).term (or_end (Bit false) (blanks ps)).term (or_end t ps).pending)
  go_on_blank t ps at Other = refl

  step_blank : (mode : Mode) (token : Token) → blanked (step pins mode token) ≡ blanked (step pins (blank_mode mode) token)
  step_blank (Expects ps) token = begin_blank ps token.at token.kind
  step_blank (Has t ps) token = go_on_blank t ps token.at token.kind

  after_blank : (r : Result Mode ExprFault) (token : Token) → blanked (after pins r token) ≡ blanked (after pins (blanked r) token)
  after_blank (Ok mode) token = step_blank mode token
  after_blank (Err fault) token = refl

  at_end_blank : (end : ℕ) (r : Result Mode ExprFault) → settled (at_end end r) ≡ settled (at_end end (blanked r))
  at_end_blank end (Ok mode) = finish_blank end mode
  at_end_blank end (Err fault) = refl

  -- readings that differ in their terms alone end in the same way
  same_end : (end : ℕ) (r s : Result Mode ExprFault) (tokens : List Token) → blanked r ≡ blanked s → settled (read_on pins end r tokens) ≡ settled (read_on pins end s tokens)
  same_end end r s [] h = at_end_blank end r ∙ ap (λ (x : Result Mode ExprFault). settled (at_end end x)) h ∙ sym (at_end_blank end s)
  same_end end r s (token ∷ tokens) h = same_end end (after pins r token) (after pins s token) tokens (after_blank r token ∙ ap (λ (x : Result Mode ExprFault). blanked (after pins x token)) h ∙ sym (after_blank s token))

  fault_to_end : (end : ℕ) (fault : ExprFault) (tokens : List Token) → read_on pins end (Err fault) tokens ≡ Err fault
  fault_to_end end fault [] = refl
  fault_to_end end fault (token ∷ tokens) = fault_to_end end fault tokens

-- a token behind which a reading goes on
pub checked_on : (pins : List (List ℕ)) (end : ℕ) (mode next : Mode) (token : Token) (tokens : List Token) → blanked (step pins mode token) ≡ Ok (blank_mode next) → settled (read_on pins end (Ok next) tokens) ≡ settled (read_on pins end (Ok mode) (token ∷ tokens))
checked_on pins end mode next token tokens h = same_end pins end (Ok next) (step pins mode token) tokens (sym h)

-- a token with a fault
pub checked_fault : (pins : List (List ℕ)) (end : ℕ) (mode : Mode) (fault : ExprFault) (token : Token) (tokens : List Token) → blanked (step pins mode token) ≡ Err fault → settled (read_on pins end (Ok mode) (token ∷ tokens)) ≡ Err fault
checked_fault pins end mode fault token tokens h = same_end pins end (step pins mode token) (Err fault) tokens h ∙ ap settled (fault_to_end pins end fault tokens)

-- the fault of a token is the answer, and want of memory may come in place of any
pub refused : {A B : Type 0} (view : A → Mode) (none : B → Unit {0}) (pins : List (List ℕ)) (end : ℕ) (mode : Mode) (fault : ExprFault) (token : Token) (tokens all : List Token) (whole : Result (Unit {0}) ExprFault) → OrNoMemory NoMemory view (Err fault) (blanked (step pins mode token)) → all ≡ token ∷ tokens → settled (read_on pins end (Ok mode) all) ≡ whole → OrNoMemory NoMemory none (Err fault) whole
refused view none pins end mode fault token tokens all whole (inl none_left) is same = inl none_left
refused view none pins end mode fault token tokens all whole (inr h) is same = inr (sym whole_is ∙ checked_fault pins end mode fault token tokens h)
  where
    whole_is : settled (read_on pins end (Ok mode) (token ∷ tokens)) ≡ whole
    whole_is = subst (λ (ts : List Token). settled (read_on pins end (Ok mode) ts) ≡ whole) is same

-- A constant in the place of a name

known_place : (word : List ℕ) (i : ℕ) (names : List (List ℕ)) (at : ℕ) → settled (variable at (position_from (bytes_eq word) i names)) ≡ cond (list_any (bytes_eq word) names) (Ok tt) (Err (UnknownPin at))
known_place word i [] at = refl
known_place word i (name ∷ names) at = pick (bytes_eq word name) (known_place word (i + 1) names at)
  where
    pick : (b : Bool) → settled (variable at (position_from (bytes_eq word) (i + 1) names)) ≡ cond (list_any (bytes_eq word) names) (Ok tt) (Err (UnknownPin at)) → settled (variable at (cond b (Some i) (position_from (bytes_eq word) (i + 1) names))) ≡ cond (b || list_any (bytes_eq word) names) (Ok tt) (Err (UnknownPin at))
    pick true h = refl
    pick false h = h

abbrev leaf_of : Bool → Bool → ℕ → List ℕ → Option ℕ → Result Term ExprFault
leaf_of digit letter at word place = cond digit (constant at word) (cond letter (variable at place) (Err (BadExpr at)))

leaf_known : (digit letter known : Bool) (at : ℕ) (word : List ℕ) (place : Option ℕ) → settled (variable at place) ≡ cond known (Ok tt) (Err (UnknownPin at)) → digit ≡ is_digit (slice_index word 0) → letter ≡ is_letter (slice_index word 0) → settled (leaf_of digit letter at word place) ≡ settled (leaf [] at (cond (not digit && (letter && known)) (49 ∷ []) word))
leaf_known true letter known at word place h is_d is_l = rw (← is_d) refl
leaf_known false true true at word place h is_d is_l = h
leaf_known false true false at word place h is_d is_l = rw (← is_d, ← is_l) h
leaf_known false false known at word place h is_d is_l = rw (← is_d, ← is_l) refl

leaf_same : (names : List (List ℕ)) (at : ℕ) (word : List ℕ) → settled (leaf names at word) ≡ settled (leaf [] at (cond (is_known names word) (49 ∷ []) word))
leaf_same names at word = leaf_known (is_digit (slice_index word 0)) (is_letter (slice_index word 0)) (list_any (bytes_eq word) names) at word (position_from (bytes_eq word) 0 names) (known_place word 0 names at) refl refl

has_leaf_same : (r s : Result Term ExprFault) (ps : List Pending) → settled r ≡ settled s → blanked (has_leaf r ps) ≡ blanked (has_leaf s ps)
has_leaf_same (Ok t) (Ok u) ps h = refl
has_leaf_same (Ok t) (Err fault) ps h = cc
has_leaf_same (Err fault) (Ok u) ps h = cc
has_leaf_same (Err fault) (Err other) ps h = cc

module _ (names : List (List ℕ)) where
  begin_same : (ps : List Pending) (at : ℕ) (kind : TokenKind) → blanked (begin names ps (record { at = at; kind = kind })) ≡ blanked (begin [] ps (record { at = at; kind = stand_in names kind }))
  begin_same ps at (Word word) = has_leaf_same (leaf names at word) (leaf [] at (cond (is_known names word) (49 ∷ []) word)) ps (leaf_same names at word)
  begin_same ps at OrSign = refl
  begin_same ps at AndSign = refl
  begin_same ps at XorSign = refl
  begin_same ps at NotSign = refl
  begin_same ps at PrimeSign = refl
  begin_same ps at OpenBracket = refl
  begin_same ps at CloseBracket = refl
  begin_same ps at Other = refl

  go_on_same : (t : Term) (ps : List Pending) (at : ℕ) (kind : TokenKind) → blanked (go_on names t ps (record { at = at; kind = kind })) ≡ blanked (go_on [] t ps (record { at = at; kind = stand_in names kind }))
  go_on_same t ps at (Word word) = begin_same (AndLeft (and_end t ps).term ∷ (and_end t ps).pending) at (Word word)
  go_on_same t ps at OrSign = refl
  go_on_same t ps at AndSign = refl
  go_on_same t ps at XorSign = refl
  go_on_same t ps at NotSign = refl
  go_on_same t ps at PrimeSign = refl
  go_on_same t ps at OpenBracket = refl
  go_on_same t ps at CloseBracket = refl
  go_on_same t ps at Other = refl

-- a token over some names is that token over none, with constants for those that are known
pub step_same : (names : List (List ℕ)) (mode : Mode) (token : Token) → blanked (step names mode token) ≡ blanked (step [] mode (with_constants names token))
step_same names (Expects ps) token = begin_same names ps token.at token.kind
step_same names (Has t ps) token = go_on_same names t ps token.at token.kind

pub ruleset checks = (checked_on, checked_fault, step_same)
