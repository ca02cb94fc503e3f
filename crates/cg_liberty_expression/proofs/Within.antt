-- What is read over some pins names no other input.
use Rattle.std.proofs.Common.{◌≡◌, ℕ, ◌+◌, ◌<◌, Bool, true, false, ◌&&◌, cond, nat_lt, slice_index, List, [], ◌∷◌, length, Option}
use Rattle.std.proofs.Common.{None, Some, IfSome, IfOk, Result, Ok, Err, IsTrue, refl, ◌∙◌, subst, arith}
use Rattle.std.proofs.lemmas.Bool.Decides.{nat_tests}
use Rattle.std.specs.List.{position_from}
use Rattle.std.specs.Str.{bytes_eq}
use Rattle.cg_limit.specs.Answers.{OrNoMemory}
use Rattle.cg_limit.specs.declared.TheConstants.{MOST_NESTING}
use Rattle.cg_liberty_expression.specs.Reading.{Pending, OrLeft, AndLeft, XorLeft, Inversion, Bracket, Ended, Mode, Expects, Has, after}
use Rattle.cg_liberty_expression.specs.Reading.{and_end, begin, closed, complete, constant, finish, go_on, has_leaf, inv_end, join_and}
use Rattle.cg_liberty_expression.specs.Reading.{join_or, join_xor, leaf, nesting, or_end, read_on, read_text, variable, xor_end}
use Rattle.cg_liberty_expression.specs.Tokens.{TokenKind, Token, Word, OrSign, AndSign, XorSign, NotSign, PrimeSign, OpenBracket}
use Rattle.cg_liberty_expression.specs.Tokens.{CloseBracket, Other, is_digit, is_letter, tokens_from}
use Rattle.cg_cell.specs.Term.{Term, Bit, Inverse, is_within}
use Rattle.cg_cell.specs.Expr.{is_over, term_of}
use Rattle.cg_cell.specs.declared.expr.Expr.{Expr}
use Rattle.cg_liberty_expression.specs.declared.fault.ExprFault.{ExprFault}
use Rattle.cg_liberty_expression.specs.declared.fault.ExprFault.TheVariants.{BadExpr, TooDeep, NoMemory}
use Rattle.cg_cell.proofs.Terms.{says_term}

module _ (n : ℕ) where
  abbrev Within : Term → Type 0
  Within t = IsTrue (is_within n t)

  abbrev AllWithin : List Pending → Type 0
  AllWithin [] = Unit {0}
  AllWithin (OrLeft t ∷ pending) = Within t × AllWithin pending
  AllWithin (AndLeft t ∷ pending) = Within t × AllWithin pending
  AllWithin (XorLeft t ∷ pending) = Within t × AllWithin pending
  AllWithin (Inversion ∷ pending) = AllWithin pending
  AllWithin (Bracket ∷ pending) = AllWithin pending

  record EndedWithin (e : Ended) : Type 0 where
    term : Within e.term
    pending : AllWithin e.pending

  abbrev ModeWithin : Mode → Type 0
  ModeWithin (Expects pending) = AllWithin pending
  ModeWithin (Has t pending) = Within t × AllWithin pending

  abbrev ReadsWithin : {A : Type 0} → (A → Type 0) → Result A ExprFault → Type 0
  ReadsWithin P (Ok a) = P a
  ReadsWithin P (Err fault) = Unit {0}

  both_within : (a b : Bool) → IsTrue a → IsTrue b → IsTrue (a && b)
  both_within true b h k = k
  both_within false b h k = h

  inv_end-within : (t : Term) (pending : List Pending) → Within t → AllWithin pending → EndedWithin (inv_end t pending)
  inv_end-within t [] h k = record { term = h; pending = k }
  inv_end-within t (OrLeft s ∷ pending) h k = record { term = h; pending = k }
  inv_end-within t (AndLeft s ∷ pending) h k = record { term = h; pending = k }
  inv_end-within t (XorLeft s ∷ pending) h k = record { term = h; pending = k }
  inv_end-within t (Inversion ∷ pending) h k = inv_end-within (Inverse t) pending h k
  inv_end-within t (Bracket ∷ pending) h k = record { term = h; pending = k }

  join_xor-within : (t : Term) (pending : List Pending) → Within t → AllWithin pending → EndedWithin (join_xor (record { term = t; pending = pending }))
  join_xor-within t [] h k = record { term = h; pending = k }
  join_xor-within t (OrLeft s ∷ pending) h k = record { term = h; pending = k }
  join_xor-within t (AndLeft s ∷ pending) h k = record { term = h; pending = k }
  join_xor-within t (XorLeft s ∷ pending) h k = record { term = both_within (is_within n s) (is_within n t) k.0 h; pending = k.1 }
  join_xor-within t (Inversion ∷ pending) h k = record { term = h; pending = k }
  join_xor-within t (Bracket ∷ pending) h k = record { term = h; pending = k }

  join_and-within : (t : Term) (pending : List Pending) → Within t → AllWithin pending → EndedWithin (join_and (record { term = t; pending = pending }))
  join_and-within t [] h k = record { term = h; pending = k }
  join_and-within t (OrLeft s ∷ pending) h k = record { term = h; pending = k }
  join_and-within t (AndLeft s ∷ pending) h k = record { term = both_within (is_within n s) (is_within n t) k.0 h; pending = k.1 }
  join_and-within t (XorLeft s ∷ pending) h k = record { term = h; pending = k }
  join_and-within t (Inversion ∷ pending) h k = record { term = h; pending = k }
  join_and-within t (Bracket ∷ pending) h k = record { term = h; pending = k }

  join_or-within : (t : Term) (pending : List Pending) → Within t → AllWithin pending → EndedWithin (join_or (record { term = t; pending = pending }))
  join_or-within t [] h k = record { term = h; pending = k }
  join_or-within t (OrLeft s ∷ pending) h k = record { term = both_within (is_within n s) (is_within n t) k.0 h; pending = k.1 }
  join_or-within t (AndLeft s ∷ pending) h k = record { term = h; pending = k }
  join_or-within t (XorLeft s ∷ pending) h k = record { term = h; pending = k }
  join_or-within t (Inversion ∷ pending) h k = record { term = h; pending = k }
  join_or-within t (Bracket ∷ pending) h k = record { term = h; pending = k }

  xor_end-within : (t : Term) (pending : List Pending) → Within t → AllWithin pending → EndedWithin (xor_end t pending)
  xor_end-within t pending h k = let e = inv_end-within t pending h k in join_xor-within (inv_end t pending).term (inv_end t pending).pending e.term e.pending

  and_end-within : (t : Term) (pending : List Pending) → Within t → AllWithin pending → EndedWithin (and_end t pending)
  and_end-within t pending h k = let e = xor_end-within t pending h k in join_and-within (xor_end t pending).term (xor_end t pending).pending e.term e.pending

  or_end-within : (t : Term) (pending : List Pending) → Within t → AllWithin pending → EndedWithin (or_end t pending)
  or_end-within t pending h k = let e = and_end-within t pending h k in join_or-within (and_end t pending).term (and_end t pending).pending e.term e.pending

  cond_reads : {A : Type 0} (P : A → Type 0) (b : Bool) (x y : Result A ExprFault) → ReadsWithin P x → ReadsWithin P y → ReadsWithin P (cond b x y)
  cond_reads P true x y h k = h
  cond_reads P false x y h k = k

  variable-within : (at : ℕ) (place : Option ℕ) → IfSome place (λ k. k < n) → ReadsWithin Within (variable at place)
  variable-within at None h = tt
  variable-within at (Some k) h = below k n h
    where
      below : (k n : ℕ) → k < n → IsTrue (nat_lt k n)
      below k n h = grind (arith, nat_tests)

  opened-within : (at : ℕ) (pending : List Pending) (mode : Mode) → ModeWithin mode → ReadsWithin ModeWithin (cond (nat_lt (nesting pending) MOST_NESTING) (Ok mode) (Err (TooDeep at)))
  opened-within at pending mode h = cond_reads ModeWithin (nat_lt (nesting pending) MOST_NESTING) (Ok mode) (Err (TooDeep at)) h tt

  closed-within : (at : ℕ) (t : Term) (pending : List Pending) → Within t → AllWithin pending → ReadsWithin ModeWithin (closed at (record { term = t; pending = pending }))
  closed-within at t [] h k = tt
  closed-within at t (OrLeft s ∷ pending) h k = tt
  closed-within at t (AndLeft s ∷ pending) h k = tt
  closed-within at t (XorLeft s ∷ pending) h k = tt
  closed-within at t (Inversion ∷ pending) h k = tt
  closed-within at t (Bracket ∷ pending) h k = (h, k)

  complete-within : (end : ℕ) (t : Term) (pending : List Pending) → Within t → ReadsWithin Within (complete end (record { term = t; pending = pending }))
  complete-within end t [] h = h
  complete-within end t (p ∷ pending) h = tt

  finish-within : (end : ℕ) (mode : Mode) → ModeWithin mode → ReadsWithin Within (finish end mode)
  finish-within end (Expects pending) h = tt
  finish-within end (Has t pending) h = let e = or_end-within t pending h.0 h.1 in complete-within end (or_end t pending).term (or_end t pending).pending e.term

  has_leaf-within : (r : Result Term ExprFault) (pending : List Pending) → ReadsWithin Within r → AllWithin pending → ReadsWithin ModeWithin (has_leaf r pending)
  has_leaf-within (Ok t) pending h k = (h, k)
  has_leaf-within (Err fault) pending h k = tt

-- the place of an element is within the list
position_from-within : {X : Type 0} (test : X → Bool) (i : ℕ) (xs : List X) → IfSome (position_from test i xs) (λ k. k < i + length xs)
position_from-within test i [] = tt
position_from-within test i (x ∷ xs) = pick (test x) (position_from-within test (i + 1) xs)
  where
    weaker : (o : Option ℕ) → IfSome o (λ k. k < i + 1 + length xs) → IfSome o (λ k. k < i + length (x ∷ xs))
    weaker None h = tt
    weaker (Some k) h = omega arith

    pick : (b : Bool) → IfSome (position_from test (i + 1) xs) (λ k. k < i + 1 + length xs) → IfSome (cond b (Some i) (position_from test (i + 1) xs)) (λ k. k < i + length (x ∷ xs))
    pick true h = omega arith
    pick false h = weaker (position_from test (i + 1) xs) h

place-within : {X : Type 0} (test : X → Bool) (xs : List X) → IfSome (position_from test 0 xs) (λ k. k < length xs)
place-within test xs = let e : 0 + length xs ≡ length xs = omega arith in subst (λ (m : ℕ). IfSome (position_from test 0 xs) (λ k. k < m)) e (position_from-within test 0 xs)

module _ (pins : List (List ℕ)) where
  abbrev many : ℕ
  many = length pins

  leaf-within : (at : ℕ) (word : List ℕ) → ReadsWithin many (Within many) (leaf pins at word)
  leaf-within at word =
      let zero_or_one = cond_reads many (Within many) (bytes_eq word (48 ∷ [])) (Ok (Bit false)) (cond (bytes_eq word (49 ∷ [])) (Ok (Bit true)) (Err (BadExpr at))) refl (
      cond_reads many (Within many) (bytes_eq word (49 ∷ [])) (Ok (Bit true)) (Err (BadExpr at)) refl tt) in
      let pin = variable-within many at (position_from (bytes_eq word) 0 pins) (place-within (bytes_eq word) pins) in
      cond_reads many (Within many) (is_digit (slice_index word 0)) (constant at word) (cond (is_letter (slice_index word 0)) (variable at (position_from (bytes_eq word) 0 pins)) (Err (BadExpr at))) zero_or_one (
      cond_reads many (Within many) (is_letter (slice_index word 0)) (variable at (position_from (bytes_eq word) 0 pins)) (Err (BadExpr at)) pin tt)

  begin-within : (pending : List Pending) (at : ℕ) (kind : TokenKind) → AllWithin many pending → ReadsWithin many (ModeWithin many) (begin pins pending (record { at = at; kind = kind }))
  begin-within pending at (Word word) h = has_leaf-within many (leaf pins at word) pending (leaf-within at word) h
  begin-within pending at OrSign h = tt
  begin-within pending at AndSign h = tt
  begin-within pending at XorSign h = tt
  begin-within pending at NotSign h = opened-within many at pending (Expects (Inversion ∷ pending)) h
  begin-within pending at PrimeSign h = tt
  begin-within pending at OpenBracket h = opened-within many at pending (Expects (Bracket ∷ pending)) h
  begin-within pending at CloseBracket h = tt
  begin-within pending at Other h = tt

  go_on-within : (t : Term) (pending : List Pending) (at : ℕ) (kind : TokenKind) → Within many t → AllWithin many pending → ReadsWithin many (ModeWithin many) (go_on pins t pending (record { at = at; kind = kind }))
  go_on-within t pending at (Word word) h k = let e = and_end-within many t pending h k in begin-within (AndLeft (and_end t pending).term ∷ (and_end t pending).pending) at (Word word) (e.term, e.pending)
  go_on-within t pending at OrSign h k = let e = or_end-within many t pending h k in (e.term, e.pending)
  go_on-within t pending at AndSign h k = let e = and_end-within many t pending h k in (e.term, e.pending)
  go_on-within t pending at XorSign h k = let e = xor_end-within many t pending h k in (e.term, e.pending)
  go_on-within t pending at NotSign h k = let e = and_end-within many t pending h k in begin-within (AndLeft (and_end t pending).term ∷ (and_end t pending).pending) at NotSign (e.term, e.pending)
  go_on-within t pending at PrimeSign h k = (h, k)
  go_on-within t pending at OpenBracket h k = let e = and_end-within many t pending h k in begin-within (AndLeft (and_end t pending).term ∷ (and_end t pending).pending) at OpenBracket (e.term, e.pending)
  go_on-within t pending at CloseBracket h k = let e = or_end-within many t pending h k in closed-within many at (or_end t pending).term (or_end t pending).pending e.term e.pending
  go_on-within t pending at Other h k = tt

  after-within : (reading : Result Mode ExprFault) (token : Token) → ReadsWithin many (ModeWithin many) reading → ReadsWithin many (ModeWithin many) (after pins reading token)
  after-within (Ok (Expects pending)) token h = begin-within pending token.at token.kind h
  after-within (Ok (Has t pending)) token h = go_on-within t pending token.at token.kind h.0 h.1
  after-within (Err fault) token h = tt

  read_on-within : (end : ℕ) (reading : Result Mode ExprFault) (tokens : List Token) → ReadsWithin many (ModeWithin many) reading → ReadsWithin many (Within many) (read_on pins end reading tokens)
  read_on-within end (Ok mode) [] h = finish-within many end mode h
  read_on-within end (Err fault) [] h = tt
  read_on-within end reading (token ∷ tokens) h = read_on-within end (after pins reading token) tokens (after-within reading token h)

-- what is read names no input but the pins
pub read_within : (pins : List (List ℕ)) (text : List ℕ) (r : Result Expr ExprFault) → OrNoMemory NoMemory term_of r (read_text pins text) → IfOk r (λ e. IsTrue (is_within (length pins) (term_of e)))
read_within pins text (Ok e) g = subst (ReadsWithin (length pins) (Within (length pins))) g (read_on-within pins (length text) (Ok (Expects [])) (tokens_from false 0 text) tt)
read_within pins text (Err fault) g = tt

pub within_over : (n : ℕ) (r : Result Expr ExprFault) → IfOk r (λ e. IsTrue (is_within n (term_of e))) → IfOk r (λ e. IsTrue (is_over n e))
within_over n (Ok e) h = (says_term e).over n ∙ h
within_over n (Err fault) h = tt
