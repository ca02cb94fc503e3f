-- What is read is in the grammar, and stands for the term that it is read as.
use Rattle.std.proofs.Common.{◌≡◌, ℕ, ◌+◌, ◌<◌, Bool, true, false, cond, nat_lt, List, [], ◌∷◌, ◌++◌, Result, Ok, Err, refl, ap}
use Rattle.std.proofs.Common.{sym, ◌∙◌, subst, length, append_assoc, append-nil, arith}
use Rattle.std.proofs.lemmas.Bool.Decides.{nat_tests}
use Rattle.cg_limit.specs.declared.TheConstants.{MOST_NESTING}
use Rattle.cg_liberty_expression.specs.Reading.{Pending, OrLeft, AndLeft, XorLeft, Inversion, Bracket, Ended, Mode, Expects, Has, after}
use Rattle.cg_liberty_expression.specs.Reading.{and_end, begin, closed, complete, go_on, has_leaf, inv_end, join_and, join_or, join_xor}
use Rattle.cg_liberty_expression.specs.Reading.{leaf, nesting, or_end, read_on, read_text, xor_end}
use Rattle.cg_liberty_expression.specs.Tokens.{TokenKind, Token, Word, OrSign, AndSign, XorSign, NotSign, PrimeSign, OpenBracket}
use Rattle.cg_liberty_expression.specs.Tokens.{CloseBracket, Other, tokens_from}
use Rattle.cg_liberty_expression.specs.Grammar.{ExprText, Level, PrimeLevel, NotLevel, XorLevel, AndLevel, OrLevel, ParsesAs, word}
use Rattle.cg_liberty_expression.specs.Grammar.{brackets, unprimed, primed, upright, inverted, one_of, xor, factor, and, neighbours}
use Rattle.cg_liberty_expression.specs.Grammar.{summand, or}
use Rattle.cg_cell.specs.Term.{Term, Inverse}
use Rattle.cg_liberty_expression.specs.declared.fault.ExprFault.{ExprFault}
use Rattle.cg_liberty_expression.specs.declared.fault.ExprFault.TheVariants.{TooDeep}
use Rattle.cg_liberty_expression.proofs.Grammar.{before_and, before_or, before_xor}

abbrev pub sign : ℕ → TokenKind → Token
sign at kind = record { at = at; kind = kind }

-- what waits, and the tokens that it was read from
pub data Waited (pins : List (List ℕ)) : List Pending → List Token → Type 0 where
  nothing : Waited pins [] []
  left_or : (ps : List Pending) (before ts : List Token) (at : ℕ) (s : Term) → Waited pins ps before → before_or ps → ParsesAs pins OrLevel (nesting ps) ts s → Waited pins (OrLeft s ∷ ps) (before ++ (ts ++ record { at = at; kind = OrSign } ∷ []))
  left_and : (ps : List Pending) (before ts : List Token) (at : ℕ) (s : Term) → Waited pins ps before → before_and ps → ParsesAs pins AndLevel (nesting ps) ts s → Waited pins (AndLeft s ∷ ps) (before ++ (ts ++ record { at = at; kind = AndSign } ∷ []))
  left_next : (ps : List Pending) (before ts : List Token) (s : Term) → Waited pins ps before → before_and ps → ParsesAs pins AndLevel (nesting ps) ts s → Waited pins (AndLeft s ∷ ps) (before ++ ts)
  left_xor : (ps : List Pending) (before ts : List Token) (at : ℕ) (s : Term) → Waited pins ps before → before_xor ps → ParsesAs pins XorLevel (nesting ps) ts s → Waited pins (XorLeft s ∷ ps) (before ++ (ts ++ record { at = at; kind = XorSign } ∷ []))
  not_open : (ps : List Pending) (before : List Token) (at : ℕ) → Waited pins ps before → nesting ps < MOST_NESTING → Waited pins (Inversion ∷ ps) (before ++ record { at = at; kind = NotSign } ∷ [])
  bracket_open : (ps : List Pending) (before : List Token) (at : ℕ) → Waited pins ps before → nesting ps < MOST_NESTING → Waited pins (Bracket ∷ ps) (before ++ record { at = at; kind = OpenBracket } ∷ [])

abbrev no_not : List Pending → Type 0
no_not (Inversion ∷ ps) = ⊥
no_not _ = Unit {0}

pub regroup : (a b c : List Token) (x : Token) → (a ++ (b ++ x ∷ [])) ++ c ≡ a ++ (b ++ x ∷ c)
regroup a b c x = append_assoc a (b ++ x ∷ []) c ∙ ap (λ l. a ++ l) (append_assoc b (x ∷ []) c)

pub grown : (all a b : List Token) (x : Token) → all ≡ a ++ b → all ++ x ∷ [] ≡ a ++ (b ++ x ∷ [])
grown all a b x e = ap (λ l. l ++ x ∷ []) e ∙ append_assoc a b (x ∷ [])

module _ (pins : List (List ℕ)) where
  -- a level has ended: its tokens stand for its term, behind those of what waits
  record Ends (level : Level) (free : List Pending → Type 0) (e : Ended) (all : List Token) : Type 0 where
    before : List Token
    ts : List Token
    waited : Waited pins e.pending before
    stands : ParsesAs pins level (nesting e.pending) ts e.term
    split : all ≡ before ++ ts
    is_free : free e.pending

  inv_end-ends : (t : Term) (ps : List Pending) (before ts all : List Token) → Waited pins ps before → ParsesAs pins NotLevel (nesting ps) ts t → all ≡ before ++ ts → Ends NotLevel no_not (inv_end t ps) all
  inv_end-ends t ps before ts all nothing h e = record { before = []; ts = ts; waited = nothing; stands = h; split = e; is_free = tt }
  inv_end-ends t ps before ts all (left_or qs b us at s w f st) h e = record { before = _; ts = ts; waited = left_or qs b us at s w f st; stands = h; split = e; is_free = tt }
  inv_end-ends t ps before ts all (left_and qs b us at s w f st) h e = record { before = _; ts = ts; waited = left_and qs b us at s w f st; stands = h; split = e; is_free = tt }
  inv_end-ends t ps before ts all (left_next qs b us s w f st) h e = record { before = _; ts = ts; waited = left_next qs b us s w f st; stands = h; split = e; is_free = tt }
  inv_end-ends t ps before ts all (left_xor qs b us at s w f st) h e = record { before = _; ts = ts; waited = left_xor qs b us at s w f st; stands = h; split = e; is_free = tt }
  inv_end-ends t ps before ts all (not_open qs b at w lt) h e = inv_end-ends (Inverse t) qs b (sign at NotSign ∷ ts) all w (inverted (nesting qs) at ts t lt h) (e ∙ append_assoc b (sign at NotSign ∷ []) ts)
  inv_end-ends t ps before ts all (bracket_open qs b at w lt) h e = record { before = _; ts = ts; waited = bracket_open qs b at w lt; stands = h; split = e; is_free = tt }

  join_xor-ends : (t : Term) (ps : List Pending) (before ts all : List Token) → Waited pins ps before → no_not ps → ParsesAs pins NotLevel (nesting ps) ts t → all ≡ before ++ ts → Ends XorLevel before_xor (join_xor (record { term = t; pending = ps })) all
  join_xor-ends t ps before ts all nothing n h e = record { before = []; ts = ts; waited = nothing; stands = one_of 0 ts t h; split = e; is_free = tt }
  join_xor-ends t ps before ts all (left_or qs b us at s w f st) n h e = record { before = _; ts = ts; waited = left_or qs b us at s w f st; stands = one_of (nesting qs) ts t h; split = e; is_free = tt }
  join_xor-ends t ps before ts all (left_and qs b us at s w f st) n h e = record { before = _; ts = ts; waited = left_and qs b us at s w f st; stands = one_of (nesting qs) ts t h; split = e; is_free = tt }
  join_xor-ends t ps before ts all (left_next qs b us s w f st) n h e = record { before = _; ts = ts; waited = left_next qs b us s w f st; stands = one_of (nesting qs) ts t h; split = e; is_free = tt }
  join_xor-ends t ps before ts all (left_xor qs b us at s w f st) n h e = record { before = b; ts = us ++ sign at XorSign ∷ ts; waited = w; stands = xor (nesting qs) at us ts s t st h; split = e ∙ regroup b us ts (sign at XorSign); is_free = f }
  join_xor-ends t ps before ts all (not_open qs b at w lt) n h e = absurd n
  join_xor-ends t ps before ts all (bracket_open qs b at w lt) n h e = record { before = _; ts = ts; waited = bracket_open qs b at w lt; stands = one_of (nesting qs + 1) ts t h; split = e; is_free = tt }

  join_and-ends : (t : Term) (ps : List Pending) (before ts all : List Token) → Waited pins ps before → before_xor ps → ParsesAs pins XorLevel (nesting ps) ts t → all ≡ before ++ ts → Ends AndLevel before_and (join_and (record { term = t; pending = ps })) all
  join_and-ends t ps before ts all nothing n h e = record { before = []; ts = ts; waited = nothing; stands = factor 0 ts t h; split = e; is_free = tt }
  join_and-ends t ps before ts all (left_or qs b us at s w f st) n h e = record { before = _; ts = ts; waited = left_or qs b us at s w f st; stands = factor (nesting qs) ts t h; split = e; is_free = tt }
  join_and-ends t ps before ts all (left_and qs b us at s w f st) n h e = record { before = b; ts = us ++ sign at AndSign ∷ ts; waited = w; stands = and (nesting qs) at us ts s t st h; split = e ∙ regroup b us ts (sign at AndSign); is_free = f }
  join_and-ends t ps before ts all (left_next qs b us s w f st) n h e = record { before = b; ts = us ++ ts; waited = w; stands = neighbours (nesting qs) us ts s t st h; split = e ∙ append_assoc b us ts; is_free = f }
  join_and-ends t ps before ts all (left_xor qs b us at s w f st) n h e = absurd n
  join_and-ends t ps before ts all (not_open qs b at w lt) n h e = absurd n
  join_and-ends t ps before ts all (bracket_open qs b at w lt) n h e = record { before = _; ts = ts; waited = bracket_open qs b at w lt; stands = factor (nesting qs + 1) ts t h; split = e; is_free = tt }

  join_or-ends : (t : Term) (ps : List Pending) (before ts all : List Token) → Waited pins ps before → before_and ps → ParsesAs pins AndLevel (nesting ps) ts t → all ≡ before ++ ts → Ends OrLevel before_or (join_or (record { term = t; pending = ps })) all
  join_or-ends t ps before ts all nothing n h e = record { before = []; ts = ts; waited = nothing; stands = summand 0 ts t h; split = e; is_free = tt }
  join_or-ends t ps before ts all (left_or qs b us at s w f st) n h e = record { before = b; ts = us ++ sign at OrSign ∷ ts; waited = w; stands = or (nesting qs) at us ts s t st h; split = e ∙ regroup b us ts (sign at OrSign); is_free = f }
  join_or-ends t ps before ts all (left_and qs b us at s w f st) n h e = absurd n
  join_or-ends t ps before ts all (left_next qs b us s w f st) n h e = absurd n
  join_or-ends t ps before ts all (left_xor qs b us at s w f st) n h e = absurd n
  join_or-ends t ps before ts all (not_open qs b at w lt) n h e = absurd n
  join_or-ends t ps before ts all (bracket_open qs b at w lt) n h e = record { before = _; ts = ts; waited = bracket_open qs b at w lt; stands = summand (nesting qs + 1) ts t h; split = e; is_free = tt }

  -- an operand, behind what waits
  pub record Has_read (t : Term) (ps : List Pending) (all : List Token) : Type 0 where
    pub before : List Token
    pub ts : List Token
    pub waited : Waited pins ps before
    pub stands : ParsesAs pins PrimeLevel (nesting ps) ts t
    pub split : all ≡ before ++ ts

  xor_end-ends : (t : Term) (ps : List Pending) (all : List Token) → Has_read t ps all → Ends XorLevel before_xor (xor_end t ps) all
  xor_end-ends t ps all h =
      let e = inv_end-ends t ps h.before h.ts all h.waited (upright (nesting ps) h.ts t h.stands) h.split in
      join_xor-ends (inv_end t ps).term (inv_end t ps).pending e.before e.ts all e.waited e.is_free e.stands e.split

  and_end-ends : (t : Term) (ps : List Pending) (all : List Token) → Has_read t ps all → Ends AndLevel before_and (and_end t ps) all
  and_end-ends t ps all h = let e = xor_end-ends t ps all h in join_and-ends (xor_end t ps).term (xor_end t ps).pending e.before e.ts all e.waited e.is_free e.stands e.split

  or_end-ends : (t : Term) (ps : List Pending) (all : List Token) → Has_read t ps all → Ends OrLevel before_or (or_end t ps) all
  or_end-ends t ps all h = let e = and_end-ends t ps all h in join_or-ends (and_end t ps).term (and_end t ps).pending e.before e.ts all e.waited e.is_free e.stands e.split

  abbrev pub ModeReads : Mode → List Token → Type 0
  ModeReads (Expects ps) all = Waited pins ps all
  ModeReads (Has t ps) all = Has_read t ps all

  abbrev pub Leads : Result Mode ExprFault → List Token → Type 0
  Leads (Ok mode) all = ModeReads mode all
  Leads (Err fault) all = Unit {0}

  below_64 : (n : ℕ) → nat_lt n MOST_NESTING ≡ true → n < MOST_NESTING
  below_64 n e = grind (arith, nat_tests)

  begin-leads : (ps : List Pending) (at : ℕ) (kind : TokenKind) (all : List Token) → Waited pins ps all → Leads (begin pins ps (record { at = at; kind = kind })) (all ++ record { at = at; kind = kind } ∷ [])
  begin-leads ps at (Word bytes) all w = pick (leaf pins at bytes) refl
    where
      pick : (r : Result Term ExprFault) → leaf pins at bytes ≡ r → Leads (has_leaf r ps) (all ++ record { at = at; kind = Word bytes } ∷ [])
      pick (Ok t) e = record { before = all; ts = record { at = at; kind = Word bytes } ∷ []; waited = w; stands = unprimed (nesting ps) _ t (word (nesting ps) at bytes t e); split = refl }
      pick (Err fault) e = tt
  begin-leads ps at OrSign all w = tt
  begin-leads ps at AndSign all w = tt
  begin-leads ps at XorSign all w = tt
  begin-leads ps at NotSign all w = pick (nat_lt (nesting ps) MOST_NESTING) refl
    where
      pick : (b : Bool) → nat_lt (nesting ps) MOST_NESTING ≡ b → Leads (cond b (Ok (Expects (Inversion ∷ ps))) (Err (TooDeep at))) (all ++ record { at = at; kind = NotSign } ∷ [])
      pick true e = not_open ps all at w (below_64 (nesting ps) e)
      pick false e = tt
  begin-leads ps at PrimeSign all w = tt
  begin-leads ps at OpenBracket all w = pick (nat_lt (nesting ps) MOST_NESTING) refl
    where
      pick : (b : Bool) → nat_lt (nesting ps) MOST_NESTING ≡ b → Leads (cond b (Ok (Expects (Bracket ∷ ps))) (Err (TooDeep at))) (all ++ record { at = at; kind = OpenBracket } ∷ [])
      pick true e = bracket_open ps all at w (below_64 (nesting ps) e)
      pick false e = tt
  begin-leads ps at CloseBracket all w = tt
  begin-leads ps at Other all w = tt

  closed-leads : (t : Term) (ps : List Pending) (at : ℕ) (before ts all : List Token) → Waited pins ps before → ParsesAs pins OrLevel (nesting ps) ts t → all ≡ before ++ ts
      → Leads (closed at (record { term = t; pending = ps })) (all ++ record { at = at; kind = CloseBracket } ∷ [])
  closed-leads t ps at before ts all nothing h e = tt
  closed-leads t ps at before ts all (left_or qs b us x s w f st) h e = tt
  closed-leads t ps at before ts all (left_and qs b us x s w f st) h e = tt
  closed-leads t ps at before ts all (left_next qs b us s w f st) h e = tt
  closed-leads t ps at before ts all (left_xor qs b us x s w f st) h e = tt
  closed-leads t ps at before ts all (not_open qs b x w lt) h e = tt
  closed-leads t ps at before ts all (bracket_open qs b x w lt) h e = record {
    before = b;
    ts = sign x OpenBracket ∷ (ts ++ sign at CloseBracket ∷ []);
    waited = w;
    stands = unprimed (nesting qs) _ t (brackets (nesting qs) x at ts t lt h);
    split = grown all (b ++ sign x OpenBracket ∷ []) ts (sign at CloseBracket) e ∙ append_assoc b (sign x OpenBracket ∷ []) (ts ++ sign at CloseBracket ∷ []);
  }

  -- neighbours: what waits behind an and-level without a sign
  next_waits : (t : Term) (ps : List Pending) (all : List Token) → Has_read t ps all → Waited pins (AndLeft (and_end t ps).term ∷ (and_end t ps).pending) all
  next_waits t ps all h = let e = and_end-ends t ps all h in subst (Waited pins (AndLeft (and_end t ps).term ∷ (and_end t ps).pending)) (sym e.split) (left_next (and_end t ps).pending e.before e.ts (and_end t ps).term e.waited e.is_free e.stands)

  go_on-leads : (t : Term) (ps : List Pending) (at : ℕ) (kind : TokenKind) (all : List Token) → Has_read t ps all → Leads (go_on pins t ps (record { at = at; kind = kind })) (all ++ record { at = at; kind = kind } ∷ [])
  go_on-leads t ps at (Word bytes) all h = begin-leads (AndLeft (and_end t ps).term ∷ (and_end t ps).pending) at (Word bytes) all (next_waits t ps all h)
  go_on-leads t ps at OrSign all h = let e = or_end-ends t ps all h in subst (Waited pins (OrLeft (or_end t ps).term ∷ (or_end t ps).pending)) (sym (grown all e.before e.ts (sign at OrSign) e.split)) (left_or (or_end t ps).pending e.before e.ts at (or_end t ps).term e.waited e.is_free e.stands)
  go_on-leads t ps at AndSign all h = let e = and_end-ends t ps all h in subst (Waited pins (AndLeft (and_end t ps).term ∷ (and_end t ps).pending)) (sym (grown all e.before e.ts (sign at AndSign) e.split)) (left_and (and_end t ps).pending e.before e.ts at (and_end t ps).term e.waited e.is_free e.stands)
  go_on-leads t ps at XorSign all h = let e = xor_end-ends t ps all h in subst (Waited pins (XorLeft (xor_end t ps).term ∷ (xor_end t ps).pending)) (sym (grown all e.before e.ts (sign at XorSign) e.split)) (left_xor (xor_end t ps).pending e.before e.ts at (xor_end t ps).term e.waited e.is_free e.stands)
  go_on-leads t ps at NotSign all h = begin-leads (AndLeft (and_end t ps).term ∷ (and_end t ps).pending) at NotSign all (next_waits t ps all h)
  go_on-leads t ps at PrimeSign all h = record { before = h.before; ts = h.ts ++ sign at PrimeSign ∷ []; waited = h.waited; stands = primed (nesting ps) at h.ts t h.stands; split = grown all h.before h.ts (sign at PrimeSign) h.split }
  go_on-leads t ps at OpenBracket all h = begin-leads (AndLeft (and_end t ps).term ∷ (and_end t ps).pending) at OpenBracket all (next_waits t ps all h)
  go_on-leads t ps at CloseBracket all h = let e = or_end-ends t ps all h in closed-leads (or_end t ps).term (or_end t ps).pending at e.before e.ts all e.waited e.stands e.split
  go_on-leads t ps at Other all h = tt

  pub after-leads : (reading : Result Mode ExprFault) (token : Token) (all : List Token) → Leads reading all → Leads (after pins reading token) (all ++ token ∷ [])
  after-leads (Ok (Expects ps)) token all h = begin-leads ps token.at token.kind all h
  after-leads (Ok (Has t ps)) token all h = go_on-leads t ps token.at token.kind all h
  after-leads (Err fault) token all h = tt

  complete-stands : (u t : Term) (ps : List Pending) (end : ℕ) (before ts all : List Token) → Waited pins ps before → ParsesAs pins OrLevel (nesting ps) ts u → all ≡ before ++ ts → complete end (record { term = u; pending = ps }) ≡ Ok t → ParsesAs pins OrLevel 0 all t
  complete-stands u t ps end before ts all nothing h e g = let same : u ≡ t = cc in subst (λ (l : List Token). ParsesAs pins OrLevel 0 l t) (sym e) (subst (λ (v : Term). ParsesAs pins OrLevel 0 ts v) same h)
  complete-stands u t ps end before ts all (left_or qs b us x s w f st) h e g = absurd (let bad : ⊥ = cc in bad)
  complete-stands u t ps end before ts all (left_and qs b us x s w f st) h e g = absurd (let bad : ⊥ = cc in bad)
  complete-stands u t ps end before ts all (left_next qs b us s w f st) h e g = absurd (let bad : ⊥ = cc in bad)
  complete-stands u t ps end before ts all (left_xor qs b us x s w f st) h e g = absurd (let bad : ⊥ = cc in bad)
  complete-stands u t ps end before ts all (not_open qs b x w lt) h e g = absurd (let bad : ⊥ = cc in bad)
  complete-stands u t ps end before ts all (bracket_open qs b x w lt) h e g = absurd (let bad : ⊥ = cc in bad)

  read_on-stands : (end : ℕ) (reading : Result Mode ExprFault) (tokens all : List Token) (t : Term) → Leads reading all → read_on pins end reading tokens ≡ Ok t → ParsesAs pins OrLevel 0 (all ++ tokens) t
  read_on-stands end (Ok (Expects ps)) [] all t h g = absurd (let bad : ⊥ = cc in bad)
  read_on-stands end (Ok (Has u ps)) [] all t h g =
      let e = or_end-ends u ps all h in
      subst (λ (l : List Token). ParsesAs pins OrLevel 0 l t) (sym (append-nil all)) (complete-stands (or_end u ps).term t (or_end u ps).pending end e.before e.ts all e.waited e.stands e.split g)
  read_on-stands end (Err fault) [] all t h g = absurd (let bad : ⊥ = cc in bad)
  read_on-stands end reading (token ∷ tokens) all t h g =
      subst (λ (l : List Token). ParsesAs pins OrLevel 0 l t) (append_assoc all (token ∷ []) tokens) (read_on-stands end (after pins reading token) tokens (all ++ token ∷ []) t (after-leads reading token all h) g)

-- what a text is read as, it stands for
pub read_stands : (pins : List (List ℕ)) (text : List ℕ) (t : Term) → read_text pins text ≡ Ok t → ExprText pins text t
read_stands pins text t g = read_on-stands pins (length text) (Ok (Expects [])) (tokens_from false 0 text) [] t nothing g
