-- What the grammar has is read, and as the term that it stands for.
use Rattle.std.proofs.Common.{◌≡◌, ℕ, ◌+◌, ◌<◌, Bool, true, false, cond, nat_lt, List, [], ◌∷◌, ◌++◌, Result, Ok, Err, refl, length}
use Rattle.std.proofs.Common.{ap, sym, ◌∙◌, append_assoc, append-nil, arith}
use Rattle.std.proofs.lemmas.Bool.Decides.{nat_tests}
use Rattle.cg_limit.specs.declared.TheConstants.{MOST_NESTING}
use Rattle.cg_liberty_expression.specs.Reading.{Pending, OrLeft, AndLeft, XorLeft, Inversion, Bracket, Ended, Mode, Expects, Has, and_end}
use Rattle.cg_liberty_expression.specs.Reading.{begin, closed, has_leaf, nesting, opened, or_end, read_on, read_text, xor_end, complete}
use Rattle.cg_liberty_expression.specs.Reading.{join_and, join_or}
use Rattle.cg_liberty_expression.specs.Tokens.{TokenKind, Token, Word, OrSign, AndSign, XorSign, NotSign, PrimeSign, OpenBracket}
use Rattle.cg_liberty_expression.specs.Tokens.{CloseBracket, Other, tokens_from}
use Rattle.cg_liberty_expression.specs.Grammar.{ExprText, Level, AtomLevel, PrimeLevel, NotLevel, XorLevel, AndLevel, OrLevel, ParsesAs}
use Rattle.cg_liberty_expression.specs.Grammar.{word, brackets, unprimed, primed, upright, inverted, one_of, xor, factor, and, neighbours}
use Rattle.cg_liberty_expression.specs.Grammar.{summand, or}
use Rattle.cg_cell.specs.Term.{Term, Inverse, Both, Either, Differ}
use Rattle.cg_liberty_expression.specs.declared.fault.ExprFault.{ExprFault}
use Rattle.cg_liberty_expression.specs.declared.fault.ExprFault.TheVariants.{TooDeep}

-- what may stand behind a level, so that it ends there
abbrev ends_not : TokenKind → Type 0
ends_not PrimeSign = ⊥
ends_not _ = Unit {0}

abbrev ends_and : TokenKind → Type 0
ends_and PrimeSign = ⊥
ends_and XorSign = ⊥
ends_and _ = Unit {0}

abbrev ends_or : TokenKind → Type 0
ends_or OrSign = Unit {0}
ends_or CloseBracket = Unit {0}
ends_or Other = Unit {0}
ends_or _ = ⊥

abbrev Follows : (TokenKind → Type 0) → List Token → Type 0
Follows F [] = Unit {0}
Follows F (token ∷ tokens) = F token.kind

abbrev follower : Level → TokenKind → Type 0
follower AtomLevel kind = Unit {0}
follower PrimeLevel kind = Unit {0}
follower NotLevel kind = ends_not kind
follower XorLevel kind = ends_not kind
follower AndLevel kind = ends_and kind
follower OrLevel kind = ends_or kind

-- what may wait before a level, so that nothing there takes a part of it
abbrev pub before_xor : List Pending → Type 0
before_xor (XorLeft t ∷ pending) = ⊥
before_xor (Inversion ∷ pending) = ⊥
before_xor _ = Unit {0}

abbrev pub before_and : List Pending → Type 0
before_and (XorLeft t ∷ pending) = ⊥
before_and (Inversion ∷ pending) = ⊥
before_and (AndLeft t ∷ pending) = ⊥
before_and _ = Unit {0}

abbrev pub before_or : List Pending → Type 0
before_or [] = Unit {0}
before_or (Bracket ∷ pending) = Unit {0}
before_or _ = ⊥

abbrev pub waits : Level → List Pending → Type 0
waits AtomLevel pending = Unit {0}
waits PrimeLevel pending = Unit {0}
waits NotLevel pending = Unit {0}
waits XorLevel pending = before_xor pending
waits AndLevel pending = before_and pending
waits OrLevel pending = before_or pending

and_xor : (pending : List Pending) → before_and pending → before_xor pending
and_xor [] h = tt
and_xor (OrLeft t ∷ pending) h = tt
and_xor (AndLeft t ∷ pending) h = absurd h
and_xor (XorLeft t ∷ pending) h = absurd h
and_xor (Inversion ∷ pending) h = absurd h
and_xor (Bracket ∷ pending) h = tt

or_and : (pending : List Pending) → before_or pending → before_and pending
or_and [] h = tt
or_and (OrLeft t ∷ pending) h = absurd h
or_and (AndLeft t ∷ pending) h = absurd h
or_and (XorLeft t ∷ pending) h = absurd h
or_and (Inversion ∷ pending) h = absurd h
or_and (Bracket ∷ pending) h = tt

xor_alone : (t : Term) (pending : List Pending) → before_xor pending → xor_end t pending ≡ record { term = t; pending = pending }
xor_alone t [] h = refl
xor_alone t (OrLeft s ∷ pending) h = refl
xor_alone t (AndLeft s ∷ pending) h = refl
xor_alone t (XorLeft s ∷ pending) h = absurd h
xor_alone t (Inversion ∷ pending) h = absurd h
xor_alone t (Bracket ∷ pending) h = refl

and_alone : (t : Term) (pending : List Pending) → before_and pending → and_end t pending ≡ record { term = t; pending = pending }
and_alone t [] h = refl
and_alone t (OrLeft s ∷ pending) h = refl
and_alone t (AndLeft s ∷ pending) h = absurd h
and_alone t (XorLeft s ∷ pending) h = absurd h
and_alone t (Inversion ∷ pending) h = absurd h
and_alone t (Bracket ∷ pending) h = refl

or_alone : (t : Term) (pending : List Pending) → before_or pending → or_end t pending ≡ record { term = t; pending = pending }
or_alone t [] h = refl
or_alone t (OrLeft s ∷ pending) h = absurd h
or_alone t (AndLeft s ∷ pending) h = absurd h
or_alone t (XorLeft s ∷ pending) h = absurd h
or_alone t (Inversion ∷ pending) h = absurd h
or_alone t (Bracket ∷ pending) h = refl

and_not : (kind : TokenKind) → ends_and kind → ends_not kind
and_not (Word bytes) h = tt
and_not OrSign h = tt
and_not AndSign h = tt
and_not XorSign h = absurd h
and_not NotSign h = tt
and_not PrimeSign h = absurd h
and_not OpenBracket h = tt
and_not CloseBracket h = tt
and_not Other h = tt

or_and_sort : (kind : TokenKind) → ends_or kind → ends_and kind
or_and_sort (Word bytes) h = absurd h
or_and_sort OrSign h = tt
or_and_sort AndSign h = absurd h
or_and_sort XorSign h = absurd h
or_and_sort NotSign h = absurd h
or_and_sort PrimeSign h = absurd h
or_and_sort OpenBracket h = absurd h
or_and_sort CloseBracket h = tt
or_and_sort Other h = tt

weaker : (F G : TokenKind → Type 0) (rest : List Token) → ((kind : TokenKind) → F kind → G kind) → Follows F rest → Follows G rest
weaker F G [] k h = tt
weaker F G (token ∷ rest) k h = k token.kind h

anything : (rest : List Token) → Follows (λ kind. Unit {0}) rest
anything [] = tt
anything (token ∷ rest) = tt

-- the tokens that begin an operand
abbrev begins : TokenKind → Type 0
begins (Word bytes) = Unit {0}
begins NotSign = Unit {0}
begins OpenBracket = Unit {0}
begins _ = ⊥

abbrev Begins : List Token → Type 0
Begins [] = ⊥
Begins (token ∷ tokens) = begins token.kind

begins_more : (ts us : List Token) → Begins ts → Begins (ts ++ us)
begins_more [] us h = absurd h
begins_more (token ∷ ts) us h = h

begins_and : (kind : TokenKind) → begins kind → ends_and kind
begins_and (Word bytes) h = tt
begins_and OrSign h = absurd h
begins_and AndSign h = absurd h
begins_and XorSign h = absurd h
begins_and NotSign h = tt
begins_and PrimeSign h = absurd h
begins_and OpenBracket h = tt
begins_and CloseBracket h = absurd h
begins_and Other h = absurd h

behind_and : (ts rest : List Token) → Begins ts → Follows ends_and (ts ++ rest)
behind_and [] rest h = absurd h
behind_and (token ∷ ts) rest h = begins_and token.kind h

room : (d n : ℕ) → n ≡ d → d < MOST_NESTING → nat_lt n MOST_NESTING ≡ true
room d n e h = grind (arith, nat_tests)

stands_begin : (pins : List (List ℕ)) (level : Level) (d : ℕ) (ts : List Token) (t : Term) → ParsesAs pins level d ts t → Begins ts
stands_begin pins level d ts t (word o at bytes u e) = tt
stands_begin pins level d ts t (brackets o at close us u h s) = tt
stands_begin pins level d ts t (unprimed o us u s) = stands_begin pins AtomLevel o us u s
stands_begin pins level d ts t (primed o at us u s) = begins_more us _ (stands_begin pins PrimeLevel o us u s)
stands_begin pins level d ts t (upright o us u s) = stands_begin pins PrimeLevel o us u s
stands_begin pins level d ts t (inverted o at us u h s) = tt
stands_begin pins level d ts t (one_of o us u s) = stands_begin pins NotLevel o us u s
stands_begin pins level d ts t (xor o at us vs u v s r) = begins_more us _ (stands_begin pins XorLevel o us u s)
stands_begin pins level d ts t (factor o us u s) = stands_begin pins XorLevel o us u s
stands_begin pins level d ts t (and o at us vs u v s r) = begins_more us _ (stands_begin pins AndLevel o us u s)
stands_begin pins level d ts t (neighbours o us vs u v s r) = begins_more us vs (stands_begin pins AndLevel o us u s)
stands_begin pins level d ts t (summand o us u s) = stands_begin pins AndLevel o us u s
stands_begin pins level d ts t (or o at us vs u v s r) = begins_more us _ (stands_begin pins OrLevel o us u s)

module _ (pins : List (List ℕ)) (end : ℕ) where
  abbrev read : Mode → List Token → Result Term ExprFault
  read mode tokens = read_on pins end (Ok mode) tokens

  -- two operands behind which the xor-level ends alike are read on alike, and so for the other levels
  abbrev next_step : Ended → Token → Result Mode ExprFault
  next_step e token = begin pins (AndLeft e.term ∷ e.pending) token

  as_or-at : (s t : Term) (ps qs : List Pending) (at : ℕ) (kind : TokenKind) (rest : List Token) → or_end s ps ≡ or_end t qs → ends_or kind → read (Has s ps) (record { at = at; kind = kind } ∷ rest) ≡ read (Has t qs) (record { at = at; kind = kind } ∷ rest)
  as_or-at s t ps qs at (Word bytes) rest e h = absurd h
  as_or-at s t ps qs at OrSign rest e h = ap (λ (f : Ended). read (Expects (OrLeft (f).term ∷ (f).pending)) rest) e
  as_or-at s t ps qs at AndSign rest e h = absurd h
  as_or-at s t ps qs at XorSign rest e h = absurd h
  as_or-at s t ps qs at NotSign rest e h = absurd h
  as_or-at s t ps qs at PrimeSign rest e h = absurd h
  as_or-at s t ps qs at OpenBracket rest e h = absurd h
  as_or-at s t ps qs at CloseBracket rest e h = ap (λ (f : Ended). read_on pins end (closed at (f)) rest) e
  as_or-at s t ps qs at Other rest e h = refl

  as_or : (s t : Term) (ps qs : List Pending) (rest : List Token) → or_end s ps ≡ or_end t qs → Follows ends_or rest → read (Has s ps) rest ≡ read (Has t qs) rest
  as_or s t ps qs [] e h = ap (complete end) e
  as_or s t ps qs (token ∷ rest) e h = as_or-at s t ps qs token.at token.kind rest e h

  as_and-at : (s t : Term) (ps qs : List Pending) (at : ℕ) (kind : TokenKind) (rest : List Token) → and_end s ps ≡ and_end t qs → ends_and kind → read (Has s ps) (record { at = at; kind = kind } ∷ rest) ≡ read (Has t qs) (record { at = at; kind = kind } ∷ rest)
  as_and-at s t ps qs at (Word bytes) rest e h = ap (λ (f : Ended). read_on pins end (next_step (f) (record { at = at; kind = Word bytes })) rest) e
  as_and-at s t ps qs at OrSign rest e h = ap (λ (f : Ended). read (Expects (OrLeft (join_or f).term ∷ (join_or f).pending)) rest) e
  as_and-at s t ps qs at AndSign rest e h = ap (λ (f : Ended). read (Expects (AndLeft (f).term ∷ (f).pending)) rest) e
  as_and-at s t ps qs at XorSign rest e h = absurd h
  as_and-at s t ps qs at NotSign rest e h = ap (λ (f : Ended). read_on pins end (next_step (f) (record { at = at; kind = NotSign })) rest) e
  as_and-at s t ps qs at PrimeSign rest e h = absurd h
  as_and-at s t ps qs at OpenBracket rest e h = ap (λ (f : Ended). read_on pins end (next_step (f) (record { at = at; kind = OpenBracket })) rest) e
  as_and-at s t ps qs at CloseBracket rest e h = ap (λ (f : Ended). read_on pins end (closed at (join_or f)) rest) e
  as_and-at s t ps qs at Other rest e h = refl

  as_and : (s t : Term) (ps qs : List Pending) (rest : List Token) → and_end s ps ≡ and_end t qs → Follows ends_and rest → read (Has s ps) rest ≡ read (Has t qs) rest
  as_and s t ps qs [] e h = ap (λ (f : Ended). complete end (join_or f)) e
  as_and s t ps qs (token ∷ rest) e h = as_and-at s t ps qs token.at token.kind rest e h

  as_xor-at : (s t : Term) (ps qs : List Pending) (at : ℕ) (kind : TokenKind) (rest : List Token) → xor_end s ps ≡ xor_end t qs → ends_not kind → read (Has s ps) (record { at = at; kind = kind } ∷ rest) ≡ read (Has t qs) (record { at = at; kind = kind } ∷ rest)
  as_xor-at s t ps qs at (Word bytes) rest e h = ap (λ (f : Ended). read_on pins end (next_step (join_and f) (record { at = at; kind = Word bytes })) rest) e
  as_xor-at s t ps qs at OrSign rest e h = ap (λ (f : Ended). read (Expects (OrLeft (join_or (join_and f)).term ∷ (join_or (join_and f)).pending)) rest) e
  as_xor-at s t ps qs at AndSign rest e h = ap (λ (f : Ended). read (Expects (AndLeft (join_and f).term ∷ (join_and f).pending)) rest) e
  as_xor-at s t ps qs at XorSign rest e h = ap (λ (f : Ended). read (Expects (XorLeft (f).term ∷ (f).pending)) rest) e
  as_xor-at s t ps qs at NotSign rest e h = ap (λ (f : Ended). read_on pins end (next_step (join_and f) (record { at = at; kind = NotSign })) rest) e
  as_xor-at s t ps qs at PrimeSign rest e h = absurd h
  as_xor-at s t ps qs at OpenBracket rest e h = ap (λ (f : Ended). read_on pins end (next_step (join_and f) (record { at = at; kind = OpenBracket })) rest) e
  as_xor-at s t ps qs at CloseBracket rest e h = ap (λ (f : Ended). read_on pins end (closed at (join_or (join_and f))) rest) e
  as_xor-at s t ps qs at Other rest e h = refl

  as_xor : (s t : Term) (ps qs : List Pending) (rest : List Token) → xor_end s ps ≡ xor_end t qs → Follows ends_not rest → read (Has s ps) rest ≡ read (Has t qs) rest
  as_xor s t ps qs [] e h = ap (λ (f : Ended). complete end (join_or (join_and f))) e
  as_xor s t ps qs (token ∷ rest) e h = as_xor-at s t ps qs token.at token.kind rest e h

  neighbour-at : (t : Term) (ps : List Pending) (at : ℕ) (kind : TokenKind) (rest : List Token) → begins kind
      → read (Has t ps) (record { at = at; kind = kind } ∷ rest) ≡ read (Expects (AndLeft (and_end t ps).term ∷ (and_end t ps).pending)) (record { at = at; kind = kind } ∷ rest)
  neighbour-at t ps at (Word bytes) rest h = refl
  neighbour-at t ps at OrSign rest h = absurd h
  neighbour-at t ps at AndSign rest h = absurd h
  neighbour-at t ps at XorSign rest h = absurd h
  neighbour-at t ps at NotSign rest h = refl
  neighbour-at t ps at PrimeSign rest h = absurd h
  neighbour-at t ps at OpenBracket rest h = refl
  neighbour-at t ps at CloseBracket rest h = absurd h
  neighbour-at t ps at Other rest h = absurd h

  neighbour : (t : Term) (ps : List Pending) (us rest : List Token) → Begins us → read (Has t ps) (us ++ rest) ≡ read (Expects (AndLeft (and_end t ps).term ∷ (and_end t ps).pending)) (us ++ rest)
  neighbour t ps [] rest h = absurd h
  neighbour t ps (token ∷ us) rest h = neighbour-at t ps token.at token.kind (us ++ rest) h

  open_up : (at : ℕ) (opening : Pending) (ps : List Pending) (d : ℕ) (tokens : List Token) → nesting ps ≡ d → d < MOST_NESTING → read_on pins end (opened at opening ps) tokens ≡ read (Expects (opening ∷ ps)) tokens
  open_up at opening ps d tokens n h = ap (λ (b : Bool). read_on pins end (cond b (Ok (Expects (opening ∷ ps))) (Err (TooDeep at))) tokens) (room d (nesting ps) n h)

  -- a part of a level is read as an operand with its term
  reads : (level : Level) (d : ℕ) (ts : List Token) (t : Term) → ParsesAs pins level d ts t → (ps : List Pending) (rest : List Token)
      → waits level ps → nesting ps ≡ d → Follows (follower level) rest → read (Expects ps) (ts ++ rest) ≡ read (Has t ps) rest
  reads level d ts t (word o at bytes u e) ps rest w n h = ap (λ (r : Result Term ExprFault). read_on pins end (has_leaf r ps) rest) e
  reads level d ts t (brackets o at close us u h s) ps rest w n f =
      open_up at Bracket ps o ((us ++ record { at = close; kind = CloseBracket } ∷ []) ++ rest) n h
      ∙ ap (read (Expects (Bracket ∷ ps))) (append_assoc us (record { at = close; kind = CloseBracket } ∷ []) rest)
      ∙ reads OrLevel (o + 1) us u s (Bracket ∷ ps) (record { at = close; kind = CloseBracket } ∷ rest) tt (ap (λ (m : ℕ). m + 1) n) tt
  reads level d ts t (unprimed o us u s) ps rest w n h = reads AtomLevel o us u s ps rest tt n (anything rest)
  reads level d ts t (primed o at us u s) ps rest w n h = ap (read (Expects ps)) (append_assoc us (record { at = at; kind = PrimeSign } ∷ []) rest) ∙ reads PrimeLevel o us u s ps (record { at = at; kind = PrimeSign } ∷ rest) tt n tt
  reads level d ts t (upright o us u s) ps rest w n h = reads PrimeLevel o us u s ps rest tt n (anything rest)
  reads level d ts t (inverted o at us u h s) ps rest w n f =
      open_up at Inversion ps o (us ++ rest) n h ∙ reads NotLevel (o + 1) us u s (Inversion ∷ ps) rest tt (ap (λ (m : ℕ). m + 1) n) f ∙ as_xor u (Inverse u) (Inversion ∷ ps) ps rest refl f
  reads level d ts t (one_of o us u s) ps rest w n h = reads NotLevel o us u s ps rest tt n h
  reads level d ts t (xor o at us vs u v s r) ps rest w n h =
      ap (read (Expects ps)) (append_assoc us (record { at = at; kind = XorSign } ∷ vs) rest)
      ∙ reads XorLevel o us u s ps (record { at = at; kind = XorSign } ∷ (vs ++ rest)) w n tt
      ∙ ap (λ (e : Ended). read (Expects (XorLeft e.term ∷ e.pending)) (vs ++ rest)) (xor_alone u ps w)
      ∙ reads NotLevel o vs v r (XorLeft u ∷ ps) rest tt n h
      ∙ as_xor v (Differ u v) (XorLeft u ∷ ps) ps rest (sym (xor_alone (Differ u v) ps w)) h
  reads level d ts t (factor o us u s) ps rest w n h = reads XorLevel o us u s ps rest (and_xor ps w) n (weaker ends_and ends_not rest and_not h)
  reads level d ts t (and o at us vs u v s r) ps rest w n h =
      ap (read (Expects ps)) (append_assoc us (record { at = at; kind = AndSign } ∷ vs) rest)
      ∙ reads AndLevel o us u s ps (record { at = at; kind = AndSign } ∷ (vs ++ rest)) w n tt
      ∙ ap (λ (e : Ended). read (Expects (AndLeft e.term ∷ e.pending)) (vs ++ rest)) (and_alone u ps w)
      ∙ reads XorLevel o vs v r (AndLeft u ∷ ps) rest tt n (weaker ends_and ends_not rest and_not h)
      ∙ as_and v (Both u v) (AndLeft u ∷ ps) ps rest (sym (and_alone (Both u v) ps w)) h
  reads level d ts t (neighbours o us vs u v s r) ps rest w n h =
      let first = stands_begin pins XorLevel o vs v r in
      ap (read (Expects ps)) (append_assoc us vs rest)
      ∙ reads AndLevel o us u s ps (vs ++ rest) w n (behind_and vs rest first)
      ∙ neighbour u ps vs rest first
      ∙ ap (λ (e : Ended). read (Expects (AndLeft e.term ∷ e.pending)) (vs ++ rest)) (and_alone u ps w)
      ∙ reads XorLevel o vs v r (AndLeft u ∷ ps) rest tt n (weaker ends_and ends_not rest and_not h)
      ∙ as_and v (Both u v) (AndLeft u ∷ ps) ps rest (sym (and_alone (Both u v) ps w)) h
  reads level d ts t (summand o us u s) ps rest w n h = reads AndLevel o us u s ps rest (or_and ps w) n (weaker ends_or ends_and rest or_and_sort h)
  reads level d ts t (or o at us vs u v s r) ps rest w n h =
      ap (read (Expects ps)) (append_assoc us (record { at = at; kind = OrSign } ∷ vs) rest)
      ∙ reads OrLevel o us u s ps (record { at = at; kind = OrSign } ∷ (vs ++ rest)) w n tt
      ∙ ap (λ (e : Ended). read (Expects (OrLeft e.term ∷ e.pending)) (vs ++ rest)) (or_alone u ps w)
      ∙ reads AndLevel o vs v r (OrLeft u ∷ ps) rest tt n (weaker ends_or ends_and rest or_and_sort h)
      ∙ as_or v (Either u v) (OrLeft u ∷ ps) ps rest (sym (or_alone (Either u v) ps w)) h

-- tokens that stand for a term are read as it
pub reads_tokens : (pins : List (List ℕ)) (end : ℕ) (tokens : List Token) (t : Term) → ParsesAs pins OrLevel 0 tokens t → read_on pins end (Ok (Expects [])) tokens ≡ Ok t
reads_tokens pins end tokens t stands = ap (read_on pins end (Ok (Expects []))) (sym (append-nil tokens)) ∙ reads pins end OrLevel 0 tokens t stands [] [] tt refl tt

-- an expression is read, as the term that it stands for
pub reads_text : (pins : List (List ℕ)) (text : List ℕ) (t : Term) → ExprText pins text t → read_text pins text ≡ Ok t
reads_text pins text t stands = reads_tokens pins (length text) (tokens_from false 0 text) t stands
