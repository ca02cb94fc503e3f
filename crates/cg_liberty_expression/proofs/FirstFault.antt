-- A fault that is read stands at the first token with which no expression begins; what stands before it can be completed.
use Rattle.std.proofs.Common.{◌≡◌, ℕ, ◌+◌, Bool, true, false, cond, List, [], ◌∷◌, ◌++◌, Option, None, Some, Result, Ok, Err, inl}
use Rattle.std.proofs.Common.{inr, refl, ap, sym, ◌∙◌, subst, length, append_assoc, append-nil}
use Rattle.std.specs.Prelude.{IfErr, nat_lt, slice_index}
use Rattle.std.specs.List.{position_from}
use Rattle.std.specs.Str.{bytes_eq}
use Rattle.cg_limit.specs.Answers.{OrNoMemory}
use Rattle.cg_limit.specs.declared.TheConstants.{MOST_NESTING}
use Rattle.cg_cell.specs.Expr.{term_of}
use Rattle.cg_liberty_expression.specs.Faults.{CanGoOn, IsFirstExprFault, NoneBegins, first_place}
use Rattle.cg_liberty_expression.specs.Grammar.{Level, AtomLevel, PrimeLevel, NotLevel, XorLevel, AndLevel, OrLevel, ParsesAs, word}
use Rattle.cg_liberty_expression.specs.Grammar.{brackets, unprimed, upright, inverted, one_of, xor, factor, and, neighbours, summand, or}
use Rattle.cg_liberty_expression.specs.Reading.{Pending, OrLeft, AndLeft, XorLeft, Inversion, Bracket, Mode, Expects, Has}
use Rattle.cg_liberty_expression.specs.Reading.{and_end, begin, closed, complete, constant, finish, go_on, has_leaf, leaf, nesting, opened}
use Rattle.cg_liberty_expression.specs.Reading.{or_end, read_on, read_text, step, variable}
use Rattle.cg_liberty_expression.specs.Tokens.{TokenKind, Token, Word, OrSign, AndSign, XorSign, NotSign, PrimeSign, OpenBracket}
use Rattle.cg_liberty_expression.specs.Tokens.{CloseBracket, Other, is_digit, is_letter, tokens_from}
use Rattle.cg_cell.specs.Term.{Term, Bit, Inverse, Both, Either, Differ}
use Rattle.cg_cell.specs.declared.expr.Expr.{Expr}
use Rattle.cg_liberty_expression.specs.declared.fault.ExprFault.{ExprFault}
use Rattle.cg_liberty_expression.specs.declared.fault.ExprFault.TheVariants.{BadExpr, UnknownPin, TooDeep, NoMemory}
use Rattle.cg_liberty_expression.proofs.Grammar.{reads_tokens, waits}
use Rattle.cg_liberty_expression.proofs.Readings.{fault_stays}
use Rattle.cg_liberty_expression.proofs.Sound.{Leads, ModeReads, Waited, after-leads, bracket_open, grown, left_and, left_next}
use Rattle.cg_liberty_expression.proofs.Sound.{left_or, left_xor, not_open, nothing, regroup, sign}

-- the fault has the place
abbrev HasPlace : ExprFault → ℕ → Type 0
HasPlace (BadExpr at) place = at ≡ place
HasPlace (UnknownPin at) place = at ≡ place
HasPlace (TooDeep at) place = at ≡ place
HasPlace NoMemory place = ⊥

-- where it fails, it fails with a fault of the place
abbrev FaultsAt : {A : Type 0} → ℕ → Result A ExprFault → Type 0
FaultsAt place (Ok x) = Unit {0}
FaultsAt place (Err fault) = HasPlace fault place

either_at : {A : Type 0} (place : ℕ) (b : Bool) (x y : Result A ExprFault) → FaultsAt place x → FaultsAt place y → FaultsAt place (cond b x y)
either_at place true x y h k = h
either_at place false x y h k = k

variable_at : (at : ℕ) (found : Option ℕ) → FaultsAt at (variable at found)
variable_at at None = refl
variable_at at (Some k) = tt

constant_at : (at : ℕ) (bytes : List ℕ) → FaultsAt at (constant at bytes)
constant_at at bytes = either_at at (bytes_eq bytes (48 ∷ [])) (Ok (Bit false)) (cond (bytes_eq bytes (49 ∷ [])) (Ok (Bit true)) (Err (BadExpr at))) tt (either_at at (bytes_eq bytes (49 ∷ [])) (Ok (Bit true)) (Err (BadExpr at)) tt refl)

leaf_at : (pins : List (List ℕ)) (at : ℕ) (bytes : List ℕ) → FaultsAt at (leaf pins at bytes)
leaf_at pins at bytes =
    either_at at (is_digit (slice_index bytes 0)) (constant at bytes) (cond (is_letter (slice_index bytes 0)) (variable at (position_from (bytes_eq bytes) 0 pins)) (Err (BadExpr at))) (constant_at at bytes)
    (either_at at (is_letter (slice_index bytes 0)) (variable at (position_from (bytes_eq bytes) 0 pins)) (Err (BadExpr at)) (variable_at at (position_from (bytes_eq bytes) 0 pins)) refl)

has_leaf_at : (at : ℕ) (read : Result Term ExprFault) (ps : List Pending) → FaultsAt at read → FaultsAt at (has_leaf read ps)
has_leaf_at at (Ok t) ps h = tt
has_leaf_at at (Err fault) ps h = h

opened_at : (at : ℕ) (opening : Pending) (ps : List Pending) → FaultsAt at (opened at opening ps)
opened_at at opening ps = either_at at (nat_lt (nesting ps) MOST_NESTING) (Ok (Expects (opening ∷ ps))) (Err (TooDeep at)) tt refl

begin_at : (pins : List (List ℕ)) (ps : List Pending) (at : ℕ) (kind : TokenKind) → FaultsAt at (begin pins ps (record { at = at; kind = kind }))
begin_at pins ps at (Word bytes) = has_leaf_at at (leaf pins at bytes) ps (leaf_at pins at bytes)
begin_at pins ps at OrSign = refl
begin_at pins ps at AndSign = refl
begin_at pins ps at XorSign = refl
begin_at pins ps at NotSign = opened_at at Inversion ps
begin_at pins ps at PrimeSign = refl
begin_at pins ps at OpenBracket = opened_at at Bracket ps
begin_at pins ps at CloseBracket = refl
begin_at pins ps at Other = refl

closed_at : (at : ℕ) (t : Term) (ps : List Pending) → FaultsAt at (closed at (record { term = t; pending = ps }))
closed_at at t [] = refl
closed_at at t (OrLeft s ∷ ps) = refl
closed_at at t (AndLeft s ∷ ps) = refl
closed_at at t (XorLeft s ∷ ps) = refl
closed_at at t (Inversion ∷ ps) = refl
closed_at at t (Bracket ∷ ps) = tt

complete_at : (end : ℕ) (t : Term) (ps : List Pending) → FaultsAt end (complete end (record { term = t; pending = ps }))
complete_at end t [] = tt
complete_at end t (OrLeft s ∷ ps) = refl
complete_at end t (AndLeft s ∷ ps) = refl
complete_at end t (XorLeft s ∷ ps) = refl
complete_at end t (Inversion ∷ ps) = refl
complete_at end t (Bracket ∷ ps) = refl

go_on_at : (pins : List (List ℕ)) (t : Term) (ps : List Pending) (at : ℕ) (kind : TokenKind) → FaultsAt at (go_on pins t ps (record { at = at; kind = kind }))
go_on_at pins t ps at (Word bytes) = begin_at pins (AndLeft (and_end t ps).term ∷ (and_end t ps).pending) at (Word bytes)
go_on_at pins t ps at OrSign = tt
go_on_at pins t ps at AndSign = tt
go_on_at pins t ps at XorSign = tt
go_on_at pins t ps at NotSign = begin_at pins (AndLeft (and_end t ps).term ∷ (and_end t ps).pending) at NotSign
go_on_at pins t ps at PrimeSign = tt
go_on_at pins t ps at OpenBracket = begin_at pins (AndLeft (and_end t ps).term ∷ (and_end t ps).pending) at OpenBracket
go_on_at pins t ps at CloseBracket = closed_at at (or_end t ps).term (or_end t ps).pending
go_on_at pins t ps at Other = refl

step_at : (pins : List (List ℕ)) (mode : Mode) (token : Token) → FaultsAt token.at (step pins mode token)
step_at pins (Expects ps) token = begin_at pins ps token.at token.kind
step_at pins (Has t ps) token = go_on_at pins t ps token.at token.kind

finish_at : (end : ℕ) (mode : Mode) → FaultsAt end (finish end mode)
finish_at end (Expects ps) = refl
finish_at end (Has t ps) = complete_at end (or_end t ps).term (or_end t ps).pending

module _ (pins : List (List ℕ)) where
  -- what is of a level is of the weaker ones
  as_or : (level : Level) (o : ℕ) (ts : List Token) (t : Term) → ParsesAs pins level o ts t → ParsesAs pins OrLevel o ts t
  as_or AtomLevel o ts t h = summand o ts t (factor o ts t (one_of o ts t (upright o ts t (unprimed o ts t h))))
  as_or PrimeLevel o ts t h = summand o ts t (factor o ts t (one_of o ts t (upright o ts t h)))
  as_or NotLevel o ts t h = summand o ts t (factor o ts t (one_of o ts t h))
  as_or XorLevel o ts t h = summand o ts t (factor o ts t h)
  as_or AndLevel o ts t h = summand o ts t h
  as_or OrLevel o ts t h = h

  as_and : (level : Level) (s : Term) (qs : List Pending) → waits level (OrLeft s ∷ qs) → (o : ℕ) (ts : List Token) (t : Term) → ParsesAs pins level o ts t → ParsesAs pins AndLevel o ts t
  as_and AtomLevel s qs w o ts t h = factor o ts t (one_of o ts t (upright o ts t (unprimed o ts t h)))
  as_and PrimeLevel s qs w o ts t h = factor o ts t (one_of o ts t (upright o ts t h))
  as_and NotLevel s qs w o ts t h = factor o ts t (one_of o ts t h)
  as_and XorLevel s qs w o ts t h = factor o ts t h
  as_and AndLevel s qs w o ts t h = h
  as_and OrLevel s qs w o ts t h = absurd w

  as_xor : (level : Level) (s : Term) (qs : List Pending) → waits level (AndLeft s ∷ qs) → (o : ℕ) (ts : List Token) (t : Term) → ParsesAs pins level o ts t → ParsesAs pins XorLevel o ts t
  as_xor AtomLevel s qs w o ts t h = one_of o ts t (upright o ts t (unprimed o ts t h))
  as_xor PrimeLevel s qs w o ts t h = one_of o ts t (upright o ts t h)
  as_xor NotLevel s qs w o ts t h = one_of o ts t h
  as_xor XorLevel s qs w o ts t h = h
  as_xor AndLevel s qs w o ts t h = absurd w
  as_xor OrLevel s qs w o ts t h = absurd w

  behind_xor : (level : Level) (s : Term) (qs : List Pending) → waits level (XorLeft s ∷ qs) → (o : ℕ) (ts : List Token) (t : Term) → ParsesAs pins level o ts t → ParsesAs pins NotLevel o ts t
  behind_xor AtomLevel s qs w o ts t h = upright o ts t (unprimed o ts t h)
  behind_xor PrimeLevel s qs w o ts t h = upright o ts t h
  behind_xor NotLevel s qs w o ts t h = h
  behind_xor XorLevel s qs w o ts t h = absurd w
  behind_xor AndLevel s qs w o ts t h = absurd w
  behind_xor OrLevel s qs w o ts t h = absurd w

  behind_not : (level : Level) (qs : List Pending) → waits level (Inversion ∷ qs) → (o : ℕ) (ts : List Token) (t : Term) → ParsesAs pins level o ts t → ParsesAs pins NotLevel o ts t
  behind_not AtomLevel qs w o ts t h = upright o ts t (unprimed o ts t h)
  behind_not PrimeLevel qs w o ts t h = upright o ts t h
  behind_not NotLevel qs w o ts t h = h
  behind_not XorLevel qs w o ts t h = absurd w
  behind_not AndLevel qs w o ts t h = absurd w
  behind_not OrLevel qs w o ts t h = absurd w

  -- the bracket that closes one, and what follows
  closing : (b ts more : List Token) (o k : Token) → ((b ++ o ∷ []) ++ ts) ++ k ∷ more ≡ (b ++ o ∷ (ts ++ k ∷ [])) ++ more
  closing b ts more o k =
      sym (append_assoc ((b ++ o ∷ []) ++ ts) (k ∷ []) more)
      ∙ ap (λ (l : List Token). l ++ more) (grown ((b ++ o ∷ []) ++ ts) (b ++ o ∷ []) ts k refl ∙ append_assoc b (o ∷ []) (ts ++ k ∷ []))

  -- what waits can be ended: each open bracket is closed
  close : (level : Level) (ps : List Pending) (before : List Token) → Waited pins ps before → waits level ps → (ts : List Token) (t : Term) → ParsesAs pins level (nesting ps) ts t → CanGoOn pins (before ++ ts)
  close level ps before nothing f ts t h = record { more = []; term = t; stands = subst (λ (l : List Token). ParsesAs pins OrLevel 0 l t) (sym (append-nil ts)) (as_or level 0 ts t h) }
  close level ps before (left_or qs b us at s w g st) f ts t h =
      subst (CanGoOn pins) (sym (regroup b us ts (sign at OrSign))) (close OrLevel qs b w g (us ++ sign at OrSign ∷ ts) (Either s t) (or (nesting qs) at us ts s t st (as_and level s qs f (nesting qs) ts t h)))
  close level ps before (left_and qs b us at s w g st) f ts t h =
      subst (CanGoOn pins) (sym (regroup b us ts (sign at AndSign))) (close AndLevel qs b w g (us ++ sign at AndSign ∷ ts) (Both s t) (and (nesting qs) at us ts s t st (as_xor level s qs f (nesting qs) ts t h)))
  close level ps before (left_next qs b us s w g st) f ts t h =
      subst (CanGoOn pins) (sym (append_assoc b us ts)) (close AndLevel qs b w g (us ++ ts) (Both s t) (neighbours (nesting qs) us ts s t st (as_xor level s qs f (nesting qs) ts t h)))
  close level ps before (left_xor qs b us at s w g st) f ts t h =
      subst (CanGoOn pins) (sym (regroup b us ts (sign at XorSign))) (close XorLevel qs b w g (us ++ sign at XorSign ∷ ts) (Differ s t) (xor (nesting qs) at us ts s t st (behind_xor level s qs f (nesting qs) ts t h)))
  close level ps before (not_open qs b at w lt) f ts t h =
      subst (CanGoOn pins) (sym (append_assoc b (sign at NotSign ∷ []) ts)) (close NotLevel qs b w tt (sign at NotSign ∷ ts) (Inverse t) (inverted (nesting qs) at ts t lt (behind_not level qs f (nesting qs + 1) ts t h)))
  close level ps before (bracket_open qs b at w lt) f ts t h =
      let inner : ParsesAs pins NotLevel (nesting qs) (sign at OpenBracket ∷ (ts ++ sign 0 CloseBracket ∷ [])) t =
      upright (nesting qs) _ t (unprimed (nesting qs) _ t (brackets (nesting qs) at 0 ts t lt (as_or level (nesting qs + 1) ts t h))) in
      let rest = close NotLevel qs b w tt (sign at OpenBracket ∷ (ts ++ sign 0 CloseBracket ∷ [])) t inner in
      record {
        more = sign 0 CloseBracket ∷ rest.more;
        term = rest.term;
        stands = subst (λ (l : List Token). ParsesAs pins OrLevel 0 l rest.term) (sym (closing b ts rest.more (sign at OpenBracket) (sign 0 CloseBracket))) rest.stands;
      }

  -- a reading can go on wherever it stands: an operand that must come may be the constant 0
  goes_on : (mode : Mode) (all : List Token) → ModeReads pins mode all → CanGoOn pins all
  goes_on (Has t ps) all h = subst (CanGoOn pins) (sym h.split) (close NotLevel ps h.before h.waited tt h.ts t (upright (nesting ps) h.ts t h.stands))
  goes_on (Expects ps) all h =
      let rest = close NotLevel ps all h tt (sign 0 (Word (48 ∷ [])) ∷ []) (Bit false) (upright (nesting ps) _ (Bit false) (unprimed (nesting ps) _ (Bit false) (word (nesting ps) 0 (48 ∷ []) (Bit false) refl))) in
      record {
        more = sign 0 (Word (48 ∷ [])) ∷ rest.more;
        term = rest.term;
        stands = subst (λ (l : List Token). ParsesAs pins OrLevel 0 l rest.term) (append_assoc all (sign 0 (Word (48 ∷ [])) ∷ []) rest.more) rest.stands;
      }

  -- where the tokens of a text have their first fault
  record Found (end : ℕ) (tokens : List Token) (fault : ExprFault) : Type 0 where
    front : List Token
    later : List Token
    split : tokens ≡ front ++ later
    place : HasPlace fault (first_place end later)
    before : CanGoOn pins front
    wrong : NoneBegins pins front later

  -- what was read so far, and where that leads
  abbrev LeadsTo : Mode → List Token → Type 0
  LeadsTo mode all = (end : ℕ) (more : List Token) → read_on pins end (Ok (Expects [])) (all ++ more) ≡ read_on pins end (Ok mode) more

  no_term : (end : ℕ) (tokens : List Token) (fault : ExprFault) → read_on pins end (Ok (Expects [])) tokens ≡ Err fault → (t : Term) → ParsesAs pins OrLevel 0 tokens t → ⊥
  no_term end tokens fault is t h = let same : Ok t ≡ Err fault = sym (reads_tokens pins end tokens t h) ∙ is in cc

  at_the_end : (end : ℕ) (mode : Mode) (all : List Token) (fault : ExprFault) → ModeReads pins mode all → LeadsTo mode all → finish end mode ≡ Err fault → Found end (all ++ []) fault
  at_the_end end mode all fault reads leads is = record {
    front = all;
    later = [];
    split = refl;
    place = subst (FaultsAt end) is (finish_at end mode);
    before = goes_on mode all reads;
    wrong = no_term end all fault (ap (read_on pins end (Ok (Expects []))) (sym (append-nil all)) ∙ leads end [] ∙ is);
  }

  at_a_token : (end : ℕ) (mode : Mode) (token : Token) (later all : List Token) (fault : ExprFault) → ModeReads pins mode all → LeadsTo mode all → step pins mode token ≡ Err fault → Found end (all ++ token ∷ later) fault
  at_a_token end mode token later all fault reads leads is = record {
    front = all;
    later = token ∷ later;
    split = refl;
    place = subst (FaultsAt token.at) is (step_at pins mode token);
    before = goes_on mode all reads;
    wrong = λ more t h. no_term end (all ++ token ∷ more) fault (leads end (token ∷ more) ∙ ap (λ (r : Result Mode ExprFault). read_on pins end r more) is ∙ fault_stays pins end fault more) t h;
  }

  locate : (end : ℕ) (mode : Mode) (tokens all : List Token) (fault : ExprFault) → ModeReads pins mode all → LeadsTo mode all → read_on pins end (Ok mode) tokens ≡ Err fault → Found end (all ++ tokens) fault
  locate end mode [] all fault reads leads is = at_the_end end mode all fault reads leads is
  locate end mode (token ∷ later) all fault reads leads is = pick (step pins mode token) refl (λ next after_reads after_leads after_is. locate end next later (all ++ token ∷ []) fault after_reads after_leads after_is)
    where
      pick : (r : Result Mode ExprFault) → step pins mode token ≡ r
          → ((next : Mode) → ModeReads pins next (all ++ token ∷ []) → LeadsTo next (all ++ token ∷ []) → read_on pins end (Ok next) later ≡ Err fault → Found end ((all ++ token ∷ []) ++ later) fault)
          → Found end (all ++ token ∷ later) fault
      pick (Ok next) stepped rest =
          let next_reads : Leads pins (Ok next) (all ++ token ∷ []) = subst (λ (r : Result Mode ExprFault). Leads pins r (all ++ token ∷ [])) stepped (after-leads pins (Ok mode) token all reads) in
          let next_leads : LeadsTo next (all ++ token ∷ []) = λ e more. ap (read_on pins e (Ok (Expects []))) (append_assoc all (token ∷ []) more) ∙ leads e (token ∷ more) ∙ ap (λ (r : Result Mode ExprFault). read_on pins e r more) stepped in
          subst (λ (l : List Token). Found end l fault) (append_assoc all (token ∷ []) later) (rest next next_reads next_leads (ap (λ (r : Result Mode ExprFault). read_on pins end r later) (sym stepped) ∙ is))
      pick (Err found) stepped rest =
          let same : Err found ≡ Err fault = sym (ap (λ (r : Result Mode ExprFault). read_on pins end r later) stepped ∙ fault_stays pins end found later) ∙ is in
          at_a_token end mode token later all fault reads leads (stepped ∙ as_mode found fault same)
        where
          as_mode : (f g : ExprFault) → let x : Result Term ExprFault = Err f in x ≡ Err g → let y : Result Mode ExprFault = Err f in y ≡ Err g
          as_mode f g e = let h : f ≡ g = cc in ap Err h

-- a fault that is read is the text's first fault
pub read_faults : (pins : List (List ℕ)) (text : List ℕ) (fault : ExprFault) → read_text pins text ≡ Err fault → IsFirstExprFault pins text fault
read_faults pins text fault is = shown fault (locate pins (length text) (Expects []) (tokens_from false 0 text) [] fault nothing (λ end more. refl) is)
  where
    shown : (fault : ExprFault) → Found pins (length text) (tokens_from false 0 text) fault → IsFirstExprFault pins text fault
    shown (BadExpr at) found = record { front = found.front; later = found.later; split = found.split; place = found.place; before = found.before; wrong = found.wrong }
    shown (UnknownPin at) found = record { front = found.front; later = found.later; split = found.split; place = found.place; before = found.before; wrong = found.wrong }
    shown (TooDeep at) found = record { front = found.front; later = found.later; split = found.split; place = found.place; before = found.before; wrong = found.wrong }
    shown NoMemory found = tt

-- a fault that is answered is the text's first fault, or want of memory
pub answered_faults : (pins : List (List ℕ)) (text : List ℕ) (r : Result Expr ExprFault) → OrNoMemory NoMemory term_of r (read_text pins text) → IfErr r (IsFirstExprFault pins text)
answered_faults pins text (Ok e) g = tt
answered_faults pins text (Err fault) (inl none) = subst (IsFirstExprFault pins text) (sym none) tt
answered_faults pins text (Err fault) (inr g) = read_faults pins text fault g
