-- The tokens of a library one by one, without a look ahead: what may come behind each, and the fault where nothing may.
use Rattle.std.proofs.Common.{◌≡◌, ◌+◌, ◌-◌, ◌==◌, ℕ, nat_lt, Bool, true, false, cond, not, ◌&&◌, ◌||◌, List, [], ◌∷◌, ◌++◌, codes}
use Rattle.std.proofs.Common.{Option, None, Some, refl, sym, ap, ◌∙◌, subst, append_assoc, append-nil}
use Rattle.std.specs.Str.{bytes_eq}
use Rattle.cg_limit.specs.declared.TheConstants.{MOST_NESTING}
use Rattle.cg_liberty_text.specs.Argument.{argument_texts, ends_value, is_close_brace, is_close_paren, is_colon, is_in_value}
use Rattle.cg_liberty_text.specs.Argument.{is_open_brace, is_open_paren, is_semicolon, is_text, is_word, may_follow, unexpected}
use Rattle.cg_liberty_text.specs.Argument.{value_text}
use Rattle.cg_liberty_text.specs.Statement.{Phase, begun, ended, faulty, put_statement, statements}
use Rattle.cg_liberty_text.specs.Statement.Phase.{Done, Listed, Listing, Named, Start, Valued}
use Rattle.cg_liberty_text.specs.declared.fault.TextFault.{TextFault}
use Rattle.cg_liberty_text.specs.declared.fault.TextFault.TheVariants.{BadGroup, Nesting}
use Rattle.cg_liberty_text.specs.declared.lexeme.Kind.TheVariants as kinds
use Rattle.cg_liberty_text.specs.declared.statement.Statement.TheVariants.{Open, Close, Attribute}
use Rattle.cg_liberty_text.specs.declared.token.Token.{Token}
use Rattle.cg_liberty_text.proofs.ReadIsSpelled.{Fine, faulted}
use Rattle.cg_liberty_text.proofs.SpelledIsRead.{is_misplaced}

-- how many groups are open, and what may come; within arguments with the texts of those that stand so far
pub record State : Type 0 where
  pub depth : ℕ
  pub phase : Phase

abbrev pub at : ℕ → Phase → State
at depth phase = record { depth = depth; phase = phase }

-- the phase as the reader has it, which looks ahead at all arguments
abbrev pub ahead : Phase → List Token → Phase
ahead Start tokens = Start
ahead (Named word) tokens = Named word
ahead (Listing word texts before) tokens = Listing word (texts ++ argument_texts tokens) before
ahead (Listed word texts) tokens = Listed word texts
ahead Valued tokens = Valued
ahead Done tokens = Done

-- behind a token that begins a statement, and behind a `{`
abbrev pub begins : ℕ → Token → Option State
begins depth token =
    cond (is_word token.kind && (nat_lt 0 depth || bytes_eq token.text (codes "library"))) (Some (at depth (Named token)))
    (cond (is_semicolon token.kind && nat_lt 0 depth) (Some (at depth Start))
    (cond (is_close_brace token.kind && nat_lt 0 depth) (Some (at (depth - 1) (cond (depth == 1) Done Start))) None))

abbrev pub opens : ℕ → Token → List (List ℕ) → Option State
opens depth word texts = cond (depth == MOST_NESTING) None (cond (is_misplaced depth word texts) None (Some (at (depth + 1) Start)))

-- the state behind one more token, if it may stand there
abbrev pub step : ℕ → Phase → Token → Option State
step depth Start token = begins depth token
step depth (Named word) token = cond (is_open_paren token.kind) (Some (at depth (Listing word [] kinds.OpenParen))) (cond (is_colon token.kind && nat_lt 0 depth) (Some (at depth Valued)) None)
step depth (Listing word texts before) token = cond (may_follow before token.kind) (Some (at depth (cond (is_close_paren token.kind) (Listed word texts) (Listing word (texts ++ cond (is_text token.kind) (token.text ∷ []) []) token.kind)))) None
step depth (Listed word texts) token = cond (is_open_brace token.kind) (opens depth word texts) (cond (nat_lt 0 depth) (begins depth token) None)
step depth Valued token = cond (ends_value token) (cond (not token.fresh && is_semicolon token.kind) (Some (at depth Start)) (begins depth token)) (cond (is_in_value token.kind) (Some (at depth Valued)) None)
step depth Done token = None

-- the fault of a token that may not stand there
abbrev pub refusal : ℕ → Phase → Token → TextFault
refusal depth (Listed word texts) token = cond (is_open_brace token.kind) (cond (depth == MOST_NESTING) Nesting (BadGroup word.at)) (unexpected token)
refusal depth _ token = unexpected token

-- the fault of the tokens behind, or the one here
abbrev pub behind : ℕ → List Token → Option State → TextFault → Option TextFault
behind end after (Some s) fault = (statements end s.depth (ahead s.phase after) after).1
behind end after None fault = Some fault

three : (end depth : ℕ) (token : Token) (after : List Token) (names passes closes last : Bool) →
    (cond names (statements end depth (Named token) after) (cond passes (statements end depth Start after) (cond closes (put_statement Close (statements end (depth - 1) (cond last Done Start) after)) (faulty (unexpected token))))).1
    ≡ behind end after (cond names (Some (at depth (Named token))) (cond passes (Some (at depth Start)) (cond closes (Some (at (depth - 1) (cond last Done Start))) None))) (unexpected token)
three end depth token after true passes closes last = refl
three end depth token after false true closes last = refl
three end depth token after false false true true = refl
three end depth token after false false true false = refl
three end depth token after false false false last = refl

begun_fault : (end depth : ℕ) (token : Token) (after : List Token) → (begun depth token (λ inside next. statements end inside next after)).1 ≡ behind end after (begins depth token) (unexpected token)
begun_fault end depth token after = three end depth token after (is_word token.kind && (nat_lt 0 depth || bytes_eq token.text (codes "library"))) (is_semicolon token.kind && nat_lt 0 depth) (is_close_brace token.kind && nat_lt 0 depth) (depth == 1)

named_fault : (end depth : ℕ) (word token : Token) (after : List Token) (opening colon : Bool) →
    (cond opening (statements end depth (Listing word (argument_texts after) kinds.OpenParen) after) (cond colon (put_statement (Attribute word.text (value_text after)) (statements end depth Valued after)) (faulty (unexpected token)))).1
    ≡ behind end after (cond opening (Some (at depth (Listing word [] kinds.OpenParen))) (cond colon (Some (at depth Valued)) None)) (unexpected token)
named_fault end depth word token after true colon = refl
named_fault end depth word token after false true = refl
named_fault end depth word token after false false = refl

listing_fault : (end depth : ℕ) (word token : Token) (texts : List (List ℕ)) (after : List Token) (may closes text : Bool) →
    (let all : List (List ℕ) = texts ++ cond closes [] (cond text (token.text ∷ argument_texts after) (argument_texts after)) in
    (cond may (statements end depth (cond closes (Listed word all) (Listing word all token.kind)) after) (faulty (unexpected token))).1)
    ≡ behind end after (cond may (Some (at depth (cond closes (Listed word texts) (Listing word (texts ++ cond text (token.text ∷ []) []) token.kind)))) None) (unexpected token)
listing_fault end depth word token texts after true true text = ap (λ (ts : List (List ℕ)). (statements end depth (Listed word ts) after).1) (append-nil texts)
listing_fault end depth word token texts after true false true = ap (λ (ts : List (List ℕ)). (statements end depth (Listing word ts token.kind) after).1) (sym (append_assoc texts (token.text ∷ []) (argument_texts after)))
listing_fault end depth word token texts after true false false = ap (λ (ts : List (List ℕ)). (statements end depth (Listing word ts token.kind) after).1) (sym (append_assoc texts [] (argument_texts after)))
listing_fault end depth word token texts after false closes text = refl

listed_fault : (end depth : ℕ) (word token : Token) (texts : List (List ℕ)) (after : List Token) (brace deep misplaced inside : Bool) →
    (cond brace (cond deep (faulty Nesting) (cond misplaced (faulty (BadGroup word.at)) (put_statement (Open word.text texts) (statements end (depth + 1) Start after)))) (cond inside (put_statement (Attribute word.text None) (begun depth token (λ inside next. statements end inside next after))) (faulty (unexpected token)))).1
    ≡ behind end after (cond brace (cond deep None (cond misplaced None (Some (at (depth + 1) Start)))) (cond inside (begins depth token) None)) (cond brace (cond deep Nesting (BadGroup word.at)) (unexpected token))
listed_fault end depth word token texts after true true misplaced inside = refl
listed_fault end depth word token texts after true false true inside = refl
listed_fault end depth word token texts after true false false inside = refl
listed_fault end depth word token texts after false deep misplaced true = begun_fault end depth token after
listed_fault end depth word token texts after false deep misplaced false = refl

valued_fault : (end depth : ℕ) (token : Token) (after : List Token) (ends takes may : Bool) →
    (cond ends (cond takes (statements end depth Start after) (begun depth token (λ inside next. statements end inside next after))) (cond may (statements end depth Valued after) (faulty (unexpected token)))).1
    ≡ behind end after (cond ends (cond takes (Some (at depth Start)) (begins depth token)) (cond may (Some (at depth Valued)) None)) (unexpected token)
valued_fault end depth token after true true may = refl
valued_fault end depth token after true false may = begun_fault end depth token after
valued_fault end depth token after false takes true = refl
valued_fault end depth token after false takes false = refl

-- the reader's fault is that of the tokens behind, where this one may stand
pub next_fault : (end depth : ℕ) (phase : Phase) (token : Token) (after : List Token) → (statements end depth (ahead phase (token ∷ after)) (token ∷ after)).1 ≡ behind end after (step depth phase token) (refusal depth phase token)
next_fault end depth Start token after = begun_fault end depth token after
next_fault end depth (Named word) token after = named_fault end depth word token after (is_open_paren token.kind) (is_colon token.kind && nat_lt 0 depth)
next_fault end depth (Listing word texts before) token after = listing_fault end depth word token texts after (may_follow before token.kind) (is_close_paren token.kind) (is_text token.kind)
next_fault end depth (Listed word texts) token after = listed_fault end depth word token texts after (is_open_brace token.kind) (depth == MOST_NESTING) (is_misplaced depth word texts) (nat_lt 0 depth)
next_fault end depth Valued token after = valued_fault end depth token after (ends_value token) (not token.fresh && is_semicolon token.kind) (is_in_value token.kind)
next_fault end depth Done token after = refl

-- the state behind tokens, if all of them may stand there
abbrev pub run : Option State → List Token → Option State
run s [] = s
run None (token ∷ after) = None
run (Some s) (token ∷ after) = run (step s.depth s.phase token) after

pub run_none : (tokens : List Token) → run None tokens ≡ None
run_none [] = refl
run_none (token ∷ after) = refl

pub run-append : (s : Option State) (front later : List Token) → run s (front ++ later) ≡ run (run s front) later
run-append s [] later = refl
run-append None (token ∷ front) later = sym (run_none later)
run-append (Some s) (token ∷ front) later = run-append (step s.depth s.phase token) front later

-- a whole library stands before
abbrev pub IsDone : Option State → Type 0
IsDone None = ⊥
IsDone (Some s) = s.phase ≡ Done

done_at_end : (end : ℕ) (phase : Phase) → Fine (ended end (ahead phase [])) → phase ≡ Done
done_at_end end Start h = faulted (BadGroup end) h
done_at_end end (Named word) h = faulted (BadGroup end) h
done_at_end end (Listing word texts before) h = faulted (BadGroup end) h
done_at_end end (Listed word texts) h = faulted (BadGroup end) h
done_at_end end Valued h = faulted (BadGroup end) h
done_at_end end Done h = refl

runs_behind : (end : ℕ) (after : List Token) (next : Option State) (fault : TextFault) → ((s : State) → Fine (statements end s.depth (ahead s.phase after) after) → IsDone (run (Some s) after)) → behind end after next fault ≡ None → IsDone (run next after)
runs_behind end after (Some s) fault later h = later s h
runs_behind end after None fault later h = absurd (cc)

-- tokens that are read without a fault are a whole library
pub runs : (end : ℕ) (s : State) (tokens : List Token) → Fine (statements end s.depth (ahead s.phase tokens) tokens) → IsDone (run (Some s) tokens)
runs end s [] h = done_at_end end s.phase h
runs end s (token ∷ after) h = runs_behind end after (step s.depth s.phase token) (refusal s.depth s.phase token) (λ t fine. runs end t after fine) (sym (next_fault end s.depth s.phase token after) ∙ h)

fine_behind : (end : ℕ) (after : List Token) (next : Option State) (fault : TextFault) → ((s : State) → IsDone (run (Some s) after) → Fine (statements end s.depth (ahead s.phase after) after)) → IsDone (run next after) → behind end after next fault ≡ None
fine_behind end after (Some s) fault later h = later s h
fine_behind end after None fault later h = absurd (subst IsDone (run_none after) h)

-- and a whole library is read without a fault
pub reads : (end : ℕ) (s : State) (tokens : List Token) → IsDone (run (Some s) tokens) → Fine (statements end s.depth (ahead s.phase tokens) tokens)
reads end s [] h = subst (λ (p : Phase). Fine (ended end (ahead p []))) (sym h) refl
reads end s (token ∷ after) h = next_fault end s.depth s.phase token after ∙ fine_behind end after (step s.depth s.phase token) (refusal s.depth s.phase token) (λ t done. reads end t after done) h
