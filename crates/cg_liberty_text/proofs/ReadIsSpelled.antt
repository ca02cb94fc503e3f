-- Statements that are read without a fault are spelled by the grammar.
use Rattle.std.proofs.Common.{◌≡◌, ◌≢◌, ◌≤◌, ◌+◌, ◌-◌, ◌==◌, ℕ, zero, suc, Bool, true, false, cond, List, [], ◌∷◌, ◌++◌, length}
use Rattle.std.proofs.Common.{None, Result, Ok, Err, refl, sym, ap, ◌∙◌, subst, inl, inr, append_assoc, length-append, ne_eqb}
use Rattle.std.proofs.Common.{arith}
use Rattle.std.proofs.lemmas.Bool.{eqb-false, false≢true}
use Rattle.cg_limit.specs.declared.TheConstants.{MOST_NESTING}
use Rattle.cg_liberty_text.specs.Argument.{argument_texts, behind_arguments, behind_value, is_open_brace, unexpected}
use Rattle.cg_liberty_text.specs.Grammar.{EachBefore, IsGroup, IsHead, IsPlain, Piece, Spells, SpellsAll, lone_text, statements_of}
use Rattle.cg_liberty_text.specs.Grammar.{tokens_of}
use Rattle.cg_liberty_text.specs.Statement.{Read, faulty, put_statement, statements}
use Rattle.cg_liberty_text.specs.Statement.Phase.{Done, Listed, Named, Start}
use Rattle.cg_liberty_text.specs.declared.fault.TextFault.{TextFault}
use Rattle.cg_liberty_text.specs.declared.fault.TextFault.TheVariants.{BadGroup, Nesting}
use Rattle.cg_liberty_text.specs.declared.lexeme.Kind.{Kind}
use Rattle.cg_liberty_text.specs.declared.lexeme.Kind.TheVariants as kinds
use Rattle.cg_liberty_text.specs.declared.statement.Statement.TheVariants.{Open, Close, Attribute}
use Rattle.cg_liberty_text.specs.declared.token.Token.{Token}
use Rattle.cg_liberty_text.proofs.ArgumentLists.{arguments_of, token_of}
use Rattle.cg_liberty_text.proofs.AttributeValues.{ValueUpTo, value_of}
use Rattle.cg_liberty_text.proofs.Phases.{go_on}
use Rattle.cg_liberty_text.proofs.SpelledIsRead.{brace_closed, colon_valued, is_misplaced, mark_passed, no_body, paren_listing}
use Rattle.cg_liberty_text.proofs.SpelledIsRead.{place_of, word_named}

-- nothing was refused
abbrev pub Fine : Read → Type 0
Fine read = read.1 ≡ None

pub faulted : {A : Type 0} (fault : TextFault) → Fine (faulty fault) → A
faulted fault h = absurd (cc)

pub fine_by : (r s : Read) → r ≡ s → Fine r → Fine s
fine_by r s same h = subst Fine same h

no_brace : (kind : Kind) → is_open_brace kind ≡ false → kind ≢ kinds.OpenBrace
no_brace kind is = λ same. false≢true (sym is ∙ ap is_open_brace same)

-- Lengths and depths, where nothing else is known

behind_one : (token : Token) (after : List Token) (n : ℕ) → length (token ∷ after) ≤ n → length after ≤ n
behind_one token after n long = omega arith

behind_first : (token : Token) (after : List Token) (n : ℕ) → length (token ∷ after) ≤ suc n → length after ≤ n
behind_first token after n long = omega arith

too_long : {A : Type 0} (token : Token) (after : List Token) → length (token ∷ after) ≤ zero → A
too_long token after long = absurd (omega arith)

length_behind : (whole front later : List Token) (n : ℕ) → whole ≡ front ++ later → length whole ≤ n → length later ≤ n
length_behind whole front later n split long = let a = length-append front later in let c = ap length split in omega arith

no_room : (depth : ℕ) → depth + zero ≡ MOST_NESTING → depth ≡ MOST_NESTING
no_room depth is = omega arith

one_deeper : (depth room : ℕ) → depth + suc room ≡ MOST_NESTING → depth + 1 + room ≡ MOST_NESTING
one_deeper depth room is = omega arith

within : (depth : ℕ) → 1 ≤ depth + 1
within depth = omega arith

back_out : (depth : ℕ) → depth + 1 - 1 ≡ depth
back_out depth = omega arith

not_outermost : (depth : ℕ) → 1 ≤ depth → (depth + 1 == 1) ≡ false
not_outermost depth inside = ne_eqb (depth + 1) 1 (λ same. omega arith)

-- tokens that are statements in a row up to a `}`, and what is read behind it
pub record Closed (end room depth : ℕ) (tokens : List Token) : Type 0 where
  pub pieces : List Piece
  pub last : Token
  pub rest : List Token
  pub split : tokens ≡ tokens_of pieces ++ last ∷ rest
  pub closes : last.kind ≡ kinds.CloseBrace
  pub row : SpellsAll room pieces (last ∷ rest)
  pub fine : Fine (statements end (depth - 1) (cond (depth == 1) Done Start) rest)

plain_spelled : (room : ℕ) (piece : Piece) (rest : List Token) → IsPlain piece rest → Spells room piece rest
unfolding Spells
plain_spelled zero piece rest plain = plain
plain_spelled (suc room) piece rest plain = inl plain

group_spelled : (room : ℕ) (piece : Piece) (rest : List Token) → IsGroup (suc room) (EachBefore (Spells room)) piece rest → Spells (suc room) piece rest
unfolding Spells
group_spelled room piece rest group = inr group

-- one more piece in front
one_more : (end room depth : ℕ) (piece : Piece) (tokens behind : List Token) → tokens ≡ piece.tokens ++ behind → Spells room piece behind → Closed end room depth behind → Closed end room depth tokens
one_more end room depth piece tokens behind is spelled later = record {
  pieces = piece ∷ later.pieces;
  last = later.last;
  rest = later.rest;
  split = is ∙ ap (λ (ts : List Token). piece.tokens ++ ts) later.split ∙ sym (append_assoc piece.tokens (tokens_of later.pieces) (later.last ∷ later.rest));
  closes = later.closes;
  row = (subst (Spells room piece) later.split spelled, later.row);
  fine = later.fine;
}

-- the law, for so many tokens at most
abbrev pub UpToLength : ℕ → ℕ → Type 0
UpToLength end n = (room depth : ℕ) (tokens : List Token) → length tokens ≤ n → depth + room ≡ MOST_NESTING → 1 ≤ depth → Fine (statements end depth Start tokens) → Closed end room depth tokens

-- Attributes

at_value_end : (end n room depth : ℕ) → UpToLength end n → (word colon : Token) (after : List Token) (passed : Result (List Token) TextFault) → length after ≤ n → depth + room ≡ MOST_NESTING → 1 ≤ depth → word.kind ≡ kinds.Word → colon.kind ≡ kinds.Colon → behind_value after ≡ passed → Fine (go_on passed (statements end depth Start)) → Closed end room depth (word ∷ colon ∷ after)
at_value_end end n room depth law word colon after (Err fault) long is inside named marks passes h = faulted fault h
at_value_end end n room depth law word colon after (Ok []) long is inside named marks passes h = faulted (BadGroup end) h
at_value_end end n room depth law word colon after (Ok (next ∷ later)) long is inside named marks passes h =
    let found : ValueUpTo after (next ∷ later) = value_of after next later passes in
    let piece : Piece = record { tokens = word ∷ colon ∷ found.value ++ found.end; statements = Attribute word.text (lone_text found.value) ∷ [] } in
    let spelled : Spells room piece (next ∷ later) = plain_spelled room piece (next ∷ later) (inr (inl (record { word = word; colon = colon; value = found.value; end = found.end; named = named; marks = marks; inside = found.inside; ends = found.ends; is = refl; stands = refl }))) in
    let short : length (next ∷ later) ≤ n = length_behind after (found.value ++ found.end) (next ∷ later) n found.split long in
    one_more end room depth piece (word ∷ colon ∷ after) (next ∷ later) (ap (λ (ts : List Token). word ∷ colon ∷ ts) found.split) spelled (law room depth (next ∷ later) short is inside h)

at_colon : (end n room depth : ℕ) → UpToLength end n → (word colon : Token) (after : List Token) → length after ≤ n → depth + room ≡ MOST_NESTING → 1 ≤ depth → word.kind ≡ kinds.Word → colon.kind ≡ kinds.Colon → Fine (statements end depth (Named word) (colon ∷ after)) → Closed end room depth (word ∷ colon ∷ after)
at_colon end n room depth law word colon after long is inside named marks h =
    at_value_end end n room depth law word colon after (behind_value after) long is inside named marks refl (fine_by _ _ (colon_valued end depth word colon after inside marks) h)

at_complex : (end n room depth : ℕ) → UpToLength end n → (word : Token) (texts : List (List ℕ)) (front : List Token) (next : Token) (later : List Token) → IsHead word texts front → length (next ∷ later) ≤ n → depth + room ≡ MOST_NESTING → 1 ≤ depth → next.kind ≢ kinds.OpenBrace → Fine (statements end depth (Listed word texts) (next ∷ later)) → Closed end room depth (front ++ next ∷ later)
at_complex end n room depth law word texts front next later head long is inside apart h =
    let piece : Piece = record { tokens = front; statements = Attribute word.text None ∷ [] } in
    let spelled : Spells room piece (next ∷ later) = plain_spelled room piece (next ∷ later) (inr (inr (record { word = word; texts = texts; head = head; apart = apart; stands = refl }))) in
    one_more end room depth piece (front ++ next ∷ later) (next ∷ later) refl spelled (law room depth (next ∷ later) long is inside (fine_by _ _ (no_body end depth word texts next later inside apart) h))

-- Groups

record Opened (depth : ℕ) (word : Token) (texts : List (List ℕ)) (later : Read) : Type 0 where
  shallow : (depth == MOST_NESTING) ≡ false
  placed : is_misplaced depth word texts ≡ false
  fine : Fine later

opened_by : (depth : ℕ) (word : Token) (texts : List (List ℕ)) (later : Read) (deep misplaced : Bool) → (depth == MOST_NESTING) ≡ deep → is_misplaced depth word texts ≡ misplaced → Fine (cond deep (faulty Nesting) (cond misplaced (faulty (BadGroup word.at)) (put_statement (Open word.text texts) later))) → Opened depth word texts later
opened_by depth word texts later true misplaced d m h = faulted Nesting h
opened_by depth word texts later false true d m h = faulted (BadGroup word.at) h
opened_by depth word texts later false false d m h = record { shallow = d; placed = m; fine = h }

brace_tested : (end depth : ℕ) (word : Token) (texts : List (List ℕ)) (brace : Token) (after : List Token) → brace.kind ≡ kinds.OpenBrace → Fine (statements end depth (Listed word texts) (brace ∷ after)) → Opened depth word texts (statements end (depth + 1) Start after)
brace_tested end depth word texts brace after is h =
    let tests : statements end depth (Listed word texts) (brace ∷ after) ≡ cond (depth == MOST_NESTING) (faulty Nesting) (cond (is_misplaced depth word texts) (faulty (BadGroup word.at)) (put_statement (Open word.text texts) (statements end (depth + 1) Start after))) = rw is refl in
    opened_by depth word texts (statements end (depth + 1) Start after) (depth == MOST_NESTING) (is_misplaced depth word texts) refl refl (fine_by _ _ tests h)

closed_inside : (end room depth : ℕ) (tokens : List Token) → 1 ≤ depth → (inner : Closed end room (depth + 1) tokens) → Fine (statements end depth Start inner.rest)
closed_inside end room depth tokens inside inner =
    fine_by _ _ (ap (λ (d : ℕ). statements end d (cond (depth + 1 == 1) Done Start) inner.rest) (back_out depth) ∙ ap (λ (b : Bool). statements end depth (cond b Done Start) inner.rest) (not_outermost depth inside)) inner.fine

group_piece : Token → List (List ℕ) → List Token → Token → List Piece → Token → Piece
group_piece word texts front brace pieces last = record { tokens = front ++ (brace ∷ tokens_of pieces ++ last ∷ []); statements = Open word.text texts ∷ statements_of pieces ++ Close ∷ [] }

at_brace : (end n room depth : ℕ) → UpToLength end n → (word : Token) (texts : List (List ℕ)) (front : List Token) (brace : Token) (after : List Token) → IsHead word texts front → length after ≤ n → depth + room ≡ MOST_NESTING → 1 ≤ depth → brace.kind ≡ kinds.OpenBrace → Opened depth word texts (statements end (depth + 1) Start after) → Closed end room depth (front ++ brace ∷ after)
unfolding group_piece
at_brace end n zero depth law word texts front brace after head long is inside opens tested = absurd (eqb-false depth MOST_NESTING tested.shallow (no_room depth is))
at_brace end n (suc room) depth law word texts front brace after head long is inside opens tested =
    let inner : Closed end room (depth + 1) after = law room (depth + 1) after long (one_deeper depth room is) (within depth) tested.fine in
    let short : length inner.rest ≤ n = behind_one inner.last inner.rest n (length_behind after (tokens_of inner.pieces) (inner.last ∷ inner.rest) n inner.split long) in
    let later : Closed end (suc room) depth inner.rest = law (suc room) depth inner.rest short is inside (closed_inside end room depth after inside inner) in
    let piece : Piece = group_piece word texts front brace inner.pieces inner.last in
    let spelled : Spells (suc room) piece inner.rest = group_spelled room piece inner.rest (record { word = word; texts = texts; front = front; brace = brace; pieces = inner.pieces; last = inner.last; head = head; place = place_of (suc room) depth word texts is tested.placed; opens = opens; inside = inner.row; closes = inner.closes; is = refl; stands = refl }) in
    let body : List Token = brace ∷ tokens_of inner.pieces ++ inner.last ∷ [] in
    let joined : body ++ inner.rest ≡ brace ∷ tokens_of inner.pieces ++ inner.last ∷ inner.rest = ap (λ (ts : List Token). brace ∷ ts) (append_assoc (tokens_of inner.pieces) (inner.last ∷ []) inner.rest) in
    let split : front ++ brace ∷ after ≡ (front ++ body) ++ inner.rest = ap (λ (ts : List Token). front ++ brace ∷ ts) inner.split ∙ ap (λ (ts : List Token). front ++ ts) (sym joined) ∙ sym (append_assoc front body inner.rest) in
    one_more end (suc room) depth piece (front ++ brace ∷ after) inner.rest split spelled later

-- Heads

at_next : (end n room depth : ℕ) → UpToLength end n → (word : Token) (texts : List (List ℕ)) (front : List Token) (kind : Kind) (at : ℕ) (text : List ℕ) (fresh : Bool) (later : List Token) → IsHead word texts front → length (token_of kind at text fresh ∷ later) ≤ n → depth + room ≡ MOST_NESTING → 1 ≤ depth → Fine (statements end depth (Listed word texts) (token_of kind at text fresh ∷ later)) → Closed end room depth (front ++ token_of kind at text fresh ∷ later)
at_next end n room depth law word texts front kinds.OpenBrace at text fresh later head long is inside h =
    let brace : Token = token_of kinds.OpenBrace at text fresh in
    let short : length later ≤ n = behind_one brace later n long in
    at_brace end n room depth law word texts front brace later head short is inside refl (brace_tested end depth word texts brace later refl h)
at_next end n room depth law word texts front kind at text fresh later head long is inside h =
    at_complex end n room depth law word texts front (token_of kind at text fresh) later head long is inside (no_brace kind refl) h

at_listed : (end n room depth : ℕ) → UpToLength end n → (word opening : Token) (after : List Token) (passed : Result (List Token) TextFault) → length after ≤ n → depth + room ≡ MOST_NESTING → 1 ≤ depth → word.kind ≡ kinds.Word → opening.kind ≡ kinds.OpenParen → behind_arguments end kinds.OpenParen after ≡ passed → Fine (go_on passed (statements end depth (Listed word (argument_texts after)))) → Closed end room depth (word ∷ opening ∷ after)
at_listed end n room depth law word opening after (Err fault) long is inside named opens passes h = faulted fault h
at_listed end n room depth law word opening after (Ok []) long is inside named opens passes h = faulted (BadGroup end) h
at_listed end n room depth law word opening after (Ok (next ∷ later)) long is inside named opens passes h =
    let found = arguments_of end (next ∷ later) after passes in
    let front : List Token = word ∷ opening ∷ found.arguments ++ found.closing ∷ [] in
    let head : IsHead word (argument_texts after) front = record { opening = opening; arguments = found.arguments; closing = found.closing; named = named; opens = opens; lists = found.are; closes = found.closes; is = refl } in
    let short : length (next ∷ later) ≤ n = behind_one found.closing (next ∷ later) n (length_behind after found.arguments (found.closing ∷ next ∷ later) n found.split long) in
    let split : front ++ next ∷ later ≡ word ∷ opening ∷ after = ap (λ (ts : List Token). word ∷ opening ∷ ts) (append_assoc found.arguments (found.closing ∷ []) (next ∷ later) ∙ sym found.split) in
    subst (Closed end room depth) split (at_next end n room depth law word (argument_texts after) front next.kind next.at next.text next.fresh later head short is inside h)

at_paren : (end n room depth : ℕ) → UpToLength end n → (word opening : Token) (after : List Token) → length after ≤ n → depth + room ≡ MOST_NESTING → 1 ≤ depth → word.kind ≡ kinds.Word → opening.kind ≡ kinds.OpenParen → Fine (statements end depth (Named word) (opening ∷ after)) → Closed end room depth (word ∷ opening ∷ after)
at_paren end n room depth law word opening after long is inside named opens h =
    at_listed end n room depth law word opening after (behind_arguments end kinds.OpenParen after) long is inside named opens refl (fine_by _ _ (paren_listing end depth word opening after opens) h)

at_second : (end n room depth : ℕ) → UpToLength end n → (word : Token) (kind : Kind) (at : ℕ) (text : List ℕ) (fresh : Bool) (after : List Token) → length after ≤ n → depth + room ≡ MOST_NESTING → 1 ≤ depth → word.kind ≡ kinds.Word → Fine (statements end depth (Named word) (token_of kind at text fresh ∷ after)) → Closed end room depth (word ∷ token_of kind at text fresh ∷ after)
at_second end n room depth law word kinds.OpenParen at text fresh after long is inside named h = at_paren end n room depth law word (token_of kinds.OpenParen at text fresh) after long is inside named refl h
at_second end n room depth law word kinds.Colon at text fresh after long is inside named h = at_colon end n room depth law word (token_of kinds.Colon at text fresh) after long is inside named refl h
at_second end n room depth law word kind at text fresh after long is inside named h = faulted (unexpected (token_of kind at text fresh)) h

at_word : (end n room depth : ℕ) → UpToLength end n → (word : Token) (after : List Token) → length after ≤ n → depth + room ≡ MOST_NESTING → 1 ≤ depth → word.kind ≡ kinds.Word → Fine (statements end depth (Named word) after) → Closed end room depth (word ∷ after)
at_word end n room depth law word [] long is inside named h = faulted (BadGroup end) h
at_word end n room depth law word (second ∷ after) long is inside named h =
    let short : length after ≤ n = behind_one second after n long in
    at_second end n room depth law word second.kind second.at second.text second.fresh after short is inside named h

at_first : (end n room depth : ℕ) → UpToLength end n → (kind : Kind) (at : ℕ) (text : List ℕ) (fresh : Bool) (after : List Token) → length after ≤ n → depth + room ≡ MOST_NESTING → 1 ≤ depth → Fine (statements end depth Start (token_of kind at text fresh ∷ after)) → Closed end room depth (token_of kind at text fresh ∷ after)
at_first end n room depth law kinds.Word at text fresh after long is inside h =
    let word : Token = token_of kinds.Word at text fresh in
    at_word end n room depth law word after long is inside refl (fine_by _ _ (word_named end depth word after inside refl) h)
at_first end n room depth law kinds.Semicolon at text fresh after long is inside h =
    let mark : Token = token_of kinds.Semicolon at text fresh in
    let piece : Piece = record { tokens = mark ∷ []; statements = [] } in
    one_more end room depth piece (mark ∷ after) after refl (plain_spelled room piece after (inl (record { mark = mark; marks = refl; is = refl; stands = refl }))) (law room depth after long is inside (fine_by _ _ (mark_passed end depth mark after inside refl) h))
at_first end n room depth law kinds.CloseBrace at text fresh after long is inside h =
    let last : Token = token_of kinds.CloseBrace at text fresh in
    record { pieces = []; last = last; rest = after; split = refl; closes = refl; row = tt; fine = fine_by _ _ (brace_closed end depth last after inside refl) h }
at_first end n room depth law kind at text fresh after long is inside h = faulted (unexpected (token_of kind at text fresh)) h

pub closed_within : (end n : ℕ) → UpToLength end n
closed_within end n room depth [] long is inside h = faulted (BadGroup end) h
closed_within end zero room depth (token ∷ after) long is inside h = too_long token after long
closed_within end (suc n) room depth (token ∷ after) long is inside h =
    let short : length after ≤ n = behind_first token after n long in
    at_first end n room depth (closed_within end n) token.kind token.at token.text token.fresh after short is inside h
