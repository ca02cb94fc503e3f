-- Statements that the grammar spells are read.
use Rattle.std.proofs.Common.{◌≡◌, ◌≢◌, ◌≤◌, ◌+◌, ◌-◌, ◌==◌, ℕ, zero, suc, nat_lt, Bool, true, false, cond, not, ◌&&◌, List, []}
use Rattle.std.proofs.Common.{◌∷◌, ◌++◌, length, codes, Option, None, Result, Ok, refl, sym, ap, ◌∙◌, inl, inr, append_assoc}
use Rattle.std.proofs.Common.{lt-ltb, eq-eqb, ne_eqb, eqb-true, arith}
use Rattle.std.specs.Str.{bytes_eq}
use Rattle.std.proofs.lemmas.Bool.{false≢true}
use Rattle.std.proofs.lemmas.Slice.Eq.{bytes_eq-Decides}
use Rattle.cg_limit.specs.declared.TheConstants.{MOST_NESTING}
use Rattle.cg_liberty_text.specs.Argument.{argument_texts, behind_arguments, behind_value, is_open_brace, value_text}
use Rattle.cg_liberty_text.specs.Grammar.{EachBefore, FitsPlace, HasNoBody, IsComplex, IsGroup, IsHead, IsLone, IsPlain, IsSimple}
use Rattle.cg_liberty_text.specs.Grammar.{Piece, Spells, lone_text, statements_of, tokens_of}
use Rattle.cg_liberty_text.specs.Statement.{Read, put_statement, statements}
use Rattle.cg_liberty_text.specs.Statement.Phase.{Done, Listed, Listing, Named, Start, Valued}
use Rattle.cg_liberty_text.specs.declared.fault.TextFault.{TextFault}
use Rattle.cg_liberty_text.specs.declared.lexeme.Kind.{Kind}
use Rattle.cg_liberty_text.specs.declared.lexeme.Kind.TheVariants as kinds
use Rattle.cg_liberty_text.specs.declared.statement.Statement.{Statement}
use Rattle.cg_liberty_text.specs.declared.statement.Statement.TheVariants.{Open, Close, Attribute}
use Rattle.cg_liberty_text.specs.declared.token.Token.{Token}
use Rattle.cg_liberty_text.proofs.ArgumentLists.{arguments_behind, arguments_texts}
use Rattle.cg_liberty_text.proofs.AttributeValues.{value_behind, value_lone}
use Rattle.cg_liberty_text.proofs.Phases.{go_on, listing, valued}

-- statements in front of what is read later
abbrev pub onto : List Statement → Read → Read
onto front later = (front ++ later.0, later.1)

same_fault : (a b : List Statement) (fault : Option TextFault) → a ≡ b → ◌≡◌ {A = Read} (a, fault) (b, fault)
same_fault a b fault same = ap (λ (s : List Statement). let r : Read = (s, fault) in r) same

onto_onto : (a b : List Statement) (later : Read) → onto a (onto b later) ≡ onto (a ++ b) later
onto_onto a b later = same_fault (a ++ (b ++ later.0)) (a ++ b ++ later.0) later.1 (sym (append_assoc a b later.0))

inside_any : (depth : ℕ) → 1 ≤ depth → nat_lt 0 depth ≡ true
inside_any depth inside = lt-ltb 0 depth inside

-- Steps of the reader

pub word_named : (end depth : ℕ) (word : Token) (after : List Token) → 1 ≤ depth → word.kind ≡ kinds.Word → statements end depth Start (word ∷ after) ≡ statements end depth (Named word) after
word_named end depth word after inside is = rw (is, inside_any depth inside) refl

pub library_named : (end : ℕ) (word : Token) (after : List Token) → word.kind ≡ kinds.Word → word.text ≡ codes "library" → statements end 0 Start (word ∷ after) ≡ statements end 0 (Named word) after
library_named end word after is named = let same = (bytes_eq-Decides word.text (codes "library")).1 named in rw (is, same) refl

pub mark_passed : (end depth : ℕ) (mark : Token) (after : List Token) → 1 ≤ depth → mark.kind ≡ kinds.Semicolon → statements end depth Start (mark ∷ after) ≡ statements end depth Start after
mark_passed end depth mark after inside is = rw (is, inside_any depth inside) refl

pub paren_listing : (end depth : ℕ) (word opening : Token) (after : List Token) → opening.kind ≡ kinds.OpenParen → statements end depth (Named word) (opening ∷ after) ≡ go_on (behind_arguments end kinds.OpenParen after) (statements end depth (Listed word (argument_texts after)))
paren_listing end depth word opening after is =
    let step : statements end depth (Named word) (opening ∷ after) ≡ statements end depth (Listing word (argument_texts after) kinds.OpenParen) after = rw is refl in
    step ∙ listing end depth word (argument_texts after) kinds.OpenParen after

pub colon_valued : (end depth : ℕ) (word colon : Token) (after : List Token) → 1 ≤ depth → colon.kind ≡ kinds.Colon → statements end depth (Named word) (colon ∷ after) ≡ put_statement (Attribute word.text (value_text after)) (go_on (behind_value after) (statements end depth Start))
colon_valued end depth word colon after inside is =
    let step : statements end depth (Named word) (colon ∷ after) ≡ put_statement (Attribute word.text (value_text after)) (statements end depth Valued after) = rw (is, inside_any depth inside) refl in
    step ∙ ap (put_statement (Attribute word.text (value_text after))) (valued end depth after)

is_no_brace : (kind : Kind) → kind ≢ kinds.OpenBrace → is_open_brace kind ≡ false
is_no_brace kinds.OpenBrace apart = absurd (apart refl)
is_no_brace _ apart = refl

pub no_body : (end depth : ℕ) (word : Token) (texts : List (List ℕ)) (token : Token) (after : List Token) → 1 ≤ depth → token.kind ≢ kinds.OpenBrace → statements end depth (Listed word texts) (token ∷ after) ≡ put_statement (Attribute word.text None) (statements end depth Start (token ∷ after))
no_body end depth word texts token after inside apart = rw (is_no_brace token.kind apart, inside_any depth inside) refl

-- whether a `cell` directly in the library has not one argument
abbrev pub is_misplaced : ℕ → Token → List (List ℕ) → Bool
is_misplaced depth word texts = depth == 1 && (bytes_eq word.text (codes "cell") && not (length texts == 1))

pub brace_opened : (end depth : ℕ) (word : Token) (texts : List (List ℕ)) (brace : Token) (after : List Token) → brace.kind ≡ kinds.OpenBrace → (depth == MOST_NESTING) ≡ false → is_misplaced depth word texts ≡ false → statements end depth (Listed word texts) (brace ∷ after) ≡ put_statement (Open word.text texts) (statements end (depth + 1) Start after)
brace_opened end depth word texts brace after is shallow placed = rw (is, shallow, placed) refl

pub brace_closed : (end depth : ℕ) (last : Token) (after : List Token) → 1 ≤ depth → last.kind ≡ kinds.CloseBrace → statements end depth Start (last ∷ after) ≡ put_statement Close (statements end (depth - 1) (cond (depth == 1) Done Start) after)
brace_closed end depth last after inside is = rw (is, inside_any depth inside) refl

pub brace_closed_inside : (end depth : ℕ) (last : Token) (after : List Token) → 1 ≤ depth → last.kind ≡ kinds.CloseBrace → statements end (depth + 1) Start (last ∷ after) ≡ put_statement Close (statements end depth Start after)
brace_closed_inside end depth last after inside is =
    let back : depth + 1 - 1 ≡ depth = omega arith in
    let more : (depth + 1 == 1) ≡ false = ne_eqb (depth + 1) 1 (λ same. omega arith) in
    let deep : 1 ≤ depth + 1 = omega arith in
    brace_closed end (depth + 1) last after deep is
    ∙ ap (λ (d : ℕ). put_statement Close (statements end d (cond (depth + 1 == 1) Done Start) after)) back
    ∙ ap (λ (b : Bool). put_statement Close (statements end depth (cond b Done Start) after)) more

-- Where a group may stand

place_step : (a b c : Bool) → (a ≡ true → b ≡ true → c ≡ true) → (a && (b && not c)) ≡ false
place_step false b c h = refl
place_step true false c h = refl
place_step true true true h = refl
place_step true true false h = absurd (false≢true (h refl refl))

place_back : (a b c : Bool) → (a && (b && not c)) ≡ false → a ≡ true → b ≡ true → c ≡ true
place_back a b true h ha hb = refl
place_back false b false h ha hb = ha
place_back true false false h ha hb = hb
place_back true true false h ha hb = sym h

pub placed_of : (room depth : ℕ) (word : Token) (texts : List (List ℕ)) → depth + room ≡ MOST_NESTING → FitsPlace room word texts → is_misplaced depth word texts ≡ false
placed_of room depth word texts is fits =
    place_step (depth == 1) (bytes_eq word.text (codes "cell")) (length texts == 1) (λ first cell.
    let top : depth ≡ 1 = eqb-true depth 1 first in
    let level : room + 1 ≡ MOST_NESTING = omega arith in
    eq-eqb (length texts) 1 (fits level ((bytes_eq-Decides word.text (codes "cell")).0 cell)))

pub place_of : (room depth : ℕ) (word : Token) (texts : List (List ℕ)) → depth + room ≡ MOST_NESTING → is_misplaced depth word texts ≡ false → FitsPlace room word texts
place_of room depth word texts is placed = λ level cell.
    let top : depth ≡ 1 = omega arith in
    eqb-true (length texts) 1 (place_back (depth == 1) (bytes_eq word.text (codes "cell")) (length texts == 1) placed (eq-eqb depth 1 top) ((bytes_eq-Decides word.text (codes "cell")).1 cell))

-- Pieces

-- a head is read up to its `)`
head_read : (end depth : ℕ) (word : Token) (texts : List (List ℕ)) (tokens rest : List Token) → ((after : List Token) → statements end depth Start (word ∷ after) ≡ statements end depth (Named word) after) → IsHead word texts tokens → statements end depth Start (tokens ++ rest) ≡ statements end depth (Listed word texts) rest
head_read end depth word texts tokens rest starts head =
    let behind : List Token = (head.arguments ++ head.closing ∷ []) ++ rest in
    let split : behind ≡ head.arguments ++ head.closing ∷ rest = append_assoc head.arguments (head.closing ∷ []) rest in
    let passed : behind_arguments end kinds.OpenParen behind ≡ Ok rest = ap (behind_arguments end kinds.OpenParen) split ∙ arguments_behind end texts head.arguments head.closing rest head.closes head.lists in
    let read : argument_texts behind ≡ texts = ap argument_texts split ∙ arguments_texts texts head.arguments head.closing rest head.closes head.lists in
    ap (λ (ts : List Token). statements end depth Start (ts ++ rest)) head.is
    ∙ starts (head.opening ∷ behind)
    ∙ paren_listing end depth word head.opening behind head.opens
    ∙ ap (λ (r : Result (List Token) TextFault). go_on r (statements end depth (Listed word (argument_texts behind)))) passed
    ∙ ap (λ (ts : List (List ℕ)). statements end depth (Listed word ts) rest) read

-- a piece is read before what stands behind it
abbrev pub IsRead : ℕ → ℕ → Piece → List Token → Type 0
IsRead end depth piece rest = statements end depth Start (piece.tokens ++ rest) ≡ onto piece.statements (statements end depth Start rest)

lone_read : (end depth : ℕ) (piece : Piece) (rest : List Token) → 1 ≤ depth → IsLone piece → IsRead end depth piece rest
lone_read end depth piece rest inside lone = rw (lone.is, lone.stands) (mark_passed end depth lone.mark rest inside lone.marks)

simple_read : (end depth : ℕ) (piece : Piece) (rest : List Token) → 1 ≤ depth → IsSimple piece rest → IsRead end depth piece rest
simple_read end depth piece rest inside simple =
    let behind : List Token = (simple.value ++ simple.end) ++ rest in
    let passed : behind_value behind ≡ Ok rest = value_behind simple.value simple.end rest simple.inside simple.ends in
    let text : value_text behind ≡ lone_text simple.value = value_lone simple.value simple.end rest simple.inside simple.ends in
    ap (λ (ts : List Token). statements end depth Start (ts ++ rest)) simple.is
    ∙ word_named end depth simple.word (simple.colon ∷ behind) inside simple.named
    ∙ colon_valued end depth simple.word simple.colon behind inside simple.marks
    ∙ ap (λ (r : Result (List Token) TextFault). put_statement (Attribute simple.word.text (value_text behind)) (go_on r (statements end depth Start))) passed
    ∙ ap (λ (t : Option (List ℕ)). put_statement (Attribute simple.word.text t) (statements end depth Start rest)) text
    ∙ ap (λ (s : List Statement). onto s (statements end depth Start rest)) (sym simple.stands)

complex_rest : (end depth : ℕ) (word : Token) (texts : List (List ℕ)) (rest : List Token) → 1 ≤ depth → HasNoBody rest → statements end depth (Listed word texts) rest ≡ put_statement (Attribute word.text None) (statements end depth Start rest)
complex_rest end depth word texts [] inside apart = absurd apart
complex_rest end depth word texts (token ∷ after) inside apart = no_body end depth word texts token after inside apart

complex_read : (end depth : ℕ) (piece : Piece) (rest : List Token) → 1 ≤ depth → IsComplex piece rest → IsRead end depth piece rest
complex_read end depth piece rest inside complex =
    head_read end depth complex.word complex.texts piece.tokens rest (λ after. word_named end depth complex.word after inside complex.head.named) complex.head
    ∙ complex_rest end depth complex.word complex.texts rest inside complex.apart
    ∙ ap (λ (s : List Statement). onto s (statements end depth Start rest)) (sym complex.stands)

plain_read : (end depth : ℕ) (piece : Piece) (rest : List Token) → 1 ≤ depth → IsPlain piece rest → IsRead end depth piece rest
plain_read end depth piece rest inside (inl lone) = lone_read end depth piece rest inside lone
plain_read end depth piece rest inside (inr (inl simple)) = simple_read end depth piece rest inside simple
plain_read end depth piece rest inside (inr (inr complex)) = complex_read end depth piece rest inside complex

pub row_read : (end depth : ℕ) (Is : Piece → List Token → Type 0) → ((piece : Piece) (rest : List Token) → Is piece rest → IsRead end depth piece rest) → (pieces : List Piece) (rest : List Token) → EachBefore Is pieces rest → statements end depth Start (tokens_of pieces ++ rest) ≡ onto (statements_of pieces) (statements end depth Start rest)
row_read end depth Is reads [] rest row = refl
row_read end depth Is reads (piece ∷ pieces) rest row =
    ap (statements end depth Start) (append_assoc piece.tokens (tokens_of pieces) rest)
    ∙ reads piece (tokens_of pieces ++ rest) row.0
    ∙ ap (onto piece.statements) (row_read end depth Is reads pieces rest row.1)
    ∙ onto_onto piece.statements (statements_of pieces) (statements end depth Start rest)

-- a group is read up to its `}`
pub group_opened : (end depth room : ℕ) (InARow : List Piece → List Token → Type 0) (piece : Piece) (rest : List Token) (group : IsGroup room InARow piece rest) → ((after : List Token) → statements end depth Start (group.word ∷ after) ≡ statements end depth (Named group.word) after) → (depth == MOST_NESTING) ≡ false → is_misplaced depth group.word group.texts ≡ false → statements end (depth + 1) Start (tokens_of group.pieces ++ group.last ∷ rest) ≡ onto (statements_of group.pieces) (statements end (depth + 1) Start (group.last ∷ rest)) → statements end depth Start (piece.tokens ++ rest) ≡ put_statement (Open group.word.text group.texts) (onto (statements_of group.pieces) (statements end (depth + 1) Start (group.last ∷ rest)))
group_opened end depth room InARow piece rest group starts shallow placed row =
    let body : List Token = group.brace ∷ tokens_of group.pieces ++ group.last ∷ [] in
    ap (λ (ts : List Token). statements end depth Start (ts ++ rest)) group.is
    ∙ ap (statements end depth Start) (append_assoc group.front body rest)
    ∙ head_read end depth group.word group.texts group.front (body ++ rest) starts group.head
    ∙ brace_opened end depth group.word group.texts group.brace ((tokens_of group.pieces ++ group.last ∷ []) ++ rest) group.opens shallow placed
    ∙ ap (λ (ts : List Token). put_statement (Open group.word.text group.texts) (statements end (depth + 1) Start ts)) (append_assoc (tokens_of group.pieces) (group.last ∷ []) rest)
    ∙ ap (put_statement (Open group.word.text group.texts)) row

pub whole : (word : List ℕ) (texts : List (List ℕ)) (body : List Statement) (later : Read) → put_statement (Open word texts) (onto body (put_statement Close later)) ≡ onto (Open word texts ∷ body ++ Close ∷ []) later
whole word texts body later = same_fault (Open word texts ∷ body ++ Close ∷ later.0) (Open word texts ∷ (body ++ Close ∷ []) ++ later.0) later.1 (ap (λ (s : List Statement). Open word texts ∷ s) (sym (append_assoc body (Close ∷ []) later.0)))

group_read : (end depth room : ℕ) (Is : Piece → List Token → Type 0) (piece : Piece) (rest : List Token) → 1 ≤ depth → depth + suc room ≡ MOST_NESTING → ((piece : Piece) (rest : List Token) → Is piece rest → IsRead end (depth + 1) piece rest) → IsGroup (suc room) (EachBefore Is) piece rest → IsRead end depth piece rest
group_read end depth room Is piece rest inside is reads group =
    let shallow : (depth == MOST_NESTING) ≡ false = ne_eqb depth MOST_NESTING (λ same. omega arith) in
    group_opened end depth (suc room) (EachBefore Is) piece rest group (λ after. word_named end depth group.word after inside group.head.named) shallow (placed_of (suc room) depth group.word group.texts is group.place) (row_read end (depth + 1) Is reads group.pieces (group.last ∷ rest) group.inside)
    ∙ ap (λ (r : Read). put_statement (Open group.word.text group.texts) (onto (statements_of group.pieces) r)) (brace_closed_inside end depth group.last rest inside group.closes)
    ∙ whole group.word.text group.texts (statements_of group.pieces) (statements end depth Start rest)
    ∙ ap (λ (s : List Statement). onto s (statements end depth Start rest)) (sym group.stands)

-- a statement of the grammar is read, wherever it may stand
pub spelled_read : (end room depth : ℕ) → depth + room ≡ MOST_NESTING → 1 ≤ depth → (piece : Piece) (rest : List Token) → Spells room piece rest → IsRead end depth piece rest
unfolding Spells
spelled_read end zero depth is inside piece rest spelled = plain_read end depth piece rest inside spelled
spelled_read end (suc room) depth is inside piece rest (inl plain) = plain_read end depth piece rest inside plain
spelled_read end (suc room) depth is inside piece rest (inr group) =
    let level : depth + 1 + room ≡ MOST_NESTING = omega arith in
    let deep : 1 ≤ depth + 1 = omega arith in
    group_read end depth room (Spells room) piece rest inside is (λ piece rest spelled. spelled_read end room (depth + 1) level deep piece rest spelled) group
