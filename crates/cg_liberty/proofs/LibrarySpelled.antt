-- The whole text of a library is spelled by the grammar exactly where it is read without a fault.
use Rattle.std.proofs.Common.{◌≡◌, ◌≤◌, ◌+◌, ◌-◌, ℕ, Bool, true, false, cond, List, [], ◌∷◌, ◌++◌, length, codes, None, Result, Ok, Err}
use Rattle.std.proofs.Common.{refl, sym, ap, ◌∙◌, subst, append_assoc, append-nil, arith}
use Rattle.std.specs.Str.{bytes_eq}
use Rattle.std.proofs.lemmas.Slice.Eq.{bytes_eq-Decides}
use Rattle.cg_limit.specs.declared.TheConstants.{MOST_NESTING}
use Rattle.cg_liberty_text.specs.Argument.{argument_texts, behind_arguments, unexpected}
use Rattle.cg_liberty_text.specs.Grammar.{IsHead, Piece, Spells, SpellsAll, SpellsLibrary, statements_of, tokens_of}
use Rattle.cg_liberty_text.specs.Statement.{Read, faulty, put_statement, statements}
use Rattle.cg_liberty_text.specs.Statement.Phase.{Done, Listed, Named, Start}
use Rattle.cg_liberty_text.specs.declared.fault.TextFault.{TextFault}
use Rattle.cg_liberty_text.specs.declared.fault.TextFault.TheVariants.{BadGroup}
use Rattle.cg_liberty_text.specs.declared.lexeme.Kind.{Kind}
use Rattle.cg_liberty_text.specs.declared.lexeme.Kind.TheVariants as kinds
use Rattle.cg_liberty_text.specs.declared.statement.Statement.{Statement}
use Rattle.cg_liberty_text.specs.declared.statement.Statement.TheVariants.{Open, Close}
use Rattle.cg_liberty_text.specs.declared.token.Token.{Token}
use Rattle.cg_liberty_text.proofs.ArgumentLists.{arguments_of, token_of}
use Rattle.cg_liberty_text.proofs.Phases.{go_on}
use Rattle.cg_liberty_text.proofs.SpelledIsRead.{brace_closed, group_opened, library_named, onto, paren_listing, row_read}
use Rattle.cg_liberty_text.proofs.SpelledIsRead.{spelled_read, whole}
use Rattle.cg_liberty_text.proofs.ReadIsSpelled.{Closed, Fine, closed_within, faulted, fine_by}

as_read : List Statement → Read
as_read read = (read, None)

-- Depths and lengths, where nothing else is known

outermost : 1 ≤ 1
outermost = omega arith

no_longer : (n : ℕ) → n ≤ n
no_longer n = omega arith

no_level : {A : Type 0} → MOST_NESTING + 1 ≡ MOST_NESTING → A
no_level level = absurd (omega arith)

-- a library of the grammar is read
pub library_read : (end : ℕ) (tokens : List Token) (read : List Statement) → SpellsLibrary tokens read → statements end 0 Start tokens ≡ (read, None)
unfolding as_read
library_read end tokens read library =
    let group = library.group in
    let piece : Piece = record { tokens = tokens; statements = read } in
    let row : statements end 1 Start (tokens_of group.pieces ++ group.last ∷ []) ≡ onto (statements_of group.pieces) (statements end 1 Start (group.last ∷ [])) = row_read end 1 (Spells (MOST_NESTING - 1)) (λ piece rest spelled. spelled_read end (MOST_NESTING - 1) 1 refl outermost piece rest spelled) group.pieces (group.last ∷ []) group.inside in
    ap (statements end 0 Start) (sym (append-nil tokens))
    ∙ group_opened end 0 MOST_NESTING (SpellsAll (MOST_NESTING - 1)) piece [] group (λ after. library_named end group.word after group.head.named library.named) refl refl row
    ∙ ap (λ (r : Read). put_statement (Open group.word.text group.texts) (onto (statements_of group.pieces) r)) (brace_closed end 1 group.last [] outermost group.closes)
    ∙ whole group.word.text group.texts (statements_of group.pieces) (as_read [])
    ∙ ap as_read (append-nil (Open group.word.text group.texts ∷ statements_of group.pieces ++ Close ∷ []) ∙ sym group.stands)

-- the statements that the grammar gives a text
record Spelled (tokens : List Token) : Type 0 where
  read : List Statement
  library : SpellsLibrary tokens read

done_end : (end : ℕ) (rest : List Token) → Fine (statements end 0 Done rest) → rest ≡ []
done_end end [] h = refl
done_end end (token ∷ after) h = faulted (unexpected token) h

at_body : (end : ℕ) (word : Token) (texts : List (List ℕ)) (front : List Token) (brace : Token) (after : List Token) → IsHead word texts front → word.text ≡ codes "library" → brace.kind ≡ kinds.OpenBrace → Fine (statements end 1 Start after) → Spelled (front ++ brace ∷ after)
at_body end word texts front brace after head named opens h =
    let inner : Closed end (MOST_NESTING - 1) 1 after = closed_within end (length after) (MOST_NESTING - 1) 1 after (no_longer (length after)) refl outermost h in
    let nothing : inner.rest ≡ [] = done_end end inner.rest inner.fine in
    record {
      read = Open word.text texts ∷ statements_of inner.pieces ++ Close ∷ [];
      library = record {
        group = record {
          word = word;
          texts = texts;
          front = front;
          brace = brace;
          pieces = inner.pieces;
          last = inner.last;
          head = head;
          place = λ level cell. no_level level;
          opens = opens;
          inside = subst (λ (rest : List Token). SpellsAll (MOST_NESTING - 1) inner.pieces (inner.last ∷ rest)) nothing inner.row;
          closes = inner.closes;
          is = ap (λ (ts : List Token). front ++ brace ∷ ts) (inner.split ∙ ap (λ (rest : List Token). tokens_of inner.pieces ++ inner.last ∷ rest) nothing);
          stands = refl;
        };
        named = named;
      };
    }

at_next : (end : ℕ) (word : Token) (texts : List (List ℕ)) (front : List Token) (kind : Kind) (at : ℕ) (text : List ℕ) (fresh : Bool) (after : List Token) → IsHead word texts front → word.text ≡ codes "library" → Fine (statements end 0 (Listed word texts) (token_of kind at text fresh ∷ after)) → Spelled (front ++ token_of kind at text fresh ∷ after)
at_next end word texts front kinds.OpenBrace at text fresh after head named h = at_body end word texts front (token_of kinds.OpenBrace at text fresh) after head named refl h
at_next end word texts front kind at text fresh after head named h = faulted (unexpected (token_of kind at text fresh)) h

at_listed : (end : ℕ) (word opening : Token) (after : List Token) (passed : Result (List Token) TextFault) → word.kind ≡ kinds.Word → word.text ≡ codes "library" → opening.kind ≡ kinds.OpenParen → behind_arguments end kinds.OpenParen after ≡ passed → Fine (go_on passed (statements end 0 (Listed word (argument_texts after)))) → Spelled (word ∷ opening ∷ after)
at_listed end word opening after (Err fault) is named opens passes h = faulted fault h
at_listed end word opening after (Ok []) is named opens passes h = faulted (BadGroup end) h
at_listed end word opening after (Ok (next ∷ later)) is named opens passes h =
    let found = arguments_of end (next ∷ later) after passes in
    let front : List Token = word ∷ opening ∷ found.arguments ++ found.closing ∷ [] in
    let head : IsHead word (argument_texts after) front = record { opening = opening; arguments = found.arguments; closing = found.closing; named = is; opens = opens; lists = found.are; closes = found.closes; is = refl } in
    let split : front ++ next ∷ later ≡ word ∷ opening ∷ after = ap (λ (ts : List Token). word ∷ opening ∷ ts) (append_assoc found.arguments (found.closing ∷ []) (next ∷ later) ∙ sym found.split) in
    subst Spelled split (at_next end word (argument_texts after) front next.kind next.at next.text next.fresh later head named h)

at_second : (end : ℕ) (word : Token) (kind : Kind) (at : ℕ) (text : List ℕ) (fresh : Bool) (after : List Token) → word.kind ≡ kinds.Word → word.text ≡ codes "library" → Fine (statements end 0 (Named word) (token_of kind at text fresh ∷ after)) → Spelled (word ∷ token_of kind at text fresh ∷ after)
at_second end word kinds.OpenParen at text fresh after is named h =
    let opening : Token = token_of kinds.OpenParen at text fresh in
    at_listed end word opening after (behind_arguments end kinds.OpenParen after) is named refl refl (fine_by _ _ (paren_listing end 0 word opening after refl) h)
at_second end word kind at text fresh after is named h = faulted (unexpected (token_of kind at text fresh)) h

at_word : (end : ℕ) (word : Token) (after : List Token) → word.kind ≡ kinds.Word → word.text ≡ codes "library" → Fine (statements end 0 (Named word) after) → Spelled (word ∷ after)
at_word end word [] is named h = faulted (BadGroup end) h
at_word end word (second ∷ after) is named h = at_second end word second.kind second.at second.text second.fresh after is named h

is_library : (end : ℕ) (word : Token) (after : List Token) (named : Bool) → word.kind ≡ kinds.Word → bytes_eq word.text (codes "library") ≡ named → Fine (cond named (statements end 0 (Named word) after) (faulty (unexpected word))) → Spelled (word ∷ after)
is_library end word after true is named h = at_word end word after is ((bytes_eq-Decides word.text (codes "library")).0 named) h
is_library end word after false is named h = faulted (unexpected word) h

at_first : (end : ℕ) (kind : Kind) (at : ℕ) (text : List ℕ) (fresh : Bool) (after : List Token) → Fine (statements end 0 Start (token_of kind at text fresh ∷ after)) → Spelled (token_of kind at text fresh ∷ after)
at_first end kinds.Word at text fresh after h = is_library end (token_of kinds.Word at text fresh) after (bytes_eq text (codes "library")) refl refl h
at_first end kind at text fresh after h = faulted (unexpected (token_of kind at text fresh)) h

spelled : (end : ℕ) (tokens : List Token) → Fine (statements end 0 Start tokens) → Spelled tokens
spelled end [] h = faulted (BadGroup end) h
spelled end (token ∷ after) h = at_first end token.kind token.at token.text token.fresh after h

-- what is read is a library of the grammar
pub library_spelled : (end : ℕ) (tokens : List Token) (read : List Statement) → statements end 0 Start tokens ≡ (read, None) → SpellsLibrary tokens read
library_spelled end tokens read is =
    let found : Spelled tokens = spelled end tokens (ap (λ (r : Read). r.1) is) in
    let same : ◌≡◌ {A = Read} (found.read, None) (read, None) = sym (library_read end tokens found.read found.library) ∙ is in
    subst (SpellsLibrary tokens) (ap (λ (r : Read). r.0) same) found.library
