-- What is read is in the grammar of LRAT, and nothing in it is refused.
use Rattle.std.proofs.Common.{◌≡◌, ℕ, ◌-◌, ◌^◌, Bool, true, false, List, [], ◌∷◌, ◌++◌, map, get_or, Result, Ok, Err, IfOk, Option}
use Rattle.std.proofs.Common.{Some, None, inr, lit<, refl, sym, ap, subst, ◌∙◌, codes, append_assoc, arith}
use Rattle.std.proofs.lemmas.Bool.{ne_eqb}
use Rattle.std.proofs.lemmas.Slice.Eq.{bytes_eq-Decides}
use Rattle.std.specs.Fmt.{decimal}
use Rattle.std.specs.List.{AllByRecursion}
use Rattle.std.specs.Str.{bytes_eq}
use Rattle.cg_limit.specs.Answers.{OrNoMemory}
use Rattle.cg_text.specs.declared.lines.Line.{Line}
use Rattle.cg_text.specs.Lines.{text_lines}
use Rattle.cg_formula.specs.declared.formula.Lit.{Lit}
use Rattle.cg_formula.specs.declared.token.ClauseToken.{ClauseToken}
use Rattle.cg_formula.specs.declared.token.ClauseToken.TheVariants as tokens
use Rattle.cg_lrat.specs.declared.id.IdToken.{IdToken}
use Rattle.cg_lrat.specs.declared.id.IdToken.TheVariants as ids
use Rattle.cg_lrat.specs.declared.log.Body.{Body}
use Rattle.cg_lrat.specs.declared.log.Body.TheVariants.{Add, Delete}
use Rattle.cg_lrat.specs.declared.log.Step.{Step}
use Rattle.cg_lrat.specs.declared.log.Log.{Log}
use Rattle.cg_lrat.specs.declared.lrat.TheConstants.{GREATEST_VARIABLE}
use Rattle.cg_lrat.specs.declared.lrat.LratFault.{LratFault}
use Rattle.cg_lrat.specs.declared.lrat.LratFault.TheVariants.{BadLine, NoMemory}
use Rattle.cg_formula.specs.Bounds.{IsLit}
use Rattle.cg_lrat.specs.Bounds.{IsId, IsBody, IsStep}
use Rattle.cg_formula.specs.Tokens.{clause_token}
use Rattle.cg_lrat.specs.Ids.{id_token}
use Rattle.cg_formula.specs.DimacsReading.{layout}
use Rattle.cg_formula.specs.DimacsText.{lit_word}
use Rattle.cg_lrat.specs.LratReading.{◌>>=◌, lits_at, put_id, ids_at, addition_of, deletion_of, body_of, words_step, step_of}
use Rattle.cg_lrat.specs.LratReading.{steps_of, lrat}
use Rattle.cg_lrat.specs.LratText.{id_words, body_words, step_line, LratText}
use Rattle.cg_formula.proofs.TokenSpelling.{literal_spelled, end_spelled, clause_token-lit, first_digit}
use Rattle.cg_lrat.proofs.IdSpelling.{id_spelled, id_end_spelled, id_token-decimal}

bind_ok : {A B : Type 0} (r : Result A LratFault) (f : A → Result B LratFault) (y : B) → ◌>>=◌ {B = B} r f ≡ Ok y
    → (x : A) × (r ≡ Ok x) × (f x ≡ Ok y)
bind_ok (Ok x) f y e = (x, refl, e)
bind_ok (Err d) f y e = absurd (cc)

-- literals

record SpellsLits (ws : List (List ℕ)) (lits : List Lit) (after : List (List ℕ)) : Type 0 where
  pub words : ws ≡ map lit_word lits ++ codes "0" ∷ after
  pub bounds : AllByRecursion (IsLit (2 ^ 31 - 1)) lits

lits_spelled : (line : ℕ) (ws : List (List ℕ)) (lits : List Lit) (after : List (List ℕ)) → lits_at line ws ≡ Ok (lits, after)
    → SpellsLits ws lits after
lits_spelled line [] lits after e = absurd (cc)
lits_spelled line (w ∷ ws) lits after e = pick (clause_token GREATEST_VARIABLE w) refl (lits_spelled line ws) where
  pick : (token : ClauseToken) → clause_token GREATEST_VARIABLE w ≡ token
      → ((lits : List Lit) (after : List (List ℕ)) → lits_at line ws ≡ Ok (lits, after) → SpellsLits ws lits after)
      → SpellsLits (w ∷ ws) lits after
  pick (tokens.Literal lit) f later =
      let read = bind_ok (lits_at line ws) (λ r. Ok (lit ∷ r.0, r.1)) (lits, after) (rw f at e) in
      let rest = later (read.0).0 (read.0).1 read.1 in
      let made : Ok (lit ∷ (read.0).0, (read.0).1) ≡ Ok (lits, after) = read.2 in
      let pair : (let p : List Lit × List (List ℕ) = (lit ∷ (read.0).0, (read.0).1) in p) ≡ (lits, after) = cc in
      let one = literal_spelled GREATEST_VARIABLE w lit f in
      let Spelled : List Lit × List (List ℕ) → Type 0 = λ p. SpellsLits (w ∷ ws) p.0 p.1 in
      subst Spelled pair (record {
        words = ap (λ text. text ∷ ws) one.spelled ∙ ap (λ words. lit_word lit ∷ words) rest.words;
        bounds = (one.bounds, rest.bounds);
      })
  pick tokens.End f later =
      let made : Ok ([], ws) ≡ Ok (lits, after) = rw f at e in
      let pair : (let p : List Lit × List (List ℕ) = ([], ws) in p) ≡ (lits, after) = cc in
      let Spelled : List Lit × List (List ℕ) → Type 0 = λ p. SpellsLits (w ∷ ws) p.0 p.1 in
      subst Spelled pair (record { words = ap (λ text. text ∷ ws) (end_spelled GREATEST_VARIABLE w f); bounds = tt })
  pick tokens.Other f later = let no : Err (BadLine line) ≡ Ok (lits, after) = rw f at e in absurd (cc)

lits_again : (line : ℕ) (lits : List Lit) (after : List (List ℕ)) → AllByRecursion (IsLit (2 ^ 31 - 1)) lits
    → lits_at line (map lit_word lits ++ codes "0" ∷ after) ≡ Ok (lits, after)
lits_again line [] after bounds = refl
lits_again line (lit ∷ lits) after bounds =
    rw (clause_token-lit GREATEST_VARIABLE lit (lit< tt) bounds.0, lits_again line lits after bounds.1) refl

-- ids

record SpellsIds (ws : List (List ℕ)) (list : List ℕ) : Type 0 where
  pub words : ws ≡ id_words list
  pub bounds : AllByRecursion IsId list

ids_spelled : (line : ℕ) (ws : List (List ℕ)) (list : List ℕ) → ids_at line ws ≡ Ok list → SpellsIds ws list
ids_spelled line [] list e = absurd (cc)
ids_spelled line (w ∷ ws) list e = pick (id_token w) refl (ids_spelled line ws) where
  closed : (after : List (List ℕ)) → put_id line ids.End after (ids_at line after) ≡ Ok list → (after ≡ []) × ([] ≡ list)
  closed [] g = let none : [] ≡ list = cc in (refl, none)
  closed (v ∷ vs) g = absurd (cc)

  pick : (item : IdToken) → id_token w ≡ item → ((list : List ℕ) → ids_at line ws ≡ Ok list → SpellsIds ws list) → SpellsIds (w ∷ ws) list
  pick (ids.Id id) f later =
      let read = bind_ok (ids_at line ws) (λ r. Ok (id ∷ r)) list (rw f at e) in
      let rest = later read.0 read.1 in
      let all : id ∷ read.0 ≡ list = cc in
      let one = id_spelled w id f in
      subst (SpellsIds (w ∷ ws)) all (record {
        words = ap (λ text. text ∷ ws) one.spelled ∙ ap (λ words. decimal id ∷ words) rest.words;
        bounds = (one.bounds, rest.bounds);
      })
  pick ids.End f later =
      let none = closed ws (rw f at e) in
      subst (SpellsIds (w ∷ ws)) none.1
      (record { words = ap (λ text. text ∷ ws) (id_end_spelled w f) ∙ ap (λ words. codes "0" ∷ words) none.0; bounds = tt })
  pick ids.Other f later = let no : Err (BadLine line) ≡ Ok list = rw f at e in absurd (cc)

ids_again : (line : ℕ) (list : List ℕ) → AllByRecursion IsId list → ids_at line (id_words list) ≡ Ok list
ids_again line [] bounds = refl
ids_again line (id ∷ list) bounds = rw (id_token-decimal id bounds.0, ids_again line list bounds.1) refl

-- bodies

record SpellsBody (ws : List (List ℕ)) (body : Body) : Type 0 where
  pub words : ws ≡ body_words body
  pub bounds : IsBody body

addition_spelled : (line : ℕ) (ws : List (List ℕ)) (body : Body) → addition_of line ws ≡ Ok body → SpellsBody ws body
addition_spelled line ws body e =
    let clause = bind_ok (lits_at line ws) (λ c. ids_at line c.1 >>= λ hints. Ok (Add (record { lits = c.0 }) hints)) body e in
    let hints = bind_ok (ids_at line (clause.0).1) (λ hints. Ok (Add (record { lits = (clause.0).0 }) hints)) body clause.2 in
    let first = lits_spelled line ws (clause.0).0 (clause.0).1 clause.1 in
    let second = ids_spelled line (clause.0).1 hints.0 hints.1 in
    let made : Add (record { lits = (clause.0).0 }) hints.0 ≡ body = cc in
    subst (SpellsBody ws) made (record {
      words =
          first.words ∙ ap (λ words. map lit_word (clause.0).0 ++ codes "0" ∷ words) second.words
          ∙ sym (append_assoc (map lit_word (clause.0).0) (codes "0" ∷ []) (id_words hints.0));
      bounds = (first.bounds, second.bounds);
    })

record SpellsDeletion (ws deleted : List (List ℕ)) : Type 0 where
  pub words : ws ≡ codes "d" ∷ deleted

deletion_spelled : (ws deleted : List (List ℕ)) → deletion_of ws ≡ Some deleted → SpellsDeletion ws deleted
deletion_spelled [] deleted e = absurd (cc)
deletion_spelled (w ∷ ws) deleted e = pick (bytes_eq w (codes "d")) refl where
  pick : (b : Bool) → bytes_eq w (codes "d") ≡ b → SpellsDeletion (w ∷ ws) deleted
  pick true f =
      let made : Some ws ≡ Some deleted = rw f at e in
      let same : ws ≡ deleted = cc in
      let word : w ≡ codes "d" = (bytes_eq-Decides w (codes "d")).0 f in
      record { words = ap (λ text. text ∷ ws) word ∙ ap (λ words. codes "d" ∷ words) same }
  pick false f = let no : None ≡ Some deleted = rw f at e in absurd (cc)

body_spelled : (line : ℕ) (ws : List (List ℕ)) (body : Body) → body_of line (deletion_of ws) ws ≡ Ok body → SpellsBody ws body
body_spelled line ws body e = pick (deletion_of ws) refl e where
  pick : (deleted : Option (List (List ℕ))) → deletion_of ws ≡ deleted → body_of line deleted ws ≡ Ok body → SpellsBody ws body
  pick None f g = addition_spelled line ws body g
  pick (Some deleted) f g =
      let list = bind_ok (ids_at line deleted) (λ list. Ok (Delete list)) body g in
      let rest = ids_spelled line deleted list.0 list.1 in
      let made : Delete list.0 ≡ body = cc in
      subst (SpellsBody ws) made (record {
        words = (deletion_spelled ws deleted f).words ∙ ap (λ words. codes "d" ∷ words) rest.words;
        bounds = rest.bounds;
      })

-- no literal and no zero is the word `d`
other_byte : (word : List ℕ) → (get_or word 0 0 ≡ 100 → ⊥) → bytes_eq word (codes "d") ≡ false
other_byte [] other = refl
other_byte (x ∷ xs) other = rw (ne_eqb x 100 other) refl

lit_apart : (lit : Lit) → IsLit (2 ^ 31 - 1) lit → bytes_eq (lit_word lit) (codes "d") ≡ false
lit_apart lit bounds = other_byte (lit_word lit) (pick lit.inverted refl) where
  pick : (b : Bool) → lit.inverted ≡ b → get_or (lit_word lit) 0 0 ≡ 100 → ⊥
  pick true f e = let minus : get_or (45 ∷ decimal lit.variable) 0 0 ≡ 100 = rw f at e in omega (arith, minus)
  pick false f e =
      let digit : get_or (decimal lit.variable) 0 0 ≡ 100 = rw f at e in first_digit 100 (inr (lit< tt)) lit.variable (omega (arith, bounds.within)) digit

no_deletion : (lits : List Lit) (after : List (List ℕ)) → AllByRecursion (IsLit (2 ^ 31 - 1)) lits
    → deletion_of (map lit_word lits ++ codes "0" ∷ after) ≡ None
no_deletion [] after bounds = refl
no_deletion (lit ∷ lits) after bounds = rw (lit_apart lit bounds.0) refl

body_again : (line : ℕ) (body : Body) → IsBody body → body_of line (deletion_of (body_words body)) (body_words body) ≡ Ok body
body_again line (Add clause hints) bounds =
    let words : body_words (Add clause hints) ≡ map lit_word clause.lits ++ codes "0" ∷ id_words hints =
    append_assoc (map lit_word clause.lits) (codes "0" ∷ []) (id_words hints) in
    ap (λ ws. body_of line (deletion_of ws) ws) words
    ∙ rw
    (no_deletion clause.lits (id_words hints) bounds.0, lits_again line clause.lits (id_words hints) bounds.0, ids_again line hints bounds.1)
    refl
body_again line (Delete list) bounds = rw (ids_again line list bounds) refl

-- steps

record SpellsStep (line : Line) (step : Step) : Type 0 where
  pub whole : line ≡ step_line step
  pub bounds : IsStep step

step_spelled : (number : ℕ) (ws : List (List ℕ)) (step : Step) → words_step number ws ≡ Ok step
    → SpellsStep (record { number = number; words = ws }) step
step_spelled number [] step e = absurd (cc)
step_spelled number (w ∷ ws) step e = pick (id_token w) refl where
  pick : (item : IdToken) → id_token w ≡ item → SpellsStep (record { number = number; words = w ∷ ws }) step
  pick (ids.Id id) f =
      let body =
      bind_ok (body_of number (deletion_of ws) ws) (λ body. Ok (record { line = number; id = id; body = body })) step (rw f at e) in
      let first = id_spelled w id f in
      let rest = body_spelled number ws body.0 body.1 in
      let made : (let s : Step = record { line = number; id = id; body = body.0 } in s) ≡ step = cc in
      subst (SpellsStep (record { number = number; words = w ∷ ws })) made (record {
        whole =
            ap (λ words. record { number = number; words = words })
            (ap (λ text. text ∷ ws) first.spelled ∙ ap (λ words. decimal id ∷ words) rest.words);
        bounds = record { id = first.bounds; body = rest.bounds };
      })
  pick ids.End f = let no : Err (BadLine number) ≡ Ok step = rw f at e in absurd (cc)
  pick ids.Other f = let no : Err (BadLine number) ≡ Ok step = rw f at e in absurd (cc)

step_again : (step : Step) → IsStep step → step_of (step_line step) ≡ Ok step
step_again step bounds = rw (id_token-decimal step.id bounds.id, body_again step.line step.body bounds.body) refl

record SpellsSteps (ls : List Line) (steps : List Step) : Type 0 where
  pub lines : ls ≡ map step_line steps
  pub bounds : AllByRecursion IsStep steps

steps_spelled : (ls : List Line) (steps : List Step) → steps_of ls ≡ Ok steps → SpellsSteps ls steps
steps_spelled [] steps e =
    let none : [] ≡ steps = cc in
    subst (SpellsSteps []) none (record { lines = refl; bounds = tt })
steps_spelled (line ∷ later) steps e =
    let one = bind_ok (step_of line) (λ step. steps_of later >>= λ steps. Ok (step ∷ steps)) steps e in
    let rest = bind_ok (steps_of later) (λ steps. Ok (one.0 ∷ steps)) steps one.2 in
    let first = step_spelled line.number line.words one.0 one.1 in
    let second = steps_spelled later rest.0 rest.1 in
    let all : one.0 ∷ rest.0 ≡ steps = cc in
    subst (SpellsSteps (line ∷ later)) all (record {
      lines = ap (λ l. l ∷ later) first.whole ∙ ap (λ ls. step_line one.0 ∷ ls) second.lines;
      bounds = (first.bounds, second.bounds);
    })

steps_again : (steps : List Step) → AllByRecursion IsStep steps → steps_of (map step_line steps) ≡ Ok steps
steps_again [] bounds = refl
steps_again (step ∷ later) bounds = rw (step_again step bounds.0, steps_again later bounds.1) refl

-- the text

pub read_is_text : (text : List ℕ) (log : Log) → lrat text ≡ Ok log → LratText text log
read_is_text text log e =
    let read = bind_ok (steps_of (text_lines layout text)) (λ steps. Ok (record { steps = steps })) log e in
    let spelled = steps_spelled (text_lines layout text) read.0 read.1 in
    let made : (let l : Log = record { steps = read.0 } in l) ≡ log = cc in
    subst (LratText text) made (record { lines = spelled.lines; bounds = spelled.bounds })

pub text_is_read : (text : List ℕ) (log : Log) → LratText text log → lrat text ≡ Ok log
text_is_read text log t = rw (t.lines, steps_again log.steps t.bounds) refl

pub given_is_text : (text : List ℕ) (r : Result Log LratFault) → OrNoMemory NoMemory (λ (l : Log). l) r (lrat text) → IfOk r (LratText text)
given_is_text text (Ok log) e = read_is_text text log e
given_is_text text (Err fault) e = tt
