-- What is read is in the grammar of DIMACS, nothing in it is refused, and what is written is in it.
use Rattle.std.proofs.Common.{◌≡◌, ℕ, ◌^◌, ◌<◌, ◌≤◌, zero, suc, Bool, true, false, ◌&&◌, List, [], ◌∷◌, ◌++◌, length, map, Result}
use Rattle.std.proofs.Common.{Ok, Err, IfOk, refl, sym, ap, subst, ◌∙◌, nat_le, codes, append_assoc, arith}
use Rattle.std.proofs.lemmas.Bool.{and_parts, le-leb, leb-true}
use Rattle.std.proofs.lemmas.Slice.Eq.{bytes_eq-Decides}
use Rattle.std.specs.List.{flat_map, AllByRecursion}
use Rattle.std.specs.Str.{bytes_eq}
use Rattle.cg_limit.specs.Answers.{OrNoMemory}
use Rattle.cg_limit.specs.declared.TheConstants.{MOST_VARIABLES}
use Rattle.cg_text.specs.declared.lines.Line.{Line}
use Rattle.cg_text.specs.declared.number.Number.{Number}
use Rattle.cg_text.specs.declared.number.Number.TheVariants.{Small, Large, Misspelled}
use Rattle.cg_text.specs.Numbers.{number_of}
use Rattle.cg_text.specs.Lines.{text_lines, end_line}
use Rattle.cg_text.specs.Spots.{Spot, spots_of, texts_of}
use Rattle.cg_text.proofs.Spelling.{spelled, number_small, number_of-decimal}
use Rattle.cg_formula.specs.declared.formula.Lit.{Lit}
use Rattle.cg_formula.specs.declared.formula.Clause.{Clause}
use Rattle.cg_formula.specs.declared.formula.Formula.{Formula}
use Rattle.cg_formula.specs.declared.token.ClauseToken.{ClauseToken}
use Rattle.cg_formula.specs.declared.token.ClauseToken.TheVariants as tokens
use Rattle.cg_formula.specs.declared.dimacs.Header.{Header}
use Rattle.cg_formula.specs.declared.dimacs.DimacsFault.{DimacsFault}
use Rattle.cg_formula.specs.declared.dimacs.DimacsFault.TheVariants.{BadClause, NoMemory}
use Rattle.cg_formula.specs.Bounds.{IsLit, IsClause}
use Rattle.cg_formula.specs.Tokens.{clause_token}
use Rattle.cg_formula.specs.DimacsReading.{layout, ◌>>=◌, counts_of, header_of, clause_at, clauses_at, formula_at, dimacs}
use Rattle.cg_formula.specs.DimacsText.{lit_word, clause_words, header_words, DimacsText}
use Rattle.cg_formula.proofs.TokenSpelling.{literal_spelled, end_spelled, clause_token-lit, clause_token-zero}

bind_ok : {A B : Type 0} (r : Result A DimacsFault) (f : A → Result B DimacsFault) (y : B) → ◌>>=◌ {B = B} r f ≡ Ok y
    → (x : A) × (r ≡ Ok x) × (f x ≡ Ok y)
bind_ok (Ok x) f y e = (x, refl, e)
bind_ok (Err d) f y e = absurd (cc)

-- the header

record SpellsHeader (ws : List (List ℕ)) (header : Header) : Type 0 where
  pub words : ws ≡ header_words header.variables header.clauses
  pub few : header.variables ≤ MOST_VARIABLES
  pub countable : header.clauses < 2 ^ 64

record Counts (v c : Number) (header : Header) : Type 0 where
  pub variables : v ≡ Small header.variables
  pub clauses : c ≡ Small header.clauses
  pub few : header.variables ≤ MOST_VARIABLES

counts_found : (v c : Number) (header : Header) → counts_of v c ≡ Ok header → Counts v c header
counts_found Misspelled c header e = absurd (cc)
counts_found (Small n) Misspelled header e = absurd (cc)
counts_found (Small n) Large header e = absurd (cc)
counts_found (Small n) (Small m) header e = pick (nat_le n MOST_VARIABLES) refl where
  pick : (b : Bool) → nat_le n MOST_VARIABLES ≡ b → Counts (Small n) (Small m) header
  pick true f =
      let made : Ok (record { variables = n; clauses = m }) ≡ Ok header = rw f at e in
      let same : (let h : Header = record { variables = n; clauses = m } in h) ≡ header = cc in
      let variables : n ≡ header.variables = ap (λ (h : Header). h.variables) same in
      record
      { variables = ap Small variables; clauses = ap (λ (h : Header). Small h.clauses) same; few = omega (arith, variables, leb-true n MOST_VARIABLES f) }
  pick false f = let no = rw f at e in absurd (cc)
counts_found Large Misspelled header e = absurd (cc)
counts_found Large Large header e = absurd (cc)
counts_found Large (Small m) header e = absurd (cc)

header_spelled : (ws : List (List ℕ)) (header : Header) → header_of ws ≡ Ok header → SpellsHeader ws header
header_spelled [] header e = absurd (cc)
header_spelled (p ∷ []) header e = absurd (cc)
header_spelled (p ∷ cnf ∷ []) header e = absurd (cc)
header_spelled (p ∷ cnf ∷ v ∷ []) header e = absurd (cc)
header_spelled (p ∷ cnf ∷ v ∷ c ∷ []) header e = pick (bytes_eq p (codes "p") && bytes_eq cnf (codes "cnf")) refl where
  pick : (b : Bool) → (bytes_eq p (codes "p") && bytes_eq cnf (codes "cnf")) ≡ b → SpellsHeader (p ∷ cnf ∷ v ∷ c ∷ []) header
  pick true f =
      let parts = and_parts (bytes_eq p (codes "p")) (bytes_eq cnf (codes "cnf")) f in
      let counts = counts_found (number_of v) (number_of c) header (rw f at e) in
      let first : p ≡ codes "p" = (bytes_eq-Decides p (codes "p")).0 parts.0 in
      let second : cnf ≡ codes "cnf" = (bytes_eq-Decides cnf (codes "cnf")).0 parts.1 in
      record {
        words = rw (first, second, spelled v header.variables counts.variables, spelled c header.clauses counts.clauses) refl;
        few = counts.few;
        countable = number_small c header.clauses counts.clauses;
      }
  pick false f = let no = rw f at e in absurd (cc)
header_spelled (p ∷ cnf ∷ v ∷ c ∷ w ∷ ws) header e = absurd (cc)

header_again : (formula : Formula) → formula.variables ≤ MOST_VARIABLES → length formula.clauses < 2 ^ 64
    → header_of (header_words formula.variables (length formula.clauses)) ≡ Ok (record { variables = formula.variables; clauses = length formula.clauses })
header_again formula few countable =
    rw
    (number_of-decimal formula.variables (omega arith), number_of-decimal (length formula.clauses) countable, le-leb formula.variables MOST_VARIABLES few)
    refl

-- a clause

record SpellsClause (variables : ℕ) (ws : List Spot) (lits : List Lit) (after : List Spot) : Type 0 where
  pub words : texts_of ws ≡ map lit_word lits ++ codes "0" ∷ texts_of after
  pub bounds : AllByRecursion (IsLit variables) lits

clause_spelled : (variables end : ℕ) (ws : List Spot) (lits : List Lit) (after : List Spot) → clause_at variables end ws ≡ Ok (lits, after)
    → SpellsClause variables ws lits after
clause_spelled variables end [] lits after e = absurd (cc)
clause_spelled variables end (w ∷ ws) lits after e = pick (clause_token variables w.text) refl (clause_spelled variables end ws) where
  pick : (token : ClauseToken) → clause_token variables w.text ≡ token
      → ((lits : List Lit) (after : List Spot) → clause_at variables end ws ≡ Ok (lits, after) → SpellsClause variables ws lits after)
      → SpellsClause variables (w ∷ ws) lits after
  pick (tokens.Literal lit) f later =
      let read = bind_ok (clause_at variables end ws) (λ r. Ok (lit ∷ r.0, r.1)) (lits, after) (rw f at e) in
      let rest = later (read.0).0 (read.0).1 read.1 in
      let made : Ok (lit ∷ (read.0).0, (read.0).1) ≡ Ok (lits, after) = read.2 in
      let pair : (let p : List Lit × List Spot = (lit ∷ (read.0).0, (read.0).1) in p) ≡ (lits, after) = cc in
      let one = literal_spelled variables w.text lit f in
      let Spelled : List Lit × List Spot → Type 0 = λ p. SpellsClause variables (w ∷ ws) p.0 p.1 in
      subst Spelled pair (record {
        words = ap (λ text. text ∷ texts_of ws) one.spelled ∙ ap (λ words. lit_word lit ∷ words) rest.words;
        bounds = (one.bounds, rest.bounds);
      })
  pick tokens.End f later =
      let made : Ok ([], ws) ≡ Ok (lits, after) = rw f at e in
      let pair : (let p : List Lit × List Spot = ([], ws) in p) ≡ (lits, after) = cc in
      let Spelled : List Lit × List Spot → Type 0 = λ p. SpellsClause variables (w ∷ ws) p.0 p.1 in
      subst Spelled pair (record { words = ap (λ text. text ∷ texts_of ws) (end_spelled variables w.text f); bounds = tt })
  pick tokens.Other f later = let no : Err (BadClause w.line) ≡ Ok (lits, after) = rw f at e in absurd (cc)

-- the words of a clause, and others behind it, are read as the clause
record ReadsClause (variables end : ℕ) (ws : List Spot) (lits : List Lit) (more : List (List ℕ)) : Type 0 where
  pub after : List Spot
  pub read : clause_at variables end ws ≡ Ok (lits, after)
  pub rest : texts_of after ≡ more

clause_again : (variables end : ℕ) → variables < 2 ^ 32 → (lits : List Lit) → AllByRecursion (IsLit variables) lits
    → (ws : List Spot) (more : List (List ℕ))
    → texts_of ws ≡ map lit_word lits ++ codes "0" ∷ more → ReadsClause variables end ws lits more
clause_again variables end few [] bounds [] more e = absurd (cc)
clause_again variables end few [] bounds (w ∷ ws) more e =
    let word : w.text ≡ codes "0" = cc in
    let rest : texts_of ws ≡ more = cc in
    let item : clause_token variables w.text ≡ tokens.End = ap (clause_token variables) word ∙ clause_token-zero variables in
    record { after = ws; read = rw item refl; rest = rest }
clause_again variables end few (lit ∷ lits) bounds [] more e = absurd (cc)
clause_again variables end few (lit ∷ lits) bounds (w ∷ ws) more e =
    let word : w.text ≡ lit_word lit = cc in
    let rest : texts_of ws ≡ map lit_word lits ++ codes "0" ∷ more = cc in
    let later = clause_again variables end few lits bounds.1 ws more rest in
    let item : clause_token variables w.text ≡ tokens.Literal lit =
    ap (clause_token variables) word ∙ clause_token-lit variables lit few bounds.0 in
    record { after = later.after; read = rw (item, later.read) refl; rest = later.rest }

-- all clauses

record SpellsClauses (variables count : ℕ) (ws : List Spot) (clauses : List Clause) : Type 0 where
  pub words : texts_of ws ≡ flat_map clause_words clauses
  pub counted : length clauses ≡ count
  pub bounds : AllByRecursion (IsClause variables) clauses

clauses_spelled : (variables end count : ℕ) (ws : List Spot) (clauses : List Clause) → clauses_at variables end count ws ≡ Ok clauses
    → SpellsClauses variables count ws clauses
clauses_spelled variables end zero [] clauses e =
    let none : [] ≡ clauses = cc in
    rw (← none) (record { words = refl; counted = refl; bounds = tt })
clauses_spelled variables end zero (w ∷ ws) clauses e = absurd (cc)
clauses_spelled variables end (suc count) ws clauses e =
    let read =
    bind_ok (clause_at variables end ws) (λ c. clauses_at variables end count c.1 >>= λ cs. Ok (record { lits = c.0 } ∷ cs)) clauses e in
    let rest = bind_ok (clauses_at variables end count (read.0).1) (λ cs. Ok (record { lits = (read.0).0 } ∷ cs)) clauses read.2 in
    let later = clauses_spelled variables end count (read.0).1 rest.0 rest.1 in
    let one = clause_spelled variables end ws (read.0).0 (read.0).1 read.1 in
    let all : record { lits = (read.0).0 } ∷ rest.0 ≡ clauses = cc in
    rw (← all) (record {
      words = one.words ∙ rw later.words (sym (append_assoc (map lit_word (read.0).0) (codes "0" ∷ []) (flat_map clause_words rest.0)));
      counted = ap suc later.counted;
      bounds = (one.bounds, later.bounds);
    })

clauses_again : (variables end : ℕ) → variables < 2 ^ 32 → (clauses : List Clause) → AllByRecursion (IsClause variables) clauses
    → (ws : List Spot)
    → texts_of ws ≡ flat_map clause_words clauses → clauses_at variables end (length clauses) ws ≡ Ok clauses
clauses_again variables end few [] bounds [] e = refl
clauses_again variables end few [] bounds (w ∷ ws) e = absurd (cc)
clauses_again variables end few (c ∷ cs) bounds ws e =
    let one =
    clause_again variables end few c.lits bounds.0 ws (flat_map clause_words cs)
    (e ∙ append_assoc (map lit_word c.lits) (codes "0" ∷ []) (flat_map clause_words cs)) in
    let later = clauses_again variables end few cs bounds.1 one.after one.rest in
    rw (one.read, later) refl

-- the text

pub read_is_text : (text : List ℕ) (formula : Formula) → dimacs text ≡ Ok formula → DimacsText text formula
read_is_text text formula e = pick (text_lines layout text) refl e where
  pick : (ls : List Line) → text_lines layout text ≡ ls → formula_at (end_line text) ls ≡ Ok formula → DimacsText text formula
  pick [] f g = absurd (cc)
  pick (first ∷ later) f g =
      let header =
      bind_ok (header_of first.words)
      (λ h. clauses_at h.variables (end_line text) h.clauses (spots_of later) >>= λ cs. Ok (record { variables = h.variables; clauses = cs }))
      formula g in
      let clauses =
      bind_ok (clauses_at (header.0).variables (end_line text) (header.0).clauses (spots_of later))
      (λ cs. Ok (record { variables = (header.0).variables; clauses = cs })) formula header.2 in
      let same : (let f : Formula = record { variables = (header.0).variables; clauses = clauses.0 } in f) ≡ formula = cc in
      let head = header_spelled first.words header.0 header.1 in
      let body = clauses_spelled (header.0).variables (end_line text) (header.0).clauses (spots_of later) clauses.0 clauses.1 in
      subst (DimacsText text) same (record {
        later = later;
        number = first.number;
        lines =
            f
            ∙ ap (λ ws. record { number = first.number; words = ws } ∷ later)
            (head.words ∙ ap (header_words (header.0).variables) (sym body.counted));
        body = body.words;
        bounds = record { few = head.few; clauses = body.bounds };
        countable = omega (arith, body.counted, head.countable);
      })

pub text_is_read : (text : List ℕ) (formula : Formula) → DimacsText text formula → dimacs text ≡ Ok formula
text_is_read text formula t =
    ap (formula_at (end_line text)) t.lines
    ∙ rw
    (header_again formula t.bounds.few t.countable, clauses_again formula.variables (end_line text) (omega (arith, t.bounds.few)) formula.clauses t.bounds.clauses (spots_of t.later) t.body)
    refl

pub given_is_text : (text : List ℕ) (r : Result Formula DimacsFault) → OrNoMemory NoMemory (λ (f : Formula). f) r (dimacs text) → IfOk r (DimacsText text)
given_is_text text (Ok formula) e = read_is_text text formula e
given_is_text text (Err fault) e = tt
