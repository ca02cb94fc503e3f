-- The grammar of expressions, level by level: from the strongest, words and brackets, signs `'`, signs `!`,
-- exclusive or, and, or. Operators of one level join from the left.
use Rattle.std.specs.Prelude.{◌≡◌, ℕ, ◌+◌, ◌<◌, false, List, [], ◌∷◌, ◌++◌, Ok}
use Rattle.cg_limit.specs.declared.TheConstants.{MOST_NESTING}
use Rattle.cg_liberty_expression.specs.Reading.{leaf}
use Rattle.cg_liberty_expression.specs.Tokens.{Token, Word, OrSign, AndSign, XorSign, NotSign, PrimeSign, OpenBracket, CloseBracket}
use Rattle.cg_liberty_expression.specs.Tokens.{tokens_from}
use Rattle.cg_cell.specs.Term.{Term, Inverse, Both, Either, Differ}

pub data Level : Type 0 where
  AtomLevel : Level
  PrimeLevel : Level
  NotLevel : Level
  XorLevel : Level
  AndLevel : Level
  OrLevel : Level

-- the tokens are of the level and stand for the term, where so many brackets and signs `!` are open before them
pub data ParsesAs (pins : List (List ℕ)) : Level → ℕ → List Token → Term → Type 0 where
  word : (open_before at : ℕ) (bytes : List ℕ) (t : Term) → leaf pins at bytes ≡ Ok t →
      ParsesAs pins AtomLevel open_before (record { at = at; kind = Word bytes } ∷ []) t
  brackets : (open_before at end : ℕ) (ts : List Token) (t : Term) → open_before < MOST_NESTING →
      ParsesAs pins OrLevel (open_before + 1) ts t
      → ParsesAs pins AtomLevel open_before
      (record { at = at; kind = OpenBracket } ∷ (ts ++ record { at = end; kind = CloseBracket } ∷ [])) t
  unprimed : (open_before : ℕ) (ts : List Token) (t : Term) → ParsesAs pins AtomLevel open_before ts t →
      ParsesAs pins PrimeLevel open_before ts t
  primed : (open_before at : ℕ) (ts : List Token) (t : Term) → ParsesAs pins PrimeLevel open_before ts t →
      ParsesAs pins PrimeLevel open_before (ts ++ record { at = at; kind = PrimeSign } ∷ []) (Inverse t)
  upright : (open_before : ℕ) (ts : List Token) (t : Term) → ParsesAs pins PrimeLevel open_before ts t →
      ParsesAs pins NotLevel open_before ts t
  inverted : (open_before at : ℕ) (ts : List Token) (t : Term) → open_before < MOST_NESTING →
      ParsesAs pins NotLevel (open_before + 1) ts t
      → ParsesAs pins NotLevel open_before (record { at = at; kind = NotSign } ∷ ts) (Inverse t)
  one_of : (open_before : ℕ) (ts : List Token) (t : Term) → ParsesAs pins NotLevel open_before ts t →
      ParsesAs pins XorLevel open_before ts t
  xor : (open_before at : ℕ) (ts us : List Token) (s t : Term) → ParsesAs pins XorLevel open_before ts s →
      ParsesAs pins NotLevel open_before us t
      → ParsesAs pins XorLevel open_before (ts ++ record { at = at; kind = XorSign } ∷ us) (Differ s t)
  factor : (open_before : ℕ) (ts : List Token) (t : Term) → ParsesAs pins XorLevel open_before ts t →
      ParsesAs pins AndLevel open_before ts t
  and : (open_before at : ℕ) (ts us : List Token) (s t : Term) → ParsesAs pins AndLevel open_before ts s →
      ParsesAs pins XorLevel open_before us t
      → ParsesAs pins AndLevel open_before (ts ++ record { at = at; kind = AndSign } ∷ us) (Both s t)
  neighbours : (open_before : ℕ) (ts us : List Token) (s t : Term) → ParsesAs pins AndLevel open_before ts s →
      ParsesAs pins XorLevel open_before us t
      → ParsesAs pins AndLevel open_before (ts ++ us) (Both s t)
  summand : (open_before : ℕ) (ts : List Token) (t : Term) → ParsesAs pins AndLevel open_before ts t →
      ParsesAs pins OrLevel open_before ts t
  or : (open_before at : ℕ) (ts us : List Token) (s t : Term) → ParsesAs pins OrLevel open_before ts s →
      ParsesAs pins AndLevel open_before us t
      → ParsesAs pins OrLevel open_before (ts ++ record { at = at; kind = OrSign } ∷ us) (Either s t)

-- a text is an expression over the pins, and stands for the term
abbrev pub ExprText : List (List ℕ) → List ℕ → Term → Type 0
ExprText pins text t = ParsesAs pins OrLevel 0 (tokens_from false 0 text) t
