-- Sums that are written are read back.
use Rattle.std.proofs.Common.{[], ◌≡◌, ℕ, ◌≤◌, Bool, true, false, List, ◌∷◌, ◌++◌, map, length}
use Rattle.std.proofs.Common.{refl, ap, ◌∙◌, append_assoc, IsTrue, if◌then◌else◌, arith, ◌==◌, slice_index}
use Rattle.std.specs.Prelude.{codes}
use Rattle.std.specs.List.{AllByRecursion, list_any}
use Rattle.std.specs.Str.{bytes_eq}
use Rattle.cg_cell.specs.Name.{is_name}
use Rattle.cg_net.specs.Names.{NetName}
use Rattle.cg_verilog_text.specs.Forms.{Form, Sum, Literal, form, literal, product, sum, term}
use Rattle.cg_verilog_text.specs.Items.{Assign, ended, item, made}
use Rattle.cg_verilog_text.specs.Reading.{Read, Got, after, ended_by, is_mark, is_next}
use Rattle.cg_verilog_text.specs.Tokens.{Token, tokens_from}
use Rattle.cg_verilog_text.specs.Written.{between, item_line, literal_text, name_text, sum_text, term_text}
use Rattle.cg_verilog_text.specs.declared.kind.Kind.TheVariants.{Plain, Escaped, Mark}
use Rattle.cg_verilog_text.proofs.Lexing.{name_is_solid, solid_token, AreSolid}
use Rattle.cg_verilog_text.proofs.Parted.{AllFit, all_toks, between_tokens, more_toks, parted_back}
use Rattle.cg_verilog_text.proofs.ReadsItems.{IsReadBack, T, read_back}

abbrev Lit : Type 0
Lit = Literal NetName

-- literals
abbrev pub literal_toks : ℕ → Lit → List Token → List Token
literal_toks line l later = if l.plain then T line Escaped l.net ∷ later else T line Mark (126 ∷ []) ∷ T line Escaped l.net ∷ later

literal_grows : (line : ℕ) (l : Lit) (later : List Token) → length later ≤ length (literal_toks line l later)
literal_grows line l later = go l.plain
  where
    go : (b : Bool) → length later ≤ length (if b then T line Escaped l.net ∷ later else T line Mark (126 ∷ []) ∷ T line Escaped l.net ∷ later)
    go true = omega arith
    go false = omega arith

-- a literal has a name, and none of those before it is of its net
pub record LiteralFits (before : List Lit) (l : Lit) : Type 0 where
  pub named : IsTrue (is_name l.net)
  pub fresh : list_any (λ (other : Lit). bytes_eq other.net l.net) before ≡ false

pub literal_back : (line : ℕ) (before : List Lit) (l : Lit) (later : List Token) → LiteralFits before l → literal before (literal_toks line l later) ≡ Got l later
literal_back line before l later fits = go l.plain refl
  where
    go : (b : Bool) → l.plain ≡ b → literal before (if b then T line Escaped l.net ∷ later else T line Mark (126 ∷ []) ∷ T line Escaped l.net ∷ later) ≡ Got (record { net = l.net; plain = b }) later
    go true is = let named = fits.named in let fresh = fits.fresh in rw (named, fresh) refl
    go false is = let named = fits.named in let fresh = fits.fresh in rw (named, fresh) refl

literal_tokens : (end line : ℕ) (l : Lit) (rest : List ℕ) → AreSolid l.net → tokens_from end 0 false line (literal_text l ++ rest) ≡ literal_toks line l (tokens_from end 0 false line rest)
literal_tokens end line l rest solid = go l.plain
  where
    go : (b : Bool) → tokens_from end 0 false line ((if b then name_text l.net else 126 ∷ name_text l.net) ++ rest) ≡ (if b then T line Escaped l.net ∷ tokens_from end 0 false line rest else T line Mark (126 ∷ []) ∷ T line Escaped l.net ∷ tokens_from end 0 false line rest)
    go true = solid_token end line false l.net rest solid
    go false = ap (λ later. T line Mark (126 ∷ []) ∷ later) (solid_token end line false l.net rest solid)

-- terms
abbrev pub more_literals : ℕ → List Lit → List Token → List Token
more_literals line ls later = more_toks (literal_toks line) (T line Mark (38 ∷ [])) ls later

abbrev pub literals_toks : ℕ → Lit → List Lit → List Token → List Token
literals_toks line l ls later = all_toks (literal_toks line) (T line Mark (38 ∷ [])) l ls later

abbrev pub LiteralsFit : ℕ → List Lit → Type 0
LiteralsFit line ls = AllFit (literal_toks line) (T line Mark (38 ∷ [])) 38 literal LiteralFits refl (literal_back line) [] ls

pub product_back : (line : ℕ) (l : Lit) (ls : List Lit) (later : List Token) → LiteralsFit line (l ∷ ls) → is_next (is_mark 38) later ≡ false → product [] (literals_toks line l ls later) ≡ Got (l ∷ ls) later
product_back line l ls later fit ends = parted_back (literal_toks line) (T line Mark (38 ∷ [])) 38 literal LiteralFits refl (literal_back line) (literal_grows line) [] l ls later fit ends

abbrev pub term_toks : ℕ → List Lit → List Token → List Token
term_toks line [] later = later
term_toks line (l ∷ ls) later = T line Mark (40 ∷ []) ∷ literals_toks line l ls (T line Mark (41 ∷ []) ∷ later)

abbrev pub TermFits : ℕ → List Lit → Type 0
TermFits line [] = ⊥
TermFits line (l ∷ ls) = LiteralsFit line (l ∷ ls)

literals_grow : (line : ℕ) (ls : List Lit) (later : List Token) → length later ≤ length (more_literals line ls later)
literals_grow line [] later = omega arith
literals_grow line (l ∷ ls) later =
    let rest : length later ≤ length (more_literals line ls later) = literals_grow line ls later in
    let one : length (more_literals line ls later) ≤ length (literal_toks line l (more_literals line ls later)) = literal_grows line l (more_literals line ls later) in
    omega (arith, rest, one)

term_grows : (line : ℕ) (t : List Lit) (later : List Token) → length later ≤ length (term_toks line t later)
term_grows line [] later = omega arith
term_grows line (l ∷ ls) later =
    let close = T line Mark (41 ∷ []) ∷ later in
    let rest : length close ≤ length (more_literals line ls close) = literals_grow line ls close in
    let one : length (more_literals line ls close) ≤ length (literals_toks line l ls close) = literal_grows line l (more_literals line ls close) in
    omega (arith, rest, one)

pub term_back : (line : ℕ) (t : List Lit) (later : List Token) → TermFits line t → term (term_toks line t later) ≡ Got t later
term_back line [] later fits = absurd fits
term_back line (l ∷ ls) later fits = ap (ended_by 41) (product_back line l ls (T line Mark (41 ∷ []) ∷ later) fits refl)

abbrev LitSolid : Lit → Type 0
LitSolid l = AreSolid l.net

abbrev pub TermSolid : List Lit → Type 0
TermSolid [] = ⊥
TermSolid (l ∷ ls) = AllByRecursion LitSolid (l ∷ ls)

-- a `(` that no `*` follows begins no attribute
pub open_token : (end line : ℕ) (rest : List ℕ) → (slice_index rest 0 == 42) ≡ false → tokens_from end 0 false line (40 ∷ rest) ≡ T line Mark (40 ∷ []) ∷ tokens_from end 0 false line rest
open_token end line rest other = rw other refl

literal_begins : (l : Lit) (rest : List ℕ) → (slice_index (literal_text l ++ rest) 0 == 42) ≡ false
literal_begins l rest = go l.plain
  where
    go : (b : Bool) → (slice_index ((if b then name_text l.net else 126 ∷ name_text l.net) ++ rest) 0 == 42) ≡ false
    go true = refl
    go false = refl

literals_begin : (l : Lit) (ls : List Lit) (rest : List ℕ) → (slice_index (between (codes "& ") (map literal_text (l ∷ ls)) ++ rest) 0 == 42) ≡ false
literals_begin l [] rest = literal_begins l rest
literals_begin l (k ∷ ks) rest =
    let later = between (codes "& ") (map literal_text (k ∷ ks)) in
    ap (λ text. slice_index text 0 == 42) (let e : ((literal_text l ++ codes "& ") ++ later) ++ rest ≡ literal_text l ++ (codes "& " ++ (later ++ rest)) = simp append_assoc in e)
    ∙ literal_begins l (codes "& " ++ (later ++ rest))

term_tokens : (end line : ℕ) (t : List Lit) (rest : List ℕ) → TermSolid t → tokens_from end 0 false line (term_text t ++ rest) ≡ term_toks line t (tokens_from end 0 false line rest)
term_tokens end line [] rest solid = absurd solid
term_tokens end line (l ∷ ls) rest solid =
    let inner = between (codes "& ") (map literal_text (l ∷ ls)) in
    ap (tokens_from end 0 false line) (let e : term_text (l ∷ ls) ++ rest ≡ codes "(" ++ (inner ++ (codes ")" ++ rest)) = simp append_assoc in e)
    ∙ (open_token end line (inner ++ (codes ")" ++ rest)) (literals_begin l ls (codes ")" ++ rest))
    ∙ ap (λ later. T line Mark (40 ∷ []) ∷ later) (between_tokens (literal_toks line) (T line Mark (38 ∷ [])) end line literal_text (codes "& ") LitSolid (literal_tokens end line) (λ more. refl) l ls (codes ")" ++ rest) solid))

-- sums
abbrev pub more_terms : ℕ → List (List Lit) → List Token → List Token
more_terms line ts later = more_toks (term_toks line) (T line Mark (124 ∷ [])) ts later

abbrev pub terms_toks : ℕ → List Lit → List (List Lit) → List Token → List Token
terms_toks line t ts later = all_toks (term_toks line) (T line Mark (124 ∷ [])) t ts later

abbrev FitsHere : ℕ → List (List Lit) → List Lit → Type 0
FitsHere line before t = TermFits line t

all_here : (line : ℕ) (before ts : List (List Lit)) → AllByRecursion (TermFits line) ts → AllFit (term_toks line) (T line Mark (124 ∷ [])) 124 (λ before. term) (FitsHere line) refl (λ before. term_back line) before ts
all_here line before [] all = tt
all_here line before (t ∷ ts) all = (all.0, all_here line (before ++ t ∷ []) ts all.1)

pub sum_back : (line : ℕ) (t : List Lit) (ts : List (List Lit)) (later : List Token) → AllByRecursion (TermFits line) (t ∷ ts) → is_next (is_mark 124) later ≡ false → sum [] (terms_toks line t ts later) ≡ Got (t ∷ ts) later
sum_back line t ts later fit ends =
    parted_back (term_toks line) (T line Mark (124 ∷ [])) 124 (λ before. term) (FitsHere line) refl (λ before. term_back line) (term_grows line) [] t ts later (all_here line [] (t ∷ ts) fit) ends

pub sum_tokens : (end line : ℕ) (t : List Lit) (ts : List (List Lit)) (rest : List ℕ) → AllByRecursion TermSolid (t ∷ ts) → tokens_from end 0 false line (sum_text (t ∷ ts) ++ rest) ≡ terms_toks line t ts (tokens_from end 0 false line rest)
sum_tokens end line t ts rest solid = between_tokens (term_toks line) (T line Mark (124 ∷ [])) end line term_text (codes " | ") TermSolid (term_tokens end line) (λ more. refl) t ts rest solid

sum_begins : (l : Lit) (ls : List Lit) (ts : List (List Lit)) (rest : List ℕ) → (slice_index (sum_text ((l ∷ ls) ∷ ts) ++ rest) 0 == 42) ≡ false
sum_begins l ls [] rest = refl
sum_begins l ls (t ∷ ts) rest = refl

-- what a sum that can be written is: it has terms, which have literals with names, each net once in a term
pub record SumFits (line : ℕ) (terms : List (List Lit)) : Type 0 where
  pub fit : AllByRecursion (TermFits line) terms
  pub solid : AllByRecursion TermSolid terms

assigned : (line : ℕ) (n : NetName) (later : List Token) → IsTrue (is_name n) → item (T line Plain (codes "assign") ∷ T line Escaped n ∷ T line Mark (codes "=") ∷ later) ≡ made (Assign n) (ended (form later))
assigned line n later named = rw named refl

true_form_back : (line : ℕ) (l : Lit) (ls : List Lit) (ts : List (List Lit)) (later : List Token) → AllByRecursion (TermFits line) ((l ∷ ls) ∷ ts) → is_next (is_mark 124) later ≡ false → form (terms_toks line (l ∷ ls) ts later) ≡ Got (Sum true ((l ∷ ls) ∷ ts)) later
true_form_back line l ls ts later fit ends = ap (λ (read : Read (List (List Lit))). after read (λ terms later. Got (Sum true terms) later)) (sum_back line (l ∷ ls) ts later fit ends)

false_form_back : (line : ℕ) (l : Lit) (ls : List Lit) (ts : List (List Lit)) (later : List Token) → AllByRecursion (TermFits line) ((l ∷ ls) ∷ ts)
    → form (T line Mark (126 ∷ []) ∷ T line Mark (40 ∷ []) ∷ terms_toks line (l ∷ ls) ts (T line Mark (41 ∷ []) ∷ later)) ≡ Got (Sum false ((l ∷ ls) ∷ ts)) later
false_form_back line l ls ts later fit = ap (λ (read : Read (List (List Lit))). after (ended_by 41 read) (λ terms later. Got (Sum false terms) later)) (sum_back line (l ∷ ls) ts (T line Mark (41 ∷ []) ∷ later) fit refl)

terms_grow : (line : ℕ) (ts : List (List Lit)) (later : List Token) → length later ≤ length (more_terms line ts later)
terms_grow line [] later = omega arith
terms_grow line (t ∷ ts) later =
    let rest : length later ≤ length (more_terms line ts later) = terms_grow line ts later in
    let one : length (more_terms line ts later) ≤ length (term_toks line t (more_terms line ts later)) = term_grows line t (more_terms line ts later) in
    omega (arith, rest, one)

sum_grows : (line : ℕ) (t : List Lit) (ts : List (List Lit)) (later : List Token) → length later ≤ length (terms_toks line t ts later)
sum_grows line t ts later =
    let rest : length later ≤ length (more_terms line ts later) = terms_grow line ts later in
    let one : length (more_terms line ts later) ≤ length (terms_toks line t ts later) = term_grows line t (more_terms line ts later) in
    omega (arith, rest, one)

pub sum_item_back : (n : NetName) (on : Bool) (l : Lit) (ls : List Lit) (ts : List (List Lit)) → IsTrue (is_name n) → ((line : ℕ) → SumFits line ((l ∷ ls) ∷ ts)) → IsReadBack (Assign n (Sum on ((l ∷ ls) ∷ ts)))
sum_item_back n true l ls ts named fits = read_back (Assign n (Sum true ((l ∷ ls) ∷ ts)))
    (λ line later. T line Plain (codes "assign") ∷ T line Escaped n ∷ T line Mark (codes "=") ∷ terms_toks line (l ∷ ls) ts (T line Mark (59 ∷ []) ∷ later))
    (λ end line rest.
    let text = sum_text ((l ∷ ls) ∷ ts) ++ (59 ∷ 10 ∷ rest) in
    ap (tokens_from end 0 true line) (let e : item_line (Assign n (Sum true ((l ∷ ls) ∷ ts))) ++ rest ≡ codes "  assign " ++ (name_text n ++ (codes "= " ++ text)) = simp append_assoc in e)
    ∙ ap (λ later. T line Plain (codes "assign") ∷ later) (
    solid_token end line false n (codes "= " ++ text) (name_is_solid n named)
    ∙ ap (λ later. T line Escaped n ∷ T line Mark (codes "=") ∷ later) (sum_tokens end line (l ∷ ls) ts (59 ∷ 10 ∷ rest) (fits line).solid)))
    (λ line later. assigned line n (terms_toks line (l ∷ ls) ts (T line Mark (59 ∷ []) ∷ later)) named
    ∙ ap (λ (read : Read (Form NetName)). made (Assign n) (ended read)) (true_form_back line l ls ts (T line Mark (59 ∷ []) ∷ later) (fits line).fit refl))
    (λ line later. let last = T line Mark (59 ∷ []) ∷ later in let more : length last ≤ length (terms_toks line (l ∷ ls) ts last) = sum_grows line (l ∷ ls) ts last in omega (arith, more))
sum_item_back n false l ls ts named fits = read_back (Assign n (Sum false ((l ∷ ls) ∷ ts)))
    (λ line later. T line Plain (codes "assign") ∷ T line Escaped n ∷ T line Mark (codes "=") ∷ T line Mark (126 ∷ []) ∷ T line Mark (40 ∷ []) ∷ terms_toks line (l ∷ ls) ts (T line Mark (41 ∷ []) ∷ T line Mark (59 ∷ []) ∷ later))
    (λ end line rest.
    let text = sum_text ((l ∷ ls) ∷ ts) ++ (41 ∷ 59 ∷ 10 ∷ rest) in
    ap (tokens_from end 0 true line) (let e : item_line (Assign n (Sum false ((l ∷ ls) ∷ ts))) ++ rest ≡ codes "  assign " ++ (name_text n ++ (codes "= ~(" ++ text)) = simp append_assoc in e)
    ∙ ap (λ later. T line Plain (codes "assign") ∷ later) (
    solid_token end line false n (codes "= ~(" ++ text) (name_is_solid n named)
    ∙ ap (λ later. T line Escaped n ∷ T line Mark (codes "=") ∷ T line Mark (126 ∷ []) ∷ later) (
    open_token end line text (sum_begins l ls ts (41 ∷ 59 ∷ 10 ∷ rest))
    ∙ ap (λ later. T line Mark (40 ∷ []) ∷ later) (sum_tokens end line (l ∷ ls) ts (41 ∷ 59 ∷ 10 ∷ rest) (fits line).solid))))
    (λ line later. assigned line n (T line Mark (126 ∷ []) ∷ T line Mark (40 ∷ []) ∷ terms_toks line (l ∷ ls) ts (T line Mark (41 ∷ []) ∷ T line Mark (59 ∷ []) ∷ later)) named
    ∙ ap (λ (read : Read (Form NetName)). made (Assign n) (ended read)) (false_form_back line l ls ts (T line Mark (59 ∷ []) ∷ later) (fits line).fit))
    (λ line later.
    let last = T line Mark (41 ∷ []) ∷ T line Mark (59 ∷ []) ∷ later in
    let more : length last ≤ length (terms_toks line (l ∷ ls) ts last) = sum_grows line (l ∷ ls) ts last in omega (arith, more))
