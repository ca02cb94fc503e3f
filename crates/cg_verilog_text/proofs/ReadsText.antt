-- A text that is written is read back: its model, its items and nothing else.
use Rattle.std.proofs.Common.{[], ◌≡◌, ℕ, zero, suc, ◌+◌, ◌<◌, ◌≤◌, true, false, List, ◌∷◌, ◌++◌, map, length, ◌==◌, slice_index}
use Rattle.std.proofs.Common.{refl, ap, sym, ◌∙◌, subst, append_assoc, IsTrue, if◌then◌else◌, arith, inl, inr}
use Rattle.std.specs.Prelude.{codes}
use Rattle.std.specs.List.{AllByRecursion, flat_map}
use Rattle.std.specs.Str.{bytes_eq}
use Rattle.std.proofs.lemmas.Bool.{cases_Bool}
use Rattle.cg_netlist_parts.proofs.KnownNames.{same_word}
use Rattle.cg_cell.specs.Name.{is_name}
use Rattle.cg_net.specs.Names.{NetName}
use Rattle.cg_verilog_text.specs.Items.{Item, Items, ItemAt, ended, header, item, items, items_within, line_of, made, ports, put_item}
use Rattle.cg_verilog_text.specs.Reading.{Read, Got, Stuck, ended_by, is_mark, is_next, is_word, name, separated}
use Rattle.cg_verilog_text.specs.Tokens.{Token, tokens_from}
use Rattle.cg_verilog_text.specs.Written.{item_line, module_line, name_text, names_text, module_end}
use Rattle.cg_verilog_text.specs.declared.kind.Kind.{Kind}
use Rattle.cg_verilog_text.specs.declared.kind.Kind.TheVariants.{Plain, Escaped, Number, Arrow, Mark, Other}
use Rattle.cg_verilog_text.proofs.Lexing.{name_is_solid, solid_token}
use Rattle.cg_verilog_text.proofs.Parted.{AllFit, all_toks, between_tokens, parted_back}
use Rattle.cg_verilog_text.proofs.ReadsForms.{open_token}
use Rattle.cg_verilog_text.proofs.ReadsItems.{IsReadBack, T}

abbrev IsNamed : NetName → Type 0
IsNamed name = IsTrue (is_name name)

-- the names of ports
abbrev name_toks : ℕ → NetName → List Token → List Token
name_toks line n later = T line Escaped n ∷ later

abbrev NameFits : List NetName → NetName → Type 0
NameFits before n = IsNamed n

name_back : (line : ℕ) (before : List NetName) (n : NetName) (later : List Token) → NameFits before n → name (name_toks line n later) ≡ Got n later
name_back line before n later named = rw named refl

all_here : (line : ℕ) (before ns : List NetName) → AllByRecursion IsNamed ns → AllFit (name_toks line) (T line Mark (44 ∷ [])) 44 (λ before. name) NameFits refl (name_back line) before ns
all_here line before [] all = tt
all_here line before (n ∷ ns) all = (all.0, all_here line (before ++ n ∷ []) ns all.1)

abbrev names_toks : ℕ → NetName → List NetName → List Token → List Token
names_toks line n ns later = all_toks (name_toks line) (T line Mark (44 ∷ [])) n ns later

names_back : (line : ℕ) (n : NetName) (ns : List NetName) (later : List Token) → AllByRecursion IsNamed (n ∷ ns) → is_next (is_mark 44) later ≡ false → separated 44 name (names_toks line n ns later) ≡ Got (n ∷ ns) later
names_back line n ns later all ends =
    parted_back (name_toks line) (T line Mark (44 ∷ [])) 44 (λ before. name) NameFits refl (name_back line) (λ n later. let e : length later ≤ suc (length later) = omega arith in e) [] n ns later (all_here line [] (n ∷ ns) all) ends

-- the module
headed : (line : ℕ) (model : NetName) (later : List Token) → IsNamed model → header (T line Plain (codes "module") ∷ T line Escaped model ∷ T line Mark (40 ∷ []) ∷ later) ≡ made (λ ports. model) (ended (ended_by 41 (ports later)))
headed line model later named = rw named refl

pub header_back : (end : ℕ) (model : NetName) (names : List NetName) (rest : List ℕ) → IsNamed model → AllByRecursion IsNamed names
    → header (tokens_from end 0 true 1 (module_line model names ++ rest)) ≡ Got model (tokens_from end 0 true 2 rest)
header_back end model [] rest named all =
    ap (λ text. header (tokens_from end 0 true 1 text)) (let e : module_line model [] ++ rest ≡ codes "module " ++ (name_text model ++ (codes "();" ++ 10 ∷ rest)) = simp append_assoc in e)
    ∙ (ap (λ later. header (T 1 Plain (codes "module") ∷ later)) (solid_token end 1 false model (codes "();" ++ 10 ∷ rest) (name_is_solid model named))
    ∙ headed 1 model (T 1 Mark (41 ∷ []) ∷ T 1 Mark (59 ∷ []) ∷ tokens_from end 0 true 2 rest) named)
header_back end model (n ∷ ns) rest named all =
    let text = names_text (n ∷ ns) ++ (codes ");" ++ 10 ∷ rest) in
    let last = T 1 Mark (41 ∷ []) ∷ T 1 Mark (59 ∷ []) ∷ tokens_from end 0 true 2 rest in
    ap (λ text. header (tokens_from end 0 true 1 text)) (let e : module_line model (n ∷ ns) ++ rest ≡ codes "module " ++ (name_text model ++ (codes "(" ++ text)) = simp append_assoc in e)
    ∙ (ap (λ later. header (T 1 Plain (codes "module") ∷ later)) (
    solid_token end 1 false model (codes "(" ++ text) (name_is_solid model named)
    ∙ ap (λ later. T 1 Escaped model ∷ later) (open_token end 1 text (names_begin n ns (codes ");" ++ 10 ∷ rest))
    ∙ ap (λ later. T 1 Mark (40 ∷ []) ∷ later) (between_tokens (name_toks 1) (T 1 Mark (44 ∷ [])) end 1 name_text (codes ", ") IsNamed (λ m more is. solid_token end 1 false m more (name_is_solid m is)) (λ more. refl) n ns (codes ");" ++ 10 ∷ rest) all)))
    ∙ (headed 1 model (names_toks 1 n ns last) named
    ∙ ap (λ (read : Read (List NetName)). made (λ (ports : List NetName). model) (ended (ended_by 41 read))) (names_back 1 n ns last all refl)))
  where
    names_begin : (n : NetName) (ns : List NetName) (rest : List ℕ) → (slice_index (names_text (n ∷ ns) ++ rest) 0 == 42) ≡ false
    names_begin n [] rest = refl
    names_begin n (m ∷ ms) rest = refl

-- `endmodule` begins no item
abbrev ENDMODULE : List ℕ
ENDMODULE = codes "endmodule"

is_stuck : {A : Type 0} (ts : List Token) (a : A) (later : List Token) → Stuck ts ≡ Got a later → ⊥
is_stuck ts a later e = cc

not_end : (ts : List Token) (i : Item) (later : List Token) → item ts ≡ Got i later → is_next (is_word ENDMODULE) ts ≡ false
not_end [] i later e = refl
not_end (t ∷ ts) i later e = go t.kind refl
  where
    same : bytes_eq t.text ENDMODULE ≡ true → t.kind ≡ Plain → ⊥
    same is plain =
        let read = subst (λ (k : Kind). item (record { line = t.line; kind = k; text = t.text } ∷ ts) ≡ Got i later) plain e in
        let read_end = subst (λ text. item (record { line = t.line; kind = Plain; text = text } ∷ ts) ≡ Got i later) (same_word t.text ENDMODULE is) read in
        is_stuck (record { line = t.line; kind = Plain; text = ENDMODULE } ∷ ts) i later read_end

    go : (k : Kind) → t.kind ≡ k → is_word ENDMODULE (record { line = t.line; kind = k; text = t.text }) ≡ false
    go Plain is = elim (cases_Bool (bytes_eq t.text ENDMODULE)) [ inl e ↦ absurd (same e is) | inr e ↦ e ]
    go Escaped is = refl
    go Number is = refl
    go Arrow is = refl
    go Mark is = refl
    go Other is = refl

-- the items
abbrev pub end_token : ℕ → Token
end_token line = T line Plain ENDMODULE

pub record IsWhole (is : List Item) (read : Items) : Type 0 where
  pub found : map (λ (one : ItemAt). one.item) read.found ≡ is
  pub whole : read.whole ≡ true
  pub line : ℕ
  pub left : read.left ≡ end_token line ∷ []

pub items_back : (end : ℕ) (is : List Item) → AllByRecursion IsReadBack is → (n line : ℕ) → length is ≤ n → IsWhole is (items_within (suc n) (tokens_from end 0 true line (flat_map item_line is ++ module_end)))
items_back end [] all n line few = record { found = refl; whole = refl; line = line; left = refl }
items_back end (i ∷ is) all zero line few = absurd (omega arith)
items_back end (i ∷ is) all (suc n) line few =
    let text = flat_map item_line is ++ module_end in
    let e : flat_map item_line (i ∷ is) ++ module_end ≡ item_line i ++ text = append_assoc (item_line i) (flat_map item_line is) module_end in
    let ts = tokens_from end 0 true line (item_line i ++ text) in
    let later = tokens_from end 0 true (line + 1) text in
    let reads : item ts ≡ Got i later = all.0.reads end line text in
    let goes : is_next (is_word ENDMODULE) ts ≡ false = not_end ts i later reads in
    let rest = items_back end is all.1 n (line + 1) (omega arith) in
    let whole : IsWhole (i ∷ is) (put_item (line_of 0 ts) (Got i later) (items_within (suc n))) = record { found = ap (λ l. i ∷ l) rest.found; whole = rest.whole; line = rest.line; left = rest.left } in
    subst (λ text. IsWhole (i ∷ is) (items_within (suc (suc n)) (tokens_from end 0 true line text))) (sym e)
    (subst (λ b. IsWhole (i ∷ is) (if b then record { found = []; whole = true; left = ts } else put_item (line_of 0 ts) (item ts) (items_within (suc n)))) (sym goes)
    (subst (λ (read : Read Item). IsWhole (i ∷ is) (put_item (line_of 0 ts) read (items_within (suc n)))) (sym reads) whole))

-- each item has a token
pub enough_tokens : (end : ℕ) (is : List Item) → AllByRecursion IsReadBack is → (line : ℕ) → length is ≤ length (tokens_from end 0 true line (flat_map item_line is ++ module_end))
enough_tokens end [] all line = omega arith
enough_tokens end (i ∷ is) all line =
    let text = flat_map item_line is ++ module_end in
    let e : flat_map item_line (i ∷ is) ++ module_end ≡ item_line i ++ text = append_assoc (item_line i) (flat_map item_line is) module_end in
    let rest : length is ≤ length (tokens_from end 0 true (line + 1) text) = enough_tokens end is all.1 (line + 1) in
    let more : length (tokens_from end 0 true (line + 1) text) < length (tokens_from end 0 true line (item_line i ++ text)) = all.0.grows end line text in
    subst (λ text. suc (length is) ≤ length (tokens_from end 0 true line text)) (sym e) (omega (arith, rest, more))

pub all_items_back : (end : ℕ) (is : List Item) → AllByRecursion IsReadBack is → (line : ℕ) → IsWhole is (items (tokens_from end 0 true line (flat_map item_line is ++ module_end)))
all_items_back end is all line = items_back end is all (length (tokens_from end 0 true line (flat_map item_line is ++ module_end))) line (enough_tokens end is all line)
