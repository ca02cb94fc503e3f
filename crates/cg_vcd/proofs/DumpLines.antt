-- The text that the watcher says, as lines of words.
use Rattle.std.proofs.Common.{◌≡◌, ℕ, ◌+◌, ◌^◌, ◌<◌, Bool, true, false, List, [], ◌∷◌, ◌++◌, length, map, Option, None, Some, codes, nat_lt}
use Rattle.std.proofs.Common.{refl, sym, ap, ◌∙◌, arith, append_assoc, decimal}
use Rattle.std.specs.List.{AllByRecursion, flat_map, list_all}
use Rattle.std.proofs.lemmas.Bool.{and_parts}
use Rattle.std.proofs.lemmas.Bool.Decides.{nat_tests}
use Rattle.std.proofs.lemmas.List.{append-nil, map-append}
use Rattle.cg_cell.specs.Name.{is_name, is_name_byte}
use Rattle.cg_netlist.specs.Circuit.{Circuit}
use Rattle.cg_report.specs.Shown.{Shown}
use Rattle.cg_text.specs.declared.blanks.Blanks.TheVariants.{Spaces}
use Rattle.cg_text.specs.Blanks.{is_blank}
use Rattle.cg_text.specs.Written.{IsLine, IsWord, joined, text_of}
use Rattle.cg_text.proofs.Spelling.{decimal_word}
use Rattle.cg_vcd.specs.Dumped.{all_values, changed_values, definition_lines, dump_lines, dump_text, moment_values, more_lines, net_line, net_lines, scope_line, value_line}
use Rattle.cg_vcd.specs.Identifiers.{id_of}
use Rattle.cg_vcd.specs.VcdWords.{layout}
use Rattle.cg_vcd.proofs.WrittenIds.{id_is_word}

abbrev pub scope_words : List ℕ → List (List ℕ)
scope_words model = codes "$scope" ∷ codes "module" ∷ model ∷ codes "$end" ∷ []

abbrev pub net_words : ℕ → List ℕ → List (List ℕ)
net_words net name = codes "$var" ∷ codes "wire" ∷ codes "1" ∷ id_of net ∷ name ∷ codes "$end" ∷ []

abbrev pub nets_words : ℕ → List (List ℕ) → List (List (List ℕ))
nets_words net [] = []
nets_words net (name ∷ names) = net_words net name ∷ nets_words (net + 1) names

abbrev pub upscope_words : List (List ℕ)
upscope_words = codes "$upscope" ∷ codes "$end" ∷ []

abbrev pub ending_words : List (List ℕ)
ending_words = codes "$enddefinitions" ∷ codes "$end" ∷ []

-- lines of one word
abbrev pub alone : List (List ℕ) → List (List (List ℕ))
alone ws = map (λ w. w ∷ []) ws

abbrev pub dump_words : Circuit → List Shown → List (List (List ℕ))
dump_words c moments = scope_words c.model ∷ (nets_words 0 c.names ++ upscope_words ∷ ending_words ∷ alone (dump_lines 0 None moments))

-- the text

ended_lines : List (List ℕ) → List ℕ
ended_lines ls = flat_map (λ l. l ++ 10 ∷ []) ls

-- an end of line before each line but the first, and one at last, is one behind each
shifted : (l : List ℕ) (ls : List (List ℕ)) → (l ++ more_lines ls) ++ 10 ∷ [] ≡ flat_map (λ l. l ++ 10 ∷ []) (l ∷ ls)
shifted l [] = ap (λ x. x ++ 10 ∷ []) (append-nil l) ∙ sym (append-nil (l ++ 10 ∷ []))
shifted l (m ∷ ls) =
    let front : (l ++ more_lines (m ∷ ls)) ++ 10 ∷ [] ≡ (l ++ 10 ∷ []) ++ ((m ++ more_lines ls) ++ 10 ∷ []) = simp append_assoc in
    front ∙ ap (λ later. (l ++ 10 ∷ []) ++ later) (shifted m ls)

text_of_joined : (ls : List (List (List ℕ))) → flat_map (λ l. l ++ 10 ∷ []) (map joined ls) ≡ text_of ls
text_of_joined [] = refl
text_of_joined (ws ∷ ls) = ap (λ later. (joined ws ++ 10 ∷ []) ++ later) (text_of_joined ls)

nets_joined : (net : ℕ) (names : List (List ℕ)) → map joined (nets_words net names) ≡ net_lines net names
nets_joined net [] = refl
nets_joined net (name ∷ names) =
    let line : joined (net_words net name) ≡ net_line net name = simp append_assoc in
    ap (λ l. l ∷ map joined (nets_words (net + 1) names)) line ∙ ap (λ later. net_line net name ∷ later) (nets_joined (net + 1) names)

alone_joined : (ws : List (List ℕ)) → map joined (alone ws) ≡ ws
alone_joined [] = refl
alone_joined (w ∷ ws) = ap (λ later. w ∷ later) (alone_joined ws)

words_joined : (c : Circuit) (moments : List Shown) → map joined (dump_words c moments) ≡ scope_line c ∷ (definition_lines c ++ dump_lines 0 None moments)
words_joined c moments =
    let scope : joined (scope_words c.model) ≡ scope_line c = simp append_assoc in
    let rest : map joined (nets_words 0 c.names ++ upscope_words ∷ ending_words ∷ alone (dump_lines 0 None moments)) ≡ definition_lines c ++ dump_lines 0 None moments =
    map-append joined (nets_words 0 c.names) (upscope_words ∷ ending_words ∷ alone (dump_lines 0 None moments))
    ∙ (ap (λ front. front ++ codes "$upscope $end" ∷ codes "$enddefinitions $end" ∷ map joined (alone (dump_lines 0 None moments))) (nets_joined 0 c.names)
    ∙ (ap (λ later. net_lines 0 c.names ++ codes "$upscope $end" ∷ codes "$enddefinitions $end" ∷ later) (alone_joined (dump_lines 0 None moments))
    ∙ sym (append_assoc (net_lines 0 c.names) (codes "$upscope $end" ∷ codes "$enddefinitions $end" ∷ []) (dump_lines 0 None moments)))) in
    ap (λ l. l ∷ map joined (nets_words 0 c.names ++ upscope_words ∷ ending_words ∷ alone (dump_lines 0 None moments))) scope ∙ ap (λ later. scope_line c ∷ later) rest

-- the text, ended, is that of its lines
pub dump_text_of : (c : Circuit) (moments : List Shown) → dump_text c moments ++ 10 ∷ [] ≡ text_of (dump_words c moments)
dump_text_of c moments =
    shifted (scope_line c) (definition_lines c ++ dump_lines 0 None moments)
    ∙ (ap (λ ls. flat_map (λ l. l ++ 10 ∷ []) ls) (sym (words_joined c moments)) ∙ text_of_joined (dump_words c moments))

-- the lines

above_blank : (b : ℕ) → nat_lt 32 b ≡ true → is_blank Spaces b ≡ false
above_blank b above = grind (arith, nat_tests)

solid : (w : List ℕ) → list_all (nat_lt 32) w ≡ true → AllByRecursion (λ b. is_blank Spaces b ≡ false) w
solid [] all = tt
solid (b ∷ bs) all = let parts = and_parts (nat_lt 32 b) (list_all (nat_lt 32) bs) all in (above_blank b parts.0, solid bs parts.1)

word_of : (w : List ℕ) → 0 < length w → list_all (nat_lt 32) w ≡ true → IsWord Spaces w
word_of w full all = record { full = full; whole = solid w all }

name_bytes : (w : List ℕ) → list_all is_name_byte w ≡ true → list_all (nat_lt 32) w ≡ true
name_bytes [] all = refl
name_bytes (b ∷ bs) all =
    let parts = and_parts (is_name_byte b) (list_all is_name_byte bs) all in
    rw ((and_parts (nat_lt 32 b) _ parts.0).0, name_bytes bs parts.1) refl

some_bytes : (w : List ℕ) → is_name w ≡ true → 0 < length w
some_bytes [] named = let no : false ≡ true = named in absurd (cc)
some_bytes (b ∷ bs) named = omega arith

-- a name is a word
pub name_word : (name : List ℕ) → is_name name ≡ true → IsWord Spaces name
name_word name named = word_of name (some_bytes name named) (name_bytes name (and_parts _ (list_all is_name_byte name) named).1)

line_of : (ws : List (List ℕ)) → 0 < length ws → AllByRecursion (IsWord Spaces) ws → IsLine layout ws
line_of ws some all = record { some = some; words = all; read = refl }

dollar_end : IsWord Spaces (codes "$end")
dollar_end = word_of (codes "$end") (omega arith) refl

nets_are_lines : (net : ℕ) (names : List (List ℕ)) → AllByRecursion (λ name. is_name name ≡ true) names → (later : List (List (List ℕ))) → AllByRecursion (IsLine layout) later
    → AllByRecursion (IsLine layout) (nets_words net names ++ later)
nets_are_lines net [] named later all = all
nets_are_lines net (name ∷ names) named later all = (
  line_of (net_words net name) (omega arith)
      (word_of (codes "$var") (omega arith) refl, (word_of (codes "wire") (omega arith) refl, (word_of (codes "1") (omega arith) refl, (id_is_word net, (name_word name named.0, (dollar_end, tt)))))),
  nets_are_lines (net + 1) names named.1 later all,
)

alone_lines : (ws : List (List ℕ)) → AllByRecursion (IsWord Spaces) ws → AllByRecursion (IsLine layout) (alone ws)
alone_lines [] all = tt
alone_lines (w ∷ ws) all = (line_of (w ∷ []) (omega arith) (all.0, tt), alone_lines ws all.1)

more_words : (xs ys : List (List ℕ)) → AllByRecursion (IsWord Spaces) xs → AllByRecursion (IsWord Spaces) ys → AllByRecursion (IsWord Spaces) (xs ++ ys)
more_words [] ys first later = later
more_words (x ∷ xs) ys first later = (first.0, more_words xs ys first.1 later)

longer_word : (b : ℕ) (w : List ℕ) → nat_lt 32 b ≡ true → IsWord Spaces w → IsWord Spaces (b ∷ w)
longer_word b w above word = record { full = omega arith; whole = (above_blank b above, word.whole) }

value_word : (net : ℕ) (b : Bool) → IsWord Spaces (value_line net b)
value_word net true = longer_word 49 (id_of net) refl (id_is_word net)
value_word net false = longer_word 48 (id_of net) refl (id_is_word net)

all_value_words : (net : ℕ) (bits : List Bool) → AllByRecursion (IsWord Spaces) (all_values net bits)
all_value_words net [] = tt
all_value_words net (b ∷ bits) = (value_word net b, all_value_words (net + 1) bits)

changed_words : (net : ℕ) (before now : List Bool) → AllByRecursion (IsWord Spaces) (changed_values net before now)
changed_words net [] now = tt
changed_words net (b ∷ before) [] = tt
changed_words net (true ∷ before) (true ∷ now) = changed_words (net + 1) before now
changed_words net (true ∷ before) (false ∷ now) = (value_word net false, changed_words (net + 1) before now)
changed_words net (false ∷ before) (true ∷ now) = (value_word net true, changed_words (net + 1) before now)
changed_words net (false ∷ before) (false ∷ now) = changed_words (net + 1) before now

values_words : (before : Option (List Bool)) (nets : List Bool) → AllByRecursion (IsWord Spaces) (moment_values before nets)
values_words None nets =
    (word_of (codes "$dumpvars") (omega arith) refl, more_words (all_values 0 nets) (codes "$end" ∷ []) (all_value_words 0 nets) (dollar_end, tt))
values_words (Some before) nets = changed_words 0 before nets

moments_words : (number : ℕ) (before : Option (List Bool)) (moments : List Shown) → number + length moments < 2 ^ 64 → AllByRecursion (IsWord Spaces) (dump_lines number before moments)
moments_words number before [] few = tt
moments_words number before (now ∷ later) few = (
  longer_word 35 (decimal number) refl (decimal_word Spaces number (omega arith)),
  more_words (moment_values before now.nets) (dump_lines (number + 1) (Some now.nets) later) (values_words before now.nets) (moments_words (number + 1) (Some now.nets) later (omega arith)),
)

-- each of the lines is read
pub dump_lines_read : (c : Circuit) (moments : List Shown) → is_name c.model ≡ true → AllByRecursion (λ name. is_name name ≡ true) c.names → length moments < 2 ^ 64
    → AllByRecursion (IsLine layout) (dump_words c moments)
dump_lines_read c moments model named few = (
  line_of (scope_words c.model) (omega arith) (word_of (codes "$scope") (omega arith) refl, (word_of (codes "module") (omega arith) refl, (name_word c.model model, (dollar_end, tt)))),
  nets_are_lines 0 c.names named (upscope_words ∷ ending_words ∷ alone (dump_lines 0 None moments)) (
    line_of upscope_words (omega arith) (word_of (codes "$upscope") (omega arith) refl, (dollar_end, tt)),
    (
      line_of ending_words (omega arith) (word_of (codes "$enddefinitions") (omega arith) refl, (dollar_end, tt)),
      alone_lines (dump_lines 0 None moments) (moments_words 0 None moments (omega arith)),
    ),
  ),
)
