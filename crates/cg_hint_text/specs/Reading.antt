-- Reading a hint text: the hints, or the first fault.
use Rattle.std.specs.Prelude.{ℕ, suc, ◌+◌, ◌-◌, ◌&&◌, ◌||◌, not, Bool, true, false, List, [], ◌∷◌, ◌++◌, length, nat_eq, nat_le, nat_lt, take, drop}
use Rattle.std.specs.Prelude.{slice_get, unwrap_or, codes, if◌then◌else◌, Option, None, Some, Result, Ok, Err}
use Rattle.std.specs.List.{onto_first, position}
use Rattle.std.specs.Option.{option_and_then, option_map, option_map_or, option_to_list}
use Rattle.std.specs.Str.{bytes_eq}
use Rattle.cg_text.specs.Numbers.{number_of}
use Rattle.cg_text.specs.Lines.{text_lines}
use Rattle.cg_text.specs.declared.lines.Line.{Line}
use Rattle.cg_text.specs.declared.lines.TheConstants.{BARE}
use Rattle.cg_text.specs.declared.number.Number.{Number}
use Rattle.cg_text.specs.declared.number.Number.TheVariants.{Small, Large, Misspelled}
use Rattle.cg_net.specs.Names.{is_known, name_place}
use Rattle.cg_net.specs.NetSets.{is_in}
use Rattle.cg_netlist.specs.Circuit.{Circuit, RegisterCell, gater_outputs}
use Rattle.cg_machine.specs.Claims.{Literal}
use Rattle.cg_hint_laws.specs.declared.hint.Hint.{Hint}
use Rattle.cg_hint_text.specs.declared.fault.HintFault.{HintFault}
use Rattle.cg_hint_text.specs.declared.fault.HintFault.TheVariants.{BadLine, UnknownName}

-- a word
abbrev pub Word : Type 0
Word = List ℕ

abbrev pub is_when : Word → Bool
is_when word = bytes_eq word (codes "when")

abbrev pub is_after : Word → Bool
is_after word = bytes_eq word (codes "after")

abbrev pub is_plus : Word → Bool
is_plus word = bytes_eq word (codes "+")

abbrev pub is_bang : Word → Bool
is_bang word = bytes_eq word (codes "!")

-- the number of cycles that a word says, from 0 to 4
abbrev pub few : Number → Option ℕ
few (Small k) = if nat_le k 4 then Some k else None
few Large = None
few Misspelled = None

abbrev pub cycles_of : Word → Option ℕ
cycles_of word = few (number_of word)

-- whether words are terms with `+` between two: each has a literal, and `!` alone is none; `fresh` says that a term begins here
abbrev pub are_terms : Bool → List Word → Bool
are_terms fresh [] = not fresh
are_terms fresh (w ∷ ws) = if is_plus w then not fresh && are_terms true ws else not (is_bang w) && are_terms false ws

-- whether no word stands twice, or among those before
abbrev pub stand_apart : List Word → List Word → Bool
stand_apart before [] = true
stand_apart before (w ∷ ws) = not (is_known before w) && stand_apart (before ++ w ∷ []) ws

-- the parts of a line of a hint's form: the registers' names, the words of the condition, and the number of cycles
pub record Form : Type 0 where
  pub regs : List Word
  pub terms : List Word
  pub after : ℕ

-- the words behind `when`: those of the condition, `after`, and the number
abbrev pub word_at : List Word → ℕ → Word
word_at ws k = unwrap_or (slice_get ws k) []

abbrev pub form_with : List Word → List Word → ℕ → Option Form
form_with regs rest end =
    if is_after (word_at rest end) && are_terms true (take end rest)
    then option_map (λ k. record { regs = regs; terms = take end rest; after = k }) (cycles_of (word_at rest (end + 1)))
    else None

abbrev pub form_behind : List Word → List Word → Option Form
form_behind regs rest =
    if nat_lt 0 (length regs) && stand_apart [] regs && nat_lt 1 (length rest) then form_with regs rest (length rest - 2) else None

-- the form of a line: the first `when` ends the registers
abbrev pub form_of : List Word → Option Form
form_of ws = option_and_then (λ place. form_behind (take place ws) (drop (suc place) ws)) (position is_when ws)

-- the net of a name; the clock and the outputs of gating cells have none
abbrev pub net_place : Circuit → Word → Option ℕ
net_place c name = if is_known c.names name then Some (name_place c.names name) else None

abbrev pub unless_clock : Circuit → ℕ → Option ℕ
unless_clock c net = if is_in (option_to_list c.clock) net || is_in (gater_outputs c) net then None else Some net

abbrev pub net_of : Circuit → Word → Option ℕ
net_of c name = option_and_then (unless_clock c) (net_place c name)

-- whether a word begins with `!`
abbrev pub begins_inverted : Word → Bool
begins_inverted [] = false
begins_inverted (b ∷ bs) = nat_eq b 33

-- a literal: a net, or `!` and a net
abbrev pub literal_of : Circuit → Word → Option Literal
literal_of c [] = None
literal_of c (b ∷ bs) = if nat_eq b 33 then option_map (λ net. (net, true)) (net_of c bs) else option_map (λ net. (net, false)) (net_of c (b ∷ bs))

-- the register of a name: its first output has it
abbrev pub shows_first : ℕ → RegisterCell ℕ ℕ → Bool
shows_first net r = option_map_or (λ (o : ℕ × Bool). nat_eq o.0 net) (slice_get r.outputs 0) false

abbrev pub first_showing : ℕ → List (RegisterCell ℕ ℕ) → Option ℕ
first_showing net [] = None
first_showing net (r ∷ rs) = if shows_first net r then Some 0 else option_map suc (first_showing net rs)

abbrev pub register_of : Circuit → Word → Option ℕ
register_of c name = option_and_then (λ net. first_showing net c.registers) (net_place c name)

-- what each of a list says, where all say something
abbrev pub said_then : {A : Type 0} → Option A → Option (List A) → Option (List A)
said_then None later = None
said_then (Some a) later = option_map (λ rest. a ∷ rest) later

abbrev pub all_said : {A : Type 0} → (Word → Option A) → List Word → Option (List A)
all_said say [] = Some []
all_said say (w ∷ ws) = said_then (say w) (all_said say ws)

-- the terms of the words of a condition, which are cut at each `+`
abbrev pub put_literal : {A : Type 0} → A → List (List A) → List (List A)
put_literal l terms = onto_first l terms

abbrev pub all_terms : {A : Type 0} → (Word → Option A) → List Word → Option (List (List A))
all_terms say [] = Some ([] ∷ [])
all_terms say (w ∷ ws) =
    if is_plus w then option_map (λ terms. [] ∷ terms) (all_terms say ws)
    else option_and_then (λ l. option_map (put_literal l) (all_terms say ws)) (say w)

-- the hint of a form: none where a name is unknown
abbrev pub hint_of : Circuit → Form → Option Hint
hint_of c f =
    option_and_then (λ regs.
    option_map (λ terms. record { regs = regs; terms = terms; after = f.after }) (all_terms (literal_of c) f.terms))
    (all_said (register_of c) f.regs)

-- the hint of a line, or its fault
abbrev pub known_or : ℕ → Option Hint → Result Hint HintFault
known_or line None = Err (UnknownName line)
known_or line (Some h) = Ok h

abbrev pub formed_or : Circuit → ℕ → Option Form → Result Hint HintFault
formed_or c line None = Err (BadLine line)
formed_or c line (Some form) = known_or line (hint_of c form)

abbrev pub line_hint : Circuit → Line → Result Hint HintFault
line_hint c line = formed_or c line.number (form_of line.words)

-- the hints of lines, or the first fault
abbrev pub hint_before : Result Hint HintFault → Result (List Hint) HintFault → Result (List Hint) HintFault
hint_before (Err fault) later = Err fault
hint_before (Ok h) (Err fault) = Err fault
hint_before (Ok h) (Ok hs) = Ok (h ∷ hs)

abbrev pub lines_hints : Circuit → List Line → Result (List Hint) HintFault
lines_hints c [] = Ok []
lines_hints c (line ∷ later) = hint_before (line_hint c line) (lines_hints c later)

-- the lines of a hint text that have words, numbered from 1 among all its lines; `#` begins a comment, which runs to the end of its line
abbrev pub hint_lines : List ℕ → List Line
hint_lines text = text_lines BARE text

-- the hints of a text for a netlist
abbrev pub hints : Circuit → List ℕ → Result (List Hint) HintFault
hints c text = lines_hints c (hint_lines text)
