-- The hint texts of hints, said of their lines.
use Rattle.std.specs.Prelude.{◌≡◌, ◌≤◌, ◌<◌, ℕ, true, false, List, [], ◌∷◌, ◌++◌, length, slice_get, if◌then◌else◌, codes, Some}
use Rattle.std.specs.Fmt.{decimal}
use Rattle.std.specs.List.{AllByRecursion, AllZip}
use Rattle.cg_text.specs.declared.lines.Line.{Line}
use Rattle.cg_net.specs.Names.{is_known}
use Rattle.cg_netlist.specs.Circuit.{Circuit, RegisterCell}
use Rattle.cg_machine.specs.Claims.{Literal}
use Rattle.cg_hint_laws.specs.OfNetlist.{IsPlain}
use Rattle.cg_hint_laws.specs.declared.hint.Hint.{Hint}
use Rattle.cg_hint_text.specs.Reading.{Word, begins_inverted, hint_lines, is_plus, is_when, shows_first}

-- a word is the name of such a net
pub record NamesNet (c : Circuit) (word : Word) (net : ℕ) : Type 0 where
  pub named : slice_get c.names net ≡ Some word
  pub plain : IsPlain c net

-- a word says a literal: a net, or `!` and a net. One that begins with `!` always says the latter.
pub record SaysLiteral (c : Circuit) (word : Word) (l : Literal) : Type 0 where
  pub name : Word
  pub spelled : word ≡ (if l.1 then 33 ∷ name else name)
  pub begins : begins_inverted word ≡ l.1
  pub names : NamesNet c name l.0

-- a word is the name of a register: that of its first output
pub record NamesRegister (c : Circuit) (word : Word) (r : ℕ) : Type 0 where
  pub register : RegisterCell ℕ ℕ
  pub there : slice_get c.registers r ≡ Some register
  pub net : ℕ
  pub first : shows_first net register ≡ true
  pub named : slice_get c.names net ≡ Some word

-- words say a term: at least one, each a literal and none `+`
pub record SaysTerm (c : Circuit) (words : List Word) (term : List Literal) : Type 0 where
  pub some : 0 < length words
  pub no_plus : AllByRecursion (λ word. is_plus word ≡ false) words
  pub say : AllZip (SaysLiteral c) words term

-- terms one after another, with `+` before each; and the words of a condition, with `+` between two terms
abbrev pub plus_words : List (List Word) → List Word
plus_words [] = []
plus_words (term ∷ terms) = codes "+" ∷ (term ++ plus_words terms)

abbrev pub condition_words : List (List Word) → List Word
condition_words [] = []
condition_words (term ∷ terms) = term ++ plus_words terms

-- no word stands twice
abbrev pub StandOnce : List Word → Type 0
StandOnce [] = Unit {0}
StandOnce (word ∷ later) = (is_known later word ≡ false) × StandOnce later

-- a line says a hint: one or more registers, each once; `when`; the terms; `after`, and the digits of the number of cycles, at most 4.
-- The first word `when` ends the registers.
pub record SaysHint (c : Circuit) (line : Line) (h : Hint) : Type 0 where
  pub regs : List Word
  pub terms : List (List Word)
  pub words : line.words ≡ regs ++ codes "when" ∷ (condition_words terms ++ codes "after" ∷ decimal h.after ∷ [])
  pub before : AllByRecursion (λ word. is_when word ≡ false) regs
  pub some_regs : 0 < length regs
  pub once : StandOnce regs
  pub registers : AllZip (NamesRegister c) regs h.regs
  pub some_terms : 0 < length terms
  pub say : AllZip (SaysTerm c) terms h.terms
  pub few : h.after ≤ 4

-- a text says hints: each of its lines that have words says one, in order
abbrev pub SaysHints : Circuit → List ℕ → List Hint → Type 0
SaysHints c text hs = AllZip (SaysHint c) (hint_lines text) hs
