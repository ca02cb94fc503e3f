-- Texts that are written piece by piece.
use Rattle.std.proofs.Common.{◌≡◌, ℕ, zero, suc, Bool, ◌+◌, ◌<◌, List, [], ◌∷◌, ◌++◌, length, drop, get_or, map, codes, Option}
use Rattle.std.proofs.Common.{refl, sym, ap, ◌∙◌, add-one, drop-cons, append_assoc, append-nil, arith}
use Rattle.std.proofs.lemmas.Grind.{flat_map-append}
use Rattle.std.proofs.lemmas.List.Folds.{flat_map-map}
use Rattle.cg_text.specs.Written.{joined, line_text}
use Rattle.cg_blif_text.specs.Canonical.{pin_text, place_byte, row_words}
use Rattle.cg_netlist_placed.specs.PinNets.{PinNet}
use Rattle.cg_blif_out.specs.Writing.{pins_text, rows_text, spaced}

abbrev Word : Type 0
Word = List ℕ

-- a line is its first word, the others each behind a space, and a line feed
joined-spaced : (word : Word) (words : List Word) → joined (word ∷ words) ≡ word ++ spaced words
joined-spaced word [] = sym (append-nil word)
joined-spaced word (next ∷ words) = ap (λ later. word ++ (32 ∷ later)) (joined-spaced next words)

pub line_text-spaced : (word : Word) (words : List Word) → line_text (word ∷ words) ≡ word ++ (spaced words ++ 10 ∷ [])
line_text-spaced word words = ap (λ line. line ++ 10 ∷ []) (joined-spaced word words) ∙ append_assoc word (spaced words) (10 ∷ [])

-- a line of a command, words and one word more
pub names_line-spaced : (command : Word) (inputs : List Word) (output : Word) → line_text (command ∷ (inputs ++ output ∷ [])) ≡ command ++ (spaced inputs ++ (32 ∷ (output ++ 10 ∷ [])))
names_line-spaced command inputs output =
    let apart : spaced (inputs ++ output ∷ []) ++ 10 ∷ [] ≡ spaced inputs ++ (32 ∷ (output ++ 10 ∷ [])) = simp (flat_map-append, append_assoc, append-nil) in
    line_text-spaced command (inputs ++ output ∷ []) ∙ ap (λ later. command ++ later) apart

-- a placed cell is one line: the command, the cell, and its pins
pub gate_line-spaced : (cell : Word) (pins : List PinNet) → line_text (codes ".gate" ∷ cell ∷ map pin_text pins) ≡ (codes ".gate " ++ cell) ++ (pins_text pins ++ 10 ∷ [])
gate_line-spaced cell pins =
    ap (λ line. codes ".gate " ++ line) (line_text-spaced cell (map pin_text pins) ∙ ap (λ words. cell ++ (words ++ 10 ∷ [])) (flat_map-map (λ word. 32 ∷ word) pin_text pins)) ∙ sym (append_assoc (codes ".gate ") cell (pins_text pins ++ 10 ∷ []))

-- what is left to write at k is the piece there and what is left behind it
pub spaced-drop : (words : List Word) (k : ℕ) (d : Word) → k < length words → spaced (drop k words) ≡ (32 ∷ get_or words k d) ++ spaced (drop (k + 1) words)
spaced-drop words k d below = rw (add-one, drop-cons words k d) refl

pub pins_text-drop : (pins : List PinNet) (k : ℕ) (d : PinNet) → k < length pins → pins_text (drop k pins) ≡ (32 ∷ pin_text (get_or pins k d)) ++ pins_text (drop (k + 1) pins)
pins_text-drop pins k d below = rw (add-one, drop-cons pins k d) refl

pub rows_text-drop : (on : Bool) (rows : List (List (Option Bool))) (k : ℕ) (d : List (Option Bool)) → k < length rows → rows_text on (drop k rows) ≡ line_text (row_words on (get_or rows k d)) ++ rows_text on (drop (k + 1) rows)
rows_text-drop on rows k d below = rw (add-one, drop-cons rows k d) refl

pub places-drop : (places : List (Option Bool)) (k : ℕ) (d : Option Bool) → k < length places → map place_byte (drop k places) ≡ place_byte (get_or places k d) ∷ map place_byte (drop (k + 1) places)
places-drop places k d below = rw (add-one, drop-cons places k d) refl

pub ruleset turns = (rows_text-drop, places-drop, append_assoc)

pub ruleset names = (spaced-drop, append_assoc)

pub ruleset pins = (pins_text-drop, append_assoc)

pub ruleset lines = (line_text-spaced, append_assoc)

pub ruleset rows = (append_assoc)

pub ruleset latches = (append_assoc)

pub ruleset names_lines = (names_line-spaced, append_assoc)

pub ruleset gates = (gate_line-spaced, append_assoc)
