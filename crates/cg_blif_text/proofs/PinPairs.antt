-- The words `pin=net` of a cell's pins, cut at their first `=`.
use Rattle.std.proofs.Common.{◌≡◌, ℕ, true, not, cond, ◌==◌, IsTrue, List, [], ◌∷◌, ◌++◌, map, Option, None, Some}
use Rattle.std.proofs.Common.{refl, ap, ◌∙◌}
use Rattle.std.specs.List.{AllByRecursion, list_all}
use Rattle.std.proofs.lemmas.Bool.{and_parts, not-true}
use Rattle.cg_cell.specs.Name.{has_no_equals}
use Rattle.cg_cell.specs.Pins.{PinData}
use Rattle.cg_blif_text.specs.Canonical.{pin_text}
use Rattle.cg_netlist_placed.specs.PinsOf.{pin_pairs}
use Rattle.cg_blif_text.specs.PinWords.{pin_net, pin_word, put_byte}

abbrev pub Word : Type 0
Word = List ℕ

-- the words of these pins
abbrev pub pin_words : List PinData → List (Option Word) → List Word
pin_words pins nets = map pin_text (pin_pairs pins nets)

pin_net-word : (pin net : Word) → has_no_equals pin ≡ true → pin_net (pin_word pin net) ≡ record { pin = pin; net = Some net }
pin_net-word [] net none = refl
pin_net-word (b ∷ bs) net none =
    let parts = and_parts (not (b == 61)) (list_all (λ byte. not (byte == 61)) bs) none in
    ap (λ c. cond c (record { pin = []; net = Some (bs ++ 61 ∷ net) }) (put_byte b (pin_net (bs ++ 61 ∷ net)))) (not-true (b == 61) parts.0)
    ∙ ap (put_byte b) (pin_net-word bs net parts.1)

pub pairs_of_words : (pins : List PinData) (nets : List (Option Word)) → AllByRecursion (λ pin. IsTrue (has_no_equals pin.name)) pins → map pin_net (pin_words pins nets) ≡ pin_pairs pins nets
pairs_of_words [] nets unsplit = refl
pairs_of_words (p ∷ pins) [] unsplit = refl
pairs_of_words (p ∷ pins) (None ∷ nets) unsplit = pairs_of_words pins nets unsplit.1
pairs_of_words (p ∷ pins) (Some net ∷ nets) unsplit =
    ap (λ w. w ∷ map pin_net (pin_words pins nets)) (pin_net-word p.name net unsplit.0) ∙ ap (λ ws. record { pin = p.name; net = Some net } ∷ ws) (pairs_of_words pins nets unsplit.1)
