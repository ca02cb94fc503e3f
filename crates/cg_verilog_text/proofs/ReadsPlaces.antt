-- Placed cells that are written are read back.
use Rattle.std.proofs.Common.{[], ◌≡◌, ℕ, ◌≤◌, true, false, List, ◌∷◌, ◌++◌, map, length, ◌==◌, slice_index}
use Rattle.std.proofs.Common.{refl, ap, ◌∙◌, append_assoc, IsTrue, arith, Option, None, Some}
use Rattle.std.specs.Prelude.{codes}
use Rattle.std.specs.List.{AllByRecursion}
use Rattle.std.specs.Option.{option_to_list}
use Rattle.cg_cell.specs.Name.{is_name}
use Rattle.cg_net.specs.Names.{NetName}
use Rattle.cg_verilog_text.specs.Items.{Place, ended, item, made, pin}
use Rattle.cg_verilog_text.specs.Reading.{Read, Got, ended_by, is_mark, is_next, separated}
use Rattle.cg_verilog_text.specs.Tokens.{Token, tokens_from}
use Rattle.cg_verilog_text.specs.Written.{between, item_line, name_text, pin_text}
use Rattle.cg_verilog_text.specs.declared.kind.Kind.TheVariants.{Escaped, Mark}
use Rattle.cg_netlist_placed.specs.PinNets.{PinNet}
use Rattle.cg_verilog_text.proofs.Lexing.{name_is_solid, solid_token, AreSolid}
use Rattle.cg_verilog_text.proofs.Parted.{AllFit, all_toks, between_tokens, more_toks, parted_back}
use Rattle.cg_verilog_text.proofs.ReadsForms.{open_token}
use Rattle.cg_verilog_text.proofs.ReadsItems.{IsReadBack, T, read_back}

-- a pin of a placed cell and its net, if it has one
abbrev pub net_toks : ℕ → Option NetName → List Token → List Token
net_toks line None later = later
net_toks line (Some n) later = T line Escaped n ∷ later

abbrev pub pin_toks : ℕ → PinNet → List Token → List Token
pin_toks line p later = T line Mark (46 ∷ []) ∷ T line Escaped p.pin ∷ T line Mark (40 ∷ []) ∷ net_toks line p.net (T line Mark (41 ∷ []) ∷ later)

pin_grows : (line : ℕ) (p : PinNet) (later : List Token) → length later ≤ length (pin_toks line p later)
pin_grows line p later = go p.net
  where
    go : (o : Option NetName) → length later ≤ length (T line Mark (46 ∷ []) ∷ T line Escaped p.pin ∷ T line Mark (40 ∷ []) ∷ net_toks line o (T line Mark (41 ∷ []) ∷ later))
    go None = omega arith
    go (Some n) = omega arith

-- the pin has a name, and the net too, if there is one
pub record PinFits (before : List PinNet) (p : PinNet) : Type 0 where
  pub pin : IsTrue (is_name p.pin)
  pub net : AllByRecursion (λ n. IsTrue (is_name n)) (option_to_list p.net)

pub pin_back : (line : ℕ) (before : List PinNet) (p : PinNet) (later : List Token) → PinFits before p → pin (pin_toks line p later) ≡ Got p later
pin_back line before p later fits = go p.net fits.net
  where
    go : (o : Option NetName) → AllByRecursion (λ n. IsTrue (is_name n)) (option_to_list o) → pin (T line Mark (46 ∷ []) ∷ T line Escaped p.pin ∷ T line Mark (40 ∷ []) ∷ net_toks line o (T line Mark (41 ∷ []) ∷ later)) ≡ Got (record { pin = p.pin; net = o }) later
    go None named = let pin = fits.pin in rw pin refl
    go (Some n) named = let pin = fits.pin in let net = named.0 in rw (pin, net) refl

pin_tokens : (end line : ℕ) (p : PinNet) (rest : List ℕ) → PinFits [] p → tokens_from end 0 false line (pin_text p ++ rest) ≡ pin_toks line p (tokens_from end 0 false line rest)
pin_tokens end line p rest fits = go p.net fits.net
  where
    with_net : Option NetName → PinNet
    with_net o = record { pin = p.pin; net = o }

    go : (o : Option NetName) → AllByRecursion (λ n. IsTrue (is_name n)) (option_to_list o) → tokens_from end 0 false line (pin_text (record { pin = p.pin; net = o }) ++ rest) ≡ T line Mark (46 ∷ []) ∷ T line Escaped p.pin ∷ T line Mark (40 ∷ []) ∷ net_toks line o (T line Mark (41 ∷ []) ∷ tokens_from end 0 false line rest)
    go None named =
        ap (tokens_from end 0 false line) (let e : pin_text (record { pin = p.pin; net = None }) ++ rest ≡ codes "." ++ (name_text p.pin ++ (codes "()" ++ rest)) = simp append_assoc in e)
        ∙ ap (λ later. T line Mark (46 ∷ []) ∷ later) (solid_token end line false p.pin (codes "()" ++ rest) (name_is_solid p.pin fits.pin))
    go (Some n) named =
        ap (tokens_from end 0 false line) (let e : pin_text (record { pin = p.pin; net = Some n }) ++ rest ≡ codes "." ++ (name_text p.pin ++ (codes "(" ++ (name_text n ++ (codes ")" ++ rest)))) = simp append_assoc in e)
        ∙ (ap (λ later. T line Mark (46 ∷ []) ∷ later) (solid_token end line false p.pin (codes "(" ++ (name_text n ++ (codes ")" ++ rest))) (name_is_solid p.pin fits.pin))
        ∙ ap (λ later. T line Mark (46 ∷ []) ∷ T line Escaped p.pin ∷ T line Mark (40 ∷ []) ∷ later) (solid_token end line false n (codes ")" ++ rest) (name_is_solid n named.0)))

-- all pins
abbrev pub pins_toks : ℕ → PinNet → List PinNet → List Token → List Token
pins_toks line p ps later = all_toks (pin_toks line) (T line Mark (44 ∷ [])) p ps later

all_here : (line : ℕ) (before ps : List PinNet) → AllByRecursion (PinFits []) ps → AllFit (pin_toks line) (T line Mark (44 ∷ [])) 44 (λ before. pin) PinFits refl (pin_back line) before ps
all_here line before [] all = tt
all_here line before (p ∷ ps) all = (record { pin = all.0.pin; net = all.0.net }, all_here line (before ++ p ∷ []) ps all.1)

pins_back : (line : ℕ) (p : PinNet) (ps : List PinNet) (later : List Token) → AllByRecursion (PinFits []) (p ∷ ps) → is_next (is_mark 44) later ≡ false → separated 44 pin (pins_toks line p ps later) ≡ Got (p ∷ ps) later
pins_back line p ps later fit ends =
    parted_back (pin_toks line) (T line Mark (44 ∷ [])) 44 (λ before. pin) PinFits refl (pin_back line) (pin_grows line) [] p ps later (all_here line [] (p ∷ ps) fit) ends

pins_begin : (p : PinNet) (ps : List PinNet) (rest : List ℕ) → (slice_index (between (codes ", ") (map pin_text (p ∷ ps)) ++ rest) 0 == 42) ≡ false
pins_begin p [] rest = refl
pins_begin p (q ∷ qs) rest = refl

-- a placed cell, with any label
placing : (line : ℕ) (cell : NetName) (label : List ℕ) (later : List Token) → IsTrue (is_name cell)
    → item (T line Escaped cell ∷ T line Escaped label ∷ T line Mark (40 ∷ []) ∷ later) ≡ made (Place cell label) (ended (ended_by 41 (separated 44 pin later)))
placing line cell label later named = rw named refl

pins_grow : (line : ℕ) (ps : List PinNet) (later : List Token) → length later ≤ length (more_toks (pin_toks line) (T line Mark (44 ∷ [])) ps later)
pins_grow line [] later = omega arith
pins_grow line (p ∷ ps) later =
    let rest : length later ≤ length (more_toks (pin_toks line) (T line Mark (44 ∷ [])) ps later) = pins_grow line ps later in
    let one : length (more_toks (pin_toks line) (T line Mark (44 ∷ [])) ps later) ≤ length (pin_toks line p (more_toks (pin_toks line) (T line Mark (44 ∷ [])) ps later)) = pin_grows line p (more_toks (pin_toks line) (T line Mark (44 ∷ [])) ps later) in
    omega (arith, rest, one)

place_grows : (line : ℕ) (p : PinNet) (ps : List PinNet) (later : List Token) → length later ≤ length (pins_toks line p ps (T line Mark (41 ∷ []) ∷ T line Mark (59 ∷ []) ∷ later))
place_grows line p ps later =
    let close = T line Mark (41 ∷ []) ∷ T line Mark (59 ∷ []) ∷ later in
    let rest : length close ≤ length (more_toks (pin_toks line) (T line Mark (44 ∷ [])) ps close) = pins_grow line ps close in
    let one : length (more_toks (pin_toks line) (T line Mark (44 ∷ [])) ps close) ≤ length (pins_toks line p ps close) = pin_grows line p (more_toks (pin_toks line) (T line Mark (44 ∷ [])) ps close) in
    omega (arith, rest, one)

pub place_back : (cell : NetName) (label : List ℕ) (p : PinNet) (ps : List PinNet) → IsTrue (is_name cell) → AreSolid label → AllByRecursion (PinFits []) (p ∷ ps) → IsReadBack (Place cell label (p ∷ ps))
place_back cell label p ps named solid fit = read_back (Place cell label (p ∷ ps))
    (λ line later. T line Escaped cell ∷ T line Escaped label ∷ T line Mark (40 ∷ []) ∷ pins_toks line p ps (T line Mark (41 ∷ []) ∷ T line Mark (59 ∷ []) ∷ later))
    (λ end line rest.
    let text = between (codes ", ") (map pin_text (p ∷ ps)) ++ (codes ");" ++ 10 ∷ rest) in
    ap (tokens_from end 0 true line) (let e : item_line (Place cell label (p ∷ ps)) ++ rest ≡ codes "  " ++ (name_text cell ++ (name_text label ++ (codes "(" ++ text))) = simp append_assoc in e)
    ∙ (solid_token end line true cell (name_text label ++ (codes "(" ++ text)) (name_is_solid cell named)
    ∙ ap (λ later. T line Escaped cell ∷ later) (solid_token end line false label (codes "(" ++ text) solid
    ∙ ap (λ later. T line Escaped label ∷ later) (open_token end line text (pins_begin p ps (codes ");" ++ 10 ∷ rest))
    ∙ ap (λ later. T line Mark (40 ∷ []) ∷ later) (between_tokens (pin_toks line) (T line Mark (44 ∷ [])) end line pin_text (codes ", ") (PinFits []) (pin_tokens end line) (λ more. refl) p ps (codes ");" ++ 10 ∷ rest) fit)))))
    (λ line later. placing line cell label (pins_toks line p ps (T line Mark (41 ∷ []) ∷ T line Mark (59 ∷ []) ∷ later)) named
    ∙ ap (λ (read : Read (List PinNet)). made (Place cell label) (ended (ended_by 41 read))) (pins_back line p ps (T line Mark (41 ∷ []) ∷ T line Mark (59 ∷ []) ∷ later) fit refl))
    (λ line later. let more : length later ≤ length (pins_toks line p ps (T line Mark (41 ∷ []) ∷ T line Mark (59 ∷ []) ∷ later)) = place_grows line p ps later in omega (arith, more))
