-- Pieces of text, each behind what stands between two.
use Rattle.std.specs.Prelude.{ℕ, List, ◌++◌, map, codes}
use Rattle.std.specs.List.{flat_map}
use Rattle.cg_net.specs.Names.{NetName}
use Rattle.cg_netlist_placed.specs.PinNets.{PinNet}
use Rattle.cg_verilog_text.specs.Forms.{Literal}
use Rattle.cg_verilog_text.specs.Written.{between, literal_text, name_text, pin_text, term_text}

-- names, literals, terms and pins that others stand before
abbrev pub more_names : List (List ℕ) → List ℕ
more_names names = flat_map (λ name. codes ", " ++ name_text name) names

abbrev pub more_literals : List (Literal NetName) → List ℕ
more_literals literals = flat_map (λ literal. codes "& " ++ literal_text literal) literals

abbrev pub more_terms : List (List (Literal NetName)) → List ℕ
more_terms terms = flat_map (λ term. codes " | " ++ term_text term) terms

abbrev pub more_pins : List PinNet → List ℕ
more_pins pins = flat_map (λ pin. codes ", " ++ pin_text pin) pins

-- literals and pins with what stands between two
abbrev pub literals_text : List (Literal NetName) → List ℕ
literals_text literals = between (codes "& ") (map literal_text literals)

abbrev pub pins_text : List PinNet → List ℕ
pins_text pins = between (codes ", ") (map pin_text pins)
