-- Pieces of text with something between each two.
use Rattle.std.proofs.Common.{◌≡◌, ℕ, zero, suc, ◌+◌, ◌<◌, List, [], ◌∷◌, ◌++◌, length, drop, get_or, map, codes}
use Rattle.std.proofs.Common.{refl, sym, ap, ◌∙◌, add-one, drop-cons, append_assoc, append-nil, arith}
use Rattle.std.specs.List.{flat_map}
use Rattle.cg_net.specs.Names.{NetName}
use Rattle.cg_netlist_placed.specs.PinNets.{PinNet}
use Rattle.cg_verilog_text.specs.Forms.{Literal}
use Rattle.cg_verilog_text.specs.Written.{between, literal_text, name_text, names_text, pin_text, sum_text, term_text}
use Rattle.cg_verilog_out.specs.Pieces.{more_literals, more_names, more_pins, more_terms}

module _ {X : Type 0} (separator : List ℕ) (text : X → List ℕ) where
  abbrev pub more : List X → List ℕ
  more xs = flat_map (λ x. separator ++ text x) xs

  -- the first, and then each behind what stands between two
  pub between-first : (x : X) (xs : List X) → between separator (map text (x ∷ xs)) ≡ text x ++ more xs
  between-first x [] = sym (append-nil (text x))
  between-first x (y ∷ ys) = append_assoc (text x) separator (between separator (map text (y ∷ ys))) ∙ (ap (λ l. text x ++ (separator ++ l)) (between-first y ys) ∙ ap (λ l. text x ++ l) (sym (append_assoc separator (text y) (more ys))))

pub names_text-first : (name : List ℕ) (names : List (List ℕ)) → names_text (name ∷ names) ≡ name_text name ++ more_names names
names_text-first name names = between-first (codes ", ") name_text name names

pub literals-first : (l : Literal NetName) (ls : List (Literal NetName)) → between (codes "& ") (map literal_text (l ∷ ls)) ≡ literal_text l ++ more_literals ls
literals-first l ls = between-first (codes "& ") literal_text l ls

pub sum_text-first : (t : List (Literal NetName)) (ts : List (List (Literal NetName))) → sum_text (t ∷ ts) ≡ term_text t ++ more_terms ts
sum_text-first t ts = between-first (codes " | ") term_text t ts

pub pins-first : (p : PinNet) (ps : List PinNet) → between (codes ", ") (map pin_text (p ∷ ps)) ≡ pin_text p ++ more_pins ps
pins-first p ps = between-first (codes ", ") pin_text p ps

-- what is left to write at k is the piece there and what is left behind it
pub names-drop : (names : List (List ℕ)) (k : ℕ) (d : List ℕ) → k < length names → more_names (drop k names) ≡ (codes ", " ++ name_text (get_or names k d)) ++ more_names (drop (k + 1) names)
names-drop names k d below = rw (add-one, drop-cons names k d) refl

pub literals-drop : (ls : List (Literal NetName)) (k : ℕ) (d : Literal NetName) → k < length ls → more_literals (drop k ls) ≡ (codes "& " ++ literal_text (get_or ls k d)) ++ more_literals (drop (k + 1) ls)
literals-drop ls k d below = rw (add-one, drop-cons ls k d) refl

pub terms-drop : (ts : List (List (Literal NetName))) (k : ℕ) (d : List (Literal NetName)) → k < length ts → more_terms (drop k ts) ≡ (codes " | " ++ term_text (get_or ts k d)) ++ more_terms (drop (k + 1) ts)
terms-drop ts k d below = rw (add-one, drop-cons ts k d) refl

pub pins-drop : (ps : List PinNet) (k : ℕ) (d : PinNet) → k < length ps → more_pins (drop k ps) ≡ (codes ", " ++ pin_text (get_or ps k d)) ++ more_pins (drop (k + 1) ps)
pins-drop ps k d below = rw (add-one, drop-cons ps k d) refl

pub ruleset names = (names_text-first, names-drop, append_assoc)

pub ruleset literals = (literals-first, literals-drop, append_assoc)

pub ruleset terms = (sum_text-first, terms-drop, append_assoc)

pub ruleset pins = (pins-first, pins-drop, append_assoc)

pub ruleset rising = (append_assoc)
