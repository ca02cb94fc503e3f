-- One more part behind others says one more thing.
use Rattle.std.specs.Prelude.{◌≡◌, Bool, true, false, not, ◌||◌, if◌then◌else◌, List, [], ◌∷◌, ◌++◌, Option, None, Some}
use Rattle.std.proofs.Common.{refl, ap, ◌∙◌, sym, inl, inr}
use Rattle.std.specs.List.{cons_option, filter, filter_map, flat_map}
use Rattle.std.specs.Str.{bytes_eq}
use Rattle.std.proofs.lemmas.Bool.{both_ways, cases_Bool, false_from_ne_true}
use Rattle.std.proofs.lemmas.Grind.{flat_map-append}
use Rattle.std.proofs.lemmas.List.{append-nil, append_assoc}
use Rattle.std.proofs.lemmas.List.Elements.{filter_map-append}
use Rattle.cg_netlist_parts.proofs.ByKind.{has_once, once_has}
use Rattle.cg_net.specs.Names.{NetName, is_known, with_name, with_names}
use Rattle.cg_netlist_parts.specs.Part.{Clock, GaterPart, Input, Logic, Output, Part, Register, cell_in, clock_in, each_once, gater_in, input_in}
use Rattle.cg_netlist_parts.specs.Part.{mentioned, nets, output_in, register_in}
use Rattle.cg_netlist_parts.specs.Said.{Said, said, with_part}

-- a word more, each once
filter_more : (p : NetName → Bool) (xs : List NetName) (y : NetName) → filter p (xs ++ y ∷ []) ≡ filter p xs ++ (if p y then y ∷ [] else [])
filter_more p [] y = refl
filter_more p (x ∷ xs) y = go (p x) (filter_more p xs y)
  where
    go : (b : Bool) → filter p (xs ++ y ∷ []) ≡ filter p xs ++ (if p y then y ∷ [] else []) → (if b then x ∷ filter p (xs ++ y ∷ []) else filter p (xs ++ y ∷ [])) ≡ (if b then x ∷ filter p xs else filter p xs) ++ (if p y then y ∷ [] else [])
    go true rest = ap (λ ys. x ∷ ys) rest
    go false rest = rest

once_more : (xs : List NetName) (y : NetName) → each_once (xs ++ y ∷ []) ≡ each_once xs ++ (if is_known xs y then [] else y ∷ [])
once_more [] y = refl
once_more (x ∷ xs) y =
    ap (λ ys. x ∷ filter (λ other. not (bytes_eq other x)) ys) (once_more xs y) ∙ ap (λ ys. x ∷ ys) (go (is_known xs y) (bytes_eq y x) refl)
  where
    ends : (here : Bool) → (if not here then y ∷ [] else []) ≡ (if here || false then [] else y ∷ [])
    ends true = refl
    ends false = refl

    known_too : (here : Bool) → (here || true) ≡ true
    known_too true = refl
    known_too false = refl

    go : (known here : Bool) → bytes_eq y x ≡ here → filter (λ other. not (bytes_eq other x)) (each_once xs ++ (if known then [] else y ∷ [])) ≡ filter (λ other. not (bytes_eq other x)) (each_once xs) ++ (if here || known then [] else y ∷ [])
    go true here e = ap (filter (λ other. not (bytes_eq other x))) (append-nil (each_once xs)) ∙ (sym (append-nil (filter (λ other. not (bytes_eq other x)) (each_once xs))) ∙ ap (λ b. filter (λ other. not (bytes_eq other x)) (each_once xs) ++ (if b then [] else y ∷ [])) (sym (known_too here)))
    go false here e = filter_more (λ other. not (bytes_eq other x)) (each_once xs) y ∙ (ap (λ b. filter (λ other. not (bytes_eq other x)) (each_once xs) ++ (if not b then y ∷ [] else [])) e ∙ ap (λ ys. filter (λ other. not (bytes_eq other x)) (each_once xs) ++ ys) (ends here))

known_once : (xs : List NetName) (y : NetName) → is_known (each_once xs) y ≡ is_known xs y
known_once xs y = elim (cases_Bool (is_known xs y)) [
  | inl there ↦ once_has xs y there ∙ sym there
  | inr none ↦ false_from_ne_true (is_known (each_once xs) y) (λ there. both_ways (is_known xs y) none (has_once xs y there)) ∙ sym none
]

one_word : (xs : List NetName) (y : NetName) → each_once (xs ++ y ∷ []) ≡ with_name (each_once xs) y
one_word xs y = once_more xs y ∙ (go (is_known xs y) ∙ ap (λ b. if b then each_once xs else each_once xs ++ y ∷ []) (sym (known_once xs y)))
  where
    go : (known : Bool) → each_once xs ++ (if known then [] else y ∷ []) ≡ (if known then each_once xs else each_once xs ++ y ∷ [])
    go true = append-nil (each_once xs)
    go false = refl

pub once_words : (xs ys : List NetName) → each_once (xs ++ ys) ≡ with_names (each_once xs) ys
once_words xs [] = ap each_once (append-nil xs)
once_words xs (y ∷ ys) = ap each_once (sym (append_assoc xs (y ∷ []) ys)) ∙ (once_words (xs ++ y ∷ []) ys ∙ ap (λ ws. with_names ws ys) (one_word xs y))

same_said : (s t : Said) → s.nets ≡ t.nets → s.inputs ≡ t.inputs → s.outputs ≡ t.outputs → s.clocks ≡ t.clocks → s.cells ≡ t.cells → s.gaters ≡ t.gaters → s.registers ≡ t.registers → s ≡ t
same_said s t n i o c k g r =
    ap (λ x. record { nets = x; inputs = s.inputs; outputs = s.outputs; clocks = s.clocks; cells = s.cells; gaters = s.gaters; registers = s.registers }) n
    ∙ (ap (λ x. record { nets = t.nets; inputs = x; outputs = s.outputs; clocks = s.clocks; cells = s.cells; gaters = s.gaters; registers = s.registers }) i
    ∙ (ap (λ x. record { nets = t.nets; inputs = t.inputs; outputs = x; clocks = s.clocks; cells = s.cells; gaters = s.gaters; registers = s.registers }) o
    ∙ (ap (λ x. record { nets = t.nets; inputs = t.inputs; outputs = t.outputs; clocks = x; cells = s.cells; gaters = s.gaters; registers = s.registers }) c
    ∙ (ap (λ x. record { nets = t.nets; inputs = t.inputs; outputs = t.outputs; clocks = t.clocks; cells = x; gaters = s.gaters; registers = s.registers }) k
    ∙ (ap (λ x. record { nets = t.nets; inputs = t.inputs; outputs = t.outputs; clocks = t.clocks; cells = t.cells; gaters = x; registers = s.registers }) g
    ∙ ap (λ x. record { nets = t.nets; inputs = t.inputs; outputs = t.outputs; clocks = t.clocks; cells = t.cells; gaters = t.gaters; registers = x }) r)))))

module _ {Y : Type 0} (pick : Part → Option Y) (ps : List Part) (p : Part) where
  same : pick p ≡ None → filter_map pick (ps ++ p ∷ []) ≡ filter_map pick ps
  same none = filter_map-append pick ps (p ∷ []) ∙ (ap (λ o. filter_map pick ps ++ cons_option o []) none ∙ append-nil (filter_map pick ps))

  push : (v : Y) → pick p ≡ Some v → filter_map pick (ps ++ p ∷ []) ≡ filter_map pick ps ++ v ∷ []
  push v some = filter_map-append pick ps (p ∷ []) ∙ ap (λ o. filter_map pick ps ++ cons_option o []) some

pub said_more : (ps : List Part) (p : Part) → said (ps ++ p ∷ []) ≡ with_part (said ps) p
said_more ps p = go p
  where
    nets_more : (q : Part) → nets (ps ++ q ∷ []) ≡ with_names (nets ps) (mentioned q)
    nets_more q = ap each_once (flat_map-append mentioned ps (q ∷ []) ∙ ap (λ xs. flat_map mentioned ps ++ xs) (append-nil (mentioned q))) ∙ once_words (flat_map mentioned ps) (mentioned q)

    word : (pick : Part → Option NetName) (q : Part) (v : NetName) → pick q ≡ Some v → each_once (filter_map pick (ps ++ q ∷ [])) ≡ with_name (each_once (filter_map pick ps)) v
    word pick q v some = ap each_once (push pick ps q v some) ∙ one_word (filter_map pick ps) v

    none : (pick : Part → Option NetName) (q : Part) → pick q ≡ None → each_once (filter_map pick (ps ++ q ∷ [])) ≡ each_once (filter_map pick ps)
    none pick q is = ap each_once (same pick ps q is)

    go : (q : Part) → said (ps ++ q ∷ []) ≡ with_part (said ps) q
    go (Input net) = same_said (said (ps ++ Input net ∷ [])) (with_part (said ps) (Input net)) (nets_more (Input net)) (word input_in (Input net) net refl) (none output_in (Input net) refl) (none clock_in (Input net) refl) (same cell_in ps (Input net) refl) (same gater_in ps (Input net) refl) (same register_in ps (Input net) refl)
    go (Output net) = same_said (said (ps ++ Output net ∷ [])) (with_part (said ps) (Output net)) (nets_more (Output net)) (none input_in (Output net) refl) (word output_in (Output net) net refl) (none clock_in (Output net) refl) (same cell_in ps (Output net) refl) (same gater_in ps (Output net) refl) (same register_in ps (Output net) refl)
    go (Clock net) = same_said (said (ps ++ Clock net ∷ [])) (with_part (said ps) (Clock net)) (nets_more (Clock net)) (none input_in (Clock net) refl) (none output_in (Clock net) refl) (word clock_in (Clock net) net refl) (same cell_in ps (Clock net) refl) (same gater_in ps (Clock net) refl) (same register_in ps (Clock net) refl)
    go (Logic k) = same_said (said (ps ++ Logic k ∷ [])) (with_part (said ps) (Logic k)) (nets_more (Logic k)) (none input_in (Logic k) refl) (none output_in (Logic k) refl) (none clock_in (Logic k) refl) (push cell_in ps (Logic k) k refl) (same gater_in ps (Logic k) refl) (same register_in ps (Logic k) refl)
    go (GaterPart g) = same_said (said (ps ++ GaterPart g ∷ [])) (with_part (said ps) (GaterPart g)) (nets_more (GaterPart g)) (none input_in (GaterPart g) refl) (none output_in (GaterPart g) refl) (none clock_in (GaterPart g) refl) (same cell_in ps (GaterPart g) refl) (push gater_in ps (GaterPart g) g refl) (same register_in ps (GaterPart g) refl)
    go (Register r) = same_said (said (ps ++ Register r ∷ [])) (with_part (said ps) (Register r)) (nets_more (Register r)) (none input_in (Register r) refl) (none output_in (Register r) refl) (none clock_in (Register r) refl) (same cell_in ps (Register r) refl) (same gater_in ps (Register r) refl) (push register_in ps (Register r) r refl)
