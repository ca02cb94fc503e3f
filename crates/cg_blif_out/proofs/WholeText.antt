-- The canonical text, piece by piece.
use Rattle.std.proofs.Common.{◌≡◌, ℕ, zero, suc, ◌+◌, ◌<◌, List, [], ◌∷◌, ◌++◌, length, take, get_or, map, codes, Option, None}
use Rattle.std.proofs.Common.{Some, Result, Ok, Err, OnOk, IfOk, subst, refl, sym, ap, ◌∙◌, append_assoc, append-nil, arith}
use Rattle.std.specs.List.{flat_map, slice_get}
use Rattle.std.specs.Option.{option_map, option_to_list}
use Rattle.std.proofs.lemmas.Grind.{flat_map-append}
use Rattle.std.proofs.lemmas.List.{take_more}
use Rattle.std.proofs.lemmas.Option.{get_or_from_slice_get, same_Some, slice_get_within}
use Rattle.std.specs.declared.alloc.AllocError.{AllocError}
use Rattle.std.specs.declared.vec.Vec.{Vec}
use Rattle.cg_cell.specs.Cell.{CellData}
use Rattle.cg_text.specs.Written.{line_text, text_of}
use Rattle.cg_netlist_parts.specs.Writable.{IsWritable}
use Rattle.cg_blif_text.specs.BlifText.{BlifText}
use Rattle.cg_blif_text.proofs.CanonicalText.{says_itself}
use Rattle.cg_netlist.specs.declared.parts.LogicFunction.{LogicFunction}
use Rattle.cg_netlist.specs.declared.parts.LogicFunction.TheVariants.{Cover, Cell}
use Rattle.cg_netlist.specs.Circuit.{Circuit, LogicCell}
use Rattle.cg_net.specs.Names.{NetName, net_name}
use Rattle.cg_netlist.specs.Wiring.{map_cell, map_gater, map_register, named}
use Rattle.cg_blif_text.specs.declared.statement.Statement.TheVariants.{Model, Inputs, Outputs, Clocks, End}
use Rattle.cg_blif_text.specs.Canonical.{blif, cell_lines, function_statement, gater_statement, register_statement, row_words}
use Rattle.cg_blif_text.specs.Canonical.{rows_of, statement_line}
use Rattle.cg_blif_out.specs.Writing.{cell_text, clock_text, function_rows, gater_text, header_text, register_text}
use Rattle.cg_text.proofs.Written.{text_of-map}

-- the parts up to the one at k, and that one
flat_map-take_next : {Part : Type 0} (f : Part → List ℕ) (parts : List Part) (k : ℕ) (part : Part) → slice_get parts k ≡ Some part → flat_map f (take (k + 1) parts) ≡ flat_map f (take k parts) ++ f part
flat_map-take_next f parts k part is =
    let below : k < length parts = slice_get_within parts k part is in
    let same : get_or parts k part ≡ part = get_or_from_slice_get parts k part part is in
    rw (take_more parts k part, flat_map-append, same) (ap (λ last. flat_map f (take k parts) ++ last) (append-nil (f part)))

pub slice_get-not_none : {X : Type 0} (xs : List X) (k : ℕ) → k < length xs → slice_get xs k ≡ None → ⊥
slice_get-not_none [] k below none = omega arith
slice_get-not_none (x ∷ xs) zero below none = cc
slice_get-not_none (x ∷ xs) (suc k) below none = slice_get-not_none xs k (omega arith) none

pub parts_next : {Part : Type 0} (f : Part → List ℕ) (parts : List Part) (k id : ℕ) (start out new : List ℕ) → k < length parts → id ≡ k → out ≡ start ++ flat_map f (take k parts) → ((part : Part) → slice_get parts id ≡ Some part → new ≡ out ++ f part) → new ≡ start ++ flat_map f (take (k + 1) parts)
parts_next {Part = Part} f parts k id start out new below same is adds = next (slice_get parts k) refl
  where
    next : (o : Option Part) → slice_get parts k ≡ o → new ≡ start ++ flat_map f (take (k + 1) parts)
    next None none = absurd (slice_get-not_none parts k below none)
    next (Some part) at =
        adds part (ap (slice_get parts) same ∙ at) ∙ (ap (λ front. front ++ f part) is ∙ (append_assoc start (flat_map f (take k parts)) (f part) ∙ ap (λ later. start ++ later) (sym (flat_map-take_next f parts k part at))))

text_both : (xs ys : List (List (List ℕ))) → text_of (xs ++ ys) ≡ text_of xs ++ text_of ys
text_both xs ys = flat_map-append line_text xs ys

text_each : {X : Type 0} (lines : X → List (List (List ℕ))) (xs : List X) → text_of (flat_map lines xs) ≡ flat_map (λ x. text_of (lines x)) xs
text_each lines [] = refl
text_each lines (x ∷ xs) = text_both (lines x) (flat_map lines xs) ∙ ap (λ later. text_of (lines x) ++ later) (text_each lines xs)

under_map : {X Y A : Type 0} (f : Y → List A) (g : X → Y) (xs : List X) → flat_map f (map g xs) ≡ flat_map (λ x. f (g x)) xs
under_map f g [] = refl
under_map f g (x ∷ xs) = ap (λ later. f (g x) ++ later) (under_map f g xs)

text_clock : (names : List NetName) (clock : Option ℕ) → text_of (map (λ net. statement_line (Clocks (net ∷ []))) (option_to_list (option_map (net_name names) clock))) ≡ clock_text names clock
text_clock names None = refl
text_clock names (Some net) = append-nil _

pub whole_text : (c : Circuit) → blif c ≡ header_text c ++ (flat_map (cell_text c.names) c.cells ++ (flat_map (gater_text c.names) c.gaters ++ (flat_map (register_text c.names) c.registers ++ codes ".end\n")))
whole_text c =
    let n = net_name c.names in
    let w = named c in
    let k : List (List (List ℕ)) = map (λ net. statement_line (Clocks (net ∷ []))) (option_to_list w.clock) in
    let l : List (List (List ℕ)) = flat_map cell_lines w.cells in
    let g : List (List (List ℕ)) = map (λ gater. statement_line (gater_statement gater)) w.gaters in
    let r : List (List (List ℕ)) = map (λ register. statement_line (register_statement register)) w.registers in
    let e : List (List (List ℕ)) = statement_line End ∷ [] in
    let cells : text_of l ≡ flat_map (cell_text c.names) c.cells = text_each cell_lines w.cells ∙ under_map (λ cell. text_of (cell_lines cell)) (map_cell n) c.cells in
    let gaters : text_of g ≡ flat_map (gater_text c.names) c.gaters = text_of-map (λ gater. statement_line (gater_statement gater)) w.gaters ∙ under_map (λ gater. line_text (statement_line (gater_statement gater))) (map_gater n) c.gaters in
    let registers : text_of r ≡ flat_map (register_text c.names) c.registers = text_of-map (λ register. statement_line (register_statement register)) w.registers ∙ under_map (λ register. line_text (statement_line (register_statement register))) (map_register n) c.registers in
    let rest : text_of (k ++ l ++ g ++ r ++ e) ≡ (((text_of k ++ text_of l) ++ text_of g) ++ text_of r) ++ text_of e =
    text_both (k ++ l ++ g ++ r) e ∙ ap (λ t. t ++ text_of e) (text_both (k ++ l ++ g) r ∙ ap (λ t. t ++ text_of r) (text_both (k ++ l) g ∙ ap (λ t. t ++ text_of g) (text_both k l))) in
    let pieces : (((text_of k ++ text_of l) ++ text_of g) ++ text_of r) ++ text_of e ≡ clock_text c.names c.clock ++ (flat_map (cell_text c.names) c.cells ++ (flat_map (gater_text c.names) c.gaters ++ (flat_map (register_text c.names) c.registers ++ codes ".end\n"))) =
    same (text_of k) (clock_text c.names c.clock) (text_of l) (flat_map (cell_text c.names) c.cells) (text_of g) (flat_map (gater_text c.names) c.gaters) (text_of r) (flat_map (register_text c.names) c.registers) (codes ".end\n") (text_clock c.names c.clock) cells gaters registers in
    header_first (line_text (statement_line (Model c.model))) (line_text (statement_line (Inputs (map n c.inputs)))) (line_text (statement_line (Outputs (map n c.outputs)))) (clock_text c.names c.clock)
    (flat_map (cell_text c.names) c.cells ++ (flat_map (gater_text c.names) c.gaters ++ (flat_map (register_text c.names) c.registers ++ codes ".end\n"))) (text_of (k ++ l ++ g ++ r ++ e)) (rest ∙ pieces)
  where
    same : (a a' b b' d d' f f' x : List ℕ) → a ≡ a' → b ≡ b' → d ≡ d' → f ≡ f' → (((a ++ b) ++ d) ++ f) ++ x ≡ a' ++ (b' ++ (d' ++ (f' ++ x)))
    same a a' b b' d d' f f' x p q r s =
        let assoc : (((a' ++ b') ++ d') ++ f') ++ x ≡ a' ++ (b' ++ (d' ++ (f' ++ x))) = simp append_assoc in
        cc

    header_first : (a b d k x t : List ℕ) → t ≡ k ++ x → a ++ (b ++ (d ++ t)) ≡ (a ++ (b ++ (d ++ k))) ++ x
    header_first a b d k x t is =
        let assoc : (a ++ (b ++ (d ++ k))) ++ x ≡ a ++ (b ++ (d ++ (k ++ x))) = simp append_assoc in
        cc

-- the lines of a logic cell are its line and its rows
rows_text_of : (f : LogicFunction) → function_rows f ≡ text_of (rows_of f)
rows_text_of (Cover cover) = sym (under_map line_text (row_words cover.on) cover.rows)
rows_text_of (Cell cell) = refl

pub cell_pushed : (names : List NetName) (cells : List (LogicCell ℕ)) (id : ℕ) (seen : LogicCell ℕ) (old mid new : List ℕ) → slice_get cells id ≡ Some seen
    → mid ≡ old ++ line_text (statement_line (function_statement (map (net_name names) seen.inputs) (net_name names seen.output) seen.function)) → new ≡ mid ++ function_rows seen.function
    → (cell : LogicCell ℕ) → slice_get cells id ≡ Some cell → new ≡ old ++ cell_text names cell
cell_pushed names cells id seen old mid new at first rows cell is =
    let same : seen ≡ cell = same_Some seen cell (sym at ∙ is) in
    let line : List ℕ = line_text (statement_line (function_statement (map (net_name names) seen.inputs) (net_name names seen.output) seen.function)) in
    rows ∙ (ap (λ m. m ++ function_rows seen.function) first ∙ (append_assoc old line (function_rows seen.function)
    ∙ (ap (λ rs. old ++ (line ++ rs)) (rows_text_of seen.function) ∙ ap (λ k. old ++ cell_text names k) same)))

pub on_ok : {T E : Type 0} (A B : Type 0) (r : Result T E) → (A → B) → OnOk r A → OnOk r B
on_ok A B (Ok x) f a = f a
on_ok A B (Err e) f a = tt

pub if_ok : {T E : Type 0} (P Q : T → Type 0) (r : Result T E) → ((x : T) → P x → Q x) → IfOk r P → IfOk r Q
if_ok P Q (Ok x) f a = f x a
if_ok P Q (Err e) f a = tt

-- a text that is canonical says the netlist, where it is writable
pub text_says : {A : Type 0} (c : Circuit) (r : Result (Vec ℕ A) AllocError) → IfOk r (λ text. text.items ≡ blif c) → IfOk r (λ text. (library : List CellData) → IsWritable library c → BlifText text.items library None c)
text_says c (Ok text) is = λ library writable. subst (λ (bytes : List ℕ). BlifText bytes library None c) (sym is) (says_itself library c writable)
text_says c (Err e) is = tt

pub ruleset whole = (whole_text, append_assoc)
