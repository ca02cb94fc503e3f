-- A writable netlist is said by parts that lines can say.
use Rattle.std.specs.Prelude.{◌≡◌, ◌≢◌, ℕ, Bool, true, false, ◌&&◌, if◌then◌else◌, List, [], ◌∷◌, ◌++◌, map, length, Option, None}
use Rattle.std.specs.Prelude.{Some, nat_eq}
use Rattle.std.proofs.Common.{refl, ap, ◌∙◌, sym, subst, inl, inr}
use Rattle.std.specs.List.{AllByRecursion}
use Rattle.std.specs.Option.{option_map, option_to_list}
use Rattle.std.specs.Str.{bytes_eq}
use Rattle.std.proofs.lemmas.Bool.{and_parts, both_ways, or_cases, eqb-true}
use Rattle.std.proofs.lemmas.List.{length-map}
use Rattle.cg_cell.specs.Cell.{CellData}
use Rattle.cg_netlist.specs.declared.parts.RegisterKind.{RegisterKind}
use Rattle.cg_netlist.specs.declared.parts.RegisterKind.TheVariants.{Plain, Flop}
use Rattle.cg_net.proofs.Members.{is_in_cases}
use Rattle.cg_netlist.proofs.Each.{by_recursion, each_together}
use Rattle.cg_netlist_parts.proofs.KnownNames.{itself, same_word}
use Rattle.cg_netlist_parts.proofs.SaidByItsParts.{p1, p2, p3, p4, p5, p6, says_own}
use Rattle.cg_netlist_parts.proofs.TakenFromNetlist.{taken_own}
use Rattle.cg_netlist.specs.Circuit.{Circuit, GatingCell, LogicCell, RegisterCell, clock_nets, gater_outputs}
use Rattle.cg_net.specs.NetSets.{is_in}
use Rattle.cg_netlist_parts.specs.Part.{Clock, GaterPart, Input, Logic, Output, Part}
use Rattle.cg_netlist_parts.specs.Says.{AreTaken, Says, register_part}
use Rattle.cg_net.specs.Names.{NetName, net_name}
use Rattle.cg_netlist.specs.Wiring.{map_cell, map_gater, map_register, named}
use Rattle.cg_netlist_parts.specs.Writable.{FunctionIsOf, IsLine, IsOf, IsWritable, KindIsOf, NIL, is_on_nil, is_plain, line_parts}

plain_is : (kind : RegisterKind) → is_plain kind ≡ true → kind ≡ Plain
plain_is Plain is = refl
plain_is (Flop cell) is = absurd (both_ways false refl is)

module _ (library : List CellData) (c : Circuit) (is : IsWritable library c) where
  abbrev name : ℕ → NetName
  name = net_name c.names

  in_option : (o : Option ℕ) (x : ℕ) → is_in (option_to_list o) x ≡ true → o ≡ Some x
  in_option None x i = absurd (both_ways false refl i)
  in_option (Some y) x i = elim (or_cases (nat_eq x y) false i) [ inl same ↦ ap (λ n. Some n) (sym (eqb-true x y same)) | inr none ↦ absurd (both_ways false refl none) ]

  -- a plain register on a net called `NIL` is on the clock
  abbrev IsLeft : RegisterCell NetName NetName → Type 0
  IsLeft r = is_on_nil r ≡ true → (named c).clock ≡ Some r.clock

  left_at : (r : RegisterCell ℕ ℕ) → is_in (clock_nets c) r.clock ≡ true → (r.kind ≡ Plain → is_in (gater_outputs c) r.clock ≡ true → name r.clock ≢ NIL) → IsLeft (map_register name r)
  left_at r carried apart on_nil =
      let both = and_parts (is_plain r.kind) (bytes_eq (name r.clock) NIL) on_nil in
      elim (is_in_cases (option_to_list c.clock) (gater_outputs c) r.clock carried) [
        | inl clock ↦ ap (option_map name) (in_option c.clock r.clock clock)
        | inr gate ↦ absurd (apart (plain_is r.kind both.0) gate (same_word (name r.clock) NIL both.1))
      ]

  left_each : (rs : List (RegisterCell ℕ ℕ)) → AllByRecursion (λ (r : RegisterCell ℕ ℕ). is_in (clock_nets c) r.clock ≡ true) rs
      → AllByRecursion (λ (r : RegisterCell ℕ ℕ). r.kind ≡ Plain → is_in (gater_outputs c) r.clock ≡ true → name r.clock ≢ NIL) rs → AllByRecursion IsLeft (map (map_register name) rs)
  left_each [] carried apart = tt
  left_each (r ∷ rs) carried apart = (left_at r carried.0 apart.0, left_each rs carried.1 apart.1)

  left : AllByRecursion IsLeft (named c).registers
  left = left_each c.registers (by_recursion (λ (r : RegisterCell ℕ ℕ). is_in (clock_nets c) r.clock ≡ true) c.registers is.placeable.netlist.well_formed.clocked)
      (by_recursion (λ (r : RegisterCell ℕ ℕ). r.kind ≡ Plain → is_in (gater_outputs c) r.clock ≡ true → name r.clock ≢ NIL) c.registers is.clocks)

  pub line_parts_taken : AreTaken c.model (line_parts c)
  line_parts_taken = taken_own c is_on_nil is.placeable.netlist is.placeable.outputs_once left

  pub line_parts_say : Says c.model (line_parts c) c
  line_parts_say = says_own c is_on_nil is.placeable.netlist is.placeable.outputs_once left

  abbrev Line : Part → Type 0
  Line p = IsLine library p

  wrapped : {X : Type 0} (wrap : X → Part) (xs : List X) → AllByRecursion (λ x. Line (wrap x)) xs → AllByRecursion Line (map wrap xs)
  wrapped wrap [] all = tt
  wrapped wrap (x ∷ xs) all = (all.0, wrapped wrap xs all.1)

  nothing_asked : {X : Type 0} (wrap : X → Part) → ((x : X) → Line (wrap x)) → (xs : List X) → AllByRecursion Line (map wrap xs)
  nothing_asked wrap one [] = tt
  nothing_asked wrap one (x ∷ xs) = (one x, nothing_asked wrap one xs)

  cell_lines : (ks : List (LogicCell ℕ)) → AllByRecursion (λ (k : LogicCell ℕ). FunctionIsOf library (length k.inputs) k.function) ks → AllByRecursion (λ (k : LogicCell NetName). Line (Logic k)) (map (map_cell name) ks)
  cell_lines [] all = tt
  cell_lines (k ∷ ks) all = (subst (λ n. FunctionIsOf library n k.function) (sym (length-map k.inputs name)) all.0, cell_lines ks all.1)

  gater_lines : (gs : List (GatingCell ℕ)) → AllByRecursion (λ (g : GatingCell ℕ). IsOf library g.cell) gs → AllByRecursion (λ (g : GatingCell NetName). Line (GaterPart g)) (map (map_gater name) gs)
  gater_lines [] all = tt
  gater_lines (g ∷ gs) all = (all.0, gater_lines gs all.1)

  -- a register that names its clock does not name `NIL`, if it is plain
  register_line : (r : RegisterCell NetName NetName) → KindIsOf library r.init r.kind → Line (register_part is_on_nil r)
  register_line r kind = (kind, λ plain. go (is_on_nil r) refl (ap is_plain plain))
    where
      go : (b : Bool) → is_on_nil r ≡ b → is_plain r.kind ≡ true → (if b then None else Some r.clock) ≢ Some NIL
      go true e plain same = cc
      go false e plain same =
          let clock : r.clock ≡ NIL = cc in
          both_ways (is_on_nil r) e (ap (λ b. b && bytes_eq r.clock NIL) plain ∙ (ap (λ n. bytes_eq n NIL) clock ∙ itself NIL))

  register_lines : (rs : List (RegisterCell ℕ ℕ)) → AllByRecursion (λ (r : RegisterCell ℕ ℕ). KindIsOf library r.init r.kind) rs → AllByRecursion (λ (r : RegisterCell NetName NetName). Line (register_part is_on_nil r)) (map (map_register name) rs)
  register_lines [] all = tt
  register_lines (r ∷ rs) all = (register_line (map_register name r) all.0, register_lines rs all.1)

  pub line_parts_are : AllByRecursion (IsLine library) (line_parts c)
  line_parts_are =
      each_together Line (p1 is_on_nil (named c) ++ p2 is_on_nil (named c) ++ p3 is_on_nil (named c) ++ p4 is_on_nil (named c) ++ p5 is_on_nil (named c)) (p6 is_on_nil (named c))
      (each_together Line (p1 is_on_nil (named c) ++ p2 is_on_nil (named c) ++ p3 is_on_nil (named c) ++ p4 is_on_nil (named c)) (p5 is_on_nil (named c))
      (each_together Line (p1 is_on_nil (named c) ++ p2 is_on_nil (named c) ++ p3 is_on_nil (named c)) (p4 is_on_nil (named c))
      (each_together Line (p1 is_on_nil (named c) ++ p2 is_on_nil (named c)) (p3 is_on_nil (named c))
      (each_together Line (p1 is_on_nil (named c)) (p2 is_on_nil (named c)) (nothing_asked (λ net. Input net) (λ x. tt) (named c).inputs) (nothing_asked (λ net. Output net) (λ x. tt) (named c).outputs))
      (nothing_asked (λ net. Clock net) (λ x. tt) (option_to_list (named c).clock)))
      (wrapped (λ k. Logic k) (named c).cells (cell_lines c.cells (by_recursion (λ (k : LogicCell ℕ). FunctionIsOf library (length k.inputs) k.function) c.cells is.placeable.functions))))
      (wrapped (λ g. GaterPart g) (named c).gaters (gater_lines c.gaters (by_recursion (λ (g : GatingCell ℕ). IsOf library g.cell) c.gaters is.placeable.gating))))
      (wrapped (register_part is_on_nil) (named c).registers (register_lines c.registers (by_recursion (λ (r : RegisterCell ℕ ℕ). KindIsOf library r.init r.kind) c.registers is.placeable.kinds)))
