-- The clock may be declared behind all other parts, where it is an input.
use Rattle.std.proofs.Common.{[], ◌≡◌, Bool, true, List, ◌∷◌, ◌++◌, map}
use Rattle.std.proofs.Common.{refl, ap, sym, ◌∙◌, if◌then◌else◌, append_assoc, Option, None, Some}
use Rattle.std.specs.List.{AllByRecursion, filter_map, flat_map}
use Rattle.std.specs.Option.{option_to_list}
use Rattle.std.proofs.lemmas.List.{append-nil}
use Rattle.std.proofs.lemmas.List.Concat.{flat_map-append}
use Rattle.std.proofs.lemmas.List.Elements.{filter_map-append}
use Rattle.cg_net.specs.Names.{NetName, is_known, with_names}
use Rattle.cg_netlist.specs.Circuit.{RegisterCell}
use Rattle.cg_netlist.specs.Wiring.{Wiring}
use Rattle.cg_netlist_parts.specs.Part.{Part, Input, Clock, Logic, GaterPart, each_once, mentioned, nets, input_in, output_in, clock_in}
use Rattle.cg_netlist_parts.specs.Part.{cell_in, gater_in, register_in}
use Rattle.cg_netlist_parts.specs.Said.{Said, said}
use Rattle.cg_netlist_parts.specs.Says.{parts_from, register_part}
use Rattle.cg_netlist_parts.proofs.ByKind.{once_has}
use Rattle.cg_netlist_parts.proofs.KnownNames.{known_left}
use Rattle.cg_netlist_parts.proofs.SaidByItsParts.{p1, p2, p3, p4, p5, p6, picked_none}
use Rattle.cg_netlist_parts.proofs.SaidMore.{once_words}

same_said : (s t : Said) → s.nets ≡ t.nets → s.inputs ≡ t.inputs → s.outputs ≡ t.outputs → s.clocks ≡ t.clocks → s.cells ≡ t.cells → s.gaters ≡ t.gaters → s.registers ≡ t.registers → s ≡ t
same_said s t n i o k c g r =
    ap (λ x. record s { nets = x }) n
    ∙ (ap (λ x. record s { nets = t.nets; inputs = x }) i
    ∙ (ap (λ x. record s { nets = t.nets; inputs = t.inputs; outputs = x }) o
    ∙ (ap (λ x. record s { nets = t.nets; inputs = t.inputs; outputs = t.outputs; clocks = x }) k
    ∙ (ap (λ x. record s { nets = t.nets; inputs = t.inputs; outputs = t.outputs; clocks = t.clocks; cells = x }) c
    ∙ (ap (λ x. record s { nets = t.nets; inputs = t.inputs; outputs = t.outputs; clocks = t.clocks; cells = t.cells; gaters = x }) g
    ∙ ap (λ x. record t { registers = x }) r)))))

-- what is picked, where nothing is of what changes places
swapped : {Y : Type 0} (pick : Part → Option Y) (front middle back : List Part) → filter_map pick middle ≡ [] → filter_map pick (front ++ (back ++ middle)) ≡ filter_map pick (front ++ (middle ++ back))
swapped pick front middle back none =
    filter_map-append pick front (back ++ middle)
    ∙ (ap (λ l. filter_map pick front ++ l) (filter_map-append pick back middle ∙ (ap (λ l. filter_map pick back ++ l) none ∙ append-nil (filter_map pick back)))
    ∙ (ap (λ l. filter_map pick front ++ (l ++ filter_map pick back)) (sym none)
    ∙ (ap (λ l. filter_map pick front ++ l) (sym (filter_map-append pick middle back)) ∙ sym (filter_map-append pick front (middle ++ back)))))

inputs_mentioned : (ns : List NetName) → flat_map mentioned (map (λ net. Input net) ns) ≡ ns
inputs_mentioned [] = refl
inputs_mentioned (n ∷ ns) = ap (λ l. n ∷ l) (inputs_mentioned ns)

known_already : (names : List NetName) (clock : Option NetName) → AllByRecursion (λ net. is_known names net ≡ true) (option_to_list clock) → with_names names (flat_map mentioned (map (λ net. Clock net) (option_to_list clock))) ≡ names
known_already names None known = refl
known_already names (Some k) known = ap (λ b. if b then names else names ++ k ∷ []) known.0

module _ (leaves : RegisterCell NetName NetName → Bool) (w : Wiring NetName) (known : AllByRecursion (λ net. is_known w.inputs net ≡ true) (option_to_list w.clock)) where
  abbrev front : List Part
  front = p1 leaves w ++ p2 leaves w

  abbrev back : List Part
  back = p4 leaves w ++ (p5 leaves w ++ p6 leaves w)

  abbrev clk : List Part
  clk = p3 leaves w

  -- the parts with the clock last
  abbrev pub clock_last : List Part
  clock_last = front ++ (back ++ clk)

  own_parts : parts_from leaves w ≡ front ++ (clk ++ back)
  own_parts = simp append_assoc

  known_here : (clock : Option NetName) (more : List Part) → AllByRecursion (λ net. is_known w.inputs net ≡ true) (option_to_list clock) → AllByRecursion (λ net. is_known (nets (front ++ more)) net ≡ true) (option_to_list clock)
  known_here None more all = tt
  known_here (Some k) more all = (once_has (flat_map mentioned (front ++ more)) k here, tt)
    where
      here : is_known (flat_map mentioned (front ++ more)) k ≡ true
      here =
          let e : flat_map mentioned (front ++ more) ≡ w.inputs ++ (flat_map mentioned (p2 leaves w) ++ flat_map mentioned more) =
          flat_map-append mentioned front more ∙ (ap (λ l. l ++ flat_map mentioned more) (flat_map-append mentioned (p1 leaves w) (p2 leaves w) ∙ ap (λ l. l ++ flat_map mentioned (p2 leaves w)) (inputs_mentioned w.inputs))
          ∙ append_assoc w.inputs (flat_map mentioned (p2 leaves w)) (flat_map mentioned more)) in
          ap (λ l. is_known l k) e ∙ known_left w.inputs (flat_map mentioned (p2 leaves w) ++ flat_map mentioned more) k all.0

  -- nets of the parts without the clock
  without : (more : List Part) → nets ((front ++ more) ++ clk) ≡ nets (front ++ more)
  without more = ap each_once (flat_map-append mentioned (front ++ more) clk) ∙ (once_words (flat_map mentioned (front ++ more)) (flat_map mentioned clk) ∙ known_already (nets (front ++ more)) w.clock (known_here w.clock more known))

  nets_last : nets clock_last ≡ nets (front ++ (clk ++ back))
  nets_last =
      ap nets (sym (append_assoc front back clk))
      ∙ (without back
      ∙ (ap each_once (flat_map-append mentioned front back)
      ∙ (once_words (flat_map mentioned front) (flat_map mentioned back)
      ∙ (ap (λ ns. with_names ns (flat_map mentioned back)) (ap nets (sym (append-nil front)) ∙ (sym (without []) ∙ ap (λ l. nets (l ++ clk)) (append-nil front)))
      ∙ (sym (once_words (flat_map mentioned (front ++ clk)) (flat_map mentioned back))
      ∙ (ap each_once (sym (flat_map-append mentioned (front ++ clk) back)) ∙ ap nets (append_assoc front clk back)))))))

  no_clocks : filter_map clock_in back ≡ []
  no_clocks =
      filter_map-append clock_in (p4 leaves w) (p5 leaves w ++ p6 leaves w)
      ∙ (ap (λ l. l ++ filter_map clock_in (p5 leaves w ++ p6 leaves w)) (picked_none clock_in (λ cell. Logic cell) (λ v. refl) w.cells)
      ∙ (filter_map-append clock_in (p5 leaves w) (p6 leaves w)
      ∙ (ap (λ l. l ++ filter_map clock_in (p6 leaves w)) (picked_none clock_in (λ gater. GaterPart gater) (λ v. refl) w.gaters)
      ∙ picked_none clock_in (register_part leaves) (λ v. refl) w.registers)))

  -- they say the same
  pub said_last : said clock_last ≡ said (parts_from leaves w)
  said_last =
      same_said (said clock_last) (said (front ++ (clk ++ back))) nets_last
      (ap each_once (swapped input_in front clk back (picked_none input_in (λ net. Clock net) (λ v. refl) (option_to_list w.clock))))
      (ap each_once (swapped output_in front clk back (picked_none output_in (λ net. Clock net) (λ v. refl) (option_to_list w.clock))))
      (ap each_once (sym (swapped clock_in front back clk no_clocks)))
      (swapped cell_in front clk back (picked_none cell_in (λ net. Clock net) (λ v. refl) (option_to_list w.clock)))
      (swapped gater_in front clk back (picked_none gater_in (λ net. Clock net) (λ v. refl) (option_to_list w.clock)))
      (swapped register_in front clk back (picked_none register_in (λ net. Clock net) (λ v. refl) (option_to_list w.clock)))
      ∙ ap said (sym own_parts)
