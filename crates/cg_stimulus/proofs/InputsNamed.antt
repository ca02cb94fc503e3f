-- The data inputs of a netlist: each is a net with a name, and no two have one name.
use Rattle.std.proofs.Common.{map, ℕ, ◌<◌, List, [], ◌∷◌, ◌++◌, length, nat_eq, IsTrue, refl, sym, subst}
use Rattle.std.specs.List.{All, AllByRecursion, IsDistinct}
use Rattle.std.specs.Option.{option_to_list}
use Rattle.std.proofs.lemmas.List.Elements.{recursion_from_All}
use Rattle.std.proofs.lemmas.Option.{unwrap_or-slice_get}
use Rattle.cg_cell.specs.Name.{is_name}
use Rattle.cg_net.specs.Names.{net_name}
use Rattle.cg_netlist.specs.Circuit.{Circuit, data_inputs, gater_outputs, register_nets}
use Rattle.cg_netlist.specs.Netlist.{IsNetlist}
use Rattle.cg_netlist.proofs.Given.{data_given, given_within, distinct_given}
use Rattle.cg_net.proofs.Members.{distinct_left}
use Rattle.cg_stimulus.specs.Inputs.{input_names}

pub inputs_within : (c : Circuit) → IsNetlist c → All (λ net. net < length c.names) (data_inputs c)
inputs_within c good = given_within c good.well_formed.driven (length c.names) (data_inputs c) refl (data_given c)

pub inputs_once : (c : Circuit) → IsNetlist c → IsDistinct nat_eq (data_inputs c)
inputs_once c good =
    distinct_left (data_inputs c) (option_to_list c.clock)
    (distinct_left (data_inputs c ++ option_to_list c.clock) (gater_outputs c)
    (distinct_left (data_inputs c ++ option_to_list c.clock ++ gater_outputs c) (register_nets c) (distinct_given c good.well_formed.driven)))

named_at : (names : List (List ℕ)) (nets : List ℕ) → All (λ name. IsTrue (is_name name)) names → AllByRecursion (λ net. net < length names) nets
    → AllByRecursion (λ name. IsTrue (is_name name)) (map (net_name names) nets)
named_at names [] all within = tt
named_at names (net ∷ nets) all within =
    (subst (λ name. IsTrue (is_name name)) (sym (unwrap_or-slice_get names net [])) (all net [] within.0), named_at names nets all within.1)

pub inputs_named : (c : Circuit) → IsNetlist c → AllByRecursion (λ name. IsTrue (is_name name)) (input_names c)
inputs_named c good =
    named_at c.names (data_inputs c) good.well_formed.names (recursion_from_All (λ net. net < length c.names) (data_inputs c) (inputs_within c good))
