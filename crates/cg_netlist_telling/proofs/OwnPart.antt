-- A register on a clock, as a part.
use Rattle.std.proofs.Common.{◌≡◌, ℕ, List, [], ◌∷◌, unwrap_or, Option, Some, ap, sym, ◌∙◌}
use Rattle.std.specs.Option.{option_to_list}
use Rattle.cg_netlist.specs.Circuit.{RegisterCell}
use Rattle.cg_net.specs.Names.{NetName}
use Rattle.cg_netlist_telling.specs.NamedParts.{clocked_part, clocked_parts, with_clock}

-- a register on this clock
pub own_part : (names : List NetName) (gate : Option ℕ) (o : Option (RegisterCell ℕ ℕ)) (r : RegisterCell ℕ ℕ) (clock : ℕ) → o ≡ Some r → clock ≡ unwrap_or gate r.clock → clocked_parts names (with_clock gate (option_to_list o)) ≡ clocked_part names (record r { clock = clock }) ∷ []
own_part names gate o r clock is clock_is = ap (λ x. clocked_parts names (with_clock gate (option_to_list x))) is ∙ ap (λ k. clocked_part names (record r { clock = k }) ∷ []) (sym clock_is)
