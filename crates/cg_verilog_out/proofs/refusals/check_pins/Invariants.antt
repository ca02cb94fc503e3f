use Rattle.std.proofs.Common.{◌≡◌, ◌∷◌, [], not, None, take}
use Rattle.std.specs.List.{find, flat_map}
use Rattle.cg_verilog_text.specs.HasText.{is_ascii}
use Rattle.cg_verilog_out.proofs.refusals.check_pins.Given as goal

abbrev pub invariant-pins : goal.invariant-pins
invariant-pins l = find (λ name. not (is_ascii name)) (flat_map (λ pin. pin.pin ∷ []) (take l.pin-index l.pins)) ≡ None
