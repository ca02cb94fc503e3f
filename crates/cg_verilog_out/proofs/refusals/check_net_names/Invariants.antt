use Rattle.std.proofs.Common.{◌≡◌, ◌∷◌, [], not, None, take}
use Rattle.std.specs.List.{find, flat_map}
use Rattle.cg_verilog_text.specs.HasText.{is_ascii}
use Rattle.cg_verilog_out.proofs.refusals.check_net_names.Given as goal

abbrev pub invariant-nets : goal.invariant-nets
invariant-nets l = find (λ name. not (is_ascii name)) (flat_map (λ name. name ∷ []) (take l.number l.netlist.names)) ≡ None
