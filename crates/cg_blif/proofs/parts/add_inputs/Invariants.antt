use Rattle.std.proofs.Common.{◌≡◌, drop, map, None}
use Rattle.cg_netlist_parts.specs.Part.{Input}
use Rattle.cg_blif_text.specs.Telling.{with_parts}
use Rattle.cg_blif.proofs.parts.add_inputs.Given as goal

abbrev pub invariant-nets : goal.invariant-nets
invariant-nets l = record {
  taken : l.builder.refused ≡ None;
  model : l.builder.model ≡ l.fn.builder.model;
  left : with_parts (map (λ net. Input net) (drop l.net-index l.nets)) l.builder.said ≡ with_parts (map (λ net. Input net) l.nets) l.fn.builder.said;
}
