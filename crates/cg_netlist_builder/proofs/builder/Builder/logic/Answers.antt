use Rattle.std.proofs.Common.{◌∙◌, ℕ, Bor, List, map, length, sym}
use Rattle.std.proofs.lemmas.List.{length-map}
use Rattle.cg_netlist_builder.proofs.Hearing.{few_inputs, words_push}
use Rattle.cg_netlist_builder.proofs.builder.Builder.logic.Goals as goal

pub take-requires : goal.take-requires
take-requires c =
    let inputs = map (λ (name : Bor (List ℕ)). name.now) c.args.inputs.now in
    let count = c.requires.count ∙ sym (length-map c.args.inputs.now (λ (name : Bor (List ℕ)). name.now)) in
    record {
      named = words_push inputs c.args.output.now c.requires.inputs c.requires.output;
      fits = record { over = (c.pins-pins.ensures.cell, c.requires.kind, count); few = few_inputs c.args.cell.now (length inputs) c.pins-pins.ensures.cell count };
    }
