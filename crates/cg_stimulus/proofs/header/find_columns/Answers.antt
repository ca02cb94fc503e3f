use Rattle.std.proofs.Common.{◌∷◌, [], Err, inr, drop, length, sym, ap, ◌∙◌, ◌+◌}
use Rattle.std.proofs.lemmas.List.{length-append}
use Rattle.cg_stimulus.specs.declared.fault.StimulusFault.TheVariants as faults
use Rattle.cg_stimulus.specs.Reading.{columns_of}
use Rattle.cg_stimulus.proofs.ReadingOn.{columns_go, columns_end, next_at}
use Rattle.cg_stimulus.proofs.header.find_columns.Goals as goal

pub returns-in-None-clause-columns : goal.returns-in-None-clause-columns
returns-in-None-clause-columns c =
    inr (columns_end c.args.names.now c.inputs.columns.items (drop c.inputs.place c.args.inputs.now) c.name-input.result.now (drop (c.inputs.place + 1) c.args.inputs.now)
    (columns_of c.args.names.now c.args.inputs.now) (next_at c.args.inputs.now c.inputs.place c.name-input.result.now c.name-input.ensures) (sym c.column_of.ensures ∙ c.in-None.is) c.inputs.invariant.read
    ∙ ap (λ name. Err (faults.MissingInput name)) (sym c.in_ok-new-in-None.ensures))

pub inputs-preserved : goal.inputs-preserved
inputs-preserved c = record {
  read =
      columns_go c.args.names.now c.inputs.columns.items c.push.new.self.items (drop c.inputs.place c.args.inputs.now) c.name-input.result.now (drop (c.inputs.place + 1) c.args.inputs.now)
      c.in-Some.column (columns_of c.args.names.now c.args.inputs.now) c.in_ok-push-in-Some.ensures.items (next_at c.args.inputs.now c.inputs.place c.name-input.result.now c.name-input.ensures)
      (sym c.column_of.ensures ∙ c.in-Some.is) c.inputs.invariant.read;
  wide = ap length c.in_ok-push-in-Some.ensures.items ∙ (length-append c.inputs.columns.items (c.in-Some.column ∷ []) ∙ ap (λ n. n + 1) c.inputs.invariant.wide);
}
