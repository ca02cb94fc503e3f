use Rattle.std.proofs.Common.{[], ◌∷◌, map, inl}
use Rattle.std.proofs.lemmas.Result.{MatchResult-weaker, err_from_is_err_and}
use Rattle.cg_netlist_builder.proofs.AddedParts.{fault_first, fault_then, puts_cell}
use Rattle.cg_netlist_builder.proofs.Mentions.{with_names_grows}
use Rattle.cg_netlist_builder.proofs.adding.add_logic.Goals as goal

pub returns-in_err-inputs : goal.returns-in_err-inputs
returns-in_err-inputs c =
    let p = err_from_is_err_and c.from_residual.result c.from_residual.ensures.1 in
    rw (p.1, p.2) (fault_first c.args.names.now (map (λ name. name.now) c.args.inputs.now) (c.args.output.now ∷ []) c.in_err-inputs.field-0.0 c.in_err-inputs.ensures.mentions (λ names. with_names_grows names (c.args.output.now ∷ [])))

pub returns-in_err-output : goal.returns-in_err-output
returns-in_err-output c =
    let p = err_from_is_err_and c.from_residual-in_err-output.result c.from_residual-in_err-output.ensures.1 in
    rw (p.1, p.2) (fault_then c.args.names.now c.mention_each.new.names (map (λ name. name.now) c.args.inputs.now) (c.args.output.now ∷ []) c.in_err-output.field-0.0 c.in_ok-inputs.ensures.mentions.names c.in_err-output.ensures.mentions)

pub returns : goal.returns
returns c =
    MatchResult-weaker c.put.result c.put.ensures
    (λ x e. puts_cell c.args.names.now c.mention_each.new.names c.mention.new.names (map (λ name. name.now) c.args.inputs.now) c.args.output.now c.args.function c.in_ok-inputs.inputs.items c.in_ok-output.output c.args.cells.now.items c.put.new.parts.items c.in_ok-inputs.ensures.mentions c.in_ok-output.ensures.mentions e)
    (λ f e. inl e)
