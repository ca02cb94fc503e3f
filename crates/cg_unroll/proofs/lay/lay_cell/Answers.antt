use Rattle.std.proofs.Common.{◌≡◌, ◌<◌, [], ◌∷◌, map, length, slice_index_or, slice_set, sym, ◌∙◌, ap, subst, arith}
use Rattle.std.specs.List.{All}
use Rattle.std.proofs.lemmas.List.{length-map}
use Rattle.cg_aig.specs.Aig.{aig_ops}
use Rattle.cg_cell.specs.Domain.{AreValid}
use Rattle.cg_cell.specs.Eval.{build_term}
use Rattle.cg_netlist.proofs.Values.{element_at}
use Rattle.cg_claim.specs.Build.{function_term}
use Rattle.cg_unroll.specs.Building.{Built, LaysCells}
use Rattle.cg_unroll.proofs.Building.{if_ok, valid_read}
use Rattle.cg_unroll.proofs.Cells.{inputs_within, output_within}
use Rattle.cg_unroll.proofs.Laying.{lays_cell}
use Rattle.cg_unroll.proofs.lay.lay_cell.Goals as goal

pub read_literals-requires : goal.read_literals-requires
read_literals-requires c =
    let p = element_at c.args.machine.now.circuit.cells c.args.id c.requires.cell in
    subst (All (λ net. net < length c.args.literals.now)) (sym (c.inputs_of.ensures p.0 p.1))
    (inputs_within c.args.machine.now c.netlist-netlist.ensures.machine (length c.args.literals.now) c.args.id p.0 c.requires.literals p.1)

pub build_cell-requires-clause-long : goal.build_cell-requires-clause-long
build_cell-requires-clause-long c = λ cell stands.
    ap length (c.deref.ensures.value ∙ c.in_ok-read_literals.ensures.read)
    ∙ (length-map c.inputs_of.result.now (λ net. slice_index_or c.args.literals.now net 0) ∙ ap length (c.inputs_of.ensures cell stands))

pub build_cell-requires-clause-valid : goal.build_cell-requires-clause-valid
build_cell-requires-clause-valid c =
    let p = element_at c.args.machine.now.circuit.cells c.args.id c.requires.cell in
    subst (AreValid aig_ops c.args.aig.now) (sym (c.deref.ensures.value ∙ c.in_ok-read_literals.ensures.read))
    (valid_read c.args.aig.now c.args.literals.now c.inputs_of.result.now c.requires.valid
    (subst (All (λ net. net < length c.args.literals.now)) (sym (c.inputs_of.ensures p.0 p.1))
    (inputs_within c.args.machine.now c.netlist-netlist.ensures.machine (length c.args.literals.now) c.args.id p.0 c.requires.literals p.1)))

pub put-requires : goal.put-requires
put-requires c =
    let p = element_at c.args.machine.now.circuit.cells c.args.id c.requires.cell in
    omega (arith, output_within c.args.machine.now c.netlist-netlist.ensures.machine c.args.id p.0 p.1, c.output_of-output.ensures p.0 p.1, c.number.ensures.number, c.requires.literals)

pub returns-clause-laid : goal.returns-clause-laid
returns-clause-laid c =
    if_ok _ _ c.put.result (λ done put cell stands.
    let inputs : c.deref.result.now ≡ map (λ net. slice_index_or c.args.literals.now net 0) cell.inputs =
    c.deref.ensures.value ∙ (c.in_ok-read_literals.ensures.read ∙ ap (map (λ net. slice_index_or c.args.literals.now net 0)) (c.inputs_of.ensures cell stands)) in
    let below : cell.output < length c.args.literals.now = omega (arith, output_within c.args.machine.now c.netlist-netlist.ensures.machine c.args.id cell stands, c.requires.literals) in
    let place : c.number.result ≡ cell.output = c.number.ensures.number ∙ c.output_of-output.ensures cell stands in
    subst (LaysCells (cell ∷ []) c.args.aig.now c.build_cell.new.aig c.args.literals.now) (sym (put ∙ ap (λ n. slice_set c.args.literals.now n c.in_ok-answer.answer) place))
    (lays_cell cell c.args.aig.now c.build_cell.new.aig c.args.literals.now c.in_ok-answer.answer below c.requires.valid
    (subst (λ ins. Built c.args.aig.now c.build_cell.new.aig c.in_ok-answer.answer (build_term aig_ops ins (function_term cell.function) c.args.aig.now)) inputs (c.in_ok-answer.ensures.built cell stands)))) c.put.ensures.put
