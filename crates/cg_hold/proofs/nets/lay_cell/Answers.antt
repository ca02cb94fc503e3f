use Rattle.std.proofs.Common.{◌<◌, ℕ, List, [], ◌∷◌, length, slice_set, sym, ◌∙◌, ap, subst, arith}
use Rattle.std.specs.List.{All}
use Rattle.std.proofs.lemmas.List.{length-take}
use Rattle.cg_machine.proofs.TryLemmas.{fits_at}
use Rattle.cg_netlist.proofs.Values.{element_at}
use Rattle.cg_netlist.specs.Moment.{function_value, values_at}
use Rattle.cg_hold.proofs.Layings.{lays_one}
use Rattle.cg_hold.specs.inner.Laying.{Lays}
use Rattle.cg_word.specs.Words.{IsWord, lane}
use Rattle.cg_hold.proofs.nets.lay_cell.Goals as goal

pub gather-requires-clause-nets : goal.gather-requires-clause-nets
gather-requires-clause-nets c =
    let p = element_at c.args.machine.now.circuit.cells c.args.id c.requires.cell in
    subst (All (λ net. net < length c.args.words.now)) (sym (c.inputs_of-inputs.ensures p.0 p.1)) ((fits_at c.args.machine.now c.netlist-netlist.ensures.machine c.args.id p.0 p.1).inputs (length c.args.words.now) (sym c.requires.words))

pub gather-requires-clause-scratch : goal.gather-requires-clause-scratch
gather-requires-clause-scratch c =
    let p = element_at c.args.machine.now.circuit.cells c.args.id c.requires.cell in
    omega (arith, (fits_at c.args.machine.now c.netlist-netlist.ensures.machine c.args.id p.0 p.1).wide, ap length (c.inputs_of-inputs.ensures p.0 p.1), c.requires.scratch)

pub slice_bounds-output_word-end : goal.slice_bounds-output_word-end
slice_bounds-output_word-end c =
    let p = element_at c.args.machine.now.circuit.cells c.args.id c.requires.cell in
    omega (arith, (fits_at c.args.machine.now c.netlist-netlist.ensures.machine c.args.id p.0 p.1).wide, ap length (c.inputs_of-inputs.ensures p.0 p.1), c.requires.scratch, c.gather.auto.scratch)

pub slice_bounds-output_word-end-2 : goal.slice_bounds-output_word-end-2
slice_bounds-output_word-end-2 c =
    let p = element_at c.args.machine.now.circuit.cells c.args.id c.requires.cell in
    omega (arith, (fits_at c.args.machine.now c.netlist-netlist.ensures.machine c.args.id p.0 p.1).wide, ap length (c.inputs_of-inputs.ensures p.0 p.1), c.requires.scratch, c.gather.auto.scratch, length-take (length c.inputs_of-inputs.result.now) c.gather.new.scratch)

pub output_word-word-requires-clause-long : goal.output_word-word-requires-clause-long
output_word-word-requires-clause-long c = λ cell at.
    omega (arith, (fits_at c.args.machine.now c.netlist-netlist.ensures.machine c.args.id cell at).wide, ap length (c.inputs_of-inputs.ensures cell at), c.requires.scratch, c.gather.auto.scratch, length-take (length c.inputs_of-inputs.result.now) c.gather.new.scratch)

pub put-requires : goal.put-requires
put-requires c =
    let p = element_at c.args.machine.now.circuit.cells c.args.id c.requires.cell in
    omega (arith, (fits_at c.args.machine.now c.netlist-netlist.ensures.machine c.args.id p.0 p.1).output, c.output_of.ensures p.0 p.1, c.requires.words)

pub returns : goal.returns
returns c = λ cell at.
    let words : List ℕ = c.args.words.now in
    let word : ℕ = c.output_word-word.result in
    let read = c.gather.ensures ∙ ap (values_at words) (c.inputs_of-inputs.ensures cell at) in
    subst (λ new. Lays (cell ∷ []) words new) (sym (c.put.ensures ∙ ap (λ n. slice_set words n word) (c.output_of.ensures cell at)))
    (lays_one cell words word (subst (λ ws. IsWord word (λ i. function_value cell.function (lane i ws))) read (c.output_word-word.ensures cell at)))
