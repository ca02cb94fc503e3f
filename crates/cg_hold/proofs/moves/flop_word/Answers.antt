use Rattle.std.proofs.Common.{◌<◌, ap, arith, length}
use Rattle.std.proofs.lemmas.List.Sums.{count_by-le-length}
use Rattle.cg_cell.specs.Pins.{is_data}
use Rattle.cg_netlist.specs.Moment.{cell_value}
use Rattle.cg_word.proofs.Lanes.{is_word, own_behind}
use Rattle.cg_hold.proofs.moves.flop_word.Goals as goal

pub returns : goal.returns
returns c =
    let few : length c.args.inputs.now < length c.gather.new.scratch = omega (arith, count_by-le-length is_data c.args.cell.now.pins, c.requires.fits, c.function-function.ensures.cell.few, c.gather.auto.scratch) in
    is_word c.cell_word.result _ _ (λ i below. ap (cell_value c.args.cell.now) (own_behind i c.args.nets.now c.args.inputs.now c.gather.new.scratch c.args.own few c.gather.ensures)) c.cell_word.ensures
