use Rattle.std.proofs.Common.{◌≡◌, ◌∙◌, ap}
use Rattle.cg_cell.specs.Domain.{Seen}
use Rattle.cg_aig.proofs.Fills.{value_is}
use Rattle.cg_aig.proofs.list.Aig.value.Goals as goal

pub returns : goal.returns
returns c =
    let pairs : c.as_slice.result.now ≡ c.args.self.now.pairs = c.as_slice.ensures.keys ∙ ap (λ (s : Seen). s.pairs) c.self.view_is in
    value_is c.args.self.now c.args.bits.now c.fill.new.buffer c.as_slice.result.now c.args.lit c.number.result c.bit.result
    c.requires.lit c.requires.bits pairs c.fill.ensures c.number.ensures c.bit.ensures
