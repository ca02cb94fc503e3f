use Rattle.std.proofs.Common.{if◌then◌else◌, sym, subst, bit_and, bit_or}
use Rattle.cg_word.proofs.Lanes.{selected}
use Rattle.cg_word.specs.Words.{IsWord, lane_bit}
use Rattle.cg_hold.proofs.moves.select.Goals as goal

pub returns : goal.returns
returns c =
    subst (λ other. IsWord (bit_or (bit_and c.args.test c.args.first) (bit_and other c.args.second)) (λ i. if lane_bit i c.args.test then lane_bit i c.args.first else lane_bit i c.args.second))
    (sym c.inverse.ensures) (selected c.args.test c.args.first c.args.second)
