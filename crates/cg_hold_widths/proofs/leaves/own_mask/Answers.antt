use Rattle.std.proofs.Common.{◌&&◌, not, nat_eq, ◌∙◌, ap, rules}
use Rattle.cg_hold_widths.proofs.Bits.{one_unless}
use Rattle.cg_hold_widths.proofs.leaves.own_mask.Goals as goal

pub returns : goal.returns
returns c = λ i. one_unless c.args.place c.register_mask-shown.result i c.requires.place (search rules) ∙ ap (λ b. nat_eq i c.args.place && not b) (c.register_mask-shown.ensures i)
