use Rattle.std.proofs.Common.{ap, ◌∙◌, length, sym}
use Rattle.cg_stimulus.proofs.CutRows.{cut_rows-length}
use Rattle.cg_stimulus.proofs.bit_rows.BitRows.len.Goals as goal

pub returns : goal.returns
returns c = sym (sym (ap length c.self.view_is) ∙ cut_rows-length c.self.inside.width c.self.inside.count c.self.inside.bits.items)
