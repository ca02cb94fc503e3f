use Rattle.cg_blif_text.proofs.FirstFaults.{first_is_told, told_is_first}
use Rattle.cg_blif_text.proofs.laws.told_fault_is_first.Goals as goal

pub returns : goal.returns
returns c = λ library lines fault. (told_is_first library lines fault, first_is_told library lines fault)
