use Rattle.cg_verilog_text.proofs.LabelsOwn.{labels_own}
use Rattle.cg_verilog_text.proofs.laws.label_is_own.Goals as goal

pub returns : goal.returns
returns c = labels_own
