use Rattle.cg_verilog_text.proofs.FormsMean.{forms_mean}
use Rattle.cg_verilog_text.proofs.laws.form_is_meant.Goals as goal

pub returns : goal.returns
returns c = forms_mean
