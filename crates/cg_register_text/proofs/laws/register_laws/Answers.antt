use Rattle.cg_register_text.proofs.CausesMeant.{causes_mean, widths_are_kept}
use Rattle.cg_register_text.proofs.EdgesRisen.{rises_are_edges}
use Rattle.cg_register_text.proofs.HintsStanding.{hints_stand, hints_told}
use Rattle.cg_register_text.proofs.KindsAdded.{kinds_add_up}
use Rattle.cg_register_text.proofs.StagesTold.{stages_told}
use Rattle.cg_register_text.proofs.TextKept.{text_is_kept}
use Rattle.cg_register_text.proofs.laws.register_laws.Goals as goal

pub returns : goal.returns
returns c = record {
  mean = causes_mean;
  kinds = kinds_add_up;
  widths = widths_are_kept;
  text = text_is_kept;
  stages = stages_told;
  hints = hints_told;
  stand = hints_stand;
  edges = rises_are_edges;
}
