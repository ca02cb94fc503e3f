use Rattle.std.proofs.Common.{false, ap}
use Rattle.std.specs.Option.{option_map_or}
use Rattle.cg_cell.specs.Term.{term_value}
use Rattle.cg_word.proofs.Lanes.{is_word}
use Rattle.cg_word.specs.Words.{lane}
use Rattle.cg_word.proofs.words.cell_word.Goals as goal

pub returns-in-Some : goal.returns-in-Some
returns-in-Some c = is_word c.expression_word.result _ _ (λ i below. ap (λ o. option_map_or (term_value (lane i c.args.inputs.now)) o false) c.in-Some.ensures.function) c.expression_word.ensures
