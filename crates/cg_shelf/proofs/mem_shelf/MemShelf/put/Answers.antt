use Rattle.std.proofs.Common.{arith}
use Rattle.std.proofs.lemmas.Map.Text.{text_keys}
use Rattle.cg_shelf.proofs.mem_shelf.MemShelf.put.Goals as goal

-- An insertion changes the map at its own key alone.
pub returns-clause-others : goal.returns-clause-others
returns-clause-others c = λ name apart. grind (arith, text_keys)
