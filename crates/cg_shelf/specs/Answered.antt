-- A call as the code notes it.
use Rattle.std.specs.Prelude.{List, [], ◌∷◌, ◌++◌, Ok, Err}
use Rattle.cg_shelf.specs.Asked.{Asked, Calls, Complained, Loaded, Said, Stored}
use Rattle.cg_shelf.specs.declared.call_log.Answered.{Answered}
use Rattle.cg_shelf.specs.declared.call_log.Answered.TheVariants as answered

abbrev pub asked_by : Answered → Asked
asked_by (answered.Loaded name limit bytes) = Loaded name.now limit (Ok bytes.now)
asked_by (answered.Unloaded name limit fault) = Loaded name.now limit (Err fault)
asked_by (answered.Stored name bytes answer) = Stored name.now bytes.now answer
asked_by (answered.Said bytes answer) = Said bytes.now answer
asked_by (answered.Complained bytes answer) = Complained bytes.now answer

abbrev pub noted : Calls → Answered → Calls
noted calls call = calls ++ asked_by call ∷ []
