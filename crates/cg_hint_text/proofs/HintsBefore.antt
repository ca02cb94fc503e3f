-- Hints that were read before others.
use Rattle.std.proofs.Common.{List, ◌++◌, Result, Ok, Err}
use Rattle.cg_hint_laws.specs.declared.hint.Hint.{Hint}
use Rattle.cg_hint_text.specs.declared.fault.HintFault.{HintFault}

abbrev pub behind_hints : List Hint → Result (List Hint) HintFault → Result (List Hint) HintFault
behind_hints before (Ok later) = Ok (before ++ later)
behind_hints before (Err fault) = Err fault
