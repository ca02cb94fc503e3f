use Rattle.std.proofs.Common.{◌≡◌, drop}
use Rattle.cg_hint_text.specs.Reading.{all_terms, literal_of}
use Rattle.cg_hint_text.proofs.Said.{behind_terms}
use Rattle.cg_hint_text.proofs.read.read_terms.Given as goal

abbrev pub invariant-loop-word : goal.invariant-loop-word
invariant-loop-word l = behind_terms l.terms l.term (all_terms (literal_of l.netlist) (drop l.word-index l.words)) ≡ all_terms (literal_of l.netlist) l.words
