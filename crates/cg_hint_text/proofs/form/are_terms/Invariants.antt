use Rattle.std.proofs.Common.{◌≡◌, true, drop}
use Rattle.cg_hint_text.specs.Reading.{are_terms}
use Rattle.cg_hint_text.proofs.form.are_terms.Given as goal

abbrev pub invariant-loop-word : goal.invariant-loop-word
invariant-loop-word l = are_terms l.fresh (drop l.word-index l.words) ≡ are_terms true l.words
