use Rattle.std.proofs.Common.{◌≡◌, ◌∷◌, ◌++◌, codes, decimal, drop, length, map}
use Rattle.cg_plan_text.specs.Words.{literal_word}
use Rattle.cg_plan_text.specs.inner.Spaced.{spaced}
use Rattle.cg_plan_text.proofs.stage.push_enables.Given as goal

abbrev pub invariant-literals : goal.invariant-literals
invariant-literals l = l.text.items ++ spaced (map (literal_word l.machine) (drop l.literal-index l.enable)) ≡ l.fn.text.items ++ spaced (codes "enable" ∷ decimal (length l.enable) ∷ map (literal_word l.machine) l.enable)
