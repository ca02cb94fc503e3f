use Rattle.std.proofs.Common.{◌≡◌, ◌++◌, length}
use Rattle.cg_liberty_text.proofs.text.Text.bytes.Given as goal

abbrev pub invariant-bytes : goal.invariant-bytes
invariant-bytes l = l.bytes.items ++ l.left ≡ l.fn.self

abbrev pub decreases-bytes : goal.decreases-bytes
decreases-bytes l = length l.left
