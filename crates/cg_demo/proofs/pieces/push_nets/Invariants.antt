use Rattle.std.proofs.Common.{◌≡◌, ◌++◌}
use Rattle.cg_demo.specs.Pipeline.{nets}
use Rattle.cg_demo.proofs.pieces.push_nets.Given as goal

abbrev pub invariant-nets : goal.invariant-nets
invariant-nets l = l.text.items ≡ l.fn.text.items ++ nets l.i l.letter
