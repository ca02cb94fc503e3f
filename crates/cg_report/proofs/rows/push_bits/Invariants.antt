use Rattle.std.proofs.Common.{◌≡◌, ◌++◌, map, take}
use Rattle.cg_netlist.specs.Moment.{bit}
use Rattle.cg_stimulus.specs.StimText.{bit_byte}
use Rattle.cg_report.proofs.rows.push_bits.Given as goal

abbrev pub invariant-loop-output : goal.invariant-loop-output
invariant-loop-output l = l.text.items ≡ l.fn.text.items ++ map (λ net. bit_byte (bit l.nets net)) (take l.output-index l.outputs)
