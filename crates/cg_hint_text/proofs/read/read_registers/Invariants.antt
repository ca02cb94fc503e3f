use Rattle.std.proofs.Common.{◌≡◌, drop}
use Rattle.cg_hint_text.specs.Reading.{all_said, register_of}
use Rattle.cg_hint_text.proofs.Said.{behind_said}
use Rattle.cg_hint_text.proofs.read.read_registers.Given as goal

abbrev pub invariant-loop-word : goal.invariant-loop-word
invariant-loop-word l = behind_said l.regs (all_said (register_of l.netlist) (drop l.word-index l.words)) ≡ all_said (register_of l.netlist) l.words
