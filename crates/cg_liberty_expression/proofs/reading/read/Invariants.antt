use Rattle.std.proofs.Common.{◌≡◌, length, Ok}
use Rattle.cg_liberty_expression.specs.Reading.{read_on, read_text}
use Rattle.cg_liberty_expression.specs.Reads.{mode_of}
use Rattle.cg_liberty_expression.proofs.reading.read.Given as goal

abbrev pub invariant-tokens : goal.invariant-tokens
invariant-tokens l = read_on l.pins (length l.text) (Ok (mode_of l.reading.operand l.reading.stack)) l.tokens ≡ read_text l.pins l.text

abbrev pub decreases-tokens : goal.decreases-tokens
decreases-tokens l = length l.tokens
