use Rattle.std.proofs.Common.{◌≡◌, map, take}
use Rattle.std.specs.Str.{bytes_eq}
use Rattle.cg_verilog_text.specs.Meaning.{bit_in}
use Rattle.cg_verilog.proofs.cover.make_row.Given as goal

abbrev pub invariant-literals : goal.invariant-literals
invariant-literals l = l.row.items ≡ map (bit_in bytes_eq (take l.literal-index l.term)) l.inputs
