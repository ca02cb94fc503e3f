use Rattle.std.proofs.Common.{◌≡◌, map, take}
use Rattle.std.specs.Str.{bytes_eq}
use Rattle.cg_verilog_text.specs.Meaning.{row_of}
use Rattle.cg_verilog.proofs.cover.rows_of.Given as goal

abbrev pub invariant-terms : goal.invariant-terms
invariant-terms l = l.rows ≡ map (row_of bytes_eq l.inputs) (take l.term-index l.terms)
