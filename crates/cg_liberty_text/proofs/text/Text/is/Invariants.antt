use Rattle.std.proofs.Common.{◌≡◌, drop}
use Rattle.std.specs.Str.{bytes_eq}
use Rattle.cg_liberty_text.proofs.text.Text.is.Given as goal

abbrev pub invariant-bytes : goal.invariant-bytes
invariant-bytes l = bytes_eq l.fn.self l.bytes ≡ bytes_eq l.left (drop l.byte-index l.bytes)
