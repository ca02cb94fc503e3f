use Rattle.std.proofs.Common.{◌≡◌, drop}
use Rattle.std.specs.List.{list_all}
use Rattle.cg_vcd.specs.inner.IdPlaces.{is_printable}
use Rattle.cg_vcd.proofs.ids.all_printable.Given as goal

abbrev pub invariant-loop-byte : goal.invariant-loop-byte
invariant-loop-byte l = list_all is_printable (drop l.byte-index l.id) ≡ list_all is_printable l.id
