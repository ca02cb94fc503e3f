use Rattle.std.proofs.Common.{◌≡◌, drop, length}
use Rattle.cg_blif_text.specs.Rows.{row_places}
use Rattle.cg_blif.proofs.RowLemmas.{places_behind}
use Rattle.cg_blif.proofs.cover.read_places.Given as goal

abbrev pub invariant-places : goal.invariant-places
invariant-places l = record {
  read : places_behind l.places.items (row_places (drop l.byte-index l.word)) ≡ row_places l.fn.word;
  long : length l.places.items ≡ l.byte-index;
}
