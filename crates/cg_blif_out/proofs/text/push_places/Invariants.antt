use Rattle.std.proofs.Common.{◌≡◌, ◌++◌, drop, map}
use Rattle.cg_blif_text.specs.Canonical.{place_byte}
use Rattle.cg_blif_out.proofs.text.push_places.Given as goal

abbrev pub invariant-places : goal.invariant-places
invariant-places l = l.out.items ++ map place_byte (drop l.place-index l.places) ≡ l.fn.out.items ++ map place_byte l.places
