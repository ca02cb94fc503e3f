use Rattle.std.proofs.Common.{◌≡◌, length, take}
use Rattle.std.specs.List.{All}
use Rattle.cg_net.specs.inner.NamePlaces.{IsPlaced}
use Rattle.cg_net.proofs.names.places.Given as goal

abbrev pub invariant-loop-place : goal.invariant-loop-place
invariant-loop-place l = record {
  long : length l.places.items ≡ l.count;
  placed : All (IsPlaced l.order l.places.items) (take l.place l.order);
}
