use Rattle.std.proofs.Common.{◌≡◌, ◌||◌, ◌&&◌, ℕ, nat_eq, take}
use Rattle.cg_net.specs.NetSets.{is_in}
use Rattle.cg_claim_reach.specs.Fanout.{readers_at}
use Rattle.cg_claim_reach.proofs.readers.Readers.note_all.Given as goal

abbrev pub invariant-loop-net : goal.invariant-loop-net
invariant-loop-net l = (y k : ℕ) → is_in (readers_at l.self y) k ≡ (is_in (readers_at l.initial.self y) k || (is_in (take l.net-index l.nets) y && nat_eq k l.reader))
