use Rattle.std.proofs.Common.{ℕ, ◌≡◌, vec_len}
use Rattle.cg_net.specs.Marks.{is_marked}
use Rattle.cg_net.proofs.net_set.reach.Given as goal

abbrev pub invariant-loop : goal.invariant-loop
invariant-loop l = (vec_len l.marks ≡ l.counter) × ((net : ℕ) → is_marked l.marks.items net ≡ is_marked l.fn.marks.items net)
