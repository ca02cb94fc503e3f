use Rattle.std.proofs.Common.{◌≡◌, ℕ, ◌+◌, ◌-◌, false, get_or, length}
use Rattle.cg_sat_state.proofs.trail.reach.Given as goal

abbrev pub invariant-more : goal.invariant-more
invariant-more l = (at : ℕ) → get_or l.trues.items at false ≡ get_or l.fn.trues.items at false

abbrev pub decreases-more : goal.decreases-more
decreases-more l = l.place + 1 - length l.trues.items
