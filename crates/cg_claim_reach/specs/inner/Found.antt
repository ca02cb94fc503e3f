-- What the program finds on the way to what a question reaches.
use Rattle.std.specs.Prelude.{◌≡◌, ℕ, List}
use Rattle.std.specs.List.{filter}
use Rattle.cg_net.specs.NetSets.{is_in}
use Rattle.cg_machine.specs.Machine.{MachineData}
use Rattle.cg_claim.specs.Question.{Question}
use Rattle.cg_claim.specs.Reach.{after_nets, after_states, changed_nets, changed_states, registers_of}
use Rattle.cg_claim_reach.specs.declared.named.Named.{Named}
use Rattle.cg_claim_reach.specs.declared.reached.Later.{Later}
use Rattle.cg_claim_reach.specs.Reached.{IsConeOf}

-- sets of the registers that hold their next bits, and of those that may have other bits
pub record AreSetsOf (Q G : List ℕ) (named : Named) : Type 0 where
  pub follows : (r : ℕ) → is_in Q r ≡ is_in named.follows.keys r
  pub changes : (r : ℕ) → is_in G r ≡ is_in named.changes.keys r

-- the cones of the later copies, and the registers whose states are reached in them
pub record IsLater (m : MachineData) (q : Question) (later : Later) : Type 0 where
  pub after : IsConeOf m (after_nets m q) later.after
  pub changed : IsConeOf m (changed_nets m q) later.changed
  pub states : later.states ≡ filter (after_states m q) (registers_of m)
  pub moved : later.moved ≡ filter (changed_states m q) (registers_of m)
