-- Hints of a netlist: what their numbers name is there.
use Rattle.std.specs.Prelude.{◌≡◌, ◌≢◌, ◌<◌, ◌≤◌, ℕ, nat_eq, true, false, length, Some}
use Rattle.std.specs.List.{All, IsDistinct}
use Rattle.cg_net.specs.NetSets.{is_in}
use Rattle.cg_netlist.specs.Circuit.{Circuit, gater_outputs}
use Rattle.cg_hint_laws.specs.Hints.{condition_nets}
use Rattle.cg_hint_laws.specs.declared.hint.Hint.{Hint}

-- a net of a netlist that is neither the clock nor the output of a gating cell
pub record IsPlain (c : Circuit) (net : ℕ) : Type 0 where
  pub below : net < length c.names
  pub apart : c.clock ≢ Some net
  pub ungated : is_in (gater_outputs c) net ≡ false

-- a hint is one of a netlist: what its numbers name is there
pub record IsOf (c : Circuit) (h : Hint) : Type 0 where
  pub registers : (r : ℕ) → is_in h.regs r ≡ true → r < length c.registers
  pub distinct : IsDistinct nat_eq h.regs
  pub some : 0 < length h.regs
  pub terms : 0 < length h.terms
  pub literals : All (λ term. 0 < length term) h.terms
  pub nets : (net : ℕ) → is_in (condition_nets h.terms) net ≡ true → IsPlain c net
  pub after : h.after ≤ 4
