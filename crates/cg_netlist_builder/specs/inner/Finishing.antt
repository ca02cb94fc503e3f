-- What looking for faults finds, by the numbers of nets.
use Rattle.std.specs.Prelude.{◌≡◌, ◌⊎◌, ℕ, nat_eq, nat_lt, Bool, ◌&&◌, ◌||◌, length, None, Some, Result, MatchResult}
use Rattle.cg_netlist_parts.specs.declared.fault.NetFault.{NetFault}
use Rattle.cg_netlist_parts.specs.declared.fault.NetFault.TheVariants.{NoMemory}
use Rattle.cg_netlist_builder.specs.inner.FirstNet.{IsFirst}
use Rattle.cg_netlist_builder.specs.inner.Numbers.{Numbers, rooted}
use Rattle.cg_net.specs.Names.{NetName, net_name}

-- there is a register or a gating cell, and no place where the clock may come from
abbrev pub has_no_clock : Numbers → Bool
has_no_clock n = nat_eq (length (rooted n)) 0 && (nat_lt 0 (length n.registers) || nat_lt 0 (length n.gaters))

-- of the nets that fail a test the first is answered with its fault, or none where none fails, or want of memory
abbrev pub FindsFirstFault : Numbers → (NetName → NetFault) → (ℕ → Bool) → Result (Unit {0}) NetFault → Type 0
FindsFirstFault n fault test result =
    MatchResult result (λ _. IsFirst (length n.names) test None)
    (λ found. (found ≡ NoMemory) ⊎ ((net : ℕ) × (found ≡ fault (net_name n.names net)) × IsFirst (length n.names) test (Some net)))
