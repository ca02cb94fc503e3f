-- What a net is, by what drives it.
use Rattle.std.specs.Prelude.{ℕ, if◌then◌else◌, slice_get, Option, None, Some}
use Rattle.std.specs.Option.{option_and_then}
use Rattle.cg_netlist.specs.Circuit.{Circuit}
use Rattle.cg_netlist.specs.declared.driver.Driver.{Driver}
use Rattle.cg_netlist.specs.declared.driver.Driver.TheVariants.{Cell, Clock, Gater, Input, Register}
use Rattle.cg_hint_text.specs.Reading.{shows_first}

-- a net that is driven so, unless it is the clock or a gated one
abbrev pub ungated : Driver → ℕ → Option ℕ
ungated Clock net = None
ungated (Gater k) net = None
ungated Input net = Some net
ungated (Cell k) net = Some net
ungated (Register r inverted) net = Some net

-- the register that drives a net, where that is its first output
abbrev pub named_register : Circuit → Driver → ℕ → Option ℕ
named_register c (Register r inverted) net = option_and_then (λ cell. if shows_first net cell then Some r else None) (slice_get c.registers r)
named_register c Input net = None
named_register c Clock net = None
named_register c (Cell k) net = None
named_register c (Gater k) net = None
