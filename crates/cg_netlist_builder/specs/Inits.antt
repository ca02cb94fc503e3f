-- Inits that plain registers are given behind all parts, by the nets that they show.
use Rattle.std.specs.Prelude.{ℕ, List, map, slice_get, unwrap_or, Option, None}
use Rattle.std.specs.Option.{option_and_then}
use Rattle.cg_net.specs.Names.{NetName, name_place}
use Rattle.cg_netlist.specs.Circuit.{RegisterCell, shown_nets}
use Rattle.cg_netlist.specs.declared.parts.RegisterKind.{RegisterKind}
use Rattle.cg_netlist.specs.declared.parts.RegisterKind.TheVariants.{Plain, Flop}
use Rattle.cg_netlist_parts.specs.Said.{Said}

-- the init that a net is given, if it is given one: the inits stand in the order of these nets
abbrev pub init_given : List NetName → List ℕ → NetName → Option ℕ
init_given nets inits net = slice_get inits (name_place nets net)

-- the net that a register of this kind shows, if it is plain
abbrev pub shown_plainly : {N : Type 0} → RegisterKind → List N → Option N
shown_plainly Plain shown = slice_get shown 0
shown_plainly (Flop cell) shown = None

-- a plain register with the init that its net is given, if that is given one
abbrev pub with_init : {N K : Type 0} → (N → Option ℕ) → RegisterCell N K → RegisterCell N K
with_init given r = record r { init = unwrap_or (option_and_then given (shown_plainly r.kind (shown_nets r))) r.init }

-- what was said, with these inits
abbrev pub with_inits : List NetName → List ℕ → Said → Said
with_inits nets inits s = record s { registers = map (with_init (init_given nets inits)) s.registers }
