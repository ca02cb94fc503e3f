use Rattle.std.proofs.Common.{◌≡◌, ℕ, length, subst}
use Rattle.std.proofs.lemmas.Option.{same_Some}
use Rattle.std.proofs.Common.{sym, ◌∙◌}
use Rattle.cg_netlist.specs.Circuit.{RegisterCell, shown_nets}
use Rattle.cg_netlist.specs.Moment.{shown_bits, values_at}
use Rattle.cg_netlist.specs.View.{register_seen}
use Rattle.cg_netlist.proofs.Used.{in_flat}
use Rattle.cg_edge.specs.inner.Keeping.{SameBut}
use Rattle.cg_edge.proofs.Facts.{distinct_registers, register_no_cell, shown_within}
use Rattle.cg_edge.proofs.Puts.{flat_distinct}
use Rattle.cg_edge.proofs.put.put_register.Goals as goal

pub put_shown-requires-clause-given : goal.put_shown-requires-clause-given
put_shown-requires-clause-given c x among = register_no_cell c.args.netlist.now c.requires.netlist.well_formed x (in_flat shown_nets c.args.netlist.now.registers c.args.reg (register_seen c.register.result) x c.register.ensures among)

pub put_shown-requires-clause-within : goal.put_shown-requires-clause-within
put_shown-requires-clause-within c = shown_within c.args.netlist.now c.requires.netlist.well_formed c.args.reg (register_seen c.register.result) c.register.ensures (length c.args.nets.now) c.requires.nets

pub put_shown-requires-clause-once : goal.put_shown-requires-clause-once
put_shown-requires-clause-once c = flat_distinct shown_nets c.args.netlist.now.registers c.args.reg (register_seen c.register.result) (distinct_registers c.args.netlist.now c.requires.netlist.well_formed) c.register.ensures

pub returns-clause-shown : goal.returns-clause-shown
returns-clause-shown c r at = subst (λ (s : RegisterCell ℕ ℕ). values_at c.put_shown.new.nets (shown_nets s) ≡ shown_bits s c.args.bit) (same_Some (register_seen c.register.result) r (sym c.register.ensures ∙ at)) c.put_shown.ensures.shown

pub returns-clause-same : goal.returns-clause-same
returns-clause-same c r at = subst (λ (s : RegisterCell ℕ ℕ). SameBut (shown_nets s) c.args.nets.now c.put_shown.new.nets) (same_Some (register_seen c.register.result) r (sym c.register.ensures ∙ at)) c.put_shown.ensures.same
