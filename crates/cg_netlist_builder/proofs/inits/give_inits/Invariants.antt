use Rattle.std.proofs.Common.{◌≡◌}
use Rattle.cg_net.specs.Names.{net_name}
use Rattle.cg_netlist_builder.specs.Inits.{init_given, with_init}
use Rattle.cg_netlist_builder.proofs.InPlace.{changed_before}
use Rattle.cg_netlist_builder.proofs.inits.give_inits.Given as goal

abbrev pub invariant-loop-register : goal.invariant-loop-register
invariant-loop-register l = l.registers ≡ changed_before (with_init (λ net. init_given l.nets l.inits (net_name l.names net))) l.fn.registers l.register-index
