use Rattle.std.proofs.Common.{◌++◌, decimal}
use Rattle.cg_netlist_telling.specs.Names.{bytes_of}
use Rattle.cg_insert.proofs.Lookups.{numbered_step}
use Rattle.cg_insert.proofs.names.push_numbered.Goals as goal

pub loop-k-preserved : goal.loop-k-preserved
loop-k-preserved c = numbered_step (λ k. c.args.prefix.now ++ decimal k) (bytes_of c.args.names.now.items) (bytes_of c.loop-k.names.items) (bytes_of c.push_name.new.names.items) c.args.first c.loop-k.k c.loop-k.invariant c.in_ok-push_name.ensures
