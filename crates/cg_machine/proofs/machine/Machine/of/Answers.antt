use Rattle.cg_machine.proofs.KeptMachines.{start_kept, start_view}
use Rattle.std.proofs.Common.{None, replicate, ap, ◌∙◌}
use Rattle.cg_machine.proofs.machine.Machine.of.Goals as goal

pub invariant_of-result : goal.invariant_of-result
invariant_of-result c =
    start_kept c.args.netlist c.in_ok-prefix.prefix c.args.prefix.now c.in_ok-enables.enables.items c.new.result c.new-2.result c.new-3.result.items
    c.in_ok-prefix.ensures.cases (c.in_ok-enables.ensures ∙ ap (λ n. replicate n None) c.registers.ensures.count) c.new.ensures c.new-2.ensures c.new-3.ensures.items c.requires

pub returns : goal.returns
returns c =
    start_view c.args.netlist c.in_ok-prefix.prefix c.args.prefix.now c.in_ok-enables.enables.items c.new.result c.new-2.result c.new-3.result.items
    c.in_ok-prefix.ensures.cases (c.in_ok-enables.ensures ∙ ap (λ n. replicate n None) c.registers.ensures.count) c.new.ensures c.new-2.ensures c.new-3.ensures.items
