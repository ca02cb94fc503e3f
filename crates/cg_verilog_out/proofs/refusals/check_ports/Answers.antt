use Rattle.std.proofs.Common.{◌≡◌, [], ◌∙◌, ap, subst}
use Rattle.cg_net.specs.NetSets.{with_nets}
use Rattle.cg_verilog_out.specs.Refusing.{ArePorts}
use Rattle.cg_verilog_out.proofs.Ports.{same_ports}
use Rattle.cg_verilog_out.proofs.WithinNetlist.{output_nets}
use Rattle.cg_verilog_out.proofs.refusals.check_ports.Goals as goal

pub check_outputs-requires : goal.check_outputs-requires
check_outputs-requires c = rw c.outputs.ensures (output_nets c.args.netlist.now c.requires)

pub returns : goal.returns
returns c =
    let is : c.extend.new.self ≡ with_nets [] c.args.netlist.now.inputs
    = c.in_ok-extend.ensures ∙ ap (λ l. with_nets l c.inputs.result.now) c.new-inputs.ensures ∙ ap (with_nets []) c.inputs.ensures in
    same_ports c.args.netlist.now c.check_outputs.result
    (subst (λ inputs. ArePorts c.args.netlist.now.names inputs c.args.netlist.now.outputs c.check_outputs.result) is
    (subst (λ outputs. ArePorts c.args.netlist.now.names c.extend.new.self outputs c.check_outputs.result) c.outputs.ensures c.check_outputs.ensures))
