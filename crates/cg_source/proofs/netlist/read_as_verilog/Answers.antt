use Rattle.cg_source.proofs.VerilogTexts.{read_answers}
use Rattle.cg_source.proofs.netlist.read_as_verilog.Goals as goal

pub returns : goal.returns
returns c =
    read_answers c.args.library.now c.args.options.now.clock c.args.text.now (record { cells = c.len.ensures.cells; named = c.clock_of.ensures })
    c.read_verilog.result c.read_verilog.ensures.found c.read_verilog.ensures.first
