use Rattle.cg_source.proofs.BlifTexts.{read_answers}
use Rattle.cg_source.proofs.netlist.read_as_blif.Goals as goal

pub returns : goal.returns
returns c =
    read_answers c.args.library.now c.args.options.now.clock c.args.text.now (record { cells = c.len.ensures.cells; named = c.clock_of.ensures })
    c.read_blif.result c.read_blif.ensures.found c.read_blif.ensures.first
