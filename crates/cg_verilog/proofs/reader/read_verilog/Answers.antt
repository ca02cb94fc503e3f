use Rattle.cg_verilog.proofs.NetlistLemmas.{first, found, only, placeable}
use Rattle.cg_verilog.proofs.reader.read_verilog.Goals as goal

pub returns : goal.returns
returns c =
    let text = c.args.text.now in
    let library = c.args.library.now in
    let clock = c.args.options.now.clock in
    record {
      found = found text library clock c.read.result c.read.ensures;
      only = only text library clock c.read.result c.read.ensures;
      first = first text library clock c.read.result c.read.ensures;
      placeable = placeable text library clock c.read.result c.len.ensures.cells c.read.ensures;
    }
