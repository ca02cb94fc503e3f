use Rattle.cg_edge.specs.inner.Flat.{Layout}
use Rattle.cg_edge.proofs.Laid.{laid_here}
use Rattle.cg_edge.proofs.flat.FlatCells.output.Goals as goal

pub returns : goal.returns
returns c cell at =
    let inside : Layout = record { cells = c.self.inside.cells.items; inputs = c.self.inside.inputs.items } in
    (laid_here c.args.netlist.now c.args.id c.args.place inside c.args.self.now c.index.result.now c.self.view_is c.requires.laid c.requires.place c.index.ensures cell at).output
