use Rattle.std.proofs.Common.{length, ap, arith}
use Rattle.cg_netlist.proofs.CutAtPlaces.{parts}
use Rattle.cg_netlist.proofs.fan_in.FanIn.len.Goals as goal

pub returns : goal.returns
returns c = omega (arith, c.len.ensures, ap length c.self.view_is, parts (length c.self.inside.cells.items) c.self.inside.starts.items c.self.inside.cells.items c.self.invariant)
