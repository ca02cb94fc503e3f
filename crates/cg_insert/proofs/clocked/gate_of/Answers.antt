use Rattle.std.proofs.Common.{arith}
use Rattle.cg_netlist_telling.proofs.OrderedNames.{place_small}
use Rattle.cg_insert.proofs.clocked.gate_of.Goals as goal

pub overflow_cast-place : goal.overflow_cast-place
overflow_cast-place c = omega (arith, c.place.ensures, place_small c.args.enables.now c.in-Some.enable, c.requires.small)

pub overflow_add-first : goal.overflow_add-first
overflow_add-first c = omega (arith, c.place.ensures, place_small c.args.enables.now c.in-Some.enable, c.requires.small)
