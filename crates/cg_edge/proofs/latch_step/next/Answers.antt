use Rattle.std.proofs.Common.{length, nat_eq, refl, arith}
use Rattle.std.specs.Option.{option_to_list}
use Rattle.std.proofs.lemmas.Bool.{eq-eqb, or_left, or_right}
use Rattle.cg_net.specs.NetSets.{is_in}
use Rattle.cg_netlist.specs.View.{gater_seen}
use Rattle.cg_netlist.proofs.Given.{from_option}
use Rattle.cg_edge.proofs.Facts.{gater_asked, gater_clock}
use Rattle.cg_edge.proofs.latch_step.next.Goals as goal

pub bounds-nets-number : goal.bounds-nets-number
bounds-nets-number c = let below = gater_clock c.args.netlist.now c.requires.netlist.well_formed c.args.id (gater_seen c.gater-gater.result) c.gater-gater.ensures (length c.args.nets.now) c.requires.nets in omega (arith, below)

pub bounds-nets-number-2 : goal.bounds-nets-number-2
bounds-nets-number-2 c =
    let g = gater_seen c.gater-gater.result in
    let below = gater_asked c.args.netlist.now c.requires.netlist.well_formed c.args.id g c.gater-gater.ensures (length c.args.nets.now) c.requires.nets g.enable (or_left (nat_eq g.enable g.enable) (is_in (option_to_list g.test) g.enable) (eq-eqb g.enable g.enable refl)) in
    omega (arith, below)

pub bounds-nets-number-in-Some : goal.bounds-nets-number-in-Some
bounds-nets-number-in-Some c =
    let g = gater_seen c.gater-gater.result in
    let below = gater_asked c.args.netlist.now c.requires.netlist.well_formed c.args.id g c.gater-gater.ensures (length c.args.nets.now) c.requires.nets c.in-Some.test (or_right (nat_eq c.in-Some.test g.enable) (is_in (option_to_list g.test) c.in-Some.test) (from_option g.test c.in-Some.test c.in-Some.is)) in
    omega (arith, below)
