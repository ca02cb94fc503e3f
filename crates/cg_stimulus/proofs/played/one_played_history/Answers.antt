use Rattle.cg_stimulus.specs.Played.{played_start, played_wave}
use Rattle.cg_stimulus.proofs.Playing.{start_is, wave_is}
use Rattle.cg_stimulus.proofs.played.one_played_history.Goals as goal

pub returns-clause-start : goal.returns-clause-start
returns-clause-start c = start_is c.args.netlist.now

pub returns-clause-wave : goal.returns-clause-wave
returns-clause-wave c = wave_is c.args.netlist.now c.args.stimulus.now c.rows.ensures.stimulus c.requires

pub returns-clause-some : goal.returns-clause-some
returns-clause-some c =
    let n = c.args.netlist.now in
    c.one_lawful_history.ensures.some (played_start n) (played_wave n c.args.stimulus.now.rows) (start_is n) (wave_is n c.args.stimulus.now c.rows.ensures.stimulus c.requires)

pub returns-clause-one : goal.returns-clause-one
returns-clause-one c history other first second =
    let n = c.args.netlist.now in
    c.one_lawful_history.ensures.one (played_start n) (played_wave n c.args.stimulus.now.rows) (start_is n) (wave_is n c.args.stimulus.now c.rows.ensures.stimulus c.requires) history other first second
