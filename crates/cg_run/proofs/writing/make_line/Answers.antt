use Rattle.std.proofs.Common.{◌≤◌, vec_capacity, arith}
use Rattle.cg_run.specs.Names.{name_of}
use Rattle.cg_run.proofs.LineRoom.{more_room}
use Rattle.cg_run.proofs.writing.make_line.Goals as goal

pub returns-clause-room : goal.returns-clause-room
returns-clause-room c = λ refusal.
    let enough : c.longest_line.result ≤ vec_capacity c.reserve.new.self = omega (arith, c.in_ok-reserve.ensures.ok) in
    more_room (name_of c.args.names.now) c.longest_line.result (vec_capacity c.reserve.new.self) refusal enough (c.longest_line.ensures.room refusal)
