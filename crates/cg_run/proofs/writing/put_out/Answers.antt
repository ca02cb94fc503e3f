use Rattle.std.proofs.Common.{vec_capacity}
use Rattle.cg_run.specs.Names.{name_of}
use Rattle.cg_run.proofs.RefusedSo.{complained_so}
use Rattle.cg_run.proofs.writing.put_out.Goals as goal

pub returns-clause-roomy : goal.returns-clause-roomy
returns-clause-roomy g c =
    complained_so (name_of c.args.names.now) (vec_capacity c.args.line) c.args.found c.in-Err.refusal (g.S.Shelf.world c.args.shelf.now) (g.S.Shelf.world c.try_to_write.new.shelf) (g.S.Shelf.world c.refuse.new.shelf) c.refuse.result
    c.in-Err.ensures c.refuse.ensures.roomy
