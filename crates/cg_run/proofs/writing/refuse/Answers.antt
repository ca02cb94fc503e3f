use Rattle.std.proofs.Common.{rules}
use Rattle.cg_run.specs.Names.{name_of}
use Rattle.cg_run.specs.Refusal.{complaint_text, status_of}
use Rattle.cg_run.proofs.RefusedSo.{complains_as, refuses_so}
use Rattle.cg_run.proofs.writing.refuse.Goals as goal

pub returns-in-Ok : goal.returns-in-Ok
returns-in-Ok g c =
    let names = name_of c.args.names.now in
    let refusal = c.args.refusal.now in
    let before = g.S.Shelf.world c.args.shelf.now in
    let after = g.S.Shelf.world c.complain.new.shelf in
    let own = complains_as (complaint_text names refusal) (status_of refusal) before after c.complain.result (search rules) (search rules) c.complain.ensures in
    record { refuses = refuses_so names refusal before after c.complain.result own; roomy = λ room. own }
