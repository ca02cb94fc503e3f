use Rattle.std.proofs.Common.{◌≡◌, Some, slice_get, refl, sym, ap, subst}
use Rattle.std.proofs.lemmas.Option.{slice_get_read}
use Rattle.cg_machine.specs.Claims.{Literal}
use Rattle.cg_machine.specs.Machine.{IsNet}
use Rattle.cg_plan.proofs.Adding.{net_among, rest_among}
use Rattle.cg_plan.proofs.insert.join_all.Goals as goal

pub join-requires-clause-first : goal.join-requires-clause-first
join-requires-clause-first c =
    let E = c.args.enables.now in
    let l = c.index-enables-0.result in
    let at : slice_get E 0 ≡ Some l = slice_get_read E _ 0 l refl c.requires.some c.index-enables-0.is in
    subst (IsNet c.args.machine.now) (sym (ap (λ (k : Literal). k.0) c.first.view_is)) (c.requires.nets l.0 (net_among E 0 l at))

pub join-requires-clause-nets : goal.join-requires-clause-nets
join-requires-clause-nets c = λ net among. c.requires.nets net (rest_among c.args.enables.now net among)
