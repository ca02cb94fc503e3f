use Rattle.cg_cell.proofs.Building.{and_made, keeps_then, not_made, keeps_same}
use Rattle.cg_cell.proofs.Operations.{on_err, or_made}
use Rattle.cg_cell.proofs.build.or.Goals as goal

pub not-not_b-requires : goal.not-not_b-requires
not-not_b-requires g c =
    let p = not_made _ g.met.D.Domain.lawful _ _ _ _ c.requires.left c.not-not_a.ensures in
    p.stands.keeps.valid _ c.requires.right

pub and-requires-clause-left : goal.and-requires-clause-left
and-requires-clause-left g c =
    let p = not_made _ g.met.D.Domain.lawful _ _ _ _ c.requires.left c.not-not_a.ensures in
    let q = not_made _ g.met.D.Domain.lawful _ _ _ _ (p.stands.keeps.valid _ c.requires.right) c.not-not_b.ensures in
    q.stands.keeps.valid _ p.stands.valid

pub and-requires-clause-right : goal.and-requires-clause-right
and-requires-clause-right g c =
    let p = not_made _ g.met.D.Domain.lawful _ _ _ _ c.requires.left c.not-not_a.ensures in
    let q = not_made _ g.met.D.Domain.lawful _ _ _ _ (p.stands.keeps.valid _ c.requires.right) c.not-not_b.ensures in
    q.stands.valid

pub returns-in_err-neither-clause-kept : goal.returns-in_err-neither-clause-kept
returns-in_err-neither-clause-kept g c =
    let p = not_made _ g.met.D.Domain.lawful _ _ _ _ c.requires.left c.not-not_a.ensures in
    let q = not_made _ g.met.D.Domain.lawful _ _ _ _ (p.stands.keeps.valid _ c.requires.right) c.not-not_b.ensures in
    on_err _ _ (keeps_then _ _ _ _ (keeps_then _ _ _ _ p.stands.keeps q.stands.keeps) (keeps_same _ _ _ c.in_err-neither.ensures.unchanged))

pub not-requires : goal.not-requires
not-requires g c =
    let p = not_made _ g.met.D.Domain.lawful _ _ _ _ c.requires.left c.not-not_a.ensures in
    let q = not_made _ g.met.D.Domain.lawful _ _ _ _ (p.stands.keeps.valid _ c.requires.right) c.not-not_b.ensures in
    let x = and_made _ g.met.D.Domain.lawful _ _ _ _ _ (q.stands.keeps.valid _ p.stands.valid) q.stands.valid c.in_ok-neither.ensures.made in
    x.stands.valid

pub returns-clause-built : goal.returns-clause-built
returns-clause-built g c =
    let p = not_made _ g.met.D.Domain.lawful _ _ _ _ c.requires.left c.not-not_a.ensures in
    let q = not_made _ g.met.D.Domain.lawful _ _ _ _ (p.stands.keeps.valid _ c.requires.right) c.not-not_b.ensures in
    let x = and_made _ g.met.D.Domain.lawful _ _ _ _ _ (q.stands.keeps.valid _ p.stands.valid) q.stands.valid c.in_ok-neither.ensures.made in
    let y = not_made _ g.met.D.Domain.lawful _ _ _ _ x.stands.valid c.not.ensures in
    or_made _ _ _ _ _ _ _ _ _ _ _ _ c.requires.left c.requires.right p q x y
