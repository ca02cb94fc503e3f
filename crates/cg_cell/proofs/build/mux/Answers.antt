use Rattle.std.proofs.lemmas.Result.{IfOk-weaker, on_err_weaker}
use Rattle.cg_cell.proofs.Building.{and_made, keeps_same, keeps_then, not_made}
use Rattle.cg_cell.proofs.Operations.{on_err, mux_made}
use Rattle.cg_cell.proofs.build.mux.Goals as goal

pub and-requires-2-clause-right : goal.and-requires-2-clause-right
and-requires-2-clause-right g c =
    let p = and_made _ g.met.D.Domain.lawful _ _ _ _ _ c.requires.choice c.requires.left c.in_ok-left.ensures.made in
    let q = not_made _ g.met.D.Domain.lawful _ _ _ _ (p.stands.keeps.valid _ c.requires.choice) c.not-not_c.ensures in
    let pq = keeps_then _ _ _ _ p.stands.keeps q.stands.keeps in
    pq.valid _ c.requires.right

pub returns-in_err-right-clause-kept : goal.returns-in_err-right-clause-kept
returns-in_err-right-clause-kept g c =
    let p = and_made _ g.met.D.Domain.lawful _ _ _ _ _ c.requires.choice c.requires.left c.in_ok-left.ensures.made in
    let q = not_made _ g.met.D.Domain.lawful _ _ _ _ (p.stands.keeps.valid _ c.requires.choice) c.not-not_c.ensures in
    let pq = keeps_then _ _ _ _ p.stands.keeps q.stands.keeps in
    on_err _ _ (keeps_then _ _ _ _ pq (keeps_same _ _ _ c.in_err-right.ensures.unchanged))

pub or-requires-clause-left : goal.or-requires-clause-left
or-requires-clause-left g c =
    let p = and_made _ g.met.D.Domain.lawful _ _ _ _ _ c.requires.choice c.requires.left c.in_ok-left.ensures.made in
    let q = not_made _ g.met.D.Domain.lawful _ _ _ _ (p.stands.keeps.valid _ c.requires.choice) c.not-not_c.ensures in
    let pq = keeps_then _ _ _ _ p.stands.keeps q.stands.keeps in
    let k = and_made _ g.met.D.Domain.lawful _ _ _ _ _ q.stands.valid (pq.valid _ c.requires.right) c.in_ok-right.ensures.made in
    k.stands.keeps.valid _ (q.stands.keeps.valid _ p.stands.valid)

pub or-requires-clause-right : goal.or-requires-clause-right
or-requires-clause-right g c =
    let p = and_made _ g.met.D.Domain.lawful _ _ _ _ _ c.requires.choice c.requires.left c.in_ok-left.ensures.made in
    let q = not_made _ g.met.D.Domain.lawful _ _ _ _ (p.stands.keeps.valid _ c.requires.choice) c.not-not_c.ensures in
    let pq = keeps_then _ _ _ _ p.stands.keeps q.stands.keeps in
    let k = and_made _ g.met.D.Domain.lawful _ _ _ _ _ q.stands.valid (pq.valid _ c.requires.right) c.in_ok-right.ensures.made in
    k.stands.valid

pub returns-clause-built : goal.returns-clause-built
returns-clause-built g c =
    let p = and_made _ g.met.D.Domain.lawful _ _ _ _ _ c.requires.choice c.requires.left c.in_ok-left.ensures.made in
    let q = not_made _ g.met.D.Domain.lawful _ _ _ _ (p.stands.keeps.valid _ c.requires.choice) c.not-not_c.ensures in
    let pq = keeps_then _ _ _ _ p.stands.keeps q.stands.keeps in
    let k = and_made _ g.met.D.Domain.lawful _ _ _ _ _ q.stands.valid (pq.valid _ c.requires.right) c.in_ok-right.ensures.made in
    IfOk-weaker _ _ _ (λ v m. mux_made _ _ _ _ _ _ _ _ _ _ _ _ _ c.requires.choice c.requires.left c.requires.right p q k m) c.or.ensures.built

pub returns-clause-kept : goal.returns-clause-kept
returns-clause-kept g c =
    let p = and_made _ g.met.D.Domain.lawful _ _ _ _ _ c.requires.choice c.requires.left c.in_ok-left.ensures.made in
    let q = not_made _ g.met.D.Domain.lawful _ _ _ _ (p.stands.keeps.valid _ c.requires.choice) c.not-not_c.ensures in
    let pq = keeps_then _ _ _ _ p.stands.keeps q.stands.keeps in
    let k = and_made _ g.met.D.Domain.lawful _ _ _ _ _ q.stands.valid (pq.valid _ c.requires.right) c.in_ok-right.ensures.made in
    on_err_weaker _ (λ m. keeps_then _ _ _ _ (keeps_then _ _ _ _ pq k.stands.keeps) m) c.or.ensures.kept

pub not-not_c-requires : goal.not-not_c-requires
not-not_c-requires g c =
    let p = and_made _ g.met.D.Domain.lawful _ _ _ _ _ c.requires.choice c.requires.left c.in_ok-left.ensures.made in
    p.stands.keeps.valid _ c.requires.choice

pub and-requires-2-clause-left : goal.and-requires-2-clause-left
and-requires-2-clause-left g c =
    let p = and_made _ g.met.D.Domain.lawful _ _ _ _ _ c.requires.choice c.requires.left c.in_ok-left.ensures.made in
    let q = not_made _ g.met.D.Domain.lawful _ _ _ _ (p.stands.keeps.valid _ c.requires.choice) c.not-not_c.ensures in
    q.stands.valid
