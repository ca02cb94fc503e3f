use Rattle.std.proofs.lemmas.Result.{IfOk-weaker, on_err_weaker}
use Rattle.cg_cell.proofs.Building.{and_made, keeps_same, keeps_then, not_made}
use Rattle.cg_cell.proofs.Operations.{on_err, xor_made}
use Rattle.cg_cell.proofs.build.xor.Goals as goal

pub and-requires-clause-left : goal.and-requires-clause-left
and-requires-clause-left g c =
    let p = not_made _ g.met.D.Domain.lawful _ _ _ _ c.requires.right c.not-not_b.ensures in
    p.stands.keeps.valid _ c.requires.left

pub not-not_a-requires : goal.not-not_a-requires
not-not_a-requires g c =
    let p = not_made _ g.met.D.Domain.lawful _ _ _ _ c.requires.right c.not-not_b.ensures in
    let q = and_made _ g.met.D.Domain.lawful _ _ _ _ _ (p.stands.keeps.valid _ c.requires.left) p.stands.valid c.in_ok-left.ensures.made in
    let pq = keeps_then _ _ _ _ p.stands.keeps q.stands.keeps in
    pq.valid _ c.requires.left

pub and-requires-2-clause-left : goal.and-requires-2-clause-left
and-requires-2-clause-left g c =
    let p = not_made _ g.met.D.Domain.lawful _ _ _ _ c.requires.right c.not-not_b.ensures in
    let q = and_made _ g.met.D.Domain.lawful _ _ _ _ _ (p.stands.keeps.valid _ c.requires.left) p.stands.valid c.in_ok-left.ensures.made in
    let pq = keeps_then _ _ _ _ p.stands.keeps q.stands.keeps in
    let k = not_made _ g.met.D.Domain.lawful _ _ _ _ (pq.valid _ c.requires.left) c.not-not_a.ensures in
    k.stands.valid

pub and-requires-2-clause-right : goal.and-requires-2-clause-right
and-requires-2-clause-right g c =
    let p = not_made _ g.met.D.Domain.lawful _ _ _ _ c.requires.right c.not-not_b.ensures in
    let q = and_made _ g.met.D.Domain.lawful _ _ _ _ _ (p.stands.keeps.valid _ c.requires.left) p.stands.valid c.in_ok-left.ensures.made in
    let pq = keeps_then _ _ _ _ p.stands.keeps q.stands.keeps in
    let k = not_made _ g.met.D.Domain.lawful _ _ _ _ (pq.valid _ c.requires.left) c.not-not_a.ensures in
    let pqk = keeps_then _ _ _ _ pq k.stands.keeps in
    pqk.valid _ c.requires.right

pub returns-in_err-right-clause-kept : goal.returns-in_err-right-clause-kept
returns-in_err-right-clause-kept g c =
    let p = not_made _ g.met.D.Domain.lawful _ _ _ _ c.requires.right c.not-not_b.ensures in
    let q = and_made _ g.met.D.Domain.lawful _ _ _ _ _ (p.stands.keeps.valid _ c.requires.left) p.stands.valid c.in_ok-left.ensures.made in
    let pq = keeps_then _ _ _ _ p.stands.keeps q.stands.keeps in
    let k = not_made _ g.met.D.Domain.lawful _ _ _ _ (pq.valid _ c.requires.left) c.not-not_a.ensures in
    let pqk = keeps_then _ _ _ _ pq k.stands.keeps in
    on_err _ _ (keeps_then _ _ _ _ pqk (keeps_same _ _ _ c.in_err-right.ensures.unchanged))

pub or-requires-clause-left : goal.or-requires-clause-left
or-requires-clause-left g c =
    let p = not_made _ g.met.D.Domain.lawful _ _ _ _ c.requires.right c.not-not_b.ensures in
    let q = and_made _ g.met.D.Domain.lawful _ _ _ _ _ (p.stands.keeps.valid _ c.requires.left) p.stands.valid c.in_ok-left.ensures.made in
    let pq = keeps_then _ _ _ _ p.stands.keeps q.stands.keeps in
    let k = not_made _ g.met.D.Domain.lawful _ _ _ _ (pq.valid _ c.requires.left) c.not-not_a.ensures in
    let pqk = keeps_then _ _ _ _ pq k.stands.keeps in
    let l = and_made _ g.met.D.Domain.lawful _ _ _ _ _ k.stands.valid (pqk.valid _ c.requires.right) c.in_ok-right.ensures.made in
    l.stands.keeps.valid _ (k.stands.keeps.valid _ q.stands.valid)

pub or-requires-clause-right : goal.or-requires-clause-right
or-requires-clause-right g c =
    let p = not_made _ g.met.D.Domain.lawful _ _ _ _ c.requires.right c.not-not_b.ensures in
    let q = and_made _ g.met.D.Domain.lawful _ _ _ _ _ (p.stands.keeps.valid _ c.requires.left) p.stands.valid c.in_ok-left.ensures.made in
    let pq = keeps_then _ _ _ _ p.stands.keeps q.stands.keeps in
    let k = not_made _ g.met.D.Domain.lawful _ _ _ _ (pq.valid _ c.requires.left) c.not-not_a.ensures in
    let pqk = keeps_then _ _ _ _ pq k.stands.keeps in
    let l = and_made _ g.met.D.Domain.lawful _ _ _ _ _ k.stands.valid (pqk.valid _ c.requires.right) c.in_ok-right.ensures.made in
    l.stands.valid

pub returns-clause-built : goal.returns-clause-built
returns-clause-built g c =
    let p = not_made _ g.met.D.Domain.lawful _ _ _ _ c.requires.right c.not-not_b.ensures in
    let q = and_made _ g.met.D.Domain.lawful _ _ _ _ _ (p.stands.keeps.valid _ c.requires.left) p.stands.valid c.in_ok-left.ensures.made in
    let pq = keeps_then _ _ _ _ p.stands.keeps q.stands.keeps in
    let k = not_made _ g.met.D.Domain.lawful _ _ _ _ (pq.valid _ c.requires.left) c.not-not_a.ensures in
    let pqk = keeps_then _ _ _ _ pq k.stands.keeps in
    let l = and_made _ g.met.D.Domain.lawful _ _ _ _ _ k.stands.valid (pqk.valid _ c.requires.right) c.in_ok-right.ensures.made in
    IfOk-weaker _ _ _ (λ v m. xor_made _ _ _ _ _ _ _ _ _ _ _ _ _ _ c.requires.left c.requires.right p q k l m) c.or.ensures.built

pub returns-clause-kept : goal.returns-clause-kept
returns-clause-kept g c =
    let p = not_made _ g.met.D.Domain.lawful _ _ _ _ c.requires.right c.not-not_b.ensures in
    let q = and_made _ g.met.D.Domain.lawful _ _ _ _ _ (p.stands.keeps.valid _ c.requires.left) p.stands.valid c.in_ok-left.ensures.made in
    let pq = keeps_then _ _ _ _ p.stands.keeps q.stands.keeps in
    let k = not_made _ g.met.D.Domain.lawful _ _ _ _ (pq.valid _ c.requires.left) c.not-not_a.ensures in
    let pqk = keeps_then _ _ _ _ pq k.stands.keeps in
    let l = and_made _ g.met.D.Domain.lawful _ _ _ _ _ k.stands.valid (pqk.valid _ c.requires.right) c.in_ok-right.ensures.made in
    on_err_weaker _ (λ m. keeps_then _ _ _ _ (keeps_then _ _ _ _ pqk l.stands.keeps) m) c.or.ensures.kept
