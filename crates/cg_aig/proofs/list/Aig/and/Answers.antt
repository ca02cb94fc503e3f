use Rattle.std.proofs.Common.{◌≡◌, IsTrue, None, Some, refl, subst, sym}
use Rattle.std.proofs.lemmas.Result.{IfErr-weaker, IfOk-weaker}
use Rattle.cg_cell.specs.Domain.{Makes, Seen}
use Rattle.cg_aig.specs.Aig.{aig_and, aig_ops, in_order, simple}
use Rattle.cg_aig.specs.Limits.{AndRefuses}
use Rattle.cg_aig.proofs.Ands.{and_refused, and_stands, by_node, by_simple, put_sound}
use Rattle.cg_aig.proofs.list.Aig.and.Goals as goal

pub invariant_of-self : goal.invariant_of-self
invariant_of-self c =
    let old : Seen = record { number = c.self.inside.leaves; pairs = c.self.inside.pairs.keys } in
    let new : Seen = record { number = c.self.inside.leaves; pairs = c.put_pair.new.pairs.keys } in
    let view : old ≡ c.args.self.now = c.self.view_is in
    let e : simple c.args.a c.args.b ≡ None = cc in
    let f : c.ordered-pair.result ≡ in_order c.args.a c.args.b = cc in
    record {
      sound = put_sound old new c.args.a c.args.b c.ordered-pair.result c.put_pair.result
          (subst (λ s. IsTrue (aig_ops.is_valid s c.args.a)) (sym view) c.requires.left)
          (subst (λ s. IsTrue (aig_ops.is_valid s c.args.b)) (sym view) c.requires.right)
          e f refl c.put_pair.ensures.made c.put_pair.ensures.unchanged;
      small = c.put_pair.ensures.small;
    }

pub returns-in-Some-clause-stands : goal.returns-in-Some-clause-stands
returns-in-Some-clause-stands c =
    let e : simple c.args.a c.args.b ≡ Some c.of.result = cc in
    and_stands c.args.self.now c.args.self.now c.args.a c.args.b c.of.result c.requires.left c.requires.right
    (by_simple c.args.self.now c.args.a c.args.b c.of.result e)

pub returns-in-None-clause-made : goal.returns-in-None-clause-made
returns-in-None-clause-made c =
    let old : Seen = record { number = c.self.inside.leaves; pairs = c.self.inside.pairs.keys } in
    let new : Seen = record { number = c.self.inside.leaves; pairs = c.put_pair.new.pairs.keys } in
    let view : old ≡ c.args.self.now = c.self.view_is in
    let e : simple c.args.a c.args.b ≡ None = cc in
    let f : c.ordered-pair.result ≡ in_order c.args.a c.args.b = cc in
    IfOk-weaker _ _ _
    (λ v m. subst (λ s. Makes s (aig_and s c.args.a c.args.b) new v) view (by_node old new c.args.a c.args.b v c.ordered-pair.result e f m))
    c.put_pair.ensures.made

pub returns-in-None-clause-stands : goal.returns-in-None-clause-stands
returns-in-None-clause-stands c =
    let new : Seen = record { number = c.self.inside.leaves; pairs = c.put_pair.new.pairs.keys } in
    IfOk-weaker _ _ _
    (λ v m. and_stands c.args.self.now new c.args.a c.args.b v c.requires.left c.requires.right m)
    (returns-in-None-clause-made c)

pub returns-in-None-clause-refused : goal.returns-in-None-clause-refused
returns-in-None-clause-refused c =
    let old : Seen = record { number = c.self.inside.leaves; pairs = c.self.inside.pairs.keys } in
    let view : old ≡ c.args.self.now = c.self.view_is in
    let e : simple c.args.a c.args.b ≡ None = cc in
    let f : c.ordered-pair.result ≡ in_order c.args.a c.args.b = cc in
    IfErr-weaker _ _ _
    (λ fault h. subst (λ s. AndRefuses s c.args.a c.args.b fault) view (and_refused old c.args.a c.args.b c.ordered-pair.result fault e f h))
    c.put_pair.ensures.refused
