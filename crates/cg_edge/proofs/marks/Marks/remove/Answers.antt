use Rattle.std.proofs.Common.{arith}
use Rattle.cg_edge.proofs.Bits.{mark_cleared, seen_within}
use Rattle.cg_edge.proofs.marks.Marks.remove.Goals as goal

pub index_mut-requires : goal.index_mut-requires
index_mut-requires c = let within = seen_within c.self.inside.words.items c.self.inside.count c.args.place c.args.place c.args.self.now c.self.view_is c.requires c.self.invariant in omega (arith, within, c.self.inside.words.ok.0)

pub invariant_of-self : goal.invariant_of-self
invariant_of-self c = (mark_cleared c.self.inside.words.items c.self.inside.count c.args.place c.index_mut.result.now c.args.self.now c.self.view_is c.requires c.self.invariant c.index_mut.ensures.value).0

pub returns : goal.returns
returns c = (mark_cleared c.self.inside.words.items c.self.inside.count c.args.place c.index_mut.result.now c.args.self.now c.self.view_is c.requires c.self.invariant c.index_mut.ensures.value).1
