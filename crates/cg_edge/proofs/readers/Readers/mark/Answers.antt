use Rattle.std.proofs.Common.{◌<◌, length, sym, subst}
use Rattle.std.specs.List.{All}
use Rattle.cg_net.proofs.Members.{All-from_members}
use Rattle.cg_edge.specs.inner.Keeping.{readers_at}
use Rattle.cg_edge.proofs.readers.Readers.mark.Goals as goal

pub mark_all-requires : goal.mark_all-requires
mark_all-requires c = subst (All (λ p. p < length c.args.marks.now)) (sym c.of.ensures) (All-from_members (λ p. p < length c.args.marks.now) (readers_at c.args.self.now c.args.net) c.requires.marks)
