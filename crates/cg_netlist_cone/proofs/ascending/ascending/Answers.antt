use Rattle.std.proofs.Common.{nat_eq}
use Rattle.std.proofs.lemmas.List.Filters.{dedup_is}
use Rattle.cg_netlist.proofs.RisingNumbers.{rising_is}
use Rattle.cg_netlist_cone.proofs.ascending.ascending.Goals as goal

pub returns : goal.returns
returns c = λ n below.
    rising_is c.args.numbers.items c.sort_unstable.new.self.items c.dedup.new.self.items n c.sort_unstable.ensures.permutation c.sort_unstable.ensures.sorted
    (dedup_is nat_eq c.sort_unstable.new.self.items c.dedup.new.self.items c.dedup.ensures.filtered) below
