use Rattle.std.proofs.Common.{◌≡◌, false, Some, MatchOption, slice_get, subst}
use Rattle.cg_net.specs.Names.{is_known}
use Rattle.cg_net.proofs.NameLemmas.{found_name}
use Rattle.cg_net.proofs.names.NetNames.find.Goals as goal

pub returns : goal.returns
returns c = subst (λ names. MatchOption c.get_index_of.result (is_known names c.args.name.now ≡ false) (λ i. slice_get names i ≡ Some c.args.name.now)) c.self.view_is (found_name c.self.inside.set.keys c.args.name.now c.get_index_of.result c.get_index_of.ensures.index c.get_index_of.ensures.found c.get_index_of.ensures.within)
