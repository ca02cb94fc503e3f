use Rattle.std.proofs.Common.{◌∙◌, ap}
use Rattle.std.proofs.lemmas.Bool.{both_ways}
use Rattle.cg_net.specs.NetSets.{is_in, with_nets}
use Rattle.cg_stage_groups.proofs.Fronts.{front_first}
use Rattle.cg_stage_groups.proofs.front.Front.begin.Goals as goal

pub put_ahead-requires : goal.put_ahead-requires
put_ahead-requires c = λ y among. absurd (both_ways (is_in c.clear.new.self.items y) (ap (λ l. is_in l y) c.clear.ensures.items) among)

pub returns : goal.returns
returns c =
    front_first c.args.machine.now c.args.roots.now c.extend.new.self c.put_ahead.new.ahead.items c.requires.own (c.in_ok-extend.ensures ∙ ap (λ l. with_nets l c.args.roots.now) c.requires.empty) c.in_ok-put_ahead.ensures
