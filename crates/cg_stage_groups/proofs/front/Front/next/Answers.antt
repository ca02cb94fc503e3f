use Rattle.std.proofs.Common.{◌++◌, ◌∙◌, ap}
use Rattle.std.specs.Option.{option_to_list}
use Rattle.cg_stage_groups.proofs.Fronts.{fewer_among, fewer_front, taken_among}
use Rattle.cg_stage_groups.proofs.front.Front.next.Goals as goal

pub look_behind-requires-clause-ahead : goal.look_behind-requires-clause-ahead
look_behind-requires-clause-ahead c = fewer_among c.args.self.now.ahead.items c.pop.new.self.items c.args.self.now.found c.pop.result c.pop.ensures.items c.requires.ahead

pub look_behind-requires-clause-net : goal.look_behind-requires-clause-net
look_behind-requires-clause-net c =
    taken_among c.args.self.now.ahead.items c.pop.new.self.items c.args.self.now.found c.in-Some.net (c.pop.ensures.items ∙ ap (λ o. c.pop.new.self.items ++ option_to_list o) c.in-Some.is) c.requires.ahead

pub returns-in_ok-look_behind-in-Some-clause-front : goal.returns-in_ok-look_behind-in-Some-clause-front
returns-in_ok-look_behind-in-Some-clause-front c = λ roots front.
    c.in_ok-look_behind-in-Some.ensures.front roots (fewer_front c.args.machine.now roots c.args.self.now.found c.args.self.now.ahead.items c.pop.new.self.items c.pop.result c.pop.ensures.items front)

pub returns-in-None-clause-front : goal.returns-in-None-clause-front
returns-in-None-clause-front c = λ roots front. fewer_front c.args.machine.now roots c.args.self.now.found c.args.self.now.ahead.items c.pop.new.self.items c.pop.result c.pop.ensures.items front
