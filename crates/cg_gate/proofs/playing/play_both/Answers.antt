use Rattle.std.proofs.Common.{Option, ap}
use Rattle.std.specs.Option.{option_copied, option_map}
use Rattle.cg_gate.proofs.Answering.{unplayed}
use Rattle.cg_gate.specs.Played.{Saying}
use Rattle.cg_gate.proofs.playing.play_both.Goals as goal

pub returns-in-None : goal.returns-in-None
returns-in-None g c =
    let says : Option Saying = option_map (λ w. (goal.Watcher-dyn g (w.vtable, w.value)).says w.value) c.args.watcher in
    unplayed says (option_copied c.args.stimulus) c.args.read.now c.args.written.now (ap option_copied c.in-None.is)
