use Rattle.cg_stage_laws.proofs.Appended.{delay_keeps}
use Rattle.cg_plan.proofs.Adding.{delay_err, delay_ok}
use Rattle.cg_plan.proofs.insert.add_delay.Goals as goal

pub returns : goal.returns
returns c =
    let m = c.args.machine.now in
    let n = c.add_delay.new.self in
    record {
      added = delay_ok m n c.args.net c.add_delay.result c.add_delay.ensures.answer c.add_delay.ensures.there;
      fault = delay_err m n c.args.net c.add_delay.result c.add_delay.ensures.answer;
      keeps = delay_keeps m n c.args.net c.add_delay.result c.netlist-netlist.ensures.machine c.add_delay.ensures.answer c.add_delay.ensures.there c.add_delay.ensures.unchanged;
    }
