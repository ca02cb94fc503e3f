use Rattle.std.proofs.Common.{◌<◌, ℕ, List, sym, subst, arith}
use Rattle.std.specs.List.{All}
use Rattle.cg_machine.specs.Machine.{MachineData}
use Rattle.cg_net.proofs.Members.{All-from_members}
use Rattle.cg_claim_reach.specs.Fanout.{Knows}
use Rattle.cg_stage_laws.specs.Joined.{enabled}
use Rattle.cg_plan.proofs.Noted.{grown}
use Rattle.cg_plan.proofs.insert.insert.Goals as goal

pub give_enable-requires-clause-registers : goal.give_enable-requires-clause-registers
give_enable-requires-clause-registers c =
    let n = c.add_net.new.machine in
    let own = c.in_ok-net.ensures.keeps.extends.own in
    subst (All (λ r. r < n.own_registers)) (sym c.as_slice-regs.ensures.parts) (All-from_members (λ r. r < n.own_registers) c.args.stage.now.regs (λ r among. let b = c.requires.fits.registers r among in omega (arith, b, own)))

pub returns-clause-knows : goal.returns-clause-knows
returns-clause-knows c =
    let m = c.args.machine.now in
    let n = c.add_net.new.machine in
    let regs : List ℕ = c.as_slice-regs.result.now in
    subst (λ (o : MachineData). Knows o c.note_enable.new.self) (sym c.give_enable.ensures)
    (c.in_ok-note_enable.ensures m (enabled (record { machine = n; net = c.in_ok-net.net }) regs) c.requires.knows (grown m c.args.stage.now regs n c.in_ok-net.net c.in_ok-net.ensures.added c.in_ok-net.ensures.keeps))
