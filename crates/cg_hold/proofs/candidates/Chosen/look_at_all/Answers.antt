use Rattle.std.proofs.Common.{◌≡◌, ◌+◌, Err, length, rules, ◌∙◌, ap, subst, arith}
use Rattle.std.specs.Option.{option_copied}
use Rattle.cg_stage_groups.proofs.Listed.{own_count}
use Rattle.cg_netlist.specs.Circuit.{Circuit}
use Rattle.cg_hold.specs.inner.Choosing.{AreChosen}
use Rattle.cg_hold.proofs.Taken.{refused_known}
use Rattle.cg_hold.proofs.candidates.Chosen.look_at_all.Goals as goal

pub look-requires-clause-register : goal.look-requires-clause-register
look-requires-clause-register g c =
    let m = c.args.search.now.machine.now in
    let count : c.registers-registers.result ≡ m.own_registers = c.registers-registers.ensures.count ∙ (ap (λ (n : Circuit). length n.registers) c.netlist.ensures.netlist ∙ own_count m c.netlist.ensures.machine) in
    omega (arith, count, c.new.ensures, c.loop-reg-test.true)

pub returns-in_err-look-clause-refused : goal.returns-in_err-look-clause-refused
returns-in_err-look-clause-refused g c =
    let m = c.args.search.now.machine.now in
    let count : c.registers-registers.result ≡ m.own_registers = c.registers-registers.ensures.count ∙ (ap (λ (n : Circuit). length n.registers) c.netlist.ensures.netlist ∙ own_count m c.netlist.ensures.machine) in
    let fault = c.in_err-look.field-0.0 in
    let same : c.from_residual.result ≡ Err fault = search rules in
    rw same (refused_known m (option_copied c.args.search.now.counts) c.args.search.now.width c.new.result (omega (arith, count, c.new.ensures, c.loop-reg-test.true)) fault c.in_err-look.ensures.refused)

pub loop-reg-preserved : goal.loop-reg-preserved
loop-reg-preserved g c =
    subst (λ n. AreChosen c.args.search.now.machine.now (option_copied c.args.search.now.counts) c.args.search.now.width (n + 1) c.look.new.self.lists.items c.look.new.self.wide) c.new.ensures c.in_ok-look.ensures.chosen

pub returns-clause-chosen : goal.returns-clause-chosen
returns-clause-chosen g c =
    let m = c.args.search.now.machine.now in
    let count : c.registers-registers.result ≡ m.own_registers = c.registers-registers.ensures.count ∙ (ap (λ (n : Circuit). length n.registers) c.netlist.ensures.netlist ∙ own_count m c.netlist.ensures.machine) in
    let all : c.loop-reg.reg ≡ m.own_registers = omega (arith, count, c.loop-reg-test.false, c.loop-reg.auto.reg-end) in
    subst (λ n. AreChosen m (option_copied c.args.search.now.counts) c.args.search.now.width n c.loop-reg.self.lists.items c.loop-reg.self.wide) all c.loop-reg.invariant
