use Rattle.std.proofs.Common.{◌≡◌, ◌+◌, ◌<◌, ◌≤◌, ◌∷◌, ◌&&◌, ℕ, Bool, List, drop, length, not, slice_get, Some, refl, sym, subst, ap, ◌∙◌, arith, true, false}
use Rattle.std.proofs.lemmas.Option.{slice_get_read}
use Rattle.cg_netlist.specs.Circuit.{RegisterCell}
use Rattle.cg_edge.specs.declared.runs.Run.{Run}
use Rattle.cg_edge.specs.inner.Keeping.{AreMarked, walk_of}
use Rattle.cg_edge.specs.inner.Stepped.{AreStepped}
use Rattle.cg_edge.proofs.Facts.{clock_net_within}
use Rattle.cg_edge.proofs.InRuns.{run_clocked, run_here, runs_done}
use Rattle.cg_edge.proofs.Stepped.{run_rises, stepped_none, stepped_past, stepped_rose, stepped_shown, stepped_state}
use Rattle.cg_edge.proofs.register_step.step.Goals as goal
use Rattle.cg_edge.proofs.register_step.step.Goals.{then-rises, else-rises}

pub loop-run-init : goal.loop-run-init
loop-run-init c =
    let n = c.args.schedule.now.netlist.now in (
      c.requires.schedule.runs,
      stepped_none n c.requires.schedule.netlist.well_formed c.args.before.now c.args.nets.now c.args.state.now c.clear.new.bits c.requires.state c.requires.nets (c.clear.ensures ∙ ap (λ l. Rattle.std.proofs.Common.replicate l false) c.requires.rose) c.requires.shown,
      c.requires.marked,
      refl,
    )

pub rises-requires-clause-before : goal.rises-requires-clause-before
rises-requires-clause-before c =
    let n = c.args.schedule.now.netlist.now in
    let good = c.requires.schedule.netlist.well_formed in
    let runs : List Run = c.args.schedule.now.runs.items in
    let i : ℕ = c.loop-run.run-index in
    let run : Run = c.run-item.result in
    let at : slice_get runs i ≡ Some run = subst (λ l. slice_get l i ≡ Some run) c.as_slice-run-items.ensures.value (slice_get_read c.as_slice-run-items.result.now (length c.as_slice-run-items.result.now) i run refl c.loop-run-test.true c.run-item.is) in
    let here = run_here n.registers c.loop-run.first (length n.registers) i runs run at c.loop-run.invariant.0 in
    clock_net_within n good (length c.args.before.now) c.requires.before run.clock (run_clocked n good c.loop-run.first run here.0 here.2)

pub rises-requires-clause-nets : goal.rises-requires-clause-nets
rises-requires-clause-nets c =
    let n = c.args.schedule.now.netlist.now in
    let good = c.requires.schedule.netlist.well_formed in
    let runs : List Run = c.args.schedule.now.runs.items in
    let i : ℕ = c.loop-run.run-index in
    let run : Run = c.run-item.result in
    let at : slice_get runs i ≡ Some run = subst (λ l. slice_get l i ≡ Some run) c.as_slice-run-items.ensures.value (slice_get_read c.as_slice-run-items.result.now (length c.as_slice-run-items.result.now) i run refl c.loop-run-test.true c.run-item.is) in
    let here = run_here n.registers c.loop-run.first (length n.registers) i runs run at c.loop-run.invariant.0 in
    clock_net_within n good (length c.loop-run.nets) (c.loop-run.auto.nets ∙ c.requires.nets) run.clock (run_clocked n good c.loop-run.first run here.0 here.2)

pub move_run-requires-clause-registers : goal.move_run-requires-clause-registers
move_run-requires-clause-registers c =
    let n = c.args.schedule.now.netlist.now in
    let good = c.requires.schedule.netlist.well_formed in
    let runs : List Run = c.args.schedule.now.runs.items in
    let i : ℕ = c.loop-run.run-index in
    let run : Run = c.run-item.result in
    let at : slice_get runs i ≡ Some run = subst (λ l. slice_get l i ≡ Some run) c.as_slice-run-items.ensures.value (slice_get_read c.as_slice-run-items.result.now (length c.as_slice-run-items.result.now) i run refl c.loop-run-test.true c.run-item.is) in
    let here = run_here n.registers c.loop-run.first (length n.registers) i runs run at c.loop-run.invariant.0 in
    here.2

pub loop-run-preserved : goal.loop-run-preserved
loop-run-preserved c =
    let n = c.args.schedule.now.netlist.now in
    let good = c.requires.schedule.netlist.well_formed in
    let runs : List Run = c.args.schedule.now.runs.items in
    let i : ℕ = c.loop-run.run-index in
    let run : Run = c.run-item.result in
    let at : slice_get runs i ≡ Some run = subst (λ l. slice_get l i ≡ Some run) c.as_slice-run-items.ensures.value (slice_get_read c.as_slice-run-items.result.now (length c.as_slice-run-items.result.now) i run refl c.loop-run-test.true c.run-item.is) in
    let here = run_here n.registers c.loop-run.first (length n.registers) i runs run at c.loop-run.invariant.0 in
    let before : List Bool = c.args.before.now in
    let now : List Bool = c.args.nets.now in
    let was : List Bool = c.args.state.now in
    let e : ℕ = c.loop-run.first in
    let cur : List Bool = c.loop-run.nets in
    let rise = run_rises n good before now was e run c.rises.result cur c.loop-run.state c.loop-run.rose here.0 here.2 c.loop-run.invariant.1 c.rises.ensures in
    elim c.if-rises.branch [
      | then-rises w ↦
          let up = λ (j : ℕ) (r : RegisterCell ℕ ℕ) (past : e ≤ j) (below : j < run.end) (is : slice_get n.registers j ≡ Some r). rise j r past below is ∙ w.if-rises.true in
          let moved : AreStepped n before now was run.end w.move_run.new.nets w.move_run.new.state w.move_run.new.rose = w.move_run.ensures.stepped now was up c.loop-run.invariant.1 in (
            here.1,
            subst (λ nets. AreStepped n before now was run.end nets c.if-rises.state c.if-rises.rose) (sym w.nets-is)
                (subst (λ state. AreStepped n before now was run.end w.move_run.new.nets state c.if-rises.rose) (sym w.state-is)
                (subst (λ rose. AreStepped n before now was run.end w.move_run.new.nets w.move_run.new.state rose) (sym w.rose-is) moved)),
            subst (λ nets. AreMarked (walk_of n) c.if-rises.marks nets) (sym w.nets-is) (subst (λ marks. AreMarked (walk_of n) marks w.move_run.new.nets) (sym w.marks-is) w.move_run.ensures.marked),
            ap length w.marks-is ∙ (w.move_run.ensures.long ∙ c.loop-run.invariant.3),
          )
      | else-rises w ↦
          let still = λ (j : ℕ) (r : RegisterCell ℕ ℕ) (past : e ≤ j) (below : j < run.end) (is : slice_get n.registers j ≡ Some r). rise j r past below is ∙ w.if-rises.false in
          let kept : AreStepped n before now was run.end cur c.loop-run.state c.loop-run.rose = stepped_past n good before now was e run.end cur c.loop-run.state c.loop-run.rose (let some = here.0.some in omega (arith, some)) here.2 still c.loop-run.invariant.1 in (
            here.1,
            subst (λ nets. AreStepped n before now was run.end nets c.if-rises.state c.if-rises.rose) (sym w.nets-is)
                (subst (λ state. AreStepped n before now was run.end cur state c.if-rises.rose) (sym w.state-is)
                (subst (λ rose. AreStepped n before now was run.end cur c.loop-run.state rose) (sym w.rose-is) kept)),
            subst (λ nets. AreMarked (walk_of n) c.if-rises.marks nets) (sym w.nets-is) (subst (λ marks. AreMarked (walk_of n) marks cur) (sym w.marks-is) c.loop-run.invariant.2),
            ap length w.marks-is ∙ c.loop-run.invariant.3,
          )
    ]

pub returns-clause-state : goal.returns-clause-state
returns-clause-state c =
    let n = c.args.schedule.now.netlist.now in
    let done = runs_done n.registers c.loop-run.first (length n.registers) c.loop-run.run-index c.args.schedule.now.runs.items (let same = ap length c.as_slice-run-items.ensures.value in omega (arith, same, c.loop-run-test.false)) c.loop-run.invariant.0 in
    stepped_state n c.requires.schedule.netlist.well_formed c.args.before.now c.args.nets.now c.args.state.now c.loop-run.first c.loop-run.nets c.loop-run.state c.loop-run.rose (omega (arith, done)) c.loop-run.invariant.1

pub returns-clause-rose : goal.returns-clause-rose
returns-clause-rose c =
    let n = c.args.schedule.now.netlist.now in
    let done = runs_done n.registers c.loop-run.first (length n.registers) c.loop-run.run-index c.args.schedule.now.runs.items (let same = ap length c.as_slice-run-items.ensures.value in omega (arith, same, c.loop-run-test.false)) c.loop-run.invariant.0 in
    stepped_rose n c.requires.schedule.netlist.well_formed c.args.before.now c.args.nets.now c.args.state.now c.loop-run.first c.loop-run.nets c.loop-run.state c.loop-run.rose (omega (arith, done)) c.loop-run.invariant.1

pub returns-clause-shown : goal.returns-clause-shown
returns-clause-shown c = stepped_shown c.args.schedule.now.netlist.now c.requires.schedule.netlist.well_formed c.args.before.now c.args.nets.now c.args.state.now c.loop-run.first c.loop-run.nets c.loop-run.state c.loop-run.rose c.loop-run.invariant.1
