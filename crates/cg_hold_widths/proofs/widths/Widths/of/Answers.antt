use Rattle.std.proofs.Common.{◌≡◌, ◌+◌, ◌-◌, ◌++◌, ℕ, List, map, take, drop, sym, ap, ◌∙◌, arith}
use Rattle.std.proofs.Math.Seq.{take-add}
use Rattle.std.proofs.lemmas.List.{map-append}
use Rattle.cg_machine.specs.Machine.{MachineData}
use Rattle.cg_stage_list_laws.specs.HoldList.{hold_width}
use Rattle.cg_hold_widths.proofs.widths.Widths.of.Goals as goal

pub loop-next-preserved : goal.loop-next-preserved
loop-next-preserved c =
    let m : MachineData = c.args.machine.now in
    let regs : List ℕ = c.args.regs.now in
    let next : ℕ = c.loop-next.next in
    let past : ℕ = c.min-past.result in
    let group : List ℕ = take (past - next) (drop next regs) in
    let sum : past ≡ next + (past - next) = omega (arith, c.min-past.ensures, c.loop-next-test.true) in
    let parts : take past regs ≡ take next regs ++ group = ap (λ n. take n regs) sum ∙ take-add next (past - next) regs in
    record {
      within = omega (arith, c.min-past.ensures);
      widths =
          c.in_ok-push_group.ensures ∙ (ap (λ l. l ++ map (hold_width m) group) c.loop-next.invariant.widths
          ∙ (sym (map-append (hold_width m) (take next regs) group) ∙ ap (map (hold_width m)) (sym parts)));
    }
