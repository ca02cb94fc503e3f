use Rattle.std.proofs.Common.{◌≡◌, ℕ, List, slice_get, Some, refl, subst, ap, ◌∙◌, arith}
use Rattle.cg_netlist.specs.Circuit.{RegisterCell}
use Rattle.cg_netlist.proofs.Values.{element_at}
use Rattle.cg_edge.specs.inner.Stepped.{AreStepped}
use Rattle.cg_edge.proofs.Stepped.{stepped_more}
use Rattle.cg_edge.proofs.register_step.move_run.Goals as goal

pub loop-k-init : goal.loop-k-init
loop-k-init c = (λ now was rise stepped. stepped, c.requires.marked, refl)

pub loop-k-preserved : goal.loop-k-preserved
loop-k-preserved c =
    let n = c.args.schedule.now.netlist.now in
    let rs : List (RegisterCell ℕ ℕ) = n.registers in
    let k : ℕ = c.loop-k.k in
    let r : (r : RegisterCell ℕ ℕ) × (slice_get rs k ≡ Some r) = element_at rs k (omega (arith, c.requires.registers, c.loop-k-test.true)) in
    let there : slice_get rs c.new.result ≡ Some r.0 = ap (slice_get rs) c.new.ensures ∙ r.1 in (
      λ now was rise stepped.
          stepped_more n c.requires.schedule.netlist.well_formed c.args.before.now now was k r.0 c.move_register-bit.result c.loop-k.nets c.loop-k.state c.loop-k.rose c.move_register-bit.new.nets r.1
          (rise k r.0 (omega (arith, c.loop-k.auto.k)) c.loop-k-test.true r.1) (c.move_register-bit.ensures.value r.0 there) (c.move_register-bit.ensures.same r.0 there) (c.move_register-bit.ensures.shown r.0 there) (c.loop-k.invariant.0 now was rise stepped),
      c.move_register-bit.ensures.marked,
      c.move_register-bit.ensures.long ∙ c.loop-k.invariant.2,
    )

pub returns-clause-stepped : goal.returns-clause-stepped
returns-clause-stepped c now was rise stepped =
    let all : c.loop-k.k ≡ c.args.end = omega (arith, c.requires.order, c.loop-k-test.false, c.loop-k.auto.k) in
    subst (λ k. AreStepped c.args.schedule.now.netlist.now c.args.before.now now was k c.loop-k.nets c.loop-k.state c.loop-k.rose) all (c.loop-k.invariant.0 now was rise stepped)
