use Rattle.std.proofs.Common.{◌≡◌, ◌+◌, ℕ, List, refl, sym, subst, ap, ◌∙◌, slice_get, Some, arith}
use Rattle.cg_netlist.specs.Circuit.{RegisterCell}
use Rattle.cg_netlist.proofs.Values.{element_at}
use Rattle.cg_netlist.specs.View.{register_seen}
use Rattle.std.proofs.lemmas.Option.{same_Some}
use Rattle.cg_edge.specs.declared.runs.Run.{Run}
use Rattle.cg_edge.proofs.InRuns.{AreBegun, begun_all, begun_end, begun_none, begun_on}
use Rattle.cg_edge.proofs.runs.runs.Goals as goal
use Rattle.cg_edge.proofs.runs.runs.Goals.{then-ends_run+in_ok-push, else-ends_run}

pub loop-k-init : goal.loop-k-init
loop-k-init c = begun_none c.args.netlist.now.registers c.new-runs.result.items c.new-runs.ensures.items

pub loop-k-preserved : goal.loop-k-preserved
loop-k-preserved c =
    let rs : List (RegisterCell ℕ ℕ) = c.args.netlist.now.registers in
    let k : ℕ = c.loop-k.k in
    let r : (r : RegisterCell ℕ ℕ) × (slice_get rs k ≡ Some r) = element_at rs k (omega (arith, c.registers-k-end.ensures.count, c.loop-k-test.true)) in
    elim c.if-ends_run.branch [
      | then-ends_run+in_ok-push w ↦
          let run : Run = record { clock = w.register-clock.result.clock; end = k + 1 } in
          let same : register_seen w.register-clock.result ≡ r.0 = same_Some (register_seen w.register-clock.result) r.0 (sym w.register-clock.ensures ∙ (ap (slice_get rs) w.new.ensures ∙ r.1)) in
          subst (λ v. AreBegun rs (k + 1) v.items) (sym w.runs-is) (subst (AreBegun rs (k + 1)) (sym w.in_ok-push.ensures.items) (begun_end rs k r.0 run c.loop-k.runs.items r.1 (ap (λ (x : RegisterCell ℕ ℕ). x.clock) same) refl c.loop-k.invariant))
      | else-ends_run w ↦
          subst (λ v. AreBegun rs (k + 1) v.items) (sym w.runs-is) (begun_on rs k r.0 c.loop-k.runs.items r.1 (c.ends_run.ensures r.0 w.if-ends_run.false r.1) c.loop-k.invariant)
    ]

pub returns : goal.returns
returns c = begun_all c.args.netlist.now.registers c.loop-k.k c.loop-k.runs.items (omega (arith, c.registers-k-end.ensures.count, c.loop-k-test.false, c.loop-k.auto.k-end)) c.loop-k.invariant
