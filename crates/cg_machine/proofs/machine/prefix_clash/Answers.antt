use Rattle.std.proofs.Common.{◌≡◌, ℕ, suc, ◌+◌, List, Some, nat_eq, slice_get, drop, refl, sym, ap, ◌∙◌, arith}
use Rattle.std.specs.List.{position_from, starts_with}
use Rattle.cg_machine.specs.Start.{begins}
use Rattle.cg_machine.proofs.Lists.{search_here, search_on}
use Rattle.cg_machine.proofs.machine.prefix_clash.Goals as goal

pub loop-number-init : goal.loop-number-init
loop-number-init c = refl

pub returns-then-starts_with : goal.returns-then-starts_with
returns-then-starts_with c =
    let names : List (List ℕ) = c.args.netlist.now.names in
    let at : slice_get names c.loop-number.number ≡ Some c.name.result.now = ap (slice_get names) (sym c.new-net.ensures) ∙ c.name.ensures in
    let is = ap (starts_with nat_eq c.name.result.now) (sym c.bytes.ensures.bytes) ∙ (sym c.starts_with.ensures.value ∙ c.if-starts_with.true) in
    ap Some c.new-net.ensures ∙ (sym (search_here (begins c.args.prefix.now) c.loop-number.number names c.loop-number.number c.name.result.now at is) ∙ c.loop-number.invariant)

pub loop-number-preserved : goal.loop-number-preserved
loop-number-preserved c =
    let names : List (List ℕ) = c.args.netlist.now.names in
    let n : ℕ = c.loop-number.number in
    let at : slice_get names n ≡ Some c.name.result.now = ap (slice_get names) (sym c.new-net.ensures) ∙ c.name.ensures in
    let is = ap (starts_with nat_eq c.name.result.now) (sym c.bytes.ensures.bytes) ∙ (sym c.starts_with.ensures.value ∙ c.if-starts_with.false) in
    let next : n + 1 ≡ suc n = omega arith in
    ap (λ k. position_from (begins c.args.prefix.now) (n + 1) (drop k names)) next
    ∙ (sym (search_on (begins c.args.prefix.now) n names n c.name.result.now at is) ∙ c.loop-number.invariant)
