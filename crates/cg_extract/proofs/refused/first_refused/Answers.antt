use Rattle.std.proofs.Common.{◌≡◌, ℕ, suc, ◌+◌, Some, slice_get, drop, sym, ap, ◌∙◌, arith}
use Rattle.std.specs.List.{position_from}
use Rattle.cg_machine.proofs.Lists.{search_here, search_on}
use Rattle.cg_netlist.proofs.Values.{element_at}
use Rattle.cg_extract.specs.Lifted.{is_refused}
use Rattle.cg_extract.proofs.refused.first_refused.Goals as goal

pub returns-then-is_refused : goal.returns-then-is_refused
returns-then-is_refused c =
    let netlist = c.args.netlist.now in
    let refused = is_refused netlist c.args.and2 in
    let n : ℕ = c.loop-number.number in
    let g = element_at netlist.gaters n (omega (arith, c.loop-number-test.true, c.gaters-number-end.ensures.count)) in
    let is = sym (c.is_refused.ensures g.0 (ap (slice_get netlist.gaters) c.new-id.ensures ∙ g.1)) ∙ c.if-is_refused.true in
    ap Some c.new-id.ensures ∙ (sym (search_here refused n netlist.gaters n g.0 g.1 is) ∙ c.loop-number.invariant)

pub loop-number-preserved : goal.loop-number-preserved
loop-number-preserved c =
    let netlist = c.args.netlist.now in
    let refused = is_refused netlist c.args.and2 in
    let n : ℕ = c.loop-number.number in
    let g = element_at netlist.gaters n (omega (arith, c.loop-number-test.true, c.gaters-number-end.ensures.count)) in
    let is = sym (c.is_refused.ensures g.0 (ap (slice_get netlist.gaters) c.new-id.ensures ∙ g.1)) ∙ c.if-is_refused.false in
    let next : n + 1 ≡ suc n = omega arith in
    ap (λ k. position_from refused (n + 1) (drop k netlist.gaters)) next ∙ (sym (search_on refused n netlist.gaters n g.0 g.1 is) ∙ c.loop-number.invariant)
