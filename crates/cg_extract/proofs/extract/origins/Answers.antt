use Rattle.std.proofs.Common.{◌≡◌, ◌++◌, ◌∷◌, [], ℕ, List, Option, Some, slice_get, ap, sym, ◌∙◌, arith}
use Rattle.std.proofs.lemmas.List.{take_all}
use Rattle.cg_net.proofs.TableLemmas.{take_next}
use Rattle.cg_extract.specs.Lifted.{origins}
use Rattle.cg_extract.proofs.Origins.{origin_at, origins_long}
use Rattle.cg_extract.proofs.extract.origins.Goals as goal

pub loop-number-preserved : goal.loop-number-preserved
loop-number-preserved c =
    let all : List (Option ℕ) = origins c.args.netlist.now c.args.machine.now in
    let k : ℕ = c.loop-number.number in
    let at : slice_get all k ≡ Some c.origin.result = origin_at c.args.netlist.now c.args.machine.now c.requires k (omega (arith, c.loop-number-test.true, c.nets-number-end.ensures)) ∙ ap Some (sym c.origin.ensures) in
    c.in_ok-push.ensures.items ∙ (ap (λ nets. nets ++ c.origin.result ∷ []) c.loop-number.invariant ∙ sym (take_next all k c.origin.result at))

pub returns : goal.returns
returns c =
    let all : List (Option ℕ) = origins c.args.netlist.now c.args.machine.now in
    c.loop-number.invariant ∙ take_all c.loop-number.number all (let long = origins_long c.args.netlist.now c.args.machine.now c.requires in omega (arith, long, c.loop-number-test.false, c.nets-number-end.ensures))
