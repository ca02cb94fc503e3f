use Rattle.std.proofs.Common.{◌≡◌, Some, sym, ap, subst}
use Rattle.std.specs.Option.{option_map}
use Rattle.std.proofs.lemmas.Result.{err_from_is_err_and}
use Rattle.cg_cell.specs.Build.{Run}
use Rattle.cg_cell.specs.Domain.{Seen}
use Rattle.cg_machine.specs.Machine.{MachineData}
use Rattle.cg_claim.specs.Build.{Copies, aig_values, enable_run, goal_of}
use Rattle.cg_claim.specs.Question.{Question}
use Rattle.cg_claim.proofs.WholeLists.{goal_of_grows}
use Rattle.cg_claim_reach.specs.declared.asked.Side.{Side as AskedSide}
use Rattle.cg_claim_reach.specs.Asking.{question_of, side_of}
use Rattle.cg_unroll.specs.Building.{Built, MayFail}
use Rattle.cg_unroll.specs.inner.Copying.{copies_of}
use Rattle.cg_unroll.proofs.Building.{built_then, fails_first, fails_then, if_err, if_ok}
use Rattle.cg_unroll.proofs.Sides.{sides_are}
use Rattle.cg_unroll.proofs.goal.goal_literal.Goals as goal

pub returns-in-Some-clause-built : goal.returns-in-Some-clause-built
returns-in-Some-clause-built c =
    let m : MachineData = c.args.machine.now in
    let q : Question = question_of c.args.asked.now in
    let s : Seen = c.args.aig.now in
    let t : Seen = c.enable_literal.new.aig in
    let k : Copies = copies_of c.args.tables.now s in
    let sides : q.sides ≡ Some (side_of c.in-Some.one, side_of c.in-Some.other) = ap (option_map (λ (p : AskedSide × AskedSide). (side_of p.0, side_of p.1))) c.in-Some.is in
    if_ok _ _ c.differing.result (λ v h.
    built_then s t c.differing.new.aig (enable_run aig_values k.nets0 q.enables s) c.in_ok-joined.joined v (λ e u. goal_of aig_values m q k q.sides e u) c.in_ok-joined.ensures.built
    (subst (λ o. Built t c.differing.new.aig v (goal_of aig_values m q k o c.in_ok-joined.joined t)) (sym sides)
    (subst (Built t c.differing.new.aig v) (sides_are m q c.args.tables.now s c.in-Some.one c.in-Some.other c.in_ok-joined.joined t) h))) c.differing.ensures.built

pub returns-in-Some-clause-failed : goal.returns-in-Some-clause-failed
returns-in-Some-clause-failed c =
    let m : MachineData = c.args.machine.now in
    let q : Question = question_of c.args.asked.now in
    let s : Seen = c.args.aig.now in
    let t : Seen = c.enable_literal.new.aig in
    let k : Copies = copies_of c.args.tables.now s in
    let sides : q.sides ≡ Some (side_of c.in-Some.one, side_of c.in-Some.other) = ap (option_map (λ (p : AskedSide × AskedSide). (side_of p.0, side_of p.1))) c.in-Some.is in
    if_err _ _ c.differing.result (λ fault h.
    fails_then s t (enable_run aig_values k.nets0 q.enables s) c.in_ok-joined.joined (λ e u. goal_of aig_values m q k q.sides e u) fault c.in_ok-joined.ensures.built
    (subst (λ o. MayFail (goal_of aig_values m q k o c.in_ok-joined.joined t).domain fault) (sym sides)
    (subst (λ (r : Run). MayFail r.domain fault) (sides_are m q c.args.tables.now s c.in-Some.one c.in-Some.other c.in_ok-joined.joined t) h))) c.differing.ensures.failed

pub returns-in_err-joined-clause-failed : goal.returns-in_err-joined-clause-failed
returns-in_err-joined-clause-failed c =
    let m : MachineData = c.args.machine.now in
    let q : Question = question_of c.args.asked.now in
    let s : Seen = c.args.aig.now in
    let k : Copies = copies_of c.args.tables.now s in
    let r : Run = enable_run aig_values k.nets0 q.enables s in
    let passed = err_from_is_err_and c.from_residual.result c.from_residual.ensures.1 in
    rw (passed.1, passed.2) (fails_first r (λ e u. goal_of aig_values m q k q.sides e u) c.in_err-joined.field-0.0 (goal_of_grows m q k q.sides r.answer r.domain) c.in_err-joined.ensures.failed)
