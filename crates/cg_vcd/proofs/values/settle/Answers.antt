use Rattle.std.proofs.Common.{◌≡◌, ◌+◌, ◌<◌, ◌∷◌, ◌∙◌, add-one, arith, drop, drop-cons, false, get_or, length, refl, subst}
use Rattle.std.proofs.Math.ListN.{length-set}
use Rattle.cg_vcd.specs.inner.StepValues.{SameBut}
use Rattle.cg_vcd.specs.inner.Values.{kept}
use Rattle.cg_vcd.proofs.StepEnds.{Unmarked, same_next, unmarked_next}
use Rattle.cg_vcd.proofs.values.settle.Goals as goal

pub loop-id-preserved : goal.loop-id-preserved
loop-id-preserved c =
    let given = c.args.given.now in
    let i = c.loop-id.id-index in
    let id = get_or given i 0 in
    let inside : i < length c.args.given.now = c.loop-id-test.true in
    let within : get_or c.args.given.now c.loop-id.id-index 0 < length c.args.before.now = c.requires.given i 0 inside in
    let split : drop i given ≡ id ∷ drop (i + 1) given = rw (add-one, drop-cons given i 0) refl in
    record {
      count = length-set c.loop-id.before id (kept c.args.latest.now id) ∙ c.loop-id.invariant.count;
      long = length-set c.loop-id.marks id false ∙ c.loop-id.invariant.long;
      unmarked = unmarked_next c.loop-id.marks id (drop (i + 1) given) (omega (arith, within, c.loop-id.invariant.long, c.requires.marks))
          (subst (λ ids. Unmarked ids c.loop-id.marks) split c.loop-id.invariant.unmarked);
      others = same_next c.loop-id.before c.args.latest.now id (drop (i + 1) given) (omega (arith, within, c.loop-id.invariant.count))
          (subst (λ ids. SameBut ids (kept c.loop-id.before) (kept c.args.latest.now)) split c.loop-id.invariant.others);
    }
