use Rattle.std.proofs.Common.{◌≡◌, ◌<◌, ◌+◌, ℕ, List, Option, Some, None, length, slice_get, slice_set, sym, ◌∙◌, ap, subst, arith}
use Rattle.std.proofs.lemmas.Option.{slice_get-get_or}
use Rattle.std.proofs.Math.ListN.{length-set}
use Rattle.cg_cell.specs.Domain.{AreValid}
use Rattle.cg_aig.specs.Aig.{aig_ops}
use Rattle.cg_claim.specs.declared.leaf.Leaf.{Leaf}
use Rattle.cg_unroll.specs.Placing.{FillsLeaves, place_in}
use Rattle.cg_unroll.proofs.Laying.{valid_set}
use Rattle.cg_unroll.proofs.Tabling.{leaves_on, leaves_skip}
use Rattle.cg_unroll.proofs.tables.put_leaves.Goals as goal
use Rattle.cg_unroll.proofs.tables.put_leaves.Goals.{in-Some+in_ok-put-in-Some, in-None}

pub loop-k-preserved : goal.loop-k-preserved
loop-k-preserved c =
    let place : Leaf → Option ℕ = place_in c.args.these.copy c.args.these.sources in
    let leaves : List Leaf = c.args.leaves.now in
    let now : List ℕ = c.loop-k.literals in
    let k : ℕ = c.loop-k.k in
    let l : Leaf = c.index-leaves-k.result in
    let at : slice_get leaves k ≡ Some l = slice_get-get_or leaves k l c.loop-k-test.true ∙ ap Some (sym c.index-leaves-k.is) in
    elim c.match-place_of.branch [
      | in-Some+in_ok-put-in-Some w ↦
          let y : ℕ = w.in-Some.place in
          let v : ℕ = w.leaf.result in
          let placed : place l ≡ Some y = sym w.in-Some.ensures in
          let inside = c.requires.placed k y l at placed in
          let below : y < length now = omega (arith, inside, c.loop-k.invariant.long) in
          let new : c.match-place_of.literals ≡ slice_set now y v = w.literals-is ∙ w.in_ok-put-in-Some.ensures.put in
          record {
            filled = subst (FillsLeaves place leaves (k + 1)) (sym new) (leaves_on place leaves k l at now c.loop-k.invariant.filled y v placed below w.leaf.ensures.number);
            valid = subst (AreValid aig_ops c.args.aig.now) (sym new) (valid_set c.args.aig.now now y v c.loop-k.invariant.valid w.leaf.ensures.valid);
            long = omega (arith, ap length new, length-set now y v, c.loop-k.invariant.long);
          }
      | in-None w ↦
          let none : place l ≡ None = sym w.in-None.ensures in
          record {
            filled = subst (FillsLeaves place leaves (k + 1)) (sym w.literals-is) (leaves_skip place leaves k l at now c.loop-k.invariant.filled none);
            valid = subst (AreValid aig_ops c.args.aig.now) (sym w.literals-is) c.loop-k.invariant.valid;
            long = omega (arith, ap length w.literals-is, c.loop-k.invariant.long);
          }
    ]
