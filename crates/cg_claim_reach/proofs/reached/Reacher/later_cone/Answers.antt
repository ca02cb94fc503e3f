use Rattle.std.proofs.Common.{◌≡◌, ℕ, List, ◌++◌, sym, ◌∙◌, ap, subst}
use Rattle.cg_netlist_cone.specs.Cone.{cone_of}
use Rattle.cg_machine.specs.Machine.{walk_of}
use Rattle.cg_claim.specs.Reach.{enable_nets, sides_nets}
use Rattle.cg_claim_reach.specs.Asking.{copy_of, question_of}
use Rattle.cg_claim_reach.specs.Reached.{IsConeOf}
use Rattle.cg_claim_reach.proofs.ConesFound.{found_cone}
use Rattle.cg_claim_reach.proofs.RootsThere.{AreThere, all_there, sides_there}
use Rattle.cg_claim_reach.proofs.reached.Reacher.later_cone.Goals as goal

pub find-requires : goal.find-requires
find-requires c =
    let m = c.args.machine.now in
    let q = question_of c.args.asked.now in
    let S : List ℕ = sides_nets m (enable_nets q) (copy_of c.args.frame) q.sides in
    let roots : c.deref.result.now ≡ S = c.deref.ensures.value ∙ (c.in_ok-push_sides.ensures ∙ ap (λ (l : List ℕ). l ++ S) c.new-roots.ensures.items) in
    all_there m c.deref.result.now (subst (AreThere m) (sym roots) (sides_there m c.netlist-netlist.ensures.machine q c.requires (copy_of c.args.frame)))

pub returns : goal.returns
returns c =
    let m = c.args.machine.now in
    let q = question_of c.args.asked.now in
    let S : List ℕ = sides_nets m (enable_nets q) (copy_of c.args.frame) q.sides in
    let roots : c.deref.result.now ≡ S = c.deref.ensures.value ∙ (c.in_ok-push_sides.ensures ∙ ap (λ (l : List ℕ). l ++ S) c.new-roots.ensures.items) in
    subst (λ nets. IsConeOf m (cone_of (walk_of m) nets) c.in_ok-cone.cone) roots (found_cone m c.netlist-netlist.ensures.machine c.deref.result.now c.in_ok-cone.cone c.in_ok-cone.ensures)
