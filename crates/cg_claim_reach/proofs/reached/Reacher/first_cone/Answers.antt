use Rattle.std.proofs.Common.{◌≡◌, ℕ, List, ◌++◌, sym, ◌∙◌, ap, subst}
use Rattle.std.specs.List.{filter, flat_map}
use Rattle.cg_netlist_cone.specs.Cone.{cone_of}
use Rattle.cg_machine.specs.Machine.{walk_of}
use Rattle.cg_claim.specs.Question.{Before}
use Rattle.cg_claim.specs.Reach.{after_states, enable_nets, origin_nets, registers_of, sides_nets}
use Rattle.cg_claim_reach.specs.Asking.{question_of}
use Rattle.cg_claim_reach.specs.Reached.{IsConeOf}
use Rattle.cg_claim_reach.proofs.ConesFound.{found_cone}
use Rattle.cg_claim_reach.proofs.RootsThere.{AreThere, all_there, before_roots_there, registers_there}
use Rattle.cg_claim_reach.proofs.reached.Reacher.first_cone.Goals as goal

pub push_origins-requires : goal.push_origins-requires
push_origins-requires c = registers_there c.args.machine.now (after_states c.args.machine.now (question_of c.args.asked.now)) c.as_slice-states.result.now (c.as_slice-states.ensures.parts ∙ c.requires.later.states)

pub find-requires : goal.find-requires
find-requires c =
    let m = c.args.machine.now in
    let q = question_of c.args.asked.now in
    let E : List ℕ = enable_nets q in
    let S : List ℕ = sides_nets m E Before q.sides in
    let O : List ℕ → List ℕ = λ rs. flat_map (origin_nets m q) rs in
    let roots : c.deref.result.now ≡ E ++ S ++ O (filter (after_states m q) (registers_of m)) =
    c.deref.ensures.value ∙ (c.in_ok-push_origins.ensures q c.requires.named.follows ∙ (ap (λ (l : List ℕ). l ++ O c.as_slice-states.result.now) (c.in_ok-push_sides.ensures ∙ ap (λ (l : List ℕ). l ++ S) (c.in_ok-push_enables.ensures ∙ ap (λ (l : List ℕ). l ++ E) c.new-roots.ensures.items))
    ∙ ap (λ (l : List ℕ). E ++ S ++ O l) (c.as_slice-states.ensures.parts ∙ c.requires.later.states))) in
    all_there m c.deref.result.now (subst (AreThere m) (sym roots) (before_roots_there m c.netlist-netlist.ensures.machine q c.requires.asked))

pub returns : goal.returns
returns c =
    let m = c.args.machine.now in
    let q = question_of c.args.asked.now in
    let E : List ℕ = enable_nets q in
    let S : List ℕ = sides_nets m E Before q.sides in
    let O : List ℕ → List ℕ = λ rs. flat_map (origin_nets m q) rs in
    let roots : c.deref.result.now ≡ E ++ S ++ O (filter (after_states m q) (registers_of m)) =
    c.deref.ensures.value ∙ (c.in_ok-push_origins.ensures q c.requires.named.follows ∙ (ap (λ (l : List ℕ). l ++ O c.as_slice-states.result.now) (c.in_ok-push_sides.ensures ∙ ap (λ (l : List ℕ). l ++ S) (c.in_ok-push_enables.ensures ∙ ap (λ (l : List ℕ). l ++ E) c.new-roots.ensures.items))
    ∙ ap (λ (l : List ℕ). E ++ S ++ O l) (c.as_slice-states.ensures.parts ∙ c.requires.later.states))) in
    subst (λ nets. IsConeOf m (cone_of (walk_of m) nets) c.in_ok-cone.cone) roots (found_cone m c.netlist-netlist.ensures.machine c.deref.result.now c.in_ok-cone.cone c.in_ok-cone.ensures)
