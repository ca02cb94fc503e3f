use Rattle.std.proofs.Common.{ℕ, List, length, slice_index_or, refl, ◌∙◌, ap}
use Rattle.cg_hold.proofs.ConeShown.{cone_cycles_made}
use Rattle.cg_hold.proofs.cone_cycles.lay.Goals as goal

pub returns : goal.returns
returns c =
    let look = c.args.look.now in
    let m = look.search.now.machine.now in
    let state : List ℕ = c.args.state.now in
    let long = c.start_cone.auto.words ∙ c.requires.fit.nets_fit in
    cone_cycles_made m c.netlist-netlist.ensures.machine look.reg look.nets.now look.cone.now look.literals.now c.requires.look state c.start_cone.new.words c.lay_cone.new.words c.next_word.result (slice_index_or state c.number.result 0) _
    c.requires.fit.state_fits long c.lay_cone.auto.words c.start_cone.ensures c.lay_cone.ensures c.next_word.ensures (ap (λ n. slice_index_or state n 0) c.number.ensures.number) refl
