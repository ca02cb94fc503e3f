use Rattle.std.proofs.Common.{◌≡◌, ℕ, Bool, List, refl, get_or, Some, slice_get, ap, sym, ◌∙◌, arith}
use Rattle.std.proofs.lemmas.Option.{slice_get-get_or}
use Rattle.cg_net.specs.Names.{net_name}
use Rattle.cg_netlist_telling.proofs.RegisterCalls.{placed_step}
use Rattle.cg_netlist_telling.proofs.parts.placed_outputs.Goals as goal

pub loop-k-preserved : goal.loop-k-preserved
loop-k-preserved c =
    let outputs : List (ℕ × Bool) = c.args.outputs.now in
    let pins : List ℕ = c.args.pins.now in
    let k : ℕ = c.loop-k.k in
    let o : ℕ × Bool = c.index-outputs-k.result in
    let at : slice_get outputs k ≡ Some o = slice_get-get_or outputs k o c.loop-k-test.true ∙ ap (λ x. Some x) (sym c.index-outputs-k.is) in
    placed_step c.args.names.now outputs pins k o (get_or pins k 0) at (slice_get-get_or pins k 0 (omega (arith, c.loop-k-test.true, c.requires))) c.loop-k.placed.items c.push.new.self.items _ c.loop-k.invariant c.in_ok-push.ensures.items (c.name.ensures ∙ ap (λ (x : ℕ × Bool). net_name c.args.names.now x.0) (sym c.index-outputs-k.is)) refl
