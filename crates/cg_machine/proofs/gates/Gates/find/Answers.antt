use Rattle.std.proofs.Common.{◌≡◌, Some, ap, sym, ◌∙◌}
use Rattle.std.specs.List.{find}
use Rattle.std.specs.Map.{lookup}
use Rattle.std.specs.Option.{option_copied, option_map}
use Rattle.cg_machine.specs.Added.{is_gate}
use Rattle.cg_machine.specs.Gates.{AddedGate}
use Rattle.cg_machine.proofs.Filed.{found_by_key, same}
use Rattle.cg_machine.proofs.gates.Gates.find.Goals as goal

pub returns-in-Some : goal.returns-in-Some
returns-in-Some c =
    let found : option_copied c.get.result ≡ find (is_gate c.args.kind c.args.inputs.now) c.args.self.now =
    c.get.ensures.value ∙ (ap (λ k. lookup (same k) c.self.inside.by_key.entries) c.key_of.ensures
    ∙ (found_by_key c.args.kind c.args.inputs.now c.requires c.self.inside.by_key.entries c.self.invariant ∙ ap (find (is_gate c.args.kind c.args.inputs.now)) c.self.view_is)) in
    let gate : AddedGate = c.in-Some.gate.now in
    ap (λ (g : AddedGate). Some g.output) c.gate.view_is ∙ ap (option_map (λ (g : AddedGate). g.output)) (ap option_copied (sym c.in-Some.is) ∙ found)

pub returns-in-None : goal.returns-in-None
returns-in-None c =
    let found : option_copied c.get.result ≡ find (is_gate c.args.kind c.args.inputs.now) c.args.self.now =
    c.get.ensures.value ∙ (ap (λ k. lookup (same k) c.self.inside.by_key.entries) c.key_of.ensures
    ∙ (found_by_key c.args.kind c.args.inputs.now c.requires c.self.inside.by_key.entries c.self.invariant ∙ ap (find (is_gate c.args.kind c.args.inputs.now)) c.self.view_is)) in
    ap (option_map (λ (g : AddedGate). g.output)) (ap option_copied (sym c.in-None.is) ∙ found)
