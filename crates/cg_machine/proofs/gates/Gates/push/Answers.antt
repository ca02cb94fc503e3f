use Rattle.std.proofs.Common.{◌≡◌, [], ◌∷◌, ◌++◌, map, None, ap, sym, ◌∙◌, subst}
use Rattle.std.specs.List.{find}
use Rattle.std.specs.Map.{lookup}
use Rattle.std.proofs.lemmas.List.{map-append}
use Rattle.indexmap.proofs.CallerLemmas.{insert_entry-new}
use Rattle.cg_machine.specs.Added.{is_gate}
use Rattle.cg_machine.specs.Gates.{AddedGate}
use Rattle.cg_machine.specs.inner.Kept.{AreFiled, key_of}
use Rattle.cg_machine.specs.declared.gates.GateKey.{GateKey}
use Rattle.cg_machine.proofs.Filed.{filed_push, found_by_key, same}
use Rattle.cg_machine.proofs.gates.Gates.push.Goals as goal

key : (c : goal.Joined-branch-2) → c.key_of-key.result ≡ key_of c.args.gate.kind c.args.gate.inputs
key c = c.key_of-key.ensures ∙ (ap (key_of c.gate.inside.kind) c.deref.ensures.value ∙ ap (λ (g : AddedGate). key_of g.kind g.inputs) c.gate.view_is)

entries : (c : goal.Joined-branch-2) → c.insert.new.self.entries ≡ c.self.inside.by_key.entries ++ (c.key_of-key.result, c.args.gate) ∷ []
entries c =
    let gate : AddedGate = c.args.gate in
    let none : lookup (same c.key_of-key.result) c.self.inside.by_key.entries ≡ None =
    ap (λ k. lookup (same k) c.self.inside.by_key.entries) (key c)
    ∙ (found_by_key gate.kind gate.inputs c.requires.inputs c.self.inside.by_key.entries c.self.invariant ∙ (ap (find (is_gate gate.kind gate.inputs)) c.self.view_is ∙ c.requires.absent)) in
    c.in_ok-insert.ensures.entries ∙ insert_entry-new same c.self.inside.by_key c.key_of-key.result gate none

pub invariant_of-self-2 : goal.invariant_of-self-2
invariant_of-self-2 c = subst AreFiled (sym (entries c)) (filed_push c.self.inside.by_key.entries (c.key_of-key.result, c.args.gate) c.self.invariant (c.requires.inputs, key c))

pub returns-clause-pushed : goal.returns-clause-pushed
returns-clause-pushed c =
    ap (map (λ (e : GateKey × AddedGate). e.1)) (entries c)
    ∙ (map-append (λ (e : GateKey × AddedGate). e.1) c.self.inside.by_key.entries ((c.key_of-key.result, c.args.gate) ∷ []) ∙ ap (λ gates. gates ++ c.args.gate ∷ []) c.self.view_is)
