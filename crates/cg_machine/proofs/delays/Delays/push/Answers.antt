use Rattle.std.proofs.Common.{◌≡◌, ℕ, List, [], ◌∷◌, ◌++◌, None, nat_eq, ap, ◌∙◌}
use Rattle.std.specs.List.{find}
use Rattle.std.specs.Map.{lookup}
use Rattle.indexmap.proofs.CallerLemmas.{insert_entry-new}
use Rattle.cg_machine.proofs.Filed.{none_found}
use Rattle.cg_machine.proofs.delays.Delays.push.Goals as goal

pub returns-clause-pushed : goal.returns-clause-pushed
returns-clause-pushed c =
    let is : c.number.result ≡ c.args.net = c.number.ensures.number in
    let none : lookup (nat_eq c.number.result) c.self.inside.by_net.entries ≡ None =
    ap (λ n. lookup (nat_eq n) c.self.inside.by_net.entries) is
    ∙ none_found (nat_eq c.args.net) c.self.inside.by_net.entries (ap (λ (es : List (ℕ × ℕ)). find (λ (e : ℕ × ℕ). nat_eq c.args.net e.0) es) c.self.view_is ∙ c.requires.absent) in
    c.in_ok-insert.ensures.entries ∙ (insert_entry-new nat_eq c.self.inside.by_net c.number.result c.args.output none
    ∙ (ap (λ n. c.self.inside.by_net.entries ++ (n, c.args.output) ∷ []) is ∙ ap (λ es. es ++ (c.args.net, c.args.output) ∷ []) c.self.view_is))
